-- A cut whose text is in the first format has no places.
use Rattle.std.proofs.Common.{◌≡◌, ℕ, List, [], ◌∷◌, ◌++◌, All, sym, ap, arith}
use Rattle.std.proofs.lemmas.List.Elements.{All-weaker, All-nil, All-cons, All-head, All-tail, All-map}
use Rattle.std.specs.List.{flat_map}
use Rattle.eql_values.specs.declared.order.OrderKey.{OrderKey}
use Rattle.eql_values.specs.declared.item.Item.{Item}
use Rattle.eql_values.specs.declared.found.Holder.{Holder}
use Rattle.eql_values.specs.declared.found.Numbered.{Numbered}
use Rattle.eql_values.specs.declared.cut.LaneCut.{LaneCut}
use Rattle.eql_values.specs.declared.cut.PipeState.{PipeState}
use Rattle.eql_values.specs.declared.cut.PipeState.TheVariants as state
use Rattle.eql_cut.specs.declared.cut.Cut.{Cut}
use Rattle.eql_cut.specs.declared.reader.Version.{Version}
use Rattle.eql_cut.specs.declared.reader.Version.TheVariants as version
use Rattle.eql_cut.specs.Values.{order_without, item, lane}
use Rattle.eql_cut.specs.CutValues.{cut, number_of, holder, numbered_match, pipe_state}
use Rattle.eql_cut.specs.Placing.{IsUnplaced, lane_orders, state_orders, orders_in}
use Rattle.eql_cut.specs.Whole.{IsText}

both_unplaced : (a b : List OrderKey) → IsUnplaced a → IsUnplaced b → IsUnplaced (a ++ b)
both_unplaced [] b az bz = bz
both_unplaced (o ∷ a) b az bz =
    All-cons (λ (x : OrderKey). x.at ≡ 0) o (a ++ b) (All-head (λ (x : OrderKey). x.at ≡ 0) o a az) (both_unplaced a b (All-tail (λ (x : OrderKey). x.at ≡ 0) o a az) bz)

all_unplaced : {A : Type 0} (orders : A → List OrderKey) (xs : List A) → All (λ (x : A). IsUnplaced (orders x)) xs → IsUnplaced (flat_map orders xs)
all_unplaced orders [] none = All-nil _
all_unplaced {A = A} orders (x ∷ xs) none =
    both_unplaced (orders x) (flat_map orders xs) (All-head (λ (y : A). IsUnplaced (orders y)) x xs none) (all_unplaced orders xs (All-tail (λ (y : A). IsUnplaced (orders y)) x xs none))

order_old : (o : OrderKey) → order_without.Fits o → o.at ≡ 0
order_old o fits = sym (ap (λ (x : OrderKey). x.at) fits.1)

chain_old : (chain : List OrderKey) → All order_without.Fits chain → IsUnplaced chain
chain_old chain fits = All-weaker order_without.Fits (λ (x : OrderKey). x.at ≡ 0) order_old chain fits

lane_old : (l : LaneCut) → (lane version.One).Fits l → IsUnplaced (lane_orders l)
lane_old l fits =
    All-map (λ (x : OrderKey). x.at ≡ 0) (λ (i : Item). i.order) l.items
    (All-weaker (item version.One).Fits (λ (i : Item). i.order.at ≡ 0) (λ i f. order_old i.order f.0.0) l.items fits.0.1.1.1.1.1.0.1)

holder_old : (h : Holder) → (holder version.One).Fits h → IsUnplaced h.chain
holder_old h fits = chain_old h.chain fits.0.0.1.1.0.1

kept_old : (n : Numbered) → (numbered_match version.One).Fits n → IsUnplaced n.found.chain
kept_old n fits = chain_old n.found.chain fits.0.1.0.1.0.1

state_old : (s : PipeState) → (pipe_state version.One).Fits s → IsUnplaced (state_orders s)
state_old (state.Head passed) fits = All-nil _
state_old (state.Tail kept) fits =
    all_unplaced (λ (n : Numbered). n.found.chain) kept (All-weaker (numbered_match version.One).Fits (λ (n : Numbered). IsUnplaced n.found.chain) kept_old kept fits.0.0.1)

cut_old : (c : Cut) → (cut version.One).Fits c → IsUnplaced (orders_in c)
cut_old c fits =
    let rest = fits.0.0.1.1 in
    both_unplaced (flat_map lane_orders c.lanes) (flat_map (λ (h : Holder). h.chain) c.holders ++ flat_map state_orders c.book.pipes)
    (all_unplaced lane_orders c.lanes (All-weaker (lane version.One).Fits (λ (l : LaneCut). IsUnplaced (lane_orders l)) lane_old c.lanes rest.0.1))
    (both_unplaced (flat_map (λ (h : Holder). h.chain) c.holders) (flat_map state_orders c.book.pipes)
    (all_unplaced (λ (h : Holder). h.chain) c.holders (All-weaker (holder version.One).Fits (λ (h : Holder). IsUnplaced h.chain) holder_old c.holders rest.1.0.0.1))
    (all_unplaced state_orders c.book.pipes (All-weaker (pipe_state version.One).Fits (λ (s : PipeState). IsUnplaced (state_orders s)) state_old c.book.pipes rest.1.1.0.1.1.1)))

old_by : (v : Version) (c : Cut) → number_of v ≡ 1 → (cut v).Fits c → IsUnplaced (orders_in c)
old_by version.One c is fits = cut_old c fits
old_by version.Two c is fits = absurd (omega (arith, is))
old_by version.Three c is fits = absurd (omega (arith, is))
old_by version.Four c is fits = absurd (omega (arith, is))

pub first_format : (c : Cut) (bytes : List ℕ) → IsText 1 c bytes → IsUnplaced (orders_in c)
first_format c bytes text = old_by text.version c text.number text.fits
