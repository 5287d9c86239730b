-- A cut that has lost its places is had again by them.
use Rattle.std.proofs.Common.{◌≡◌, ℕ, List, [], ◌∷◌, ◌++◌, map, All, refl, ap}
use Rattle.std.proofs.lemmas.List.Elements.{All-nil, All-cons, All-head, All-tail}
use Rattle.std.specs.List.{flat_map}
use Rattle.eql_values.specs.declared.order.OrderKey.{OrderKey}
use Rattle.eql_values.specs.declared.item.Item.{Item}
use Rattle.eql_values.specs.declared.found.Holder.{Holder}
use Rattle.eql_values.specs.declared.found.Numbered.{Numbered}
use Rattle.eql_values.specs.declared.cut.LaneCut.{LaneCut}
use Rattle.eql_values.specs.declared.cut.PipeState.{PipeState}
use Rattle.eql_values.specs.declared.cut.PipeState.TheVariants as state
use Rattle.eql_cut.specs.declared.cut.Cut.{Cut}
use Rattle.eql_cut.specs.Lifting.{IsPlacedBy}
use Rattle.eql_cut.specs.Placing.{lane_orders, state_orders, lifted_order, lifted_chain, lifted_item, lifted_lane, lifted_holder, lifted_kept, lifted_state, lifted_cut}

-- what is said of each event of several lists
module _ (P : OrderKey → Type 0) where
  left_of : (a b : List OrderKey) → All P (a ++ b) → All P a
  left_of [] b all = All-nil _
  left_of (o ∷ a) b all = All-cons P o a (All-head P o (a ++ b) all) (left_of a b (All-tail P o (a ++ b) all))

  right_of : (a b : List OrderKey) → All P (a ++ b) → All P b
  right_of [] b all = all
  right_of (o ∷ a) b all = right_of a b (All-tail P o (a ++ b) all)

  each_of : {A : Type 0} (orders : A → List OrderKey) (xs : List A) → All P (flat_map orders xs) → All (λ (x : A). All P (orders x)) xs
  each_of orders [] all = All-nil _
  each_of {A = A} orders (x ∷ xs) all =
      All-cons (λ (y : A). All P (orders y)) x xs (left_of (orders x) (flat_map orders xs) all) (each_of orders xs (right_of (orders x) (flat_map orders xs) all))

  each_item : (items : List Item) → All P (map (λ (i : Item). i.order) items) → All (λ (i : Item). P i.order) items
  each_item [] all = All-nil _
  each_item (i ∷ items) all =
      All-cons (λ (x : Item). P x.order) i items (All-head P i.order (map (λ (x : Item). x.order) items) all) (each_item items (All-tail P i.order (map (λ (x : Item). x.order) items) all))

restored : {A : Type 0} (lift lost : A → A) (P : A → Type 0) → ((x : A) → P x → lift (lost x) ≡ x) → (xs : List A) → All P xs → map lift (map lost xs) ≡ xs
restored lift lost P back [] all = refl
restored lift lost P back (x ∷ xs) all = λ i. back x (All-head P x xs all) i ∷ restored lift lost P back xs (All-tail P x xs all) i

module _ (place : ℕ → ℕ → ℕ) where
  abbrev At : OrderKey → Type 0
  At o = place o.shard o.line ≡ o.at

  abbrev none : ℕ → ℕ → ℕ
  none shard line = 0

  order_back : (o : OrderKey) → At o → lifted_order place (lifted_order none o) ≡ o
  order_back o is = λ i. record { ts = o.ts; tie = o.tie; shard = o.shard; line = o.line; at = is i }

  chain_back : (chain : List OrderKey) → All At chain → lifted_chain place (lifted_chain none chain) ≡ chain
  chain_back chain all = restored (lifted_order place) (lifted_order none) At order_back chain all

  item_back : (item : Item) → At item.order → lifted_item place (lifted_item none item) ≡ item
  item_back item is = λ i. record { order = order_back item.order is i; routes = item.routes }

  lane_back : (lane : LaneCut) → All At (lane_orders lane) → lifted_lane place (lifted_lane none lane) ≡ lane
  lane_back lane all =
      λ i. record {
        offset = lane.offset;
        digest = lane.digest;
        closed = lane.closed;
        best = lane.best;
        counts = lane.counts;
        items = restored (lifted_item place) (lifted_item none) (λ (x : Item). At x.order) item_back lane.items (each_item At lane.items all) i;
      }

  holder_back : (h : Holder) → All At h.chain → lifted_holder place (lifted_holder none h) ≡ h
  holder_back h all = λ i. record { key = h.key; stage = h.stage; chain = chain_back h.chain all i }

  kept_back : (n : Numbered) → All At n.found.chain → lifted_kept place (lifted_kept none n) ≡ n
  kept_back n all = λ i. record { number = n.number; found = record { key = n.found.key; chain = chain_back n.found.chain all i } }

  state_back : (s : PipeState) → All At (state_orders s) → lifted_state place (lifted_state none s) ≡ s
  state_back (state.Head passed) all = refl
  state_back (state.Tail kept) all =
      ap (λ (k : List Numbered). state.Tail k)
      (restored (lifted_kept place) (lifted_kept none) (λ (n : Numbered). All At n.found.chain) kept_back kept (each_of At (λ (n : Numbered). n.found.chain) kept all))

  pub cut_back : (c : Cut) → IsPlacedBy place c → lifted_cut place (lifted_cut none c) ≡ c
  cut_back c all =
      let lanes = left_of At (flat_map lane_orders c.lanes) (flat_map (λ (h : Holder). h.chain) c.holders ++ flat_map state_orders c.book.pipes) all in
      let others = right_of At (flat_map lane_orders c.lanes) (flat_map (λ (h : Holder). h.chain) c.holders ++ flat_map state_orders c.book.pipes) all in
      let holders = left_of At (flat_map (λ (h : Holder). h.chain) c.holders) (flat_map state_orders c.book.pipes) others in
      let states = right_of At (flat_map (λ (h : Holder). h.chain) c.holders) (flat_map state_orders c.book.pipes) others in
      λ i. record {
        head = c.head;
        mark = c.mark;
        lanes = restored (lifted_lane place) (lifted_lane none) (λ (l : LaneCut). All At (lane_orders l)) lane_back c.lanes (each_of At lane_orders c.lanes lanes) i;
        holders = restored (lifted_holder place) (lifted_holder none) (λ (h : Holder). All At h.chain) holder_back c.holders (each_of At (λ (h : Holder). h.chain) c.holders holders) i;
        book = record {
          found = c.book.found;
          listed = c.book.listed;
          pipes = restored (lifted_state place) (lifted_state none) (λ (s : PipeState). All At (state_orders s)) state_back c.book.pipes (each_of At state_orders c.book.pipes states) i;
        };
      }
