-- A cut whose text is there stands in order, and a cut that stands in order has the orders that the text asks for.
use Rattle.std.proofs.Common.{◌≡◌, ℕ, ◌<◌, true, List, [], ◌∷◌, length, All, IsTrue, refl, sym, ◌∙◌, arith}
use Rattle.std.proofs.lemmas.Bool.{and_parts, and_from, eqb-true, eq-eqb}
use Rattle.std.proofs.lemmas.List.Elements.{All-weaker, All-nil, All-cons, All-head, All-tail}
use Rattle.std.specs.List.{list_all}
use Rattle.std.specs.Ordering.{is_lt, nat_cmp}
use Rattle.std.specs.FinMap.Entries.{below_all, is_sorted}
use Rattle.eql_values.specs.declared.item.Item.{Item}
use Rattle.eql_values.specs.declared.found.Holder.{Holder}
use Rattle.eql_values.specs.declared.found.Numbered.{Numbered}
use Rattle.eql_values.specs.declared.cut.LaneCut.{LaneCut}
use Rattle.eql_values.specs.declared.cut.PipeState.{PipeState}
use Rattle.eql_values.specs.declared.cut.PipeState.TheVariants as state
use Rattle.eql_values.specs.Adjacent.{by_key, by_order, by_number}
use Rattle.eql_values.specs.Orders.{key_cmp}
use Rattle.eql_values.specs.Ascending.{Ascend}
use Rattle.eql_values.specs.Matching.{slot_cmp}
use Rattle.eql_values.specs.OrderKeys.{order_cmp, EventsAscend}
use Rattle.eql_values.specs.Routes.{RoutesAreInOrder, RoutesStand, says_something}
use Rattle.eql_laws.specs.Books.{NumbersAscend, StateStands}
use Rattle.eql_cut.specs.declared.cut.Cut.{Cut}
use Rattle.eql_cut.specs.declared.reader.Version.{Version}
use Rattle.eql_cut.specs.Values.{items_ascend, item, lane}
use Rattle.eql_cut.specs.CutValues.{cut, is_full, holder, holders_ascend, numbered_match, numbers_ascend, pipe_state, IsOrderedState, IsOrderedCut}
use Rattle.eql_cut.specs.Domain.{IsCut}
use Rattle.eql_cut.proofs.Keyed.{sorted_alike}

-- the laws of eql_values on events that ascend
abbrev pub SortedItems : Type 0
SortedItems = (items : List Item) → Ascend items → IsTrue (is_sorted order_cmp (by_order items))

abbrev pub ItemsBack : Type 0
ItemsBack = (items : List Item) → All (λ (item : Item). RoutesAreInOrder item.routes) items → IsTrue (is_sorted order_cmp (by_order items)) → Ascend items

is_less : (m n : ℕ) → is_lt (nat_cmp m n) ≡ true → m < n
is_less m n is = grind arith

less_is : (m n : ℕ) → m < n → is_lt (nat_cmp m n) ≡ true
less_is m n lt = grind arith

above_numbers : (k : ℕ) (kept : List Numbered) → below_all nat_cmp k (by_number kept) ≡ true → All (λ (n : Numbered). k < n.number) kept
above_numbers k [] is = All-nil _
above_numbers k (n ∷ kept) is =
    let p = and_parts (is_lt (nat_cmp k n.number)) (below_all nat_cmp k (by_number kept)) is in
    All-cons (λ (x : Numbered). k < x.number) n kept (is_less k n.number p.0) (above_numbers k kept p.1)

numbers_ascend-from : (kept : List Numbered) → IsTrue (numbers_ascend kept) → NumbersAscend kept
numbers_ascend-from [] is = tt
numbers_ascend-from (n ∷ kept) is =
    let p = and_parts (below_all nat_cmp n.number (by_number kept)) (is_sorted nat_cmp (by_number kept)) is in
    (above_numbers n.number kept p.0, numbers_ascend-from kept p.1)

numbers_above : (k : ℕ) (kept : List Numbered) → All (λ (n : Numbered). k < n.number) kept → below_all nat_cmp k (by_number kept) ≡ true
numbers_above k [] all = refl
numbers_above k (n ∷ kept) all =
    and_from (is_lt (nat_cmp k n.number)) (below_all nat_cmp k (by_number kept))
    (less_is k n.number (All-head (λ (x : Numbered). k < x.number) n kept all)) (numbers_above k kept (All-tail (λ (x : Numbered). k < x.number) n kept all))

numbers_are-sorted : (kept : List Numbered) → NumbersAscend kept → IsTrue (numbers_ascend kept)
numbers_are-sorted [] ascend = refl
numbers_are-sorted (n ∷ kept) ascend =
    and_from (below_all nat_cmp n.number (by_number kept)) (is_sorted nat_cmp (by_number kept)) (numbers_above n.number kept ascend.0) (numbers_are-sorted kept ascend.1)

module _ (v : Version) where
  item_stands : (i : Item) → (item v).Fits i → RoutesStand i.routes
  item_stands i fits = and_parts (is_sorted key_cmp (by_key i.routes)) (list_all says_something i.routes) fits.0.1.1

  lane_stands : ItemsBack → (l : LaneCut) → (lane v).Fits l → Ascend l.items × All (λ (i : Item). RoutesStand i.routes) l.items
  lane_stands back l fits =
      let items = fits.0.1.1.1.1.1 in
      let all : All (λ (i : Item). RoutesStand i.routes) l.items = All-weaker (item v).Fits (λ (i : Item). RoutesStand i.routes) item_stands l.items items.0.1 in
      (back l.items (All-weaker (λ (i : Item). RoutesStand i.routes) (λ (i : Item). RoutesAreInOrder i.routes) (λ i stands. stands.0) l.items all) items.1, all)

  holder_stands : (h : Holder) → (holder v).Fits h → (length h.chain ≡ h.stage) × EventsAscend h.chain
  holder_stands h fits = (eqb-true (length h.chain) h.stage fits.1, fits.0.0.1.1.1)

  numbered_stands : (n : Numbered) → (numbered_match v).Fits n → EventsAscend n.found.chain
  numbered_stands n fits = fits.0.1.0.1.1

  state_stands : (s : PipeState) → (pipe_state v).Fits s → StateStands s
  state_stands (state.Head passed) fits = (tt, All-nil _)
  state_stands (state.Tail kept) fits =
      (numbers_ascend-from kept fits.0.1, All-weaker (numbered_match v).Fits (λ (n : Numbered). EventsAscend n.found.chain) numbered_stands kept fits.0.0.1)

  pub cut_stands : ItemsBack → (c : Cut) → (cut v).Fits c → IsCut c
  cut_stands back c fits =
      let rest = fits.0.0.1.1 in
      let holders = rest.1.0 in
      let book = rest.1.1 in
      record {
        names = fits.0.0.0.0.1.0.1;
        stands = record {
          lane_for_each = eqb-true (length c.lanes) c.head.shards fits.1;
          items = All-weaker (lane v).Fits _ (lane_stands back) c.lanes rest.0.1;
          holders = sym (sorted_alike slot_cmp (λ (h : Holder). (h.key, h.stage)) (λ (h : Holder). h) (λ (h : Holder). h.chain) c.holders) ∙ holders.1;
          chains = All-weaker (holder v).Fits _ holder_stands c.holders holders.0.1;
          book = All-weaker (pipe_state v).Fits StateStands state_stands c.book.pipes book.0.1.1.1;
        };
      }

state_orders : (s : PipeState) → StateStands s → IsOrderedState s
state_orders (state.Head passed) stands = tt
state_orders (state.Tail kept) stands = numbers_are-sorted kept stands.0

lane_orders : SortedItems → (l : LaneCut) → Ascend l.items × All (λ (i : Item). RoutesStand i.routes) l.items → IsTrue (items_ascend l.items)
lane_orders sorted l stands = sorted l.items stands.0

holder_orders : (h : Holder) → (length h.chain ≡ h.stage) × EventsAscend h.chain → IsTrue (is_full h)
holder_orders h stands = eq-eqb (length h.chain) h.stage stands.0

pub cut_orders : SortedItems → (c : Cut) → IsCut c → IsOrderedCut c
cut_orders sorted c is =
    let stands = is.stands in
    let ascend : IsTrue (holders_ascend c.holders) =
    sorted_alike slot_cmp (λ (h : Holder). (h.key, h.stage)) (λ (h : Holder). h) (λ (h : Holder). h.chain) c.holders ∙ stands.holders in (
      is.names,
      All-weaker _ (λ (l : LaneCut). IsTrue (items_ascend l.items)) (lane_orders sorted) c.lanes stands.items,
      (All-weaker _ (λ (h : Holder). IsTrue (is_full h)) holder_orders c.holders stands.chains, ascend),
      All-weaker StateStands IsOrderedState state_orders c.book.pipes stands.book,
      eq-eqb (length c.lanes) c.head.shards stands.lane_for_each,
    )
