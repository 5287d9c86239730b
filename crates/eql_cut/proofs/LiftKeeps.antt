-- A cut whose places are set anew stands as before, and fits what it did.
use Rattle.std.proofs.Common.{◌≡◌, ℕ, ◌<◌, ◌+◌, ◌*◌, ℤ, pos, true, Bool, not, ◌&&◌, ◌||◌, eqb, leb, ltb, List, [], ◌∷◌, ◌++◌, length, map, All, refl, sym, ap, ◌∙◌}
use Rattle.std.proofs.lemmas.List.{length-map}
use Rattle.std.proofs.lemmas.List.Elements.{All-nil, All-cons, All-head, All-tail, All-map}
use Rattle.std.specs.List.{flat_map, list_all}
use Rattle.std.specs.FinMap.Entries.{below_all}
use Rattle.std.specs.Ordering.{is_lt}
use Rattle.eql_values.specs.declared.order.OrderKey.{OrderKey}
use Rattle.eql_values.specs.declared.item.Item.{Item}
use Rattle.eql_values.specs.declared.found.Holder.{Holder}
use Rattle.eql_values.specs.declared.found.Numbered.{Numbered}
use Rattle.eql_values.specs.declared.cut.LaneCut.{LaneCut}
use Rattle.eql_values.specs.declared.cut.Pipe.{Pipe}
use Rattle.eql_values.specs.declared.cut.Pipe.TheVariants as pipe
use Rattle.eql_values.specs.declared.cut.PipeState.{PipeState}
use Rattle.eql_values.specs.declared.cut.PipeState.TheVariants as state
use Rattle.eql_values.specs.Ascending.{AllAreAfter, Ascend}
use Rattle.eql_values.specs.Routes.{RoutesStand}
use Rattle.eql_laws.specs.Alive.{HoldersAreInOrder}
use Rattle.eql_laws.specs.Books.{NumbersAscend, StateStands}
use Rattle.eql_values.specs.Adjacent.{by_order, by_slot}
use Rattle.eql_values.specs.Matching.{Slot, slot_cmp}
use Rattle.eql_values.specs.Orders.{key_eq}
use Rattle.eql_values.specs.OrderKeys.{order_cmp, EventsAscend}
use Rattle.eql_cut.specs.declared.cut.Cut.{Cut}
use Rattle.eql_cut.specs.Domain.{IsCut}
use Rattle.eql_cut.specs.Values.{items_ascend}
use Rattle.eql_cut.specs.CutValues.{holders_ascend}
use Rattle.eql_cut.specs.Fitting.{is_mark_time, best_fits, counts_fit, event_fits, found_fits, item_fits, lane_fits, lanes_fit, holder_fits, kept_fits, state_fits, states_fit, first_before, falls_to, firsts_fall, cut_fits}
use Rattle.eql_cut.specs.Placing.{IsUnplaced, lane_orders, state_orders, orders_in, lifted_order, lifted_chain, lifted_item, lifted_lane, lifted_holder, lifted_kept, lifted_state, lifted_cut}
use Rattle.eql_cut.proofs.Keyed.{sorted_alike}
use Rattle.eql_cut.proofs.PlaceLaws.{order_alike, events_alike, unplaced_both, each_unplaced}

list_all_lifted : {A : Type 0} (test : A → Bool) (lift : A → A) (P : A → Type 0) → ((x : A) → P x → test (lift x) ≡ test x) → (xs : List A) → All P xs → list_all test (map lift xs) ≡ list_all test xs
list_all_lifted test lift P same [] all = refl
list_all_lifted test lift P same (x ∷ xs) all = λ i. same x (All-head P x xs all) i && list_all_lifted test lift P same xs (All-tail P x xs all) i

list_all_same : {A : Type 0} (test : A → Bool) (lift : A → A) → ((x : A) → test (lift x) ≡ test x) → (xs : List A) → list_all test (map lift xs) ≡ list_all test xs
list_all_same test lift same [] = refl
list_all_same test lift same (x ∷ xs) = λ i. same x i && list_all_same test lift same xs i

module _ (place : ℕ → ℕ → ℕ) where
  -- events
  above_alike : (o : OrderKey) (items : List Item) → o.at ≡ 0 → IsUnplaced (map (λ (i : Item). i.order) items)
      → below_all order_cmp (lifted_order place o) (by_order (map (lifted_item place) items)) ≡ below_all order_cmp o (by_order items)
  above_alike o [] oz none = refl
  above_alike o (x ∷ items) oz none =
      let rest = All-tail (λ (e : OrderKey). e.at ≡ 0) x.order (map (λ (i : Item). i.order) items) none in
      λ i. is_lt (order_alike place o x.order oz (All-head (λ (e : OrderKey). e.at ≡ 0) x.order (map (λ (y : Item). y.order) items) none) i) && above_alike o items oz rest i

  items_alike : (items : List Item) → IsUnplaced (map (λ (i : Item). i.order) items) → items_ascend (map (lifted_item place) items) ≡ items_ascend items
  items_alike [] none = refl
  items_alike (x ∷ items) none =
      let rest = All-tail (λ (e : OrderKey). e.at ≡ 0) x.order (map (λ (i : Item). i.order) items) none in
      λ i. above_alike x.order items (All-head (λ (e : OrderKey). e.at ≡ 0) x.order (map (λ (y : Item). y.order) items) none) rest i && items_alike items rest i

  first_alike : (a b : List OrderKey) → IsUnplaced a → IsUnplaced b → first_before (lifted_chain place a) (lifted_chain place b) ≡ first_before a b
  first_alike [] b az bz = refl
  first_alike (x ∷ a) [] az bz = refl
  first_alike (x ∷ a) (y ∷ b) az bz =
      ap is_lt (order_alike place x y (All-head (λ (e : OrderKey). e.at ≡ 0) x a az) (All-head (λ (e : OrderKey). e.at ≡ 0) y b bz))

  abbrev HolderUnplaced : Holder → Type 0
  HolderUnplaced h = IsUnplaced h.chain

  falls_alike : (h : Holder) (holders : List Holder) → HolderUnplaced h → All HolderUnplaced holders → falls_to (lifted_holder place h) (map (lifted_holder place) holders) ≡ falls_to h holders
  falls_alike h [] hz none = refl
  falls_alike h (g ∷ holders) hz none =
      ap (λ (b : Bool). not (key_eq h.key g.key) || b) (first_alike g.chain h.chain (All-head HolderUnplaced g holders none) hz)

  all_fall_alike : (holders : List Holder) → All HolderUnplaced holders → firsts_fall (map (lifted_holder place) holders) ≡ firsts_fall holders
  all_fall_alike [] none = refl
  all_fall_alike (h ∷ holders) none =
      let rest = All-tail HolderUnplaced h holders none in
      λ i. falls_alike h holders (All-head HolderUnplaced h holders none) rest i && all_fall_alike holders rest i

  slots_above : (slot : Slot) (holders : List Holder) → below_all slot_cmp slot (by_slot (map (lifted_holder place) holders)) ≡ below_all slot_cmp slot (by_slot holders)
  slots_above slot [] = refl
  slots_above slot (h ∷ holders) = ap (λ (b : Bool). is_lt (slot_cmp slot (h.key, h.stage)) && b) (slots_above slot holders)

  pub slots_alike : (holders : List Holder) → holders_ascend (map (lifted_holder place) holders) ≡ holders_ascend holders
  slots_alike [] = refl
  slots_alike (h ∷ holders) = λ i. slots_above (h.key, h.stage) holders i && slots_alike holders i

  module _ (m values : ℕ) where
    lane_alike : (slack t : ℤ) (shard : ℕ) (lane : LaneCut) → IsUnplaced (lane_orders lane) → lane_fits m values slack t shard (lifted_lane place lane) ≡ lane_fits m values slack t shard lane
    lane_alike slack t shard lane none =
        λ i. best_fits slack t lane.closed lane.best && counts_fit lane.counts && leb lane.offset 1099511627776
        && leb (length-map lane.items (lifted_item place) i) lane.counts.accepted && items_alike lane.items none i
        && list_all_same (item_fits m values t shard lane.counts.lines) (lifted_item place) (λ x. refl) lane.items i

    lanes_alike : (slack t : ℤ) (shard : ℕ) (lanes : List LaneCut) → All (λ (l : LaneCut). IsUnplaced (lane_orders l)) lanes
        → lanes_fit m values slack t shard (map (lifted_lane place) lanes) ≡ lanes_fit m values slack t shard lanes
    lanes_alike slack t shard [] none = refl
    lanes_alike slack t shard (lane ∷ lanes) none =
        λ i. lane_alike slack t shard lane (All-head (λ (l : LaneCut). IsUnplaced (lane_orders l)) lane lanes none) i
        && lanes_alike slack t (shard + 1) lanes (All-tail (λ (l : LaneCut). IsUnplaced (lane_orders l)) lane lanes none) i

    holder_alike : (t : ℤ) (shards : ℕ) (h : Holder) → HolderUnplaced h → holder_fits m values t shards (lifted_holder place h) ≡ holder_fits m values t shards h
    holder_alike t shards h none =
        λ i. leb 1 h.stage && ltb h.stage m && eqb (length h.key) values && eqb (length-map h.chain (lifted_order place) i) h.stage && events_alike place h.chain none i
        && list_all_same (event_fits t shards) (lifted_order place) (λ x. refl) h.chain i

    kept_alike : (shards found : ℕ) (n : Numbered) → kept_fits m values shards found (lifted_kept place n) ≡ kept_fits m values shards found n
    kept_alike shards found n =
        λ i. leb 1 n.number && leb n.number found && eqb (length-map n.found.chain (lifted_order place) i) m && eqb (length n.found.key) values
        && list_all_same (found_fits shards) (lifted_order place) (λ x. refl) n.found.chain i

    state_alike : (shards found : ℕ) (p : Pipe) (s : PipeState) → state_fits m values shards found p (lifted_state place s) ≡ state_fits m values shards found p s
    state_alike shards found (pipe.Head count) (state.Head passed) = refl
    state_alike shards found (pipe.Head count) (state.Tail kept) = refl
    state_alike shards found (pipe.Tail count) (state.Head passed) = refl
    state_alike shards found (pipe.Tail count) (state.Tail kept) =
        λ i. leb (length-map kept (lifted_kept place) i) count && list_all_same (kept_fits m values shards found) (lifted_kept place) (kept_alike shards found) kept i

    states_alike : (shards found : ℕ) (pipes : List Pipe) (states : List PipeState) → states_fit m values shards found pipes (map (lifted_state place) states) ≡ states_fit m values shards found pipes states
    states_alike shards found [] [] = refl
    states_alike shards found [] (s ∷ states) = refl
    states_alike shards found (p ∷ pipes) [] = refl
    states_alike shards found (p ∷ pipes) (s ∷ states) = λ i. state_alike shards found p s i && states_alike shards found pipes states i

    pub fits_alike : (pipes : List Pipe) (c : Cut) → IsUnplaced (orders_in c) → cut_fits m values pipes (lifted_cut place c) ≡ cut_fits m values pipes c
    fits_alike pipes c none =
        let parts = unplaced_both (flat_map lane_orders c.lanes) (flat_map (λ (h : Holder). h.chain) c.holders ++ flat_map state_orders c.book.pipes) none in
        let others = unplaced_both (flat_map (λ (h : Holder). h.chain) c.holders) (flat_map state_orders c.book.pipes) parts.right in
        let lanes = each_unplaced lane_orders c.lanes parts.left in
        let holders = each_unplaced (λ (h : Holder). h.chain) c.holders others.left in
        let slack : ℤ = pos (c.head.slack * 1000000) in
        λ i. is_mark_time c.mark && eqb (length-map c.lanes (lifted_lane place) i) c.head.shards && lanes_alike slack c.mark 0 c.lanes lanes i
        && list_all_lifted (holder_fits m values c.mark c.head.shards) (lifted_holder place) HolderUnplaced (holder_alike c.mark c.head.shards) c.holders holders i
        && slots_alike c.holders i && all_fall_alike c.holders holders i
        && (leb c.book.listed c.book.found && leb c.book.found 1099511627776 && states_alike c.head.shards c.book.found pipes c.book.pipes i)

  above_up : (o : OrderKey) (items : List Item) → o.at ≡ 0 → IsUnplaced (map (λ (i : Item). i.order) items) → AllAreAfter o items → AllAreAfter (lifted_order place o) (map (lifted_item place) items)
  above_up o [] oz none up = tt
  above_up o (x ∷ items) oz none up = (
    order_alike place o x.order oz (All-head (λ (e : OrderKey). e.at ≡ 0) x.order (map (λ (y : Item). y.order) items) none) ∙ up.0,
    above_up o items oz (All-tail (λ (e : OrderKey). e.at ≡ 0) x.order (map (λ (i : Item). i.order) items) none) up.1,
  )

  items_up : (items : List Item) → IsUnplaced (map (λ (i : Item). i.order) items) → Ascend items → Ascend (map (lifted_item place) items)
  items_up [] none up = tt
  items_up (x ∷ items) none up =
      let rest = All-tail (λ (e : OrderKey). e.at ≡ 0) x.order (map (λ (i : Item). i.order) items) none in
      (up.0, above_up x.order items (All-head (λ (e : OrderKey). e.at ≡ 0) x.order (map (λ (y : Item). y.order) items) none) rest up.1, items_up items rest up.2)

  -- what is said of each, said of each once it is set anew
  all_lifted : {A : Type 0} (lift : A → A) (None P : A → Type 0) → ((x : A) → None x → P x → P (lift x)) → (xs : List A) → All None xs → All P xs → All P (map lift xs)
  all_lifted lift None P keeps [] none all = All-nil _
  all_lifted lift None P keeps (x ∷ xs) none all =
      All-cons P (lift x) (map lift xs) (keeps x (All-head None x xs none) (All-head P x xs all))
      (all_lifted lift None P keeps xs (All-tail None x xs none) (All-tail P x xs all))

  abbrev LaneStands : LaneCut → Type 0
  LaneStands lane = Ascend lane.items × All (λ (item : Item). RoutesStand item.routes) lane.items

  lane_stands : (lane : LaneCut) → IsUnplaced (lane_orders lane) → LaneStands lane → LaneStands (lifted_lane place lane)
  lane_stands lane none stands = (items_up lane.items none stands.0, All-map (λ (item : Item). RoutesStand item.routes) (lifted_item place) lane.items stands.1)

  abbrev ChainStands : Holder → Type 0
  ChainStands h = (length h.chain ≡ h.stage) × EventsAscend h.chain

  chain_stands : (h : Holder) → HolderUnplaced h → ChainStands h → ChainStands (lifted_holder place h)
  chain_stands h none stands = (length-map h.chain (lifted_order place) ∙ stands.0, events_alike place h.chain none ∙ stands.1)

  numbers_above : (k : ℕ) (kept : List Numbered) → All (λ (n : Numbered). k < n.number) kept → All (λ (n : Numbered). k < n.number) (map (lifted_kept place) kept)
  numbers_above k kept all = All-map (λ (n : Numbered). k < n.number) (lifted_kept place) kept all

  numbers_up : (kept : List Numbered) → NumbersAscend kept → NumbersAscend (map (lifted_kept place) kept)
  numbers_up [] up = tt
  numbers_up (n ∷ kept) up = (numbers_above n.number kept up.0, numbers_up kept up.1)

  abbrev KeptUnplaced : Numbered → Type 0
  KeptUnplaced n = IsUnplaced n.found.chain

  state_stands : (s : PipeState) → IsUnplaced (state_orders s) → StateStands s → StateStands (lifted_state place s)
  state_stands (state.Head passed) none stands = stands
  state_stands (state.Tail kept) none stands = (
    numbers_up kept stands.0,
    all_lifted (lifted_kept place) KeptUnplaced (λ (n : Numbered). EventsAscend n.found.chain) (λ n nz up. events_alike place n.found.chain nz ∙ up) kept
        (each_unplaced (λ (n : Numbered). n.found.chain) kept none) stands.1,
  )

  order_kept : (holders : List Holder) → HoldersAreInOrder holders → HoldersAreInOrder (map (lifted_holder place) holders)
  order_kept holders up =
      let sorted : holders_ascend holders ≡ true = sorted_alike slot_cmp (λ (h : Holder). (h.key, h.stage)) (λ (h : Holder). h) (λ (h : Holder). h.chain) holders ∙ up in
      sym (sorted_alike slot_cmp (λ (h : Holder). (h.key, h.stage)) (λ (h : Holder). h) (λ (h : Holder). h.chain) (map (lifted_holder place) holders)) ∙ slots_alike holders ∙ sorted

  pub stands_alike : (c : Cut) → IsUnplaced (orders_in c) → IsCut c → IsCut (lifted_cut place c)
  stands_alike c none is =
      let parts = unplaced_both (flat_map lane_orders c.lanes) (flat_map (λ (h : Holder). h.chain) c.holders ++ flat_map state_orders c.book.pipes) none in
      let others = unplaced_both (flat_map (λ (h : Holder). h.chain) c.holders) (flat_map state_orders c.book.pipes) parts.right in
      let s = is.stands in
      record {
        names = is.names;
        stands = record {
          lane_for_each = length-map c.lanes (lifted_lane place) ∙ s.lane_for_each;
          items = all_lifted (lifted_lane place) (λ (l : LaneCut). IsUnplaced (lane_orders l)) LaneStands lane_stands c.lanes (each_unplaced lane_orders c.lanes parts.left) s.items;
          holders = order_kept c.holders s.holders;
          chains = all_lifted (lifted_holder place) HolderUnplaced ChainStands chain_stands c.holders (each_unplaced (λ (h : Holder). h.chain) c.holders others.left) s.chains;
          book = all_lifted (lifted_state place) (λ (p : PipeState). IsUnplaced (state_orders p)) StateStands state_stands c.book.pipes (each_unplaced state_orders c.book.pipes others.right) s.book;
        };
      }
