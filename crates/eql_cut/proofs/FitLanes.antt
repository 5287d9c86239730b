-- The tests of the lanes of a cut.
use Rattle.std.proofs.Common.{◌≡◌, ℕ, zero, suc, ◌+◌, ◌≤◌, ◌↔◌, ℤ, ◌-ℤ◌, ◌≤ℤ◌, true, false, Bool, not, ◌||◌, eqb, leb, List, [], ◌∷◌, length, Option, Some, None, IfSome, All, refl, sym, subst, arith}
use Rattle.std.proofs.lemmas.Bool.{and_parts, and_from, eqb-true, eq-eqb, leb-true}
use Rattle.std.proofs.lemmas.List.Elements.{All-weaker, All-nil, All-cons, All-head, All-tail}
use Rattle.std.specs.List.{list_all}
use Rattle.std.specs.FinMap.Entries.{is_sorted}
use Rattle.std.specs.Int.Signed.{lt_z, le_z}
use Rattle.eql_values.specs.declared.order.Mark.TheVariants.{At}
use Rattle.eql_values.specs.declared.item.Route.{Route}
use Rattle.eql_values.specs.declared.item.Item.{Item}
use Rattle.eql_values.specs.declared.cut.Counts.{Counts}
use Rattle.eql_values.specs.declared.cut.FirstBad.{FirstBad}
use Rattle.eql_values.specs.declared.cut.LaneCut.{LaneCut}
use Rattle.eql_values.specs.Adjacent.{by_key}
use Rattle.eql_values.specs.Orders.{key_cmp}
use Rattle.eql_values.specs.Reading.{IsTime}
use Rattle.eql_values.specs.Routes.{RoutesAreInOrder, says_something}
use Rattle.eql_laws.specs.Bounds.{HasStagesTo, HasMasksTo, KeysHave}
use Rattle.eql_laws.specs.Counting.{CountsStand, greatest_lines, greatest_bytes}
use Rattle.eql_laws.specs.Lanes.{IsKeptBy, LaneFits, LanesFit}
use Rattle.eql_cut.specs.Values.{routes_stand, items_ascend}
use Rattle.eql_cut.specs.Fitting.{is_time, none_above, route_fits, item_fits, best_fits, first_fits, counts_fit, lane_fits, lanes_fit}
use Rattle.eql_cut.proofs.Standing.{SortedItems, ItemsBack}
use Rattle.eql_cut.proofs.FitLaws.{not_false, false_not, le_from, le_to, all_from, all_to, time_from, time_to, stages_from, stages_to}

le_leb : (m n : ℕ) → m ≤ n → leb m n ≡ true
le_leb m n le = grind arith

module _ (m values : ℕ) where
  -- a route as the run's reader may read it
  record RouteFits (r : Route) : Type 0 where
    key : length r.key ≡ values
    mask : HasStagesTo m r.mask

  route_from : (r : Route) → route_fits m values r ≡ true → RouteFits r
  route_from r is =
      let p = and_parts (eqb (length r.key) values) (none_above m r.mask) is in record { key = eqb-true (length r.key) values p.0; mask = stages_from r.mask m p.1 }

  route_to : (r : Route) → RouteFits r → route_fits m values r ≡ true
  route_to r fits = and_from (eqb (length r.key) values) (none_above m r.mask) (eq-eqb (length r.key) values fits.key) (stages_to r.mask m fits.mask)

  -- a route of both kinds
  routes_fit : (routes : List Route) → All (λ (r : Route). HasStagesTo m r.mask) routes → All (λ (r : Route). length r.key ≡ values) routes → All RouteFits routes
  routes_fit [] masks keys = All-nil _
  routes_fit (r ∷ routes) masks keys =
      All-cons RouteFits r routes
      (record { key = All-head (λ (x : Route). length x.key ≡ values) r routes keys; mask = All-head (λ (x : Route). HasStagesTo m x.mask) r routes masks })
      (routes_fit routes (All-tail (λ (x : Route). HasStagesTo m x.mask) r routes masks) (All-tail (λ (x : Route). length x.key ≡ values) r routes keys))

  record ItemFits (t : ℤ) (shard lines : ℕ) (item : Item) : Type 0 where
    kept : IsKeptBy shard lines (At t) item
    masks : HasMasksTo m item
    keys : KeysHave values item

  module _ (t : ℤ) (shard lines : ℕ) (item : Item) where
    item_from : item_fits m values t shard lines item ≡ true → ItemFits t shard lines item
    item_from is =
        let all = and_parts _ (list_all (route_fits m values) item.routes) is in
        let stand = and_parts _ (routes_stand item.routes) all.0 in
        let above = and_parts _ (not (lt_z item.order.ts t)) stand.0 in
        let time = and_parts _ (is_time item.order.ts) above.0 in
        let to = and_parts _ (leb item.order.line lines) time.0 in
        let from = and_parts _ (leb 1 item.order.line) to.0 in
        let routes : All RouteFits item.routes = all_from (route_fits m values) RouteFits route_from item.routes all.1 in
        record {
          kept = record {
            shard_is = eqb-true item.order.shard shard from.0;
            line_from = leb-true 1 item.order.line from.1;
            line_to = leb-true item.order.line lines to.1;
            in_range = time_from item.order.ts time.1;
            routes_stand = and_parts (is_sorted key_cmp (by_key item.routes)) (list_all says_something item.routes) stand.1;
            not_below = not_false (lt_z item.order.ts t) above.1;
          };
          masks = All-weaker RouteFits (λ (r : Route). HasStagesTo m r.mask) (λ r fits. fits.mask) item.routes routes;
          keys = All-weaker RouteFits (λ (r : Route). length r.key ≡ values) (λ r fits. fits.key) item.routes routes;
        }

    item_to : ItemFits t shard lines item → item_fits m values t shard lines item ≡ true
    item_to fits =
        let k = fits.kept in
        and_from _ _
        (and_from _ _
        (and_from _ _
        (and_from _ _
        (and_from _ _
        (and_from _ _ (eq-eqb item.order.shard shard k.shard_is) (le_leb 1 item.order.line k.line_from)) (le_leb item.order.line lines k.line_to))
        (time_to item.order.ts k.in_range))
        (false_not (lt_z item.order.ts t) k.not_below))
        (and_from (is_sorted key_cmp (by_key item.routes)) (list_all says_something item.routes) k.routes_stand.0 k.routes_stand.1))
        (all_to (route_fits m values) RouteFits route_to item.routes (routes_fit item.routes fits.masks fits.keys))

  module _ (t : ℤ) (shard lines : ℕ) where
    items_told : (items : List Item) → All (IsKeptBy shard lines (At t)) items → All (HasMasksTo m) items → All (KeysHave values) items → All (ItemFits t shard lines) items
    items_told [] kept masks keys = All-nil _
    items_told (i ∷ items) kept masks keys =
        All-cons (ItemFits t shard lines) i items
        (record {
          kept = All-head (IsKeptBy shard lines (At t)) i items kept;
          masks = All-head (HasMasksTo m) i items masks;
          keys = All-head (KeysHave values) i items keys;
        })
        (items_told items (All-tail (IsKeptBy shard lines (At t)) i items kept) (All-tail (HasMasksTo m) i items masks) (All-tail (KeysHave values) i items keys))

-- what a lane is to have of its greatest timestamp
record BestFits (slack t : ℤ) (closed : Bool) (best : Option ℤ) : Type 0 where
  in_range : IfSome best IsTime
  open_ : closed ≡ false → (b : ℤ) × (best ≡ Some b) × (t ≤ℤ (b -ℤ slack))

closed_or : (closed b : Bool) → (closed || b) ≡ true → closed ≡ false → b ≡ true
closed_or true b is never = cc
closed_or false b is never = is

or_closed : (closed b : Bool) → (closed ≡ false → b ≡ true) → (closed || b) ≡ true
or_closed true b is = refl
or_closed false b is = is refl

there_is : (slack t b : ℤ) → (other : ℤ) × (Some b ≡ Some other) × (t ≤ℤ (other -ℤ slack)) → t ≤ℤ (b -ℤ slack)
there_is slack t b (other, is, le) = let same : other ≡ b = cc in subst (λ (x : ℤ). t ≤ℤ (x -ℤ slack)) same le

not_closed : (closed : Bool) → (closed ≡ false → ⊥) → closed ≡ true
not_closed true never = refl
not_closed false never = absurd (never refl)

none_is : {A : Type 0} (x : A) → None ≡ Some x → ⊥
none_is x is = cc

module _ (slack t : ℤ) (closed : Bool) where
  best_from : (best : Option ℤ) → best_fits slack t closed best ≡ true → BestFits slack t closed best
  best_from None is = record { in_range = tt; open_ = λ never. cc }
  best_from (Some b) is =
      let p = and_parts (is_time b) (closed || le_z t (b -ℤ slack)) is in
      record { in_range = time_from b p.0; open_ = λ never. (b, refl, le_from t (b -ℤ slack) (closed_or closed (le_z t (b -ℤ slack)) p.1 never)) }

  best_to : (best : Option ℤ) → BestFits slack t closed best → best_fits slack t closed best ≡ true
  best_to None fits = not_closed closed (λ never. none_is (fits.open_ never).0 (fits.open_ never).1)
  best_to (Some b) fits =
      and_from (is_time b) (closed || le_z t (b -ℤ slack)) (time_to b fits.in_range)
      (or_closed closed (le_z t (b -ℤ slack)) (λ never. le_to t (b -ℤ slack) (there_is slack t b (fits.open_ never))))

not_zero : (n : ℕ) → not (eqb n 0) ≡ true → n ≡ 0 → ⊥
not_zero zero is never = cc
not_zero (suc n) is never = omega (arith, never)

tested_nonzero : (n : ℕ) (b : Bool) → eqb n 0 ≡ b → (n ≡ 0 → ⊥) → not b ≡ true
tested_nonzero n true is never = absurd (never (eqb-true n 0 is))
tested_nonzero n false is never = refl

nonzero : (n : ℕ) → (n ≡ 0 → ⊥) → not (eqb n 0) ≡ true
nonzero n never = tested_nonzero n (eqb n 0) refl never

module _ (m values : ℕ) where
  first_from : (first : Option FirstBad) (rejected : ℕ) → first_fits first rejected ≡ true → (first ≡ None) ↔ (rejected ≡ 0)
  first_from None rejected is = (λ none. eqb-true rejected 0 is, λ zero. refl)
  first_from (Some bad) rejected is = (λ none. absurd (none_is bad (sym none)), λ zero. absurd (not_zero rejected is zero))

  first_to : (first : Option FirstBad) (rejected : ℕ) → (first ≡ None) ↔ (rejected ≡ 0) → first_fits first rejected ≡ true
  first_to None rejected both = eq-eqb rejected 0 (both.0 refl)
  first_to (Some bad) rejected both = nonzero rejected (λ zero. none_is bad (sym (both.1 zero)))

  record CountsFit (counts : Counts) : Type 0 where
    stand : CountsStand counts
    lines_to : counts.lines ≤ greatest_lines

  counts_from : (counts : Counts) → counts_fit counts ≡ true → CountsFit counts
  counts_from counts is =
      let lines = and_parts _ (leb counts.lines greatest_lines) is in
      let first = and_parts _ (first_fits counts.first counts.rejected) lines.0 in
      record {
        stand = record { fewer = leb-true _ _ first.0; first_bad = first_from counts.first counts.rejected first.1 };
        lines_to = leb-true counts.lines greatest_lines lines.1;
      }

  counts_to : (counts : Counts) → CountsFit counts → counts_fit counts ≡ true
  counts_to counts fits =
      and_from _ _
      (and_from _ _ (le_leb (counts.accepted + counts.late + counts.rejected) counts.lines fits.stand.fewer) (first_to counts.first counts.rejected fits.stand.first_bad))
      (le_leb counts.lines greatest_lines fits.lines_to)

  -- all that is said of a lane
  pub record LaneTold (slack t : ℤ) (shard : ℕ) (lane : LaneCut) : Type 0 where
    pub fits : LaneFits slack t shard lane
    pub masks : All (HasMasksTo m) lane.items
    pub keys : All (KeysHave values) lane.items

  module _ (sorted : SortedItems) (back : ItemsBack) (slack t : ℤ) (shard : ℕ) (lane : LaneCut) where
    lane_from : lane_fits m values slack t shard lane ≡ true → LaneTold slack t shard lane
    lane_from is =
        let lines = lane.counts.lines in
        let items = and_parts _ (list_all (item_fits m values t shard lines) lane.items) is in
        let ascend = and_parts _ (items_ascend lane.items) items.0 in
        let few = and_parts _ (leb (length lane.items) lane.counts.accepted) ascend.0 in
        let offset = and_parts _ (leb lane.offset greatest_bytes) few.0 in
        let counts = and_parts (best_fits slack t lane.closed lane.best) (counts_fit lane.counts) offset.0 in
        let best = best_from slack t lane.closed lane.best counts.0 in
        let told = counts_from lane.counts counts.1 in
        let fit : All (ItemFits m values t shard lines) lane.items =
        all_from (item_fits m values t shard lines) (ItemFits m values t shard lines) (item_from m values t shard lines) lane.items items.1 in
        record {
          fits = record {
            best_in_range = best.in_range;
            open_best = best.open_;
            items = All-weaker (ItemFits m values t shard lines) (IsKeptBy shard lines (At t)) (λ (i : Item) f. f.kept) lane.items fit;
            ascending = back lane.items (All-weaker (ItemFits m values t shard lines) (λ (i : Item). RoutesAreInOrder i.routes) (λ (i : Item) f. f.kept.routes_stand.0) lane.items fit) ascend.1;
            no_more_items = leb-true (length lane.items) lane.counts.accepted few.1;
            counts_stand = told.stand;
            lines_to = told.lines_to;
            offset_to = leb-true lane.offset greatest_bytes offset.1;
          };
          masks = All-weaker (ItemFits m values t shard lines) (HasMasksTo m) (λ (i : Item) f. f.masks) lane.items fit;
          keys = All-weaker (ItemFits m values t shard lines) (KeysHave values) (λ (i : Item) f. f.keys) lane.items fit;
        }

    lane_to : LaneTold slack t shard lane → lane_fits m values slack t shard lane ≡ true
    lane_to told =
        let f = told.fits in
        let lines = lane.counts.lines in
        and_from _ _
        (and_from _ _
        (and_from _ _
        (and_from _ _
        (and_from _ _ (best_to slack t lane.closed lane.best (record { in_range = f.best_in_range; open_ = f.open_best }))
        (counts_to lane.counts (record { stand = f.counts_stand; lines_to = f.lines_to })))
        (le_leb lane.offset greatest_bytes f.offset_to))
        (le_leb (length lane.items) lane.counts.accepted f.no_more_items))
        (sorted lane.items f.ascending))
        (all_to (item_fits m values t shard lines) (ItemFits m values t shard lines) (item_to m values t shard lines) lane.items (items_told m values t shard lines lane.items f.items told.masks told.keys))

-- all lanes
module _ (m values : ℕ) (sorted : SortedItems) (back : ItemsBack) (slack t : ℤ) where
  pub record LanesTold (shard : ℕ) (lanes : List LaneCut) : Type 0 where
    pub fit : LanesFit slack t shard lanes
    pub masks : All (λ (lane : LaneCut). All (HasMasksTo m) lane.items) lanes
    pub keys : All (λ (lane : LaneCut). All (KeysHave values) lane.items) lanes

  pub lanes_from : (shard : ℕ) (lanes : List LaneCut) → lanes_fit m values slack t shard lanes ≡ true → LanesTold shard lanes
  lanes_from shard [] is = record { fit = tt; masks = All-nil _; keys = All-nil _ }
  lanes_from shard (lane ∷ lanes) is =
      let p = and_parts (lane_fits m values slack t shard lane) (lanes_fit m values slack t (shard + 1) lanes) is in
      let here = lane_from m values sorted back slack t shard lane p.0 in
      let rest = lanes_from (shard + 1) lanes p.1 in
      record {
        fit = (here.fits, rest.fit);
        masks = All-cons (λ (l : LaneCut). All (HasMasksTo m) l.items) lane lanes here.masks rest.masks;
        keys = All-cons (λ (l : LaneCut). All (KeysHave values) l.items) lane lanes here.keys rest.keys;
      }

  pub lanes_to : (shard : ℕ) (lanes : List LaneCut) → LanesTold shard lanes → lanes_fit m values slack t shard lanes ≡ true
  lanes_to shard [] told = refl
  lanes_to shard (lane ∷ lanes) told =
      and_from (lane_fits m values slack t shard lane) (lanes_fit m values slack t (shard + 1) lanes)
      (lane_to m values sorted back slack t shard lane
      (record {
        fits = told.fit.0;
        masks = All-head (λ (l : LaneCut). All (HasMasksTo m) l.items) lane lanes told.masks;
        keys = All-head (λ (l : LaneCut). All (KeysHave values) l.items) lane lanes told.keys;
      }))
      (lanes_to (shard + 1) lanes
      (record {
        fit = told.fit.1;
        masks = All-tail (λ (l : LaneCut). All (HasMasksTo m) l.items) lane lanes told.masks;
        keys = All-tail (λ (l : LaneCut). All (KeysHave values) l.items) lane lanes told.keys;
      }))
