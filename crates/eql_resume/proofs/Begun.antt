-- How lanes begin, and what is pending, by a cut that is taken apart.
use Rattle.std.proofs.Common.{◌≡◌, ◌+◌, ℕ, zero, suc, List, [], ◌∷◌, ◌++◌, Some, None, true, false, refl, ap, sym, arith, ◌∙◌, subst, length, map}
use Rattle.std.specs.Prelude.{All, Bool, Contains, ℤ, ◌==◌, if◌then◌else◌, get_or}
use Rattle.std.specs.List.{flat_map, slice_get}
use Rattle.std.proofs.lemmas.List.Elements.{All-cons, All-head, All-map, All-nil, All-tail}
use Rattle.std.proofs.lemmas.Option.{none-some, same_Some, slice_get-get_or, slice_get_within, get_or_from_slice_get}
use Rattle.eql_values.specs.declared.cut.LaneCut.{LaneCut}
use Rattle.eql_values.specs.declared.cut.Pipe.{Pipe}
use Rattle.eql_values.specs.declared.item.Item.{Item}
use Rattle.eql_values.specs.declared.order.OrderKey.{OrderKey}
use Rattle.eql_laws.specs.Lanes.{LaneFits, LanesFit}
use Rattle.eql_lane.specs.declared.make.LaneStart.{LaneStart}
use Rattle.eql_lane.specs.declared.make.LaneStart.TheVariants as start
use Rattle.eql_lane.specs.Starts.{MayBegin, MayLift, MayStart}
use Rattle.eql_conductor.specs.Openings.{FitMayBegin}
use Rattle.eql_cut.specs.declared.cut.Cut.{Cut}
use Rattle.eql_cut.specs.Domain.{kept_by}
use Rattle.eql_cut.specs.Fitting.{run_of}
use Rattle.eql_cut.specs.Placing.{IsUnplaced, NamesLine, lane_orders, orders_in}
use Rattle.eql_cut.specs.PlacedLaws.{EventsAreNamed}
use Rattle.eql_runs.specs.Starts.{keeps_digests}
use Rattle.eql_resume.specs.Beginnings.{AreWanted, Keeping, LaneBegins, LanesBegin, WantedAre, fresh_starts, keeping_of, lifts_of, rest_orders, starts_by, undigested, unplaced, whole}
use Rattle.eql_resume.specs.Finding.{Suits}

-- ---- lists that grow at their end
pub wanted_push : (cut : Cut) (shard : ℕ) (lists : List (List ℕ)) (x : List ℕ) → WantedAre cut shard lists → AreWanted cut (shard + length lists) x
    → WantedAre cut shard (lists ++ x ∷ [])
wanted_push cut shard [] x h w = (subst (λ (n : ℕ). AreWanted cut n x) (let e : shard + 0 ≡ shard = omega arith in e) w, tt)
wanted_push cut shard (l ∷ lists) x h w = (
  h.0,
  wanted_push cut (shard + 1) lists x h.1
      (subst (λ (n : ℕ). AreWanted cut n x) (let e : shard + length (l ∷ lists) ≡ (shard + 1) + length lists = omega arith in e) w),
)

pub fresh_push : (n : ℕ) → fresh_starts n ++ start.Fresh ∷ [] ≡ fresh_starts (n + 1)
fresh_push zero = refl
fresh_push (suc n) =
    let e : suc (n + 1) ≡ suc n + 1 = omega arith in ap (λ (xs : List LaneStart). start.Fresh ∷ xs) (fresh_push n) ∙ ap fresh_starts e

-- ---- afresh
fresh_length : (n : ℕ) → length (fresh_starts n) ≡ n
fresh_length zero = refl
fresh_length (suc n) = let e = fresh_length n in omega (arith, e)

fresh_each : (n s : ℕ) (x : LaneStart) → slice_get (fresh_starts n) s ≡ Some x → x ≡ start.Fresh
fresh_each zero s x is = absurd (none-some x is)
fresh_each (suc n) zero x is = sym (same_Some start.Fresh x is)
fresh_each (suc n) (suc s) x is = fresh_each n s x is

all_by : {A : Type 0} (P : A → Type 0) (xs : List A) → ((s : ℕ) (x : A) → slice_get xs s ≡ Some x → P x) → All P xs
all_by P xs each = λ k d lt. each k (get_or xs k d) (slice_get-get_or xs k d lt)

may_fresh : (x : LaneStart) → x ≡ start.Fresh → MayStart x
may_fresh x is = subst MayStart (sym is) tt

pub begins_fresh : (format shards : ℕ) → LanesBegin None format shards (fresh_starts shards)
begins_fresh format shards = record {
  count = fresh_length shards;
  each = λ s x is. fresh_each shards s x is;
  may = all_by MayStart (fresh_starts shards) (λ s x is. may_fresh x (fresh_each shards s x is));
}

-- ---- with a cut
map_length : {A B : Type 0} (f : A → B) (xs : List A) → length (map f xs) ≡ length xs
map_length f [] = refl
map_length f (x ∷ xs) = ap suc (map_length f xs)

start_each : (by : LaneCut → LaneStart) (lanes : List LaneCut) (s : ℕ) (x : LaneStart) → slice_get (map by lanes) s ≡ Some x
    → (lane : LaneCut) × (slice_get lanes s ≡ Some lane) × (x ≡ by lane)
start_each by [] s x is = absurd (none-some x is)
start_each by (lane ∷ lanes) zero x is = (lane, refl, sym (same_Some (by lane) x is))
start_each by (lane ∷ lanes) (suc s) x is = start_each by lanes s x is

all_at : {A : Type 0} (P : A → Type 0) (xs : List A) (s : ℕ) (x : A) → All P xs → slice_get xs s ≡ Some x → P x
all_at P xs s x all is = subst P (get_or_from_slice_get xs s x x is) (all s x (slice_get_within xs s x is))

lanes_may : FitMayBegin → (stages values : ℕ) (pipes : List Pipe) (cut : Cut) → Suits stages values pipes cut.head cut → All MayBegin cut.lanes
lanes_may law stages values pipes cut suits =
    (law (run_of stages values pipes cut.head.slack) cut.head.shards (kept_by cut) suits.fits).lanes

lane_count : (stages values : ℕ) (pipes : List Pipe) (cut : Cut) (shards : ℕ) → Suits stages values pipes cut.head cut → cut.head.shards ≡ shards
    → length cut.lanes ≡ shards
lane_count stages values pipes cut shards suits same = suits.is_cut.stands.lane_for_each ∙ same

-- what the text keeps of them, by its format
keeps_whole : (format : ℕ) → keeps_digests format ≡ true → keeping_of format ≡ whole
keeps_whole format keeps = ap (λ (b : Bool). if b then whole else if format == 1 then unplaced else undigested) keeps

keeps_no_digests : (format : ℕ) → keeps_digests format ≡ false → (format == 1) ≡ false → keeping_of format ≡ undigested
keeps_no_digests format keeps later =
    ap (λ (b : Bool). if b then whole else if format == 1 then unplaced else undigested) keeps
    ∙ ap (λ (b : Bool). if b then unplaced else undigested) later

pub begins_kept : FitMayBegin → (stages values : ℕ) (pipes : List Pipe) (cut : Cut) (format shards : ℕ) (digested : Bool)
    → Suits stages values pipes cut.head cut → cut.head.shards ≡ shards → (format == 1) ≡ false → keeps_digests format ≡ digested
    → LanesBegin (Some cut) format shards (starts_by digested cut.lanes)
begins_kept law stages values pipes cut format shards true suits same later keeps = record {
  count = map_length start.From cut.lanes ∙ lane_count stages values pipes cut shards suits same;
  each = λ s x is. subst (λ (k : Keeping). LaneBegins (Some cut) k s x) (sym (keeps_whole format keeps)) (start_each start.From cut.lanes s x is);
  may = All-map MayStart start.From cut.lanes (lanes_may law stages values pipes cut suits);
}
begins_kept law stages values pipes cut format shards false suits same later keeps = record {
  count = map_length start.Retrace cut.lanes ∙ lane_count stages values pipes cut shards suits same;
  each = λ s x is.
      subst (λ (k : Keeping). LaneBegins (Some cut) k s x) (sym (keeps_no_digests format keeps later))
      (start_each start.Retrace cut.lanes s x is);
  may = All-map MayStart start.Retrace cut.lanes (lanes_may law stages values pipes cut suits);
}

-- ---- with a cut that has no places
lift_each : (lanes : List LaneCut) (lists : List (List ℕ)) (s : ℕ) (x : LaneStart) → slice_get (lifts_of lanes lists) s ≡ Some x
    → (lane : LaneCut) × (wanted : List ℕ) × (slice_get lanes s ≡ Some lane) × (slice_get lists s ≡ Some wanted) × (x ≡ start.Lift lane wanted)
lift_each [] lists s x is = absurd (none-some x is)
lift_each (lane ∷ lanes) [] s x is = absurd (none-some x is)
lift_each (lane ∷ lanes) (wanted ∷ lists) zero x is = (lane, wanted, refl, refl, sym (same_Some (start.Lift lane wanted) x is))
lift_each (lane ∷ lanes) (wanted ∷ lists) (suc s) x is = lift_each lanes lists s x is

lift_length : (lanes : List LaneCut) (lists : List (List ℕ)) → length lists ≡ length lanes → length (lifts_of lanes lists) ≡ length lanes
lift_length [] lists same = refl
lift_length (lane ∷ lanes) [] same = absurd (omega (arith, same))
lift_length (lane ∷ lanes) (wanted ∷ lists) same =
    let less : length lists ≡ length lanes = omega (arith, same) in ap suc (lift_length lanes lists less)

wanted_at : (cut : Cut) (shard : ℕ) (lists : List (List ℕ)) (s : ℕ) (wanted : List ℕ) → WantedAre cut shard lists → slice_get lists s ≡ Some wanted
    → AreWanted cut (shard + s) wanted
wanted_at cut shard [] s wanted h is = absurd (none-some wanted is)
wanted_at cut shard (l ∷ lists) zero wanted h is =
    subst (λ (n : ℕ). AreWanted cut n wanted) (let e : shard ≡ shard + 0 = omega arith in e) (subst (AreWanted cut shard) (same_Some l wanted is) h.0)
wanted_at cut shard (l ∷ lists) (suc s) wanted h is =
    subst (λ (n : ℕ). AreWanted cut n wanted) (let e : (shard + 1) + s ≡ shard + suc s = omega arith in e) (wanted_at cut (shard + 1) lists s wanted h.1 is)

pub fits_at : (slack t : ℤ) (shard : ℕ) (lanes : List LaneCut) (s : ℕ) (lane : LaneCut) → LanesFit slack t shard lanes → slice_get lanes s ≡ Some lane
    → LaneFits slack t (shard + s) lane
fits_at slack t shard [] s lane h is = absurd (none-some lane is)
fits_at slack t shard (l ∷ lanes) zero lane h is =
    subst (λ (n : ℕ). LaneFits slack t n lane) (let e : shard ≡ shard + 0 = omega arith in e) (subst (LaneFits slack t shard) (same_Some l lane is) h.0)
fits_at slack t shard (l ∷ lanes) (suc s) lane h is =
    subst (λ (n : ℕ). LaneFits slack t n lane) (let e : (shard + 1) + s ≡ shard + suc s = omega arith in e) (fits_at slack t (shard + 1) lanes s lane h.1 is)

-- what holds of each event of a cut holds of those of a lane, and of the rest
left_all : {A : Type 0} (P : A → Type 0) (xs ys : List A) → All P (xs ++ ys) → All P xs
left_all P [] ys all = All-nil P
left_all P (x ∷ xs) ys all = All-cons P x xs (All-head P x (xs ++ ys) all) (left_all P xs ys (All-tail P x (xs ++ ys) all))

right_all : {A : Type 0} (P : A → Type 0) (xs ys : List A) → All P (xs ++ ys) → All P ys
right_all P [] ys all = all
right_all P (x ∷ xs) ys all = right_all P xs ys (All-tail P x (xs ++ ys) all)

lane_all : (P : OrderKey → Type 0) (lanes : List LaneCut) (s : ℕ) (lane : LaneCut) → All P (flat_map lane_orders lanes) → slice_get lanes s ≡ Some lane
    → All P (lane_orders lane)
lane_all P [] s lane all is = absurd (none-some lane is)
lane_all P (l ∷ lanes) zero lane all is =
    subst (λ (x : LaneCut). All P (lane_orders x)) (same_Some l lane is) (left_all P (lane_orders l) (flat_map lane_orders lanes) all)
lane_all P (l ∷ lanes) (suc s) lane all is = lane_all P lanes s lane (right_all P (lane_orders l) (flat_map lane_orders lanes) all) is

item_all : (P : OrderKey → Type 0) (items : List Item) → All P (map (λ (item : Item). item.order) items) → All (λ (item : Item). P item.order) items
item_all P [] all = All-nil (λ (item : Item). P item.order)
item_all P (item ∷ items) all =
    All-cons (λ (i : Item). P i.order) item items (All-head P item.order (map (λ (i : Item). i.order) items) all)
    (item_all P items (All-tail P item.order (map (λ (i : Item). i.order) items) all))

pub of_lane : (P : OrderKey → Type 0) (cut : Cut) (s : ℕ) (lane : LaneCut) → All P (orders_in cut) → slice_get cut.lanes s ≡ Some lane
    → All (λ (item : Item). P item.order) lane.items
of_lane P cut s lane all is =
    item_all P lane.items
    (lane_all P cut.lanes s lane (left_all P (flat_map lane_orders cut.lanes) (rest_orders cut.holders cut.book) all) is)

pub rest_bare : (cut : Cut) → IsUnplaced (orders_in cut) → IsUnplaced (rest_orders cut.holders cut.book)
rest_bare cut bare = right_all (λ (o : OrderKey). o.at ≡ 0) (flat_map lane_orders cut.lanes) (rest_orders cut.holders cut.book) bare

module _ (law : FitMayBegin) (named : EventsAreNamed) (stages values : ℕ) (pipes : List Pipe) (cut : Cut) (suits : Suits stages values pipes cut.head cut)
    (bare : IsUnplaced (orders_in cut)) where
  -- each event of a lane is at a wanted line
  named_lines : (s : ℕ) (lane : LaneCut) (wanted : List ℕ) → slice_get cut.lanes s ≡ Some lane → AreWanted cut s wanted
      → All (λ (item : Item). Contains wanted item.order.line) lane.items
  named_lines s lane wanted there are =
      let fits = fits_at (run_of stages values pipes cut.head.slack).slack cut.mark 0 cut.lanes s lane suits.fits.lanes there in
      let names = of_lane (λ (o : OrderKey). NamesLine cut o.shard o.line) cut s lane (named cut) there in
      λ k d lt. (are.exact (get_or lane.items k d).order.line).1
      (subst (λ (n : ℕ). NamesLine cut n (get_or lane.items k d).order.line)
      (let e = (fits.items k d lt).shard_is in let z : 0 + s ≡ s = omega arith in e ∙ z) (names k d lt))

  lift_may : (s : ℕ) (lane : LaneCut) (wanted : List ℕ) → slice_get cut.lanes s ≡ Some lane → AreWanted cut s wanted → MayLift lane wanted
  lift_may s lane wanted there are = record {
    begin = all_at MayBegin cut.lanes s lane (lanes_may law stages values pipes cut suits) there;
    unplaced = of_lane (λ (o : OrderKey). o.at ≡ 0) cut s lane bare there;
    ascend = are.ascend;
    named = named_lines s lane wanted there are;
  }

  own_wanted : (lists : List (List ℕ)) (s : ℕ) (wanted : List ℕ) → WantedAre cut 0 lists → slice_get lists s ≡ Some wanted → AreWanted cut s wanted
  own_wanted lists s wanted all is = subst (λ (n : ℕ). AreWanted cut n wanted) (let z : 0 + s ≡ s = omega arith in z) (wanted_at cut 0 lists s wanted all is)

  one_lift : (lists : List (List ℕ)) (s : ℕ) (x : LaneStart) → WantedAre cut 0 lists → slice_get (lifts_of cut.lanes lists) s ≡ Some x
      → LaneBegins (Some cut) unplaced s x × MayStart x
  one_lift lists s x all is =
      let h = lift_each cut.lanes lists s x is in
      let are = own_wanted lists s h.1 all h.3 in
      ((h.0, h.2, h.1, h.4, are.exact), subst MayStart (sym h.4) (lift_may s h.0 h.1 h.2 are))

  pub begins_lifted : (shards : ℕ) (starts : List LaneStart) → cut.head.shards ≡ shards
      → (lists : List (List ℕ)) × (length lists ≡ shards) × WantedAre cut 0 lists × (starts ≡ lifts_of cut.lanes lists)
      → LanesBegin (Some cut) 1 shards starts
  begins_lifted shards starts same h =
      let count = lane_count stages values pipes cut shards suits same in
      subst (LanesBegin (Some cut) 1 shards) (sym h.3)
      (record {
        count = lift_length cut.lanes h.0 (h.1 ∙ sym count) ∙ count;
        each = λ s x is. (one_lift h.0 s x h.2 is).0;
        may = all_by MayStart (lifts_of cut.lanes h.0) (λ s x is. (one_lift h.0 s x h.2 is).1);
      })
