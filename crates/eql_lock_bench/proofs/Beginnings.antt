-- What is known of a bench whose hand has seen nothing yet, by the lanes and parts of which the hub was made.
use Rattle.std.proofs.Common.{◌≡◌, ℕ, zero, suc, List, [], ◌∷◌, map, Option, Some, length, refl, sym, ap, ◌∙◌, subst, arith}
use Rattle.std.specs.Prelude.{slice_get}
use Rattle.std.specs.List.{count_by}
use Rattle.std.proofs.lemmas.List.Sums.{sum_by-cons}
use Rattle.std.proofs.lemmas.Option.{same_Some}
use Rattle.eql_values.specs.Accepted.{Reads}
use Rattle.eql_outside.specs.Plans.{FaultPlan}
use Rattle.eql_lane.specs.Lanes.{LaneState}
use Rattle.eql_lane.specs.Views.{IsTextOf, LaneView, setting_of}
use Rattle.eql_parts.specs.PartSteps.{PartState, PartView}
use Rattle.eql_turn_lock.specs.declared.history.Entry.{Entry}
use Rattle.eql_turn_lock.specs.declared.view.View.{View}
use Rattle.eql_turn_lock.specs.History.{IsLegal}
use Rattle.eql_turn_lock.specs.Passes.{first_view, split_view}
use Rattle.eql_conductor.specs.Benches.{Known}
use Rattle.eql_conductor.specs.Lists.{rules_in, set_in}
use Rattle.eql_hub.specs.Hands.{HandView, LaneKnown}
use Rattle.eql_hub.specs.Turns.{IsLaneTurn, IsPartTurn}
use Rattle.eql_lock_bench.specs.Benched.{AreOfTexts}
use Rattle.eql_lock_bench.specs.Locked.{MayBe, entry_failed, is_worn, known_by, lane_state, mine_in, noted_lane, noted_part, opening_in, part_state, worn_in, worn_of}

-- a pass of a lock round this value has seen nothing, called nothing and met nothing
pub record IsFresh {T O R : Type 0} (value : T) (view : View T O R) : Type 0 where
  pub opening : view.opening ≡ Some value
  pub seen : view.seen ≡ []
  pub mine : view.mine ≡ []
  pub looked : view.looked ≡ []

-- and so it is of each, in order
abbrev pub AreFresh : {T O R : Type 0} → List T → List (View T O R) → Type 0
AreFresh [] [] = Unit {0}
AreFresh [] (view ∷ views) = ⊥
AreFresh (value ∷ values) [] = ⊥
AreFresh (value ∷ values) (view ∷ views) = IsFresh value view × AreFresh values views

module _ {T O R : Type 0} where
  -- as the hub is made, and after hands were split off
  first_fresh : (values : List T) (views : List (View T O R)) → views ≡ map first_view values → AreFresh values views
  first_fresh [] [] is = tt
  first_fresh [] (view ∷ views) is = absurd cc
  first_fresh (value ∷ values) [] is = absurd cc
  first_fresh (value ∷ values) (view ∷ views) is =
      let one : view ≡ first_view value = cc in let more : views ≡ map first_view values = cc in
      (subst (IsFresh value) (sym one) (record { opening = refl; seen = refl; mine = refl; looked = refl }), first_fresh values views more)

  split_fresh : (values : List T) (views : List (View T O R)) → AreFresh values views → AreFresh values (map split_view views)
  split_fresh [] [] fresh = tt
  split_fresh [] (view ∷ views) fresh = absurd fresh
  split_fresh (value ∷ values) [] fresh = absurd fresh
  split_fresh (value ∷ values) (view ∷ views) fresh =
      (record { opening = fresh.0.opening; seen = fresh.0.seen; mine = fresh.0.mine; looked = fresh.0.looked }, split_fresh values views fresh.1)

  pub begin_fresh : (values : List T) (views : List (View T O R)) → views ≡ map first_view values → AreFresh values views
  begin_fresh values views is = first_fresh values views is

  pub stay_fresh : (values : List T) (old new : List (View T O R)) → new ≡ map split_view old → AreFresh values old → AreFresh values new
  stay_fresh values old new is fresh = subst (AreFresh values) (sym is) (split_fresh values old fresh)

  -- ---- what is known
  pub fresh_count : (values : List T) (views : List (View T O R)) → AreFresh values views → length views ≡ length values
  fresh_count [] [] fresh = refl
  fresh_count [] (view ∷ views) fresh = absurd fresh
  fresh_count (value ∷ values) [] fresh = absurd fresh
  fresh_count (value ∷ values) (view ∷ views) fresh = let e = fresh_count values views fresh.1 in omega (arith, e)

  pub fresh_openings : (values : List T) (views : List (View T O R)) → AreFresh values views → (k : ℕ) → opening_in (slice_get views k) ≡ slice_get values k
  fresh_openings [] [] fresh k = refl
  fresh_openings [] (view ∷ views) fresh k = absurd fresh
  fresh_openings (value ∷ values) [] fresh k = absurd fresh
  fresh_openings (value ∷ values) (view ∷ views) fresh zero = fresh.0.opening
  fresh_openings (value ∷ values) (view ∷ views) fresh (suc k) = fresh_openings values views fresh.1 k

  pub fresh_mine : (values : List T) (views : List (View T O R)) → AreFresh values views → (k : ℕ) → mine_in (slice_get views k) ≡ []
  fresh_mine [] [] fresh k = refl
  fresh_mine [] (view ∷ views) fresh k = absurd fresh
  fresh_mine (value ∷ values) [] fresh k = absurd fresh
  fresh_mine (value ∷ values) (view ∷ views) fresh zero = fresh.0.mine
  fresh_mine (value ∷ values) (view ∷ views) fresh (suc k) = fresh_mine values views fresh.1 k

  pub fresh_at : (values : List T) (views : List (View T O R)) → AreFresh values views → (k : ℕ) (view : View T O R) → slice_get views k ≡ Some view
      → (value : T) × (slice_get values k ≡ Some value) × IsFresh value view
  fresh_at [] [] fresh k view e = absurd cc
  fresh_at [] (first ∷ views) fresh k view e = absurd fresh
  fresh_at (value ∷ values) [] fresh k view e = absurd fresh
  fresh_at (value ∷ values) (first ∷ views) fresh zero view e = (value, refl, subst (IsFresh value) (same_Some first view e) fresh.0)
  fresh_at (value ∷ values) (first ∷ views) fresh (suc k) view e = fresh_at values views fresh.1 k view e

  pub fresh_worn : (values : List T) (views : List (View T O R)) → AreFresh values views → worn_in views ≡ 0
  fresh_worn [] [] fresh = refl
  fresh_worn [] (view ∷ views) fresh = absurd fresh
  fresh_worn (value ∷ values) [] fresh = absurd fresh
  fresh_worn (value ∷ values) (view ∷ views) fresh =
      let a = sum_by-cons worn_of view views in let b = ap (count_by is_worn) fresh.0.looked in let c = fresh_worn values views fresh.1 in
      omega (arith, a, b, c)

  -- the one state that a value may have is its own
  pub fresh_state : {X : Type 0} (step_of : T → O → R → T → Type 0) (state_of : T → X) (values : List T) (views : List (View T O R)) → AreFresh values views
      → (k : ℕ) (x : X) → MayBe step_of state_of views k x → (value : T) × (slice_get values k ≡ Some value) × (x ≡ state_of value)
  fresh_state step_of state_of values views fresh k x may =
      let one = fresh_at values views fresh k may.view may.there in
      let same : may.opening ≡ one.0 = same_Some may.opening one.0 (sym may.opened ∙ one.2.opening) in
      let still : may.opening ≡ may.value = subst (λ (es : List (Entry O R)). IsLegal step_of may.opening es may.value) one.2.seen may.legal in
      (one.0, one.1, may.state_is ∙ ap state_of (sym still ∙ same))

pub fresh_texts : {S L : Type 0} (left : S → Option (List ℕ)) (text : ℕ → Option (List ℕ)) (lanes : List (LaneView S L)) (views : List (LaneKnown S L)) → AreFresh lanes views
    → ((s : ℕ) (lane : LaneView S L) → slice_get lanes s ≡ Some lane → IsTextOf left (text s) lane) → AreOfTexts left text views
fresh_texts left text lanes views fresh each = record {
  each = λ s view lane there opened.
      each s lane (sym (fresh_openings lanes views fresh s) ∙ (ap opening_in there ∙ opened));
}

-- ---- in the words of a bench
module _ {S L : Type 0} (left lent_as : S → Option (List ℕ)) (fault_plan : S → Option FaultPlan) (read_of : L → Reads) (text : ℕ → Option (List ℕ))
    (lanes : List (LaneView S L)) (parts : List PartView) (hand : HandView S L) (fresh_lanes : AreFresh lanes hand.lanes.views) (fresh_parts : AreFresh parts hand.parts.views) where
  abbrev known : Known
  known = known_by left lent_as fault_plan read_of text hand

  pub known_counts : (known.lanes ≡ length lanes) × (known.parts ≡ length parts)
  known_counts = (fresh_count lanes hand.lanes.views fresh_lanes, fresh_count parts hand.parts.views fresh_parts)

  -- what is known of a lane, and of a part, is what it is
  pub known_lane : (s : ℕ) (lane : LaneView S L) → slice_get lanes s ≡ Some lane → (known.set s ≡ setting_of read_of (text s) lane) × ((x : LaneState) → known.lane s x → x ≡ lane.state)
  known_lane s lane there = (
    ap (set_in read_of (text s)) (fresh_openings lanes hand.lanes.views fresh_lanes s ∙ there),
    λ x may.
        let one = fresh_state (IsLaneTurn left lent_as fault_plan read_of) lane_state lanes hand.lanes.views fresh_lanes s x may in
        one.2 ∙ ap (λ (v : LaneView S L). v.state) (same_Some one.0 lane (sym one.1 ∙ there)),
  )

  pub known_part : (p : ℕ) (part : PartView) → slice_get parts p ≡ Some part → (known.rules p ≡ part.rules) × ((x : PartState) → known.part p x → x ≡ part.state)
  known_part p part there = (
    ap rules_in (fresh_openings parts hand.parts.views fresh_parts p ∙ there),
    λ x may.
        let one = fresh_state IsPartTurn part_state parts hand.parts.views fresh_parts p x may in
        one.2 ∙ ap (λ (v : PartView). v.state) (same_Some one.0 part (sym one.1 ∙ there)),
  )

  -- the hand called nothing, and no word that it met is worn
  pub known_calls : ((s : ℕ) → known.lane_notes s ≡ []) × ((p : ℕ) → known.part_notes p ≡ []) × ((s : ℕ) → known.failed s ≡ 0) × (known.worn ≡ 0)
  known_calls = (
    λ s. ap (map noted_lane) (fresh_mine lanes hand.lanes.views fresh_lanes s),
    λ p. ap (map noted_part) (fresh_mine parts hand.parts.views fresh_parts p),
    λ s. ap (count_by entry_failed) (fresh_mine lanes hand.lanes.views fresh_lanes s),
    (let a = fresh_worn lanes hand.lanes.views fresh_lanes in let b = fresh_worn parts hand.parts.views fresh_parts in omega (arith, a, b)),
  )
