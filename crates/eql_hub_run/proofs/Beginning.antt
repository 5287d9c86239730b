-- What is known of the bench as a run begins, by the lanes and parts of which the hub was made.
use Rattle.std.proofs.Common.{◌≡◌, ℕ, suc, List, [], ◌∷◌, map, Option, None, Some, refl, sym, ap, ◌∙◌, subst, arith}
use Rattle.std.specs.Prelude.{get_or, slice_get}
use Rattle.std.specs.List.{count_by}
use Rattle.std.proofs.lemmas.Option.{slice_get-get_or, slice_get_within}
use Rattle.eql_values.specs.Accepted.{Reads}
use Rattle.eql_outside.specs.Moments.{History}
use Rattle.eql_outside.specs.Plans.{FaultPlan}
use Rattle.eql_laws.specs.Belows.{IsReading}
use Rattle.eql_lane.specs.Lanes.{LaneState, Setting, beginning_lane, fresh_cut}
use Rattle.eql_lane.specs.Views.{LaneView}
use Rattle.eql_parts.specs.PartSteps.{PartView}
use Rattle.eql_book.specs.Books.{BookState}
use Rattle.eql_conductor.specs.LaneCalls.{LaneIsAt}
use Rattle.eql_turn_lock.specs.declared.history.Entry.{Entry}
use Rattle.eql_turn_lock.specs.declared.view.View.{View}
use Rattle.eql_turn_lock.specs.History.{IsLegal}
use Rattle.eql_conductor.specs.declared.plan.Keep.{Keep}
use Rattle.eql_conductor.specs.declared.plan.RunPlan.{RunPlan}
use Rattle.eql_conductor.specs.Benches.{Known}
use Rattle.eql_conductor.specs.Lists.{known_in, rules_in, set_in}
use Rattle.eql_conductor.specs.Runs.{MayKeepIf, MayRun}
use Rattle.eql_conductor.proofs.Lists.{there_or}
use Rattle.eql_hub.specs.Hands.{HandView}
use Rattle.eql_hub.specs.Turns.{IsLaneTurn, IsPartTurn}
use Rattle.eql_lock_bench.specs.Locked.{MayBe, entry_failed, known_by, lane_state, noted_lane, noted_part, part_state}
use Rattle.eql_lock_bench.proofs.Beginnings.{AreFresh, fresh_count, fresh_mine, fresh_openings, fresh_state, fresh_worn}
use Rattle.eql_hub_run.specs.Beside.{IsSameBench}
use Rattle.eql_hub_run.specs.Gathers.{AreUnplayed, IsUnplayed, IsUnplayedHand}
use Rattle.eql_hub_run.proofs.Worn.{BeganWith}

-- ---- passes that played nothing
module _ {T O R : Type 0} where
  pub unplayed_fresh : (made : ℕ) (values : List T) (views : List (View T O R)) → AreUnplayed made values views → AreFresh values views
  unplayed_fresh made [] [] are = tt
  unplayed_fresh made [] (view ∷ views) are = absurd (let c = are.count in omega (arith, c))
  unplayed_fresh made (value ∷ values) [] are = absurd (let c = are.count in omega (arith, c))
  unplayed_fresh made (value ∷ values) (view ∷ views) are =
      let one = are.each 0 value view refl refl in (
        record { opening = one.opening; seen = one.seen; mine = one.mine; looked = one.looked },
        unplayed_fresh made values views (record { count = (let c = are.count in omega (arith, c)); each = λ k v w was is. are.each (suc k) v w was is }),
      )

  view_at : (made : ℕ) (values : List T) (views : List (View T O R)) → AreUnplayed made values views → (k : ℕ) (value : T) → slice_get values k ≡ Some value
      → (view : View T O R) × (slice_get views k ≡ Some view)
  view_at made values (view ∷ views) are k value there =
      let a = slice_get_within values k value there in let c = are.count in
      (get_or (view ∷ views) k view, slice_get-get_or (view ∷ views) k view (omega (arith, a, c)))
  view_at made values [] are k value there = absurd (let a = slice_get_within values k value there in let c = are.count in omega (arith, a, c))

  -- the value itself is a state that it may have
  may_begin : {X : Type 0} (step_of : T → O → R → T → Type 0) (state_of : T → X) (made : ℕ) (values : List T) (views : List (View T O R)) → AreUnplayed made values views
      → (k : ℕ) (value : T) → slice_get values k ≡ Some value → MayBe step_of state_of views k (state_of value)
  may_begin step_of state_of made values views are k value there =
      let at = view_at made values views are k value there in
      let one : IsUnplayed made value at.0 = are.each k value at.0 there at.1 in
      record {
        view = at.0;
        opening = value;
        value = value;
        there = at.1;
        opened = one.opening;
        legal = subst (λ (es : List (Entry O R)). IsLegal step_of value es value) (sym one.seen) refl;
        state_is = refl;
      }

-- ---- a bench that begins
abbrev pub state_in : {S L : Type 0} → Option (LaneView S L) → LaneState
state_in None = beginning_lane fresh_cut 0
state_in (Some lane) = lane.state

module _ {S L : Type 0} (left lent_as : S → Option (List ℕ)) (fault_plan : S → Option FaultPlan) (read_of : L → Reads) (text : ℕ → Option (List ℕ))
    (made : ℕ) (olds : List (LaneView S L)) (parts : List PartView) (first : HandView S L) (are : IsUnplayedHand made olds parts first) where
  pub begins : IsSameBench (known_in read_of text olds parts) (known_by left lent_as fault_plan read_of text first)
  begins =
      let lanes = unplayed_fresh made olds first.lanes.views are.lanes_are in
      let turned = unplayed_fresh made parts first.parts.views are.parts_are in
      record {
        lanes = fresh_count olds first.lanes.views lanes;
        parts = fresh_count parts first.parts.views turned;
        set = λ s. ap (set_in read_of (text s)) (fresh_openings olds first.lanes.views lanes s);
        rules = λ p. ap rules_in (fresh_openings parts first.parts.views turned p);
        lane_to = λ s x has.
            subst (MayBe (IsLaneTurn left lent_as fault_plan read_of) lane_state first.lanes.views s) (sym has.state_is)
            (may_begin (IsLaneTurn left lent_as fault_plan read_of) lane_state made olds first.lanes.views are.lanes_are s has.lane has.there);
        lane_from = λ s x may.
            let one = fresh_state (IsLaneTurn left lent_as fault_plan read_of) lane_state olds first.lanes.views lanes s x may in
            record { lane = one.0; there = one.1; state_is = one.2 };
        part_to = λ p x has.
            subst (MayBe IsPartTurn part_state first.parts.views p) (sym has.state_is) (may_begin IsPartTurn part_state made parts first.parts.views are.parts_are p has.part has.there);
        part_from = λ p x may.
            let one = fresh_state IsPartTurn part_state parts first.parts.views turned p x may in
            record { part = one.0; there = one.1; state_is = one.2 };
        lane_notes = λ s. ap (map noted_lane) (fresh_mine olds first.lanes.views lanes s);
        part_notes = λ p. ap (map noted_part) (fresh_mine parts first.parts.views turned p);
        failed = λ s. ap (count_by entry_failed) (fresh_mine olds first.lanes.views lanes s);
        worn = let a = fresh_worn olds first.lanes.views lanes in let b = fresh_worn parts first.parts.views turned in omega (arith, a, b);
      }

-- ---- what may begin over the one bench may begin over the other
module _ (a b : Known) (same : IsSameBench a b) where
  pub may_run : (plan : RunPlan) (book : BookState) → MayRun plan a book → MayRun plan b book
  may_run plan book may = record {
    batch_from = may.batch_from;
    batch_to = may.batch_to;
    some_lane = let c = may.some_lane in let d = same.lanes in omega (arith, c, d);
    before_end = may.before_end;
    lanes = record {
      are = record {
        shard = λ s l. ap (λ (set : Setting). set.shard) (same.set s) ∙ may.lanes.are.shard s (let d = same.lanes in omega (arith, d, l));
        reading = λ s l. subst (λ (set : Setting). IsReading set.reads) (sym (same.set s)) (may.lanes.are.reading s (let d = same.lanes in omega (arith, d, l)));
      };
      each = λ s l x has.
          subst (λ (set : Setting). LaneIsAt None set plan.mark x) (sym (same.set s)) (may.lanes.each s (let d = same.lanes in omega (arith, d, l)) x (same.lane_from s x has));
    };
    sized = record { each = λ s l x has. may.sized.each s (let d = same.lanes in omega (arith, d, l)) x (same.lane_from s x has) };
    parts = record {
      rules = may.parts.rules;
      all = may.parts.all;
      is = record {
        are = record {
          count = same.parts ∙ may.parts.is.are.count;
          each = λ p l. same.rules p ∙ may.parts.is.are.each p (let d = same.parts in omega (arith, d, l));
          span = may.parts.is.are.span;
        };
        each = λ p l x has. may.parts.is.each p (let d = same.parts in omega (arith, d, l)) x (same.part_from p x has);
      };
      full = may.parts.full;
    };
    whole = may.whole;
    numbers = may.numbers;
  }

  pub may_keep : {D : Type 0} (history : D → Option History) (count : D → ℕ) (plan : RunPlan) (keep : Option (Keep D)) → MayKeepIf history count plan a keep → MayKeepIf history count plan b keep
  may_keep history count plan None may = may
  may_keep history count plan (Some k) may = (
    may.0,
    record {
      every = may.1.every;
      head = record { names = may.1.head.names; shards = may.1.head.shards ∙ sym same.lanes };
      stands = may.1.stands;
    },
  )

-- the state in which each lane began
module _ {S L : Type 0} (read_of : L → Reads) (text : ℕ → Option (List ℕ)) (olds : List (LaneView S L)) (parts : List PartView) (b : Known) (same : IsSameBench (known_in read_of text olds parts) b) where
  abbrev pub began : ℕ → LaneState
  began s = state_in (slice_get olds s)

  pub began_with : BeganWith began b
  began_with = record {
    is = λ s l x has. let old = same.lane_from s x has in old.state_is ∙ sym (ap state_in old.there);
    was = λ s l.
        let one = there_or olds s (let d = same.lanes in omega (arith, d, l)) in
        same.lane_to s (began s) (record { lane = one.0; there = one.1; state_is = ap state_in one.1 });
    lane_notes = same.lane_notes;
    part_notes = same.part_notes;
  }
