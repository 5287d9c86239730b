-- Lanes that read further lines of their texts, whatever is known of the lines before those.
use Rattle.std.proofs.Common.{◌≡◌, inl, inr, ℕ, List, [], ◌∷◌, Option, Some, refl, sym, ◌∙◌, subst}
use Rattle.std.specs.Prelude.{slice_get}
use Rattle.eql_values.specs.Accepted.{Reads}
use Rattle.eql_outside.specs.Plans.{FaultPlan}
use Rattle.eql_lane.specs.declared.ops.LaneOp.{LaneOp}
use Rattle.eql_lane.specs.declared.ops.LaneOp.TheVariants as op
use Rattle.eql_lane.specs.declared.ops.LaneReply.{LaneReply}
use Rattle.eql_lane.specs.Lanes.{LaneState}
use Rattle.eql_lane.specs.Views.{LaneView, IsTextOf, setting_of}
use Rattle.eql_conductor.specs.GoingOn.{AreOfTexts, LanesReadFurther, ReadsFurther}
use Rattle.eql_conductor.specs.Lists.{PoolView}
use Rattle.eql_conductor.proofs.GoingOn.{further_self, step_further}
use Rattle.eql_conductor.proofs.Resting.{same_or}
use Rattle.eql_replay.specs.declared.foreign.Foreign.{Foreign}
use Rattle.eql_replay.specs.declared.foreign.Foreign.TheVariants.{Feed, Turn}
use Rattle.eql_replay.specs.Pools.{ForeignsPlay, ForeignPlays, PlaysLaneAt}
use Rattle.eql_replay.proofs.Calls.{is_after, lane_else}
use Rattle.eql_replay.proofs.Others.{foreign_texts}

module _ {S L : Type 0} (left lent_as : S → Option (List ℕ)) (fault_plan : S → Option FaultPlan) (read_of : L → Reads) (text : ℕ → Option (List ℕ)) where
  -- each lane goes on from itself
  pub lines_self : (lanes : List (LaneView S L)) → LanesReadFurther text lanes lanes
  lines_self lanes = record {
    each = λ s one lane e f t is.
        let same : one ≡ lane = let both : Some one ≡ Some lane = sym e ∙ f in cc in
        subst (λ (l : LaneView S L). ReadsFurther t one.state l.state) same (further_self (setting_of read_of (Some t) one) t refl one.state);
  }

  -- a lane of its text played
  module _ (s : ℕ) (o : LaneOp) (answer : LaneReply) (old new : List (LaneView S L)) (played : PlaysLaneAt left lent_as fault_plan read_of s o answer old new)
      (are : AreOfTexts left text old) where
    after_further : (t : List ℕ) → text s ≡ Some t → (one : LaneState) → ReadsFurther t one played.before.state → ReadsFurther t one played.after.state
    after_further t is one was =
        let of : IsTextOf left (Some t) played.before = subst (λ (told : Option (List ℕ)). IsTextOf left told played.before) is (are.each s played.before played.was) in
        step_further (setting_of read_of (Some t) played.before) t refl one played.before.state o answer played.after.state (played.plays (Some t) of).step was

    pub lines_on : (first : List (LaneView S L)) → LanesReadFurther text first old → LanesReadFurther text first new
    lines_on first was = record {
      each = λ k one lane e f t is. elim (same_or k s) [
        | inl same ↦
            let f_s : slice_get new s ≡ Some lane = subst (λ (j : ℕ). slice_get new j ≡ Some lane) same f in
            let e_s : slice_get first s ≡ Some one = subst (λ (j : ℕ). slice_get first j ≡ Some one) same e in
            let is_s : text s ≡ Some t = subst (λ (j : ℕ). text j ≡ Some t) same is in
            subst (λ (l : LaneView S L). ReadsFurther t one.state l.state)
            (sym (is_after left lent_as fault_plan read_of s o answer old new played lane f_s))
            (after_further t is_s one.state (was.each s one played.before e_s played.was t is_s))
        | inr apart ↦ was.each k one lane e (sym (lane_else left lent_as fault_plan read_of s o answer old new played k apart) ∙ f) t is
      ];
    }

  -- others played
  foreign_lines : (first : List (LaneView S L)) (f : Foreign) (a b : PoolView S L) → AreOfTexts left text a.lanes → ForeignPlays left lent_as fault_plan read_of f a b
      → LanesReadFurther text first a.lanes → LanesReadFurther text first b.lanes
  foreign_lines first (Feed lane max) a b are played was = lines_on lane (op.Feed max) played.0 a.lanes b.lanes played.1 are first was
  foreign_lines first (Turn part max) a b are played was = subst (LanesReadFurther text first) (sym played.2) was

  pub all_lines : (first : List (LaneView S L)) (fs : List Foreign) (a b : PoolView S L) → AreOfTexts left text a.lanes → ForeignsPlay left lent_as fault_plan read_of fs a b
      → LanesReadFurther text first a.lanes → LanesReadFurther text first b.lanes
  all_lines first [] a b are played was = subst (λ (p : PoolView S L). LanesReadFurther text first p.lanes) (sym played) was
  all_lines first (f ∷ fs) a b are (mid, one, rest) was =
      all_lines first fs mid b (foreign_texts left lent_as fault_plan read_of text f a mid one are) rest (foreign_lines first f a mid are one was)
