-- What single steps of a feed do.
use Rattle.std.specs.Prelude.{◌≡◌, ◌≤◌, ◌+◌, ℕ, Bool, true, false, if◌then◌else◌, List, Option, Result, Ok, Err}
use Rattle.eql_values.specs.Accepted.{Reads}
use Rattle.eql_outside.specs.Outside.{Rose}
use Rattle.eql_laws.specs.Counting.{greatest_bytes}
use Rattle.eql_lane.specs.Lanes.{Setting, LaneState, ReadsOn, IsOutOfLines, IsFeedStep}
use Rattle.eql_lane.specs.Views.{LaneView, IsTextOf, setting_of}
use Rattle.eql_lane.specs.declared.ops.LaneReply.{LaneReply}
use Rattle.eql_lane.specs.declared.step.Step.{Step}
use Rattle.eql_lane.specs.declared.step.Step.TheVariants as step

-- n lines were read
pub record ReadsAt (set : Setting) (old : LaneState) (n : ℕ) (closed : Bool) (new : LaneState) : Type 0 where
  pub reads : ReadsOn set old n new
  pub closed_is : new.cut.closed ≡ closed
  pub faults : new.faults ≡ old.faults

-- bytes were taken, and no line was read
pub record TookBytes (set : Setting) (old : LaneState) (n : ℕ) (new : LaneState) : Type 0 where
  pub some : 1 ≤ n
  pub reads : ReadsAt set old 0 false new
  pub taken : new.taken ≡ old.taken + n

-- what a step did
abbrev pub StepIs : Setting → LaneState → Step → LaneState → Type 0
StepIs set old step.Line new = ReadsAt set old 1 false new × (new.taken ≡ old.taken)
StepIs set old (step.Took n) new = TookBytes set old n new
StepIs set old (step.End last) new = ReadsAt set old (if last then 1 else 0) true new × (new.taken ≡ old.taken)
StepIs set old step.Failed new = ReadsOn set old 0 new × (new.cut.closed ≡ false) × (new.taken ≡ old.taken) × Rose old.faults new.faults
StepIs set old step.Memory new = new ≡ old
StepIs set old step.Lines new = (new ≡ old) × IsOutOfLines set new
StepIs set old step.Bytes new = (new ≡ old) × (new.taken ≡ greatest_bytes)

-- a step, for each text of the lane, which stays its text
pub record StepsFor {S L : Type 0} (left : S → Option (List ℕ)) (read_of : L → Reads) (text : Option (List ℕ)) (old : LaneView S L) (one : Step) (new : LaneView S L) : Type 0 where
  pub did : StepIs (setting_of read_of text old) old.state one new.state
  pub keeps : IsTextOf left text new

abbrev pub Steps : {S L : Type 0} → (S → Option (List ℕ)) → (L → Reads) → LaneView S L → Step → LaneView S L → Type 0
Steps left read_of old did new = (text : Option (List ℕ)) → IsTextOf left text old → StepsFor left read_of text old did new

-- a feed, for each text of the lane, which stays its text
pub record FeedsFor {S L : Type 0} (left : S → Option (List ℕ)) (read_of : L → Reads) (text : Option (List ℕ)) (old : LaneView S L) (max : ℕ) (reply : LaneReply) (new : LaneView S L) : Type 0 where
  pub step : IsFeedStep (setting_of read_of text old) old.state max reply new.state
  pub keeps : IsTextOf left text new

abbrev pub FeedsView : {S L : Type 0} → (S → Option (List ℕ)) → (L → Reads) → LaneView S L → ℕ → LaneReply → LaneView S L → Type 0
FeedsView left read_of old max reply new = (text : Option (List ℕ)) → IsTextOf left text old → FeedsFor left read_of text old max reply new

-- the step by what reading a line returned
abbrev pub line_step : {A B : Type 0} → Result A B → Step
line_step (Ok done) = step.Line
line_step (Err refused) = step.Memory

-- the step by what reading the last line returned
abbrev pub end_step : {B : Type 0} → Result Bool B → Step
end_step (Ok last) = step.End last
end_step (Err refused) = step.Memory

-- a step took no more bytes than it might
abbrev pub TookTo : ℕ → Step → Type 0
TookTo room (step.Took n) = n ≤ room
TookTo room _ = Unit {0}
