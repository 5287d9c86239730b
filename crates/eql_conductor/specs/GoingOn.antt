-- How lanes in a list went on from a list before.
use Rattle.std.specs.Prelude.{◌≡◌, ◌+◌, ◌++◌, ℕ, List, Option, Some, IsTrue, drop, length, slice_get}
use Rattle.eql_values.specs.Accepted.{Reads}
use Rattle.eql_values.specs.Lines.{lines_of}
use Rattle.eql_values.specs.declared.order.Mark.{Mark}
use Rattle.eql_outside.specs.Plans.{FaultPlan}
use Rattle.eql_outside.specs.Unfailing.{IsUnfailing}
use Rattle.eql_laws.specs.Places.{is_line_end}
use Rattle.eql_lane.specs.Keeps.{LaneIs}
use Rattle.eql_lane.specs.Lanes.{LaneState, Setting}
use Rattle.eql_lane.specs.Views.{LaneView, IsTextOf, IsSameLane, setting_of}

-- each lane is of its text, where one is named
pub record AreOfTexts {S L : Type 0} (left : S → Option (List ℕ)) (text : ℕ → Option (List ℕ)) (lanes : List (LaneView S L)) : Type 0 where
  pub each : (s : ℕ) (lane : LaneView S L) → slice_get lanes s ≡ Some lane → IsTextOf left (text s) lane

-- a lane read its text up to a place, and handed out what lies below a mark there
pub record IsAtPlace (set : Setting) (text : List ℕ) (x : LaneState) : Type 0 where
  pub mark : Mark
  pub is : LaneIs set text mark x

-- each lane that had read the text named for it up to a place has read it up to a place now
pub record LanesReadOn {S L : Type 0} (read_of : L → Reads) (text : ℕ → Option (List ℕ)) (first lanes : List (LaneView S L)) : Type 0 where
  pub each : (s : ℕ) (one lane : LaneView S L) → slice_get first s ≡ Some one → slice_get lanes s ≡ Some lane → (t : List ℕ) → text s ≡ Some t
      → IsAtPlace (setting_of read_of (Some t) one) t one.state → IsAtPlace (setting_of read_of (Some t) lane) t lane.state

-- from the one state to the other further lines of the text were read: they begin where the first state is, and end at the end of a line or of the text
pub record ReadsFurther (text : List ℕ) (old new : LaneState) : Type 0 where
  pub more : List ℕ
  pub rest : List ℕ
  pub parts : drop old.cut.offset text ≡ more ++ rest
  pub line_end : IsTrue (is_line_end more rest)
  pub offset : new.cut.offset ≡ old.cut.offset + length more
  pub lines : new.cut.counts.lines ≡ old.cut.counts.lines + length (lines_of more)

-- each lane read further lines of the text named for it, whatever is known of the lines before those
pub record LanesReadFurther {S L : Type 0} (text : ℕ → Option (List ℕ)) (first lanes : List (LaneView S L)) : Type 0 where
  pub each : (s : ℕ) (one lane : LaneView S L) → slice_get first s ≡ Some one → slice_get lanes s ≡ Some lane → (t : List ℕ) → text s ≡ Some t
      → ReadsFurther t one.state lane.state

module _ {S L : Type 0} (left lent_as : S → Option (List ℕ)) (fault_plan : S → Option FaultPlan) (read_of : L → Reads) where
  -- a lane goes on from the first: what no step changes is the same; where the source isn't planned to fail it stays so, and no fault came;
  -- and none came while it was quiet
  pub record LaneGoesOn (quiet : Type 0) (first lane : LaneView S L) : Type 0 where
    pub same : IsSameLane left lent_as read_of first lane
    pub unfailing : IsUnfailing (fault_plan first.source) → IsUnfailing (fault_plan lane.source) × (lane.state.faults ≡ first.state.faults)
    pub steady : quiet → lane.state.faults ≡ first.state.faults

  -- each lane does, and none is missing
  pub record LanesGoOn (quiet : ℕ → Type 0) (first lanes : List (LaneView S L)) : Type 0 where
    pub count : length lanes ≡ length first
    pub each : (s : ℕ) (one lane : LaneView S L) → slice_get first s ≡ Some one → slice_get lanes s ≡ Some lane → LaneGoesOn (quiet s) one lane
