-- What is known of lanes and parts in lists, on which the conductor has played nothing yet: the one state that a lane or part may have is its own.
use Rattle.std.specs.Prelude.{◌≡◌, ℕ, List, [], Option, None, Some, length, slice_get}
use Rattle.eql_values.specs.Accepted.{Reads}
use Rattle.eql_values.specs.declared.reader.LineGot.TheVariants as got
use Rattle.eql_lane.specs.Lanes.{LaneState, Setting}
use Rattle.eql_lane.specs.Views.{LaneView, setting_of}
use Rattle.eql_parts.specs.PartSteps.{PartState, PartView, Rules}
use Rattle.eql_conductor.specs.Benches.{Known}

-- lanes and parts, each in its place
pub record PoolView (S L : Type 0) : Type 0 where
  pub lanes : List (LaneView S L)
  pub parts : List PartView

-- the lane in this place is in this state, and so is the part
pub record HasLane {S L : Type 0} (lanes : List (LaneView S L)) (s : ℕ) (x : LaneState) : Type 0 where
  pub lane : LaneView S L
  pub there : slice_get lanes s ≡ Some lane
  pub state_is : x ≡ lane.state

pub record HasPart (parts : List PartView) (p : ℕ) (x : PartState) : Type 0 where
  pub part : PartView
  pub there : slice_get parts p ≡ Some part
  pub state_is : x ≡ part.state

-- what no step changes of a lane, by its text, and of a part; and what stands for it where there is none
abbrev pub set_in : {S L : Type 0} → (L → Reads) → Option (List ℕ) → Option (LaneView S L) → Setting
set_in read_of text None = record { text = None; shard = 0; slack = None; reads = λ shard line bytes. got.Blank }
set_in read_of text (Some lane) = setting_of read_of text lane

abbrev pub rules_in : Option PartView → Rules
rules_in None = record { stages = 0; span = None }
rules_in (Some part) = part.rules

-- what is known of these lanes and parts, by the texts of the lanes, before the conductor plays
abbrev pub known_in : {S L : Type 0} → (L → Reads) → (text : ℕ → Option (List ℕ)) → List (LaneView S L) → List PartView → Known
known_in read_of text lanes parts = record {
  lanes = length lanes;
  parts = length parts;
  set = λ s. set_in read_of (text s) (slice_get lanes s);
  rules = λ p. rules_in (slice_get parts p);
  lane = HasLane lanes;
  part = HasPart parts;
  lane_notes = λ s. [];
  part_notes = λ p. [];
  failed = λ s. 0;
  worn = 0;
}
