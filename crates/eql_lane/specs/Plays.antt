-- What a play of an operation does to a lane.
use Rattle.std.specs.Prelude.{◌≢◌, ℕ, List, Option}
use Rattle.eql_values.specs.Accepted.{Reads}
use Rattle.eql_lane.specs.Lanes.{IsLaneStep}
use Rattle.eql_lane.specs.Views.{LaneView, IsTextOf, setting_of}
use Rattle.eql_lane.specs.declared.ops.LaneOp.{LaneOp}
use Rattle.eql_lane.specs.declared.ops.LaneReply.{LaneReply}
use Rattle.eql_lane.specs.declared.ops.LaneReply.TheVariants as reply

-- a step of the lane of a text, which stays its text
pub record PlaysFor {S L : Type 0} (left : S → Option (List ℕ)) (read_of : L → Reads) (text : Option (List ℕ)) (old : LaneView S L) (op : LaneOp) (reply : LaneReply) (new : LaneView S L) : Type 0 where
  pub step : IsLaneStep (setting_of read_of text old) old.state op reply new.state
  pub keeps : IsTextOf left text new

-- for each text of the lane; without one, all else of the step holds
abbrev pub Plays : {S L : Type 0} → (S → Option (List ℕ)) → (L → Reads) → LaneView S L → LaneOp → LaneReply → LaneView S L → Type 0
Plays left read_of old op reply new = (text : Option (List ℕ)) → IsTextOf left text old → PlaysFor left read_of text old op reply new

-- the result isn't a failure of the source
abbrev pub DidNotFail : LaneReply → Type 0
DidNotFail answer = (lines : ℕ) → answer ≢ reply.Failed lines
