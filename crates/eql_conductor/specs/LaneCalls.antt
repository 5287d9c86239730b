-- What a run knows of a lane between its calls, whether the lane's text is told or not.
use Rattle.std.specs.Prelude.{◌≡◌, ℕ, List, Option, Some, IfSome, All}
use Rattle.eql_values.specs.declared.item.Item.{Item}
use Rattle.eql_values.specs.declared.order.Mark.{Mark}
use Rattle.eql_values.specs.Accepted.{accepted_items, sorted_items}
use Rattle.eql_values.specs.Ascending.{Ascend}
use Rattle.eql_laws.specs.Belows.{IsReading, from_to}
use Rattle.eql_laws.specs.Lateness.{IsAtMost}
use Rattle.eql_laws.specs.Together.{AllAreBelow, NoneIsBelow}
use Rattle.eql_lane.specs.declared.ops.LaneReply.{LaneReply}
use Rattle.eql_lane.specs.Keeps.{LaneIs}
use Rattle.eql_lane.specs.Lanes.{Setting, LaneState, IsFeedStep, Takes, low, lesser}

-- the event is of this shard
abbrev pub IsOfShard : ℕ → Item → Type 0
IsOfShard shard item = item.order.shard ≡ shard

-- the held events ascend, are of the lane's shard, and none is below the mark, which is at most the lane's low
pub record Holds (set : Setting) (mark : Mark) (x : LaneState) : Type 0 where
  pub ascends : Ascend x.cut.items
  pub of_shard : All (IsOfShard set.shard) x.cut.items
  pub none_below : NoneIsBelow mark x.cut.items
  pub safe : IsAtMost mark (low set x)

-- the lane has this text, and is what a cut keeps of it at a place and the mark
pub record IsOfText (set : Setting) (mark : Mark) (x : LaneState) (text : List ℕ) : Type 0 where
  pub text_is : set.text ≡ Some text
  pub is : LaneIs set text mark x

-- both, where a text is given
pub record LaneIsAt (text : Option (List ℕ)) (set : Setting) (mark : Mark) (x : LaneState) : Type 0 where
  pub holds : Holds set mark x
  pub told : IfSome text (IsOfText set mark x)

-- what a lane hands out from one mark on and below another: it ascends, is of the lane's shard, and is what the text has there
pub record HandsOver (text : Option (List ℕ)) (set : Setting) (from to : Mark) (items : List Item) : Type 0 where
  pub ascends : Ascend items
  pub of_shard : All (IsOfShard set.shard) items
  pub none_below : NoneIsBelow from items
  pub below : AllAreBelow to items
  pub told : IfSome text (λ t. items ≡ sorted_items (from_to from to (accepted_items set.reads set.slack set.shard t)))

-- each feed keeps what is known of a lane at a mark
abbrev pub FeedKeepsLane : Type 0
FeedKeepsLane = (text : Option (List ℕ)) (set : Setting) (mark : Mark) (old : LaneState) (max : ℕ) (reply : LaneReply) (new : LaneState)
    → IsReading set.reads → IsFeedStep set old max reply new → LaneIsAt text set mark old → LaneIsAt text set mark new

-- a take up to a greater mark that is at most the low hands out what lies between, and what is known then is of that mark
pub record TakesTo (text : Option (List ℕ)) (set : Setting) (from to : Mark) (items : List Item) (new : LaneState) : Type 0 where
  pub hands : HandsOver text set from to items
  pub at : LaneIsAt text set to new

abbrev pub TakeMovesLane : Type 0
TakeMovesLane = (text : Option (List ℕ)) (set : Setting) (from to : Mark) (old : LaneState) (items : List Item) (new : LaneState)
    → IsAtMost from to → IsAtMost to (low set old) → Takes old (lesser to (low set old)) items new → LaneIsAt text set from old
    → TakesTo text set from to items new
