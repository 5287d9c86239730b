-- The note of an operation.
use Rattle.std.specs.Prelude.{ℕ}
use Rattle.eql_values.specs.declared.order.Mark.{Mark}
use Rattle.eql_values.specs.declared.order.Mark.TheVariants.{Start}
use Rattle.eql_lane.specs.declared.ops.LaneOp.{LaneOp}
use Rattle.eql_lane.specs.declared.ops.LaneOp.TheVariants as lane
use Rattle.eql_lane.specs.declared.ops.LaneReply.{LaneReply}
use Rattle.eql_lane.specs.declared.ops.LaneReply.TheVariants as lane_reply
use Rattle.eql_parts.specs.declared.ops.PartOp.{PartOp}
use Rattle.eql_parts.specs.declared.ops.PartOp.TheVariants as part
use Rattle.eql_parts.specs.declared.ops.PartReply.{PartReply}
use Rattle.eql_parts.specs.declared.ops.PartReply.TheVariants as part_reply
use Rattle.eql_conductor.specs.declared.note.Note.{Note}
use Rattle.eql_conductor.specs.declared.note.Note.TheVariants as note

-- the low that was returned
abbrev pub low_in : LaneReply → Mark
low_in (lane_reply.Low mark) = mark
low_in reply = Start

-- how many events were played
abbrev pub items_in : PartReply → ℕ
items_in (part_reply.Turned n) = n
items_in (part_reply.Memory back n) = n
items_in reply = 0

-- what a lane was asked, and the low where it was looked at
abbrev pub lane_note : LaneOp → LaneReply → Note
lane_note (lane.Feed max) reply = note.Fed max
lane_note (lane.Take mark) reply = note.Took mark
lane_note lane.Look reply = note.Looked (low_in reply)
lane_note lane.Snap reply = note.Snapped

-- what a part was asked, and how many events it played
abbrev pub part_note : PartOp → PartReply → Note
part_note (part.Deliver items mark) reply = note.Delivered
part_note (part.Turn max) reply = note.Turned (items_in reply)
part_note part.Collect reply = note.Collected
part_note part.Snap reply = note.Snapped
