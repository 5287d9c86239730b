-- The notes of a bench.
use Rattle.std.specs.Prelude.{ℕ, Bool, true, false, ◌&&◌, ◌==◌, List, Option, None, Some, filter, length, if◌then◌else◌}
use Rattle.std.specs.List.{filter_map}
use Rattle.eql_lane.specs.declared.ops.LaneReply.{LaneReply}
use Rattle.eql_lane.specs.declared.ops.LaneReply.TheVariants as lane_reply
use Rattle.eql_parts.specs.declared.ops.PartOp.{PartOp}
use Rattle.eql_parts.specs.declared.ops.PartOp.TheVariants as part
use Rattle.eql_parts.specs.declared.ops.PartReply.{PartReply}
use Rattle.eql_conductor.specs.declared.note.Note.{Note}
use Rattle.eql_conductor.specs.declared.note.Note.TheVariants as note
use Rattle.eql_conductor.specs.Notes.{items_in}
use Rattle.eql_replay.specs.declared.noted.Noted.{Noted}
use Rattle.eql_replay.specs.declared.noted.Noted.TheVariants.{OfLane, OfPart}

-- whether a lane answers that its source failed
abbrev pub did_fail : LaneReply → Bool
did_fail (lane_reply.Failed n) = true
did_fail reply = false

-- the note of what a part is asked, and the same with how many events it played
abbrev pub asked_note : PartOp → Note
asked_note (part.Deliver items mark) = note.Delivered
asked_note (part.Turn max) = note.Turned 0
asked_note part.Collect = note.Collected
asked_note part.Snap = note.Snapped

abbrev pub told_note : Note → PartReply → Note
told_note (note.Turned n) reply = note.Turned (items_in reply)
told_note other reply = other

-- the note, where it is of this lane or of this part
abbrev pub note_at_lane : ℕ → Noted → Option Note
note_at_lane s (OfLane k note failed) = if k == s then Some note else None
note_at_lane s (OfPart k note) = None

abbrev pub note_at_part : ℕ → Noted → Option Note
note_at_part p (OfLane k note failed) = None
note_at_part p (OfPart k note) = if k == p then Some note else None

-- a feed of this lane that failed
abbrev pub failed_at : ℕ → Noted → Bool
failed_at s (OfLane k note failed) = failed && (k == s)
failed_at s (OfPart k note) = false

-- the notes of a lane and of a part, and how many feeds of a lane failed
abbrev pub lane_notes_in : ℕ → List Noted → List Note
lane_notes_in s notes = filter_map (note_at_lane s) notes

abbrev pub part_notes_in : ℕ → List Noted → List Note
part_notes_in p notes = filter_map (note_at_part p) notes

abbrev pub fails_in : ℕ → List Noted → ℕ
fails_in s notes = length (filter (failed_at s) notes)
