-- What a lane over a told text keeps at every step: it is what a cut keeps of its text at its place and the mark up to which it handed out.
use Rattle.std.specs.Prelude.{◌≡◌, ℕ, List, Some, length}
use Rattle.eql_values.specs.declared.order.Mark.{Mark}
use Rattle.eql_values.specs.declared.item.Item.{Item}
use Rattle.eql_values.specs.declared.cut.LaneCut.{LaneCut}
use Rattle.eql_values.specs.Accepted.{accepted_items, sorted_items}
use Rattle.eql_values.specs.Lines.{lines_of}
use Rattle.eql_laws.specs.Belows.{from_to, IsReading}
use Rattle.eql_laws.specs.Lanes.{lane_at}
use Rattle.eql_laws.specs.Lateness.{IsAtMost}
use Rattle.eql_laws.specs.Places.{ReadTo, IsPlace, whole, low_at}
use Rattle.eql_lane.specs.declared.ops.LaneReply.{LaneReply}
use Rattle.eql_values.specs.declared.order.Mark.TheVariants.{Start}
use Rattle.eql_lane.specs.Noting.{line_place, retraced_cut, untraced_cut, placed_cut, unplaced_cut, whole_lines, IsWholeLine}
use Rattle.eql_lane.specs.Lanes.{Setting, LaneState, IsFeedStep, Takes, low, lesser, greater, fresh_cut, beginning_lane}

-- the lane read its text up to a place, keeps what isn't below the mark, which is safe there, and handed out no further than the mark
pub record LaneIs (set : Setting) (text : List ℕ) (mark : Mark) (x : LaneState) : Type 0 where
  pub place : ReadTo
  pub text_is : whole place ≡ text
  pub is_place : IsPlace place
  pub cut : x.cut ≡ lane_at set.reads set.slack set.shard mark place
  pub given : IsAtMost x.given mark
  pub safe : IsAtMost mark (low_at set.reads set.slack set.shard place)

-- of what the lane held from a mark on, a take hands out what lies below another, by the whole text; the greater of both is the mark then
pub record HandsOut (set : Setting) (text : List ℕ) (from to : Mark) (items : List Item) (new : LaneState) : Type 0 where
  pub items_are : items ≡ sorted_items (from_to from to (accepted_items set.reads set.slack set.shard text))
  pub is : LaneIs set text (greater from to) new

abbrev pub TakesHandOut : Type 0
TakesHandOut = (set : Setting) (text : List ℕ) (from mark : Mark) (old : LaneState) (items : List Item) (new : LaneState)
    → Takes old (lesser mark (low set old)) items new → LaneIs set text from old → HandsOut set text from (lesser mark (low set old)) items new

-- each feed keeps it
abbrev pub FeedsKeep : Type 0
FeedsKeep = (set : Setting) (text : List ℕ) (mark : Mark) (old : LaneState) (max : ℕ) (reply : LaneReply) (new : LaneState) → set.text ≡ Some text
    → IsFeedStep set old max reply new → LaneIs set text mark old → LaneIs set text mark new

-- a lane that begins with what a cut keeps of the text at a place and a safe mark is so
abbrev pub CutsBegin : Type 0
CutsBegin = (set : Setting) (mark : Mark) (place : ReadTo) (faults : ℕ) → IsPlace place → IsAtMost mark (low_at set.reads set.slack set.shard place)
    → LaneIs set (whole place) mark (beginning_lane (lane_at set.reads set.slack set.shard mark place) faults)

-- and so is one that begins afresh
abbrev pub FreshIs : Type 0
FreshIs = (set : Setting) (text : List ℕ) (faults : ℕ) → LaneIs set text Start (beginning_lane fresh_cut faults)

-- and so is one that is retraced, where its cut is what a cut keeps of the text there but for the digest
abbrev pub RetracedIs : Type 0
RetracedIs = (set : Setting) (mark : Mark) (place : ReadTo) (faults : ℕ) (cut : LaneCut) → IsPlace place → IsAtMost mark (low_at set.reads set.slack set.shard place)
    → untraced_cut cut ≡ untraced_cut (lane_at set.reads set.slack set.shard mark place)
    → LaneIs set (whole place) mark (beginning_lane (retraced_cut place.first cut) faults)

-- and so is one that is lifted, where its cut is what a cut keeps of the text there but for the digest and the places of its events
abbrev pub LiftedIs : Type 0
LiftedIs = (set : Setting) (mark : Mark) (place : ReadTo) (faults : ℕ) (cut : LaneCut) → IsReading set.reads → IsPlace place → IsAtMost mark (low_at set.reads set.slack set.shard place)
    → unplaced_cut cut ≡ unplaced_cut (lane_at set.reads set.slack set.shard mark place)
    → LaneIs set (whole place) mark (beginning_lane (placed_cut place.first cut) faults)

-- the lines before a place of a text are whole, so none that a cut of the text names is missing, and their places are those in the whole text
pub record HasWholeLines (place : ReadTo) : Type 0 where
  pub all_whole : whole_lines place.first place.rest ≡ length (lines_of place.first)
  pub same_places : (number : ℕ) → IsWholeLine place.first place.rest number → line_place (whole place) number ≡ line_place place.first number

abbrev pub PlacesHaveLines : Type 0
PlacesHaveLines = (place : ReadTo) → IsPlace place → HasWholeLines place
