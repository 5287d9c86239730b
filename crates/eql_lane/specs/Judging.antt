-- What one line does to what is kept of a shard.
use Rattle.std.specs.Prelude.{◌≡◌, ◌≤◌, ◌+◌, ℕ, ℤ, Bool, false, if◌then◌else◌, List, [], ◌∷◌, ◌++◌, Option, Some, IfSome, length, All}
use Rattle.eql_digest.specs.declared.digest.Digest.{Digest}
use Rattle.eql_values.specs.declared.item.Item.{Item}
use Rattle.eql_values.specs.declared.cut.Counts.{Counts}
use Rattle.eql_values.specs.declared.cut.LaneCut.{LaneCut}
use Rattle.eql_values.specs.declared.reader.LineGot.{LineGot}
use Rattle.eql_values.specs.declared.reader.LineGot.TheVariants as got
use Rattle.eql_values.specs.Accepted.{placed_at, sorted_items}
use Rattle.eql_values.specs.Reading.{IsTime}
use Rattle.eql_laws.specs.Lateness.{larger, late_by}
use Rattle.eql_lane.specs.Slacks.{IsSlack}
use Rattle.eql_laws.specs.Counting.{first_or, greatest_lines}

-- the greatest time with what a line gives
abbrev pub best_got : Option ℤ → LineGot → Option ℤ
best_got best got.Blank = best
best_got best (got.Bad reason) = best
best_got best (got.Item item) = Some (larger item.order.ts best)

-- whether a line gives a late event
abbrev pub late_got : (slack best : Option ℤ) → LineGot → Bool
late_got slack best got.Blank = false
late_got slack best (got.Bad reason) = false
late_got slack best (got.Item item) = late_by slack best item

-- the counts with what a line gives
abbrev pub counts_got : Counts → (late : Bool) → LineGot → Counts
counts_got counts late got.Blank = record counts { lines = counts.lines + 1 }
counts_got counts late (got.Bad reason) =
    record counts { lines = counts.lines + 1; rejected = counts.rejected + 1; first = first_or counts.first (Some (record { line = counts.lines + 1; reason = reason })) }
counts_got counts late (got.Item item) =
    if late then record counts { lines = counts.lines + 1; late = counts.late + 1 } else record counts { lines = counts.lines + 1; accepted = counts.accepted + 1 }

-- the event that a line gives, where it isn't late, at the place of the line
abbrev pub held_got : (late : Bool) → ℕ → LineGot → List Item
held_got late at got.Blank = []
held_got late at (got.Bad reason) = []
held_got late at (got.Item item) = if late then [] else placed_at at item ∷ []

-- what is kept of a shard but for the digest, and the slack by which its events are judged
pub record KeptView : Type 0 where
  pub slack : Option ℤ
  pub offset : ℕ
  pub closed : Bool
  pub best : Option ℤ
  pub counts : Counts
  pub items : List Item

-- what is kept once a line of so many bytes with its line end, which gives this, was read too
abbrev pub kept_on : KeptView → LineGot → (width : ℕ) → KeptView
kept_on kept got width = record {
  slack = kept.slack;
  offset = kept.offset + width;
  closed = kept.closed;
  best = best_got kept.best got;
  counts = counts_got kept.counts (late_got kept.slack kept.best got) got;
  items = sorted_items (kept.items ++ held_got (late_got kept.slack kept.best got) kept.offset got);
}

-- what a cut keeps of a shard, of which the bytes that were read have this digest
abbrev pub cut_with : Digest → KeptView → LaneCut
cut_with digest kept = record { offset = kept.offset; digest = digest; closed = kept.closed; best = kept.best; counts = kept.counts; items = kept.items }

-- of what a cut keeps, all but the digest
abbrev pub kept_of : Option ℤ → LaneCut → KeptView
kept_of slack cut = record { slack = slack; offset = cut.offset; closed = cut.closed; best = cut.best; counts = cut.counts; items = cut.items }

-- an event that a line gives is of this line, and has a time within the bound
abbrev pub IsGotAt : (line : ℕ) → LineGot → Type 0
IsGotAt line got.Blank = Unit {0}
IsGotAt line (got.Bad reason) = Unit {0}
IsGotAt line (got.Item item) = (item.order.line ≡ line) × IsTime item.order.ts

-- the counts: no more lines are told apart than were read
abbrev pub CountsHold : Counts → Type 0
CountsHold counts = counts.accepted + counts.late + counts.rejected ≤ counts.lines

-- what is kept is as reading leaves it
pub record IsKept (slack best : Option ℤ) (counts : Counts) (items : List Item) : Type 0 where
  pub lines : All (λ (item : Item). item.order.line ≤ counts.lines) items
  pub few : length items ≤ counts.accepted
  pub fewer : CountsHold counts
  pub within : counts.lines ≤ greatest_lines
  pub in_range : IfSome best IsTime
  pub is_slack : IsSlack slack
