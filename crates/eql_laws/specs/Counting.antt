-- Laws of the counts of a text's lines: what became of each.
use Rattle.std.specs.Prelude.{◌≡◌, ◌↔◌, ◌≤◌, ◌+◌, if◌then◌else◌, ℕ, ℤ, List, [], ◌∷◌, Option, Some, None, All, map, length, ◌++◌, IsTrue}
use Rattle.std.specs.List.{filter_map}
use Rattle.eql_values.specs.declared.item.Item.{Item}
use Rattle.eql_values.specs.declared.cut.FirstBad.{FirstBad}
use Rattle.eql_values.specs.declared.cut.Counts.{Counts}
use Rattle.eql_values.specs.declared.reader.LineGot.{LineGot}
use Rattle.eql_values.specs.declared.reader.LineGot.TheVariants as got
use Rattle.eql_values.specs.Accepted.{Reads, readable, is_late, accepted_items}
use Rattle.eql_values.specs.Lines.{Line, lines_of, lines_in}
use Rattle.eql_laws.specs.Lateness.{larger, late_by, best_of, best_from, accepted_by}
use Rattle.eql_laws.specs.Places.{ReadTo, whole, is_line_end, lines_after}

-- the line of this number, where it is rejected
abbrev pub bad_at : ℕ → LineGot → Option FirstBad
bad_at number got.Blank = None
bad_at number (got.Item item) = None
bad_at number (got.Bad reason) = Some (record { line = number; reason = reason })

-- the rejected ones among these lines, each with its reason, in line order
abbrev pub rejections : Reads → ℕ → List Line → List FirstBad
rejections reads shard lines = filter_map (λ (line : Line). bad_at line.number (reads shard line.number line.bytes)) lines

-- the events that are late, after these earlier ones
abbrev pub late_after : Option ℤ → List Item → List Item → List Item
late_after slack earlier [] = []
late_after slack earlier (item ∷ items) =
    if is_late slack earlier item
    then item ∷ late_after slack (item ∷ earlier) items
    else late_after slack (item ∷ earlier) items

-- the late events of a text, in line order
abbrev pub late_events : Reads → Option ℤ → ℕ → List ℕ → List Item
late_events reads slack shard text = late_after slack [] (readable reads shard (lines_in text))

-- the first of a list
abbrev pub first_in : List FirstBad → Option FirstBad
first_in [] = None
first_in (bad ∷ others) = Some bad

-- what became of the lines of a text
abbrev pub counts_of : Reads → Option ℤ → ℕ → List ℕ → Counts
counts_of reads slack shard text = record {
  lines = length (lines_of text);
  accepted = length (accepted_items reads slack shard text);
  late = length (late_events reads slack shard text);
  rejected = length (rejections reads shard (lines_in text));
  first = first_in (rejections reads shard (lines_in text));
}

-- the events that are late, with one kept time going on
abbrev pub late_from : (slack best : Option ℤ) → List Item → List Item
late_from slack best [] = []
late_from slack best (item ∷ items) =
    if late_by slack best item
    then item ∷ late_from slack (Some (larger item.order.ts best)) items
    else late_from slack (Some (larger item.order.ts best)) items

-- the first of what there was, else of what came
abbrev pub first_or : Option FirstBad → Option FirstBad → Option FirstBad
first_or (Some bad) later = Some bad
first_or None later = later

-- the counts once these lines were read too, with the greatest time of the lines before them
abbrev pub counts_from : Reads → Option ℤ → ℕ → (best : Option ℤ) → Counts → List Line → Counts
counts_from reads slack shard best counts lines = record {
  lines = counts.lines + length lines;
  accepted = counts.accepted + length (accepted_by slack best (readable reads shard lines));
  late = counts.late + length (late_from slack best (readable reads shard lines));
  rejected = counts.rejected + length (rejections reads shard lines);
  first = first_or counts.first (first_in (rejections reads shard lines));
}

-- one kept time tells which events are late
abbrev pub KeptTellsLate : Type 0
KeptTellsLate = (slack : Option ℤ) (earlier items : List Item) → late_after slack earlier items ≡ late_from slack (best_of earlier) items

-- the counts of two texts go on from those of the first
abbrev pub CountsGoOn : Type 0
CountsGoOn = (reads : Reads) (slack : Option ℤ) (shard : ℕ) (a b : List ℕ) → IsTrue (is_line_end a b)
    → counts_of reads slack shard (a ++ b)
    ≡ counts_from reads slack shard (best_of (readable reads shard (lines_in a))) (counts_of reads slack shard a) (lines_after a b)

-- and so from any counts and any kept time, lines after lines
abbrev pub CountsStepOn : Type 0
CountsStepOn = (reads : Reads) (slack : Option ℤ) (shard : ℕ) (best : Option ℤ) (counts : Counts) (a b : List Line)
    → counts_from reads slack shard best counts (a ++ b)
    ≡ counts_from reads slack shard (best_from best (readable reads shard a)) (counts_from reads slack shard best counts a) b

-- counts as a cut has them: the accepted, the late and the rejected lines are no more than all, and the first bad line is there exactly when some are rejected
pub record CountsStand (counts : Counts) : Type 0 where
  pub fewer : counts.accepted + counts.late + counts.rejected ≤ counts.lines
  pub first_bad : (counts.first ≡ None) ↔ (counts.rejected ≡ 0)

-- the greatest number of lines of a shard, and of its bytes
abbrev pub greatest_lines : ℕ
greatest_lines = 4294967294

abbrev pub greatest_bytes : ℕ
greatest_bytes = 1099511627776

-- a text that a shard may have
pub record IsShardText (text : List ℕ) : Type 0 where
  pub lines : length (lines_of text) ≤ greatest_lines
  pub bytes : length text ≤ greatest_bytes

-- what was read of a shard
abbrev pub front : ReadTo → List ℕ
front r = r.first

-- the part of a text before a place has no more lines and no more bytes than the whole, and no text has more lines than bytes
pub record FrontIsWithin (r : ReadTo) : Type 0 where
  pub lines : length (lines_of r.first) ≤ length (lines_of (whole r))
  pub bytes : length r.first ≤ length (whole r)
  pub by_bytes : length (lines_of r.first) ≤ length r.first

abbrev pub FrontsAreWithin : Type 0
FrontsAreWithin = (r : ReadTo) → FrontIsWithin r

-- so what was read of texts that shards may have are texts that shards may have
abbrev pub FrontsFit : Type 0
FrontsFit = (shards : List ReadTo) → All IsShardText (map whole shards) → All IsShardText (map front shards)
