-- Laws of texts that were read up to a place: the lines before it and after it, and what below a safe mark is known there.
use Rattle.std.specs.Prelude.{◌≡◌, ◌≢◌, not, codes, refl, ℕ, ◌+◌, ℤ, Bool, true, false, List, [], ◌∷◌, ◌++◌, ◌==◌, Option, map, filter, length, IsTrue}
use Rattle.std.specs.List.{list_all}
use Rattle.eql_values.specs.declared.order.Mark.{Mark}
use Rattle.eql_values.specs.Accepted.{Reads, readable, accepted_items, below}
use Rattle.eql_values.specs.Lines.{Line, lines_of, numbered_lines, lines_in}
use Rattle.eql_values.specs.Marks.{is_below, low_of, is_safe}
use Rattle.eql_laws.specs.Lateness.{best_of, accepted_by, IsAtMost}

-- the text is empty or ends with a line feed
abbrev pub ends_line : List ℕ → Bool
ends_line [] = true
ends_line (byte ∷ []) = byte == 10
ends_line (byte ∷ next ∷ bytes) = ends_line (next ∷ bytes)

-- the place after the first text is the start or the end of a line of both texts together
abbrev pub is_line_end : (first rest : List ℕ) → Bool
is_line_end first [] = true
is_line_end first (byte ∷ bytes) = ends_line first

-- the lines of the rest, numbered and placed on after those of the first text
abbrev pub lines_after : (first rest : List ℕ) → List Line
lines_after first rest = numbered_lines (1 + length (lines_of first)) (length first) (lines_of rest)

lines_after_two : lines_after (codes "ab\n\n") (codes "c\nd")
    ≡ record { number = 3; at = 4; bytes = codes "c" } ∷ record { number = 4; at = 6; bytes = codes "d" } ∷ []
unfolding lib.Utf8.encode
lines_after_two = refl

-- the lines of two texts are those of the first, and those of the second numbered and placed on
abbrev pub LinesGoOn : Type 0
LinesGoOn = (a b : List ℕ) → IsTrue (is_line_end a b) → lines_in (a ++ b) ≡ lines_in a ++ lines_after a b

-- and so step by step
abbrev pub LinesStepOn : Type 0
LinesStepOn = (a b c : List ℕ) → IsTrue (is_line_end a (b ++ c)) → IsTrue (is_line_end b c)
    → lines_after a (b ++ c) ≡ lines_after a b ++ lines_after (a ++ b) c

-- the bytes have no line feed
abbrev pub is_one_line : List ℕ → Bool
is_one_line bytes = list_all (λ byte. not (byte == 10)) bytes

-- the first line after a place that is a line's start: up to the line feed, after which the next line starts; or, where bytes remain, up to the end
pub record LineIsNext (first line rest : List ℕ) : Type 0 where
  pub with_feed : lines_after first (line ++ 10 ∷ rest)
      ≡ record { number = 1 + length (lines_of first); at = length first; bytes = line } ∷ lines_after (first ++ line ++ 10 ∷ []) rest
  pub next_starts : IsTrue (ends_line (first ++ line ++ 10 ∷ []))
  pub last : line ≢ [] → lines_after first line ≡ record { number = 1 + length (lines_of first); at = length first; bytes = line } ∷ []

abbrev pub LinesAreNext : Type 0
LinesAreNext = (first line rest : List ℕ) → IsTrue (ends_line first) → IsTrue (is_one_line line) → LineIsNext first line rest

-- the lines of two texts with any number and place for the first line: those of the first text, and those of the second numbered and placed on
abbrev pub NumberedGoOn : Type 0
NumberedGoOn = (number at : ℕ) (a b : List ℕ) → IsTrue (is_line_end a b)
    → numbered_lines number at (lines_of (a ++ b))
    ≡ numbered_lines number at (lines_of a) ++ numbered_lines (number + length (lines_of a)) (at + length a) (lines_of b)

-- one line with its line feed is one line, after which another may start, and so is one without it, where it has bytes
pub record LineIsOne (line : List ℕ) : Type 0 where
  pub with_feed : lines_of (line ++ 10 ∷ []) ≡ line ∷ []
  pub next_starts : IsTrue (ends_line (line ++ 10 ∷ []))
  pub without : line ≢ [] → lines_of line ≡ line ∷ []

abbrev pub LinesAreOne : Type 0
LinesAreOne = (line : List ℕ) → IsTrue (is_one_line line) → LineIsOne line

-- texts that end with a line, one after the other, end with a line
abbrev pub LinesEndOn : Type 0
LinesEndOn = (a b : List ℕ) → IsTrue (ends_line a) → IsTrue (ends_line b) → IsTrue (ends_line (a ++ b))

-- the readable events of two texts
abbrev pub ReadableGoesOn : Type 0
ReadableGoesOn = (reads : Reads) (shard : ℕ) (a b : List ℕ) → IsTrue (is_line_end a b)
    → readable reads shard (lines_in (a ++ b)) ≡ readable reads shard (lines_in a) ++ readable reads shard (lines_after a b)

-- the accepted events of two texts: those of the first, and those of the second with the greatest time of the first kept
abbrev pub AcceptedGoesOn : Type 0
AcceptedGoesOn = (reads : Reads) (slack : Option ℤ) (shard : ℕ) (a b : List ℕ) → IsTrue (is_line_end a b)
    → accepted_items reads slack shard (a ++ b)
    ≡ accepted_items reads slack shard a ++ accepted_by slack (best_of (readable reads shard (lines_in a))) (readable reads shard (lines_after a b))

-- a shard that was read up to a place: the bytes before it, those after it, and whether it was closed there
pub record ReadTo : Type 0 where
  pub first : List ℕ
  pub rest : List ℕ
  pub closed : Bool

-- the whole text of the shard
abbrev pub whole : ReadTo → List ℕ
whole r = r.first ++ r.rest

-- the place is the start or the end of a line: where the shard was closed it is its text's end, and else whole lines end there
pub record IsPlace (r : ReadTo) : Type 0 where
  pub line_end : IsTrue (is_line_end r.first r.rest)
  pub at_end : r.closed ≡ true → r.rest ≡ []
  pub whole_lines : r.closed ≡ false → IsTrue (ends_line r.first)

-- the low of a shard at its place
abbrev pub low_at : Reads → Option ℤ → ℕ → ReadTo → Mark
low_at reads slack shard r = low_of r.closed slack (best_of (readable reads shard (lines_in r.first)))

-- the lows of shards, of which the first is this one
abbrev pub lows_from : Reads → Option ℤ → ℕ → List ReadTo → List Mark
lows_from reads slack shard [] = []
lows_from reads slack shard (r ∷ shards) = low_at reads slack shard r ∷ lows_from reads slack (shard + 1) shards

-- each shard was read up to a place
abbrev pub ArePlaces : List ReadTo → Type 0
ArePlaces [] = Unit {0}
ArePlaces (r ∷ shards) = IsPlace r × ArePlaces shards

-- every accepted event of a shard below a mark that is at most its low stands before the place
abbrev pub RestOfShardIsLate : Type 0
RestOfShardIsLate = (reads : Reads) (slack : Option ℤ) (shard : ℕ) (mark : Mark) (r : ReadTo) → IsPlace r → IsAtMost mark (low_at reads slack shard r)
    → filter (is_below mark) (accepted_items reads slack shard (whole r)) ≡ filter (is_below mark) (accepted_items reads slack shard r.first)

-- every accepted event below a safe mark stands before the places at which the mark is safe
abbrev pub RestIsLate : Type 0
RestIsLate = (reads : Reads) (slack : Option ℤ) (mark : Mark) (shards : List ReadTo) → ArePlaces shards
    → IsTrue (is_safe mark (lows_from reads slack 0 shards))
    → below reads slack (map whole shards) mark ≡ below reads slack (map (λ (r : ReadTo). r.first) shards) mark
