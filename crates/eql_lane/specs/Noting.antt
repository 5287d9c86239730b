-- Wanted lines, and their places as they are noted in bytes that are passed over.
use Rattle.std.specs.Prelude.{◌≡◌, ◌⊎◌, ◌≤◌, ◌<◌, ◌+◌, ◌-◌, ◌==◌, ◌&&◌, nat_lt, ℕ, Bool, false, if◌then◌else◌, List, [], ◌∷◌, ◌++◌, Option, Some, None, map, length, All, Contains, IsTrue, codes, refl}
use Rattle.std.specs.List.{slice_get, AllPairs}
use Rattle.eql_digest.specs.Digests.{start, with_bytes}
use Rattle.eql_values.specs.declared.item.Item.{Item}
use Rattle.eql_values.specs.declared.cut.LaneCut.{LaneCut}
use Rattle.eql_values.specs.Accepted.{placed_at}
use Rattle.eql_values.specs.Lines.{Line, lines_of, lines_in}
use Rattle.eql_laws.specs.Places.{ends_line, is_line_end}
use Rattle.eql_lane.specs.Buffers.{IsOneLine}

-- the place of a line among lines, which is the number of bytes before it, or 0 where it is none of them
abbrev pub place_among : List Line → ℕ → ℕ
place_among [] number = 0
place_among (line ∷ lines) number = if line.number == number then line.at else place_among lines number

-- the place of a line of a text
abbrev pub line_place : List ℕ → ℕ → ℕ
line_place text number = place_among (lines_in text) number

-- lines, each with its place in a text
abbrev pub placed_lines : List ℕ → List ℕ → List (ℕ × ℕ)
placed_lines text numbers = map (λ number. (number, line_place text number)) numbers

two_places : placed_lines (codes "ab\n\nc") (1 ∷ 3 ∷ []) ≡ (1, 0) ∷ (3, 4) ∷ []
unfolding lib.Utf8.encode
two_places = refl

-- an event at the place of its line in a text
abbrev pub placed_item : List ℕ → Item → Item
placed_item text item = placed_at (line_place text item.order.line) item

-- what is kept of a lane, with the digest of a text
abbrev pub retraced_cut : List ℕ → LaneCut → LaneCut
retraced_cut text cut = record cut { digest = with_bytes start text }

-- what is kept of a lane, with the digest of no bytes
abbrev pub untraced_cut : LaneCut → LaneCut
untraced_cut cut = record cut { digest = start }

-- what is kept of a lane, with the digest of a text, and with each event at the place of its line in it
abbrev pub placed_cut : List ℕ → LaneCut → LaneCut
placed_cut text cut = record (retraced_cut text cut) { items = map (placed_item text) cut.items }

-- what is kept of a lane, with the digest of no bytes and with no places
abbrev pub unplaced_cut : LaneCut → LaneCut
unplaced_cut cut = record (untraced_cut cut) { items = map (placed_at 0) cut.items }

-- the place of a line by a list of places, or 0 where it has none
abbrev pub place_noted : List (ℕ × ℕ) → ℕ → ℕ
place_noted [] number = 0
place_noted (p ∷ places) number = if p.0 == number then p.1 else place_noted places number

-- an event at the place of its line by such a list
abbrev pub item_noted : List (ℕ × ℕ) → Item → Item
item_noted places item = placed_at (place_noted places item.order.line) item

-- each line of such a list is less than all behind it
abbrev pub LinesAscend : List (ℕ × ℕ) → Type 0
LinesAscend places = AllPairs (λ (p q : ℕ × ℕ). p.0 < q.0) places

-- no event has a place
abbrev pub IsUnplaced : List Item → Type 0
IsUnplaced items = All (λ (item : Item). item.order.at ≡ 0) items

-- how many whole lines the first part of a text has: a line that its end cuts in two is none
abbrev pub whole_lines : (first rest : List ℕ) → ℕ
whole_lines first rest = if is_line_end first rest then length (lines_of first) else length (lines_of first) - 1

two_whole : whole_lines (codes "ab\nc\n") (codes "d") ≡ 2
unfolding lib.Utf8.encode
two_whole = refl

cut_in_two : whole_lines (codes "ab\nc") (codes "d") ≡ 1
unfolding lib.Utf8.encode
cut_in_two = refl

last_is_whole : whole_lines (codes "ab\nc") [] ≡ 2
unfolding lib.Utf8.encode
last_is_whole = refl

-- the line is a whole one of the first part of a text
abbrev pub IsWholeLine : (first rest : List ℕ) → ℕ → Type 0
IsWholeLine first rest number = (1 ≤ number) × (number ≤ whole_lines first rest)

-- all wanted lines are whole ones, and these are their places
pub record Locates (first rest wanted : List ℕ) (places : List (ℕ × ℕ)) : Type 0 where
  pub whole : All (IsWholeLine first rest) wanted
  pub places_are : places ≡ placed_lines first wanted

-- the least wanted line that isn't a whole one
pub record IsMissing (first rest wanted : List ℕ) (number : ℕ) : Type 0 where
  pub is_wanted : Contains wanted number
  pub missing : ¬ IsWholeLine first rest number
  pub least : (other : ℕ) → Contains wanted other → other < number → IsWholeLine first rest other

-- ---- notes of bytes that are passed over
-- the wanted lines, the line at hand, its place, the bytes that were passed over, and the wanted lines before the line at hand with their places
pub record Noted : Type 0 where
  pub wanted : List ℕ
  pub line : ℕ
  pub at : ℕ
  pub passed : ℕ
  pub places : List (ℕ × ℕ)

-- the next wanted line is this one
abbrev pub is_line : Option ℕ → ℕ → Bool
is_line None number = false
is_line (Some next) number = next == number

-- the line at hand with its place, where it is the next that is wanted
abbrev pub at_hand : Noted → List (ℕ × ℕ)
at_hand x = if is_line (slice_get x.wanted (length x.places)) x.line then (x.line, x.at) ∷ [] else []

-- the bytes end in the next wanted line, before its line feed
abbrev pub is_cut : Noted → Bool
is_cut x = nat_lt x.at x.passed && is_line (slice_get x.wanted (length x.places)) x.line

-- the line at hand with its place, where the text ends in it and it is the next that is wanted
abbrev pub last_line : (ended : Bool) → Noted → List (ℕ × ℕ)
last_line ended x = if ended && nat_lt x.at x.passed then at_hand x else []

-- the line at hand ends with the last of so many bytes
abbrev pub line_ended : Noted → (count : ℕ) → Noted
line_ended x count = record { wanted = x.wanted; line = x.line + 1; at = x.passed + count; passed = x.passed + count; places = x.places ++ at_hand x }

-- the line at hand begins behind whole lines and has these bytes so far, and the next wanted line doesn't stand before it
pub record IsAtHand (whole more : List ℕ) (next : ℕ) (x : Noted) : Type 0 where
  pub one : IsOneLine more
  pub line : x.line ≡ 1 + length (lines_of whole)
  pub at : x.at ≡ length whole
  pub next_is : (next ≡ 0) ⊎ (x.line ≤ next)

abbrev pub NextIsAtHand : (whole more left : List ℕ) → Noted → Type 0
NextIsAtHand whole more [] x = Unit {0}
NextIsAtHand whole more (next ∷ left) x = IsAtHand whole more next x

-- what was noted of the bytes that were passed over: of the wanted lines the first ones, all of whole lines
pub record NotesOf (front : List ℕ) (x : Noted) : Type 0 where
  pub whole : List ℕ
  pub more : List ℕ
  pub noted : List ℕ
  pub left : List ℕ
  pub parts : front ≡ whole ++ more
  pub ends : IsTrue (ends_line whole)
  pub passed : x.passed ≡ length front
  pub wanted : x.wanted ≡ noted ++ left
  pub rises : AllPairs (λ (a b : ℕ). a < b) left
  pub there : All (λ (number : ℕ). (1 ≤ number) × (number ≤ length (lines_of whole))) noted
  pub places : x.places ≡ placed_lines whole noted
  pub hand : NextIsAtHand whole more left x
