-- The lines of a text.
use Rattle.std.specs.Prelude.{◌≡◌, ℕ, ◌+◌, List, [], ◌∷◌, if◌then◌else◌, ◌==◌, length, refl, codes}

-- a byte put before the first of these lines
abbrev pub begin_with : ℕ → List (List ℕ) → List (List ℕ)
begin_with byte [] = (byte ∷ []) ∷ []
begin_with byte (line ∷ lines) = (byte ∷ line) ∷ lines

-- the lines of a text without their line feeds: a line is the bytes up to a line feed, or up to the end where bytes remain
abbrev pub lines_of : List ℕ → List (List ℕ)
lines_of [] = []
lines_of (byte ∷ bytes) = if byte == 10 then [] ∷ lines_of bytes else begin_with byte (lines_of bytes)

-- a line of a text: its number from 1, its place, which is the number of bytes before it, and its bytes without the line feed
pub record Line : Type 0 where
  pub number : ℕ
  pub at : ℕ
  pub bytes : List ℕ

-- the lines that go on with this number at this place
abbrev pub numbered_lines : (number at : ℕ) → List (List ℕ) → List Line
numbered_lines number at [] = []
numbered_lines number at (bytes ∷ lines) =
    record { number = number; at = at; bytes = bytes } ∷ numbered_lines (number + 1) (at + length bytes + 1) lines

-- all lines of a text, blank ones too
abbrev pub lines_in : List ℕ → List Line
lines_in text = numbered_lines 1 0 (lines_of text)

three_lines : lines_in (codes "ab\n\nc")
    ≡ record { number = 1; at = 0; bytes = codes "ab" } ∷ record { number = 2; at = 3; bytes = [] } ∷ record { number = 3; at = 4; bytes = codes "c" } ∷ []
unfolding lib.Utf8.encode
three_lines = refl

-- a line feed at the end begins no further line
one_line : lines_of (codes "ab\n") ≡ codes "ab" ∷ []
unfolding lib.Utf8.encode
one_line = refl
