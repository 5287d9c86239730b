-- How names and texts of the input are printed in messages: as they are, but for the characters that a reader can't see or that change how
-- the text around them is read. These are written by escapes.
use Rattle.std.specs.Prelude.{◌≡◌, ℕ, ◌+◌, ◌/◌, ◌%◌, ◌==◌, ◌||◌, ◌&&◌, nat_lt, nat_le, Bool, if◌then◌else◌, List, [], ◌∷◌, ◌++◌, refl, codes}
use Rattle.std.specs.List.{flat_map}

-- a hexadecimal digit in lower case
abbrev pub hex_digit : ℕ → ℕ
hex_digit n = if nat_lt n 10 then 48 + n else 87 + n

-- the upper two of four hexadecimal digits, where a number below 65536 has more than two
abbrev pub upper_digits : ℕ → List ℕ
upper_digits n = if nat_lt n 256 then [] else hex_digit (n / 4096) ∷ hex_digit (n / 256 % 16) ∷ []

-- a character by its number, in two hexadecimal digits or four
abbrev pub escape_by_number : ℕ → List ℕ
escape_by_number c = codes "\\u{" ++ upper_digits c ++ hex_digit (c / 16 % 16) ∷ hex_digit (c % 16) ∷ codes "}"

-- a control character
abbrev pub is_control : ℕ → Bool
is_control c = nat_lt c 32 || (nat_le 127 c && nat_le c 159)

-- a separator of lines or of paragraphs
abbrev pub is_separator : ℕ → Bool
is_separator c = (c == 8232) || (c == 8233)

-- a mark that turns the direction of writing: 200e, 200f, 202a to 202e and 2066 to 2069 in hexadecimal
abbrev pub is_turn : ℕ → Bool
is_turn c = (c == 8206) || (c == 8207) || (nat_le 8234 c && nat_le c 8238) || (nat_le 8294 c && nat_le c 8297)

-- the character is written by its number
abbrev pub is_hidden : ℕ → Bool
is_hidden c = is_control c || is_separator c || is_turn c

-- a character as it is printed
abbrev pub shown_char : ℕ → List ℕ
shown_char c =
    if c == 10 then codes "\\n"
    else if c == 13 then codes "\\r"
    else if c == 9 then codes "\\t"
    else if is_hidden c then escape_by_number c
    else c ∷ []

-- a text as it is printed, character by character
abbrev pub shown_text : List ℕ → List ℕ
shown_text = flat_map shown_char

-- letters stay, also those beyond ASCII, and so do quotes and backslashes
as_it_is : shown_text (codes "a \"b\\" ++ 233 ∷ 8364 ∷ 128512 ∷ []) ≡ codes "a \"b\\" ++ 233 ∷ 8364 ∷ 128512 ∷ []
unfolding lib.Utf8.encode
as_it_is = refl

-- a line feed, a return, a tab, and the controls 0, 7f and 9f
controls : shown_text (10 ∷ 13 ∷ 9 ∷ 0 ∷ 127 ∷ 159 ∷ []) ≡ codes "\\n\\r\\t\\u{00}\\u{7f}\\u{9f}"
unfolding lib.Utf8.encode
controls = refl

-- the characters on both sides of each range stay
edges : shown_text (32 ∷ 126 ∷ 160 ∷ 8205 ∷ 8208 ∷ 8231 ∷ 8239 ∷ 8293 ∷ 8298 ∷ []) ≡ 32 ∷ 126 ∷ 160 ∷ 8205 ∷ 8208 ∷ 8231 ∷ 8239 ∷ 8293 ∷ 8298 ∷ []
edges = refl

-- separators and marks of direction
marks : shown_text (8206 ∷ 8207 ∷ 8232 ∷ 8233 ∷ 8234 ∷ 8238 ∷ 8294 ∷ 8297 ∷ [])
    ≡ codes "\\u{200e}\\u{200f}\\u{2028}\\u{2029}\\u{202a}\\u{202e}\\u{2066}\\u{2069}"
unfolding lib.Utf8.encode
marks = refl
