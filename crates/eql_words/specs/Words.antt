-- Words and their parts.
use Rattle.std.specs.Prelude.{ℕ, Bool, false, not, ◌&&◌, ◌==◌, nat_lt, if◌then◌else◌, List, [], ◌∷◌, map, length, Option, Some, None, String, string_bytes, codes}
use Rattle.std.specs.declared.alloc.Global.{Global}
use Rattle.std.specs.List.{before_first, after_first, position_or_len, list_all}
use Rattle.std.specs.Str.{bytes_eq}

-- a word, by its bytes
abbrev pub Word : Type 0
Word = List ℕ

-- the words of a run, as their bytes
abbrev pub bytes_of : List (String Global) → List Word
bytes_of words = map (λ word. string_bytes word) words

-- whether a word begins with `-`
abbrev pub is_dashed : Word → Bool
is_dashed [] = false
is_dashed (byte ∷ bytes) = byte == 45

-- whether none of the words begins with `-`
abbrev pub are_plain : List Word → Bool
are_plain words = list_all (λ word. not (is_dashed word)) words

-- whether a byte is `=`
abbrev pub is_equals : ℕ → Bool
is_equals byte = byte == 61

-- what stands before the first `=` of a word, the whole word where it has none
abbrev pub head_of : Word → Word
head_of word = before_first is_equals word

-- what stands behind the first `=` of a word, if it has one
abbrev pub joined_value : Word → Option Word
joined_value word =
    if nat_lt (position_or_len is_equals word) (length word) then Some (after_first is_equals word) else None

-- whether a word is a name: it isn't empty and isn't `-`
abbrev pub is_name : Word → Bool
is_name word = not (bytes_eq word []) && not (bytes_eq word (codes "-"))
