-- How a refusal is printed: one line, without a line feed at its end.
use Rattle.std.specs.Prelude.{◌≡◌, ℕ, List, ◌++◌, codes, encode_utf8_all, refl}
use Rattle.std.specs.Fmt.{decimal}
use Rattle.eql_values.specs.Shown.{shown_text}
use Rattle.eql_parser.specs.declared.refusal.ParseRefused.{ParseRefused}
use Rattle.eql_parser.specs.declared.refusal.ParseRefused.TheVariants as refused

-- a left-out form by its word, and its place
abbrev pub left_out : List ℕ → ℕ → List ℕ
left_out word at = codes "parse: LeftOut " ++ encode_utf8_all (shown_text word) ++ codes " at " ++ decimal at

-- the bytes of the line
abbrev pub message : ParseRefused → List ℕ
message (refused.Syntax at) = codes "parse: Syntax at " ++ decimal at
message (refused.LeftOut word at) = left_out word at
message (refused.TooDeep at) = codes "parse: TooDeep at " ++ decimal at
message refused.Memory = codes "parse: Memory"

a_form : (at : ℕ) → message (refused.LeftOut (codes "regex") at) ≡ codes "parse: LeftOut regex at " ++ decimal at
unfolding lib.Utf8.encode
a_form at = refl
