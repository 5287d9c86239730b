-- How a refusal is printed: one line, without a line feed at its end.
use Rattle.std.specs.Prelude.{◌≡◌, ℕ, List, [], ◌++◌, Option, Some, None, codes, refl}
use Rattle.std.specs.Fmt.{decimal}
use Rattle.eql_lexer.specs.declared.refusal.LexRefused.{LexRefused}
use Rattle.eql_lexer.specs.declared.refusal.LexRefused.TheVariants as refused

-- its name
abbrev pub name : LexRefused → List ℕ
name (refused.BadByte at) = codes "BadByte"
name (refused.OpenString at) = codes "OpenString"
name (refused.BadEscape at) = codes "BadEscape"
name (refused.Fraction at) = codes "Fraction"
name (refused.SingleQuote at) = codes "SingleQuote"
name (refused.NumberRange at) = codes "NumberRange"
name refused.TooLong = codes "TooLong"
name (refused.OpenComment at) = codes "OpenComment"
name refused.NotUtf8 = codes "NotUtf8"
name refused.Memory = codes "Memory"

-- its place, where it has one
abbrev pub place : LexRefused → Option ℕ
place (refused.BadByte at) = Some at
place (refused.OpenString at) = Some at
place (refused.BadEscape at) = Some at
place (refused.Fraction at) = Some at
place (refused.SingleQuote at) = Some at
place (refused.NumberRange at) = Some at
place refused.TooLong = None
place (refused.OpenComment at) = Some at
place refused.NotUtf8 = None
place refused.Memory = None

-- ` at ` and the place
abbrev pub at_place : Option ℕ → List ℕ
at_place None = []
at_place (Some at) = codes " at " ++ decimal at

-- the bytes of the line
abbrev pub message : LexRefused → List ℕ
message r = codes "lex: " ++ name r ++ at_place (place r)

a_place : (at : ℕ) → message (refused.BadByte at) ≡ codes "lex: BadByte at " ++ decimal at
a_place at = refl

no_place : message refused.TooLong ≡ codes "lex: TooLong"
no_place = refl
