-- Why a text spells no tokens.
use Rattle.std.specs.Prelude.{◌≡◌, ◌≢◌, ℕ, ◌+◌, ◌<◌, ◌≤◌, ◌^◌, List, [], ◌∷◌, length, drop, true, false, ◌⊎◌, None}
use Rattle.std.specs.List.{take_while, prefix_len}
use Rattle.std.specs.Str.{IsUtf8}
use Rattle.eql_lexer.specs.declared.token.Token.{Token}
use Rattle.eql_lexer.specs.declared.refusal.Rule.{Rule}
use Rattle.eql_lexer.specs.declared.refusal.Rule.TheVariants as rule
use Rattle.eql_lexer.specs.declared.refusal.Fault.{Fault}
use Rattle.eql_lexer.specs.declared.refusal.Fault.TheVariants as fault
use Rattle.eql_lexer.specs.declared.refusal.LexRefused.{LexRefused}
use Rattle.eql_lexer.specs.declared.refusal.LexRefused.TheVariants as refused
use Rattle.eql_lexer.specs.Bytes.{is_digit, is_letter, begins, begins_fraction, number}
use Rattle.eql_lexer.specs.Blanks.{gap}
use Rattle.eql_lexer.specs.Signs.{sign_at}
use Rattle.eql_lexer.specs.Strings.{IsBadEscape, triple, before_triple, is_closed, quoted_name, is_name}
use Rattle.eql_lexer.specs.Spelling.{AreTokensTo}

-- A text that begins with a quote or a backtick that isn't closed: `"""` without another one, a quote without a closing
-- one on its line, a backtick without a name that is closed on its line.
abbrev pub IsOpen : ℕ → List ℕ → Type 0
IsOpen b bs =
    ((b ≡ 34) × (triple (b ∷ bs) ≡ true) × (triple (drop (before_triple (drop 2 bs)) (drop 2 bs)) ≡ false))
    ⊎ ((b ≡ 34) × (triple (b ∷ bs) ≡ false) × (is_closed bs ≡ false))
    ⊎ ((b ≡ 96) × (is_name (quoted_name bs) ≡ false))

-- Of a text that begins no token: the rule that it breaks, and from where on.
abbrev pub BreaksRule : Rule → List ℕ → List ℕ → Type 0
BreaksRule r [] place = ⊥
BreaksRule rule.OpenString (b ∷ bs) place = (place ≡ b ∷ bs) × IsOpen b bs
BreaksRule rule.BadEscape (b ∷ bs) place = (b ≡ 34) × (triple (b ∷ bs) ≡ false) × (is_closed bs ≡ true) × IsBadEscape bs place
BreaksRule rule.Fraction (b ∷ bs) place = (place ≡ b ∷ bs) × (is_digit b ≡ true) × (begins_fraction (drop (prefix_len is_digit bs) bs) ≡ true)
BreaksRule rule.NumberRange (b ∷ bs) place =
    (place ≡ b ∷ bs) × (is_digit b ≡ true) × (begins_fraction (drop (prefix_len is_digit bs) bs) ≡ false)
    × (2 ^ 63 ≤ number 0 (b ∷ take_while is_digit bs))
BreaksRule rule.SingleQuote (b ∷ bs) place = (place ≡ b ∷ bs) × (b ≡ 39)
BreaksRule rule.OpenComment (b ∷ bs) place = (place ≡ b ∷ bs) × (b ≡ 47) × (begins 42 bs ≡ true)
BreaksRule rule.BadByte (b ∷ bs) place =
    (place ≡ b ∷ bs) × (is_letter b ≡ false) × (is_digit b ≡ false) × (b ≢ 34) × (b ≢ 96) × (b ≢ 39)
    × ((b ≡ 47) → begins 42 bs ≡ false) × (sign_at (b ∷ bs) ≡ None)

-- why a text begins no token, or want of memory
abbrev pub Refuses : List ℕ → Fault → Type 0
Refuses from fault.Memory = Unit {0}
Refuses from (fault.Broken r left) = (place : List ℕ) × BreaksRule r from place × (left ≡ length place)

-- why what stands behind `"""` is no string: the refusal names the opening, where so many bytes are left
abbrev pub HasRawFault : List ℕ → ℕ → Fault → Type 0
HasRawFault bs opening fault.Memory = Unit {0}
HasRawFault bs opening (fault.Broken rule.OpenString left) = (triple (drop (before_triple bs) bs) ≡ false) × (left ≡ opening)
HasRawFault bs opening (fault.Broken _ left) = ⊥

-- why what stands behind a quote is no string
abbrev pub HasContentFault : List ℕ → ℕ → Fault → Type 0
HasContentFault bs opening fault.Memory = Unit {0}
HasContentFault bs opening (fault.Broken rule.OpenString left) = (is_closed bs ≡ false) × (left ≡ opening)
HasContentFault bs opening (fault.Broken rule.BadEscape left) = (is_closed bs ≡ true) × ((place : List ℕ) × IsBadEscape bs place × (left ≡ length place))
HasContentFault bs opening (fault.Broken _ left) = ⊥

-- why what stands behind a backtick is no name
abbrev pub HasNameFault : List ℕ → ℕ → Fault → Type 0
HasNameFault bs opening fault.Memory = Unit {0}
HasNameFault bs opening (fault.Broken rule.OpenString left) = (is_name (quoted_name bs) ≡ false) × (left ≡ opening)
HasNameFault bs opening (fault.Broken _ left) = ⊥

-- the place lies within the text
abbrev pub BreaksWithin : List ℕ → Fault → Type 0
BreaksWithin from fault.Memory = Unit {0}
BreaksWithin from (fault.Broken r left) = left ≤ length from

-- What stands before the token of the place spells tokens, and there the rule is broken.
abbrev pub BreaksAt : List ℕ → Rule → ℕ → Type 0
BreaksAt text r at =
    (ts : List Token) × (stop place : List ℕ) × AreTokensTo (length text) text ts stop × BreaksRule r (gap stop) place × (at + length place ≡ length text)

-- the cause of each refusal
abbrev pub RefusesText : List ℕ → LexRefused → Type 0
RefusesText text refused.Memory = Unit {0}
RefusesText text refused.TooLong = 65536 < length text
RefusesText text refused.NotUtf8 = (length text ≤ 65536) × (IsUtf8 text → ⊥)
RefusesText text (refused.BadByte at) = BreaksAt text rule.BadByte at
RefusesText text (refused.OpenString at) = BreaksAt text rule.OpenString at
RefusesText text (refused.BadEscape at) = BreaksAt text rule.BadEscape at
RefusesText text (refused.Fraction at) = BreaksAt text rule.Fraction at
RefusesText text (refused.SingleQuote at) = BreaksAt text rule.SingleQuote at
RefusesText text (refused.NumberRange at) = BreaksAt text rule.NumberRange at
RefusesText text (refused.OpenComment at) = BreaksAt text rule.OpenComment at

-- the refusal for a rule that is broken at a place
abbrev pub refusal_of : Rule → ℕ → LexRefused
refusal_of rule.BadByte at = refused.BadByte at
refusal_of rule.OpenString at = refused.OpenString at
refusal_of rule.BadEscape at = refused.BadEscape at
refusal_of rule.Fraction at = refused.Fraction at
refusal_of rule.SingleQuote at = refused.SingleQuote at
refusal_of rule.NumberRange at = refused.NumberRange at
refusal_of rule.OpenComment at = refused.OpenComment at

-- it is want of memory
abbrev pub IsMemory : LexRefused → Type 0
IsMemory refused.Memory = Unit {0}
IsMemory _ = ⊥
