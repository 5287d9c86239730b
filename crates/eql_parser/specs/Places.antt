-- The place of a token in the text.
use Rattle.std.specs.Prelude.{ℕ, ◌-◌, List, [], ◌∷◌, length, drop}
use Rattle.eql_lexer.specs.declared.token.Token.{Token}
use Rattle.eql_parser.specs.Refusing.{end_of, IsPlainSyntax, IsLeftOutAt, IsTooDeep}
use Rattle.eql_parser.specs.Reading.{Fail, Syntax, LeftOut, TooDeep, TooOpen}

-- the start of the first token, or what is given where there is none
abbrev pub start_or : ℕ → List Token → ℕ
start_or other [] = other
start_or other (t ∷ ts) = t.start

-- the start of the token from which on so many are left, or the end of the last token
abbrev pub place : List Token → ℕ → ℕ
place tokens left = start_or (end_of tokens) (drop (length tokens - left) tokens)

-- the cause of a stop of the descent, at its place
abbrev pub StopHasCause : List Token → Fail → Type 0
StopHasCause tokens (Syntax left) = IsPlainSyntax tokens (place tokens left)
StopHasCause tokens (LeftOut word left) = IsLeftOutAt tokens word (place tokens left)
StopHasCause tokens (TooDeep left) = IsTooDeep tokens (place tokens left)
StopHasCause tokens (TooOpen left) = IsTooDeep tokens (place tokens left)
