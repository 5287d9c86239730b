-- What `lex` says of a query's text.
use Rattle.std.proofs.Common.{◌≡◌, ℕ, ◌≤◌, ◌<◌, ◌⊎◌, inl, inr, List, length, true, false, Result, Ok, Err, sym, ◌∙◌}
use Rattle.std.specs.Str.{IsUtf8, is_utf8}
use Rattle.std.proofs.lemmas.Bool.{cases_lt, cases_Bool, false≢true}
use Rattle.std.proofs.lemmas.Str.{IsUtf8-from_is_utf8, is_utf8-from_IsUtf8}
use Rattle.eql_lexer.specs.declared.token.Token.{Token}
use Rattle.eql_lexer.specs.declared.refusal.Rule.{Rule}
use Rattle.eql_lexer.specs.declared.refusal.Rule.TheVariants as rule
use Rattle.eql_lexer.specs.declared.refusal.LexRefused.{LexRefused}
use Rattle.eql_lexer.specs.declared.refusal.LexRefused.TheVariants as lexed
use Rattle.eql_lexer.specs.Spelling.{Spells}
use Rattle.eql_lexer.specs.Refusing.{BreaksAt, RefusesText, refusal_of}
use Rattle.eql_runs.specs.Files.{HasTokens, HasNoTokens, too_long, not_utf8, breaks}
use Rattle.eql_inputs.specs.Steps.{error_of_lex, StopsSpelling}

-- what `lex` returns for a text that is too long, and for one that isn't UTF-8
abbrev pub IfLong : List ℕ → Result (List Token) LexRefused → Type 0
IfLong text r = 65536 < length text → r ≡ Err lexed.TooLong

abbrev pub IfNotUtf8 : List ℕ → Result (List Token) LexRefused → Type 0
IfNotUtf8 text r = length text ≤ 65536 → (IsUtf8 text → ⊥) → r ≡ Err lexed.NotUtf8

-- so whatever else it returns is for a text that is neither
short_of : (n : ℕ) → (65536 < n → ⊥) → (65536 < n) ⊎ (n ≤ 65536) → n ≤ 65536
short_of n never (inl long) = absurd (never long)
short_of n never (inr short) = short

is_short : (text : List ℕ) (r : Result (List Token) LexRefused) → IfLong text r → (r ≡ Err lexed.TooLong → ⊥) → length text ≤ 65536
is_short text r long other = short_of (length text) (λ more. other (long more)) (cases_lt 65536 (length text))

utf8_of : (text : List ℕ) → ((IsUtf8 text → ⊥) → ⊥) → (is_utf8 text ≡ true) ⊎ (is_utf8 text ≡ false) → IsUtf8 text
utf8_of text never (inl is) = IsUtf8-from_is_utf8 text is
utf8_of text never (inr none) = absurd (never (λ u. false≢true (sym none ∙ is_utf8-from_IsUtf8 text u)))

is_text : (text : List ℕ) (r : Result (List Token) LexRefused) → IfNotUtf8 text r → length text ≤ 65536 → (r ≡ Err lexed.NotUtf8 → ⊥) → IsUtf8 text
is_text text r not short other = utf8_of text (λ none. other (not short none)) (cases_Bool (is_utf8 text))

tokens_no_err : (tokens : List Token) (e : LexRefused) → (let r : Result (List Token) LexRefused = Ok tokens in r) ≡ Err e → ⊥
tokens_no_err tokens e is = cc

-- tokens that are returned
pub has_tokens : (text : List ℕ) (tokens : List Token) → Spells text tokens → IfLong text (Ok tokens) → IfNotUtf8 text (Ok tokens) → HasTokens text tokens
has_tokens text tokens spells long not =
    let short = is_short text (Ok tokens) long (λ is. tokens_no_err tokens _ is) in
    record { short = short; utf8 = is_text text (Ok tokens) not short (λ is. tokens_no_err tokens _ is); spells = spells }

not_long : (r : Rule) (at : ℕ) → (let x : Result (List Token) LexRefused = Err (refusal_of r at) in x) ≡ Err lexed.TooLong → ⊥
not_long rule.BadByte at is = cc
not_long rule.OpenString at is = cc
not_long rule.BadEscape at is = cc
not_long rule.Fraction at is = cc
not_long rule.SingleQuote at is = cc
not_long rule.NumberRange at is = cc
not_long rule.OpenComment at is = cc

not_bytes : (r : Rule) (at : ℕ) → (let x : Result (List Token) LexRefused = Err (refusal_of r at) in x) ≡ Err lexed.NotUtf8 → ⊥
not_bytes rule.BadByte at is = cc
not_bytes rule.OpenString at is = cc
not_bytes rule.BadEscape at is = cc
not_bytes rule.Fraction at is = cc
not_bytes rule.SingleQuote at is = cc
not_bytes rule.NumberRange at is = cc
not_bytes rule.OpenComment at is = cc

no_tokens_at : (text : List ℕ) (r : Rule) (at : ℕ) → BreaksAt text r at → IfLong text (Err (refusal_of r at)) → IfNotUtf8 text (Err (refusal_of r at)) → HasNoTokens text (refusal_of r at)
no_tokens_at text r at b long not =
    let short = is_short text (Err (refusal_of r at)) long (not_long r at) in
    breaks short (is_text text (Err (refusal_of r at)) not short (not_bytes r at)) r at b

-- a refusal that is returned
pub stopped_spelling : (text : List ℕ) (r : LexRefused) → RefusesText text r → IfLong text (Err r) → IfNotUtf8 text (Err r) → StopsSpelling text (error_of_lex r)
stopped_spelling text (lexed.BadByte at) cause long not = no_tokens_at text rule.BadByte at cause long not
stopped_spelling text (lexed.OpenString at) cause long not = no_tokens_at text rule.OpenString at cause long not
stopped_spelling text (lexed.BadEscape at) cause long not = no_tokens_at text rule.BadEscape at cause long not
stopped_spelling text (lexed.Fraction at) cause long not = no_tokens_at text rule.Fraction at cause long not
stopped_spelling text (lexed.SingleQuote at) cause long not = no_tokens_at text rule.SingleQuote at cause long not
stopped_spelling text (lexed.NumberRange at) cause long not = no_tokens_at text rule.NumberRange at cause long not
stopped_spelling text (lexed.OpenComment at) cause long not = no_tokens_at text rule.OpenComment at cause long not
stopped_spelling text lexed.TooLong cause long not = too_long cause
stopped_spelling text lexed.NotUtf8 cause long not = not_utf8 cause.0 cause.1
stopped_spelling text lexed.Memory cause long not = tt
