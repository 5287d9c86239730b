-- A text in which a rule is broken spells no tokens.
use Rattle.std.proofs.Common.{◌≡◌, ℕ, List, [], ◌∷◌, ◌++◌, length, true, false, inl, inr, None, refl, sym, ap, subst, ◌∙◌, arith, ◌≤◌, Result, Ok, Err, IfOk, IfErr, MatchResult}
use Rattle.std.specs.Str.{IsUtf8}
use Rattle.eql_lexer.specs.declared.token.Sign.{Sign}
use Rattle.eql_lexer.specs.declared.token.Tok.{Tok}
use Rattle.eql_lexer.specs.declared.token.Tok.TheVariants as tok
use Rattle.eql_lexer.specs.declared.token.Token.{Token}
use Rattle.eql_lexer.specs.declared.refusal.Rule.{Rule}
use Rattle.eql_lexer.specs.declared.refusal.Rule.TheVariants as rule
use Rattle.eql_lexer.specs.declared.refusal.LexRefused.{LexRefused}
use Rattle.eql_lexer.specs.declared.refusal.LexRefused.TheVariants as refused
use Rattle.eql_lexer.specs.Bytes.{begins, begins_fraction}
use Rattle.eql_lexer.specs.Blanks.{gap}
use Rattle.eql_lexer.specs.Signs.{spelling, grows, sign_at}
use Rattle.eql_lexer.specs.Strings.{IsContent, closed, plain, escaped, IsBadEscape, bad_here, bad_after_plain, bad_after_escape}
use Rattle.eql_lexer.specs.Spelling.{IsLexeme, AreTokensTo, Spells}
use Rattle.eql_lexer.specs.Refusing.{IsOpen, BreaksRule, BreaksAt, RefusesText, IsMemory}
use Rattle.eql_lexer.proofs.Unique.{true_not_false, not_letter, not_digit, not_letter_digit, no_sign, sign_at_is, escape_one, further, one_list}
use Rattle.eql_lexer.proofs.Closing.{content_closed}

bad_no : (bs s rest place : List ℕ) → IsContent bs s rest → IsBadEscape bs place → ⊥
bad_no _ _ _ _ (closed p) (bad_here q h) = omega (arith, p, q)
bad_no _ _ _ _ (closed p) (bad_after_plain q h) = q.0 p
bad_no _ _ _ _ (closed p) (bad_after_escape q e h) = omega (arith, p, q)
bad_no _ _ _ _ (plain p k) (bad_here q h) = p.1 q
bad_no _ _ _ _ (plain p k) (bad_after_plain q h) = bad_no _ _ _ _ k h
bad_no _ _ _ _ (plain p k) (bad_after_escape q e h) = p.1 q
bad_no _ _ _ _ (escaped p e f k) (bad_here q h) = cc
bad_no _ _ _ _ (escaped p e f k) (bad_after_plain q h) = q.1 p
bad_no _ _ _ place (escaped {c = c} {more = m} p e f k) (bad_after_escape {c = d} {more = n} q g h) =
    bad_no _ _ _ place k (subst (λ l. IsBadEscape l place) (escape_one _ d c n m g e).1 h)

open_word : (b : ℕ) (bs : List ℕ) → IsOpen b bs → (b ≡ 34 → ⊥) → (b ≡ 96 → ⊥) → ⊥
open_word b bs (inl h) q t = q h.0
open_word b bs (inr (inl h)) q t = q h.0
open_word b bs (inr (inr h)) q t = t h.0

open_string : (b : ℕ) (bs s rest : List ℕ) → IsOpen b bs → IsLexeme (b ∷ bs) (tok.Str s) rest → ⊥
open_string b bs s rest (inl h) (q, inl k) = true_not_false (sym k.1.1 ∙ h.2)
open_string b bs s rest (inl h) (q, inr k) = true_not_false (sym h.1 ∙ k.0)
open_string b bs s rest (inr (inl h)) (q, inl k) = true_not_false (sym k.0 ∙ h.1)
open_string b bs s rest (inr (inl h)) (q, inr k) = true_not_false (sym (content_closed _ _ _ k.1.1) ∙ h.2)
open_string b bs s rest (inr (inr h)) k = omega (arith, h.0, k.0)

open_name : (b : ℕ) (bs s rest : List ℕ) → IsOpen b bs → IsLexeme (b ∷ bs) (tok.Back s) rest → ⊥
open_name b bs s rest (inl h) k = omega (arith, h.0, k.0)
open_name b bs s rest (inr (inl h)) k = omega (arith, h.0, k.0)
open_name b bs s rest (inr (inr h)) k = true_not_false (sym k.1.2 ∙ h.1)

bad_string : (b : ℕ) (bs s rest place : List ℕ) → BreaksRule rule.BadEscape (b ∷ bs) place → IsLexeme (b ∷ bs) (tok.Str s) rest → ⊥
bad_string b bs s rest place h (q, inl k) = true_not_false (sym k.0 ∙ h.1)
bad_string b bs s rest place h (q, inr k) = bad_no _ _ _ _ k.1.1 h.3

comment_sign : (b : ℕ) (bs rest : List ℕ) (x : Sign) → b ≡ 47 → begins 42 bs ≡ true → b ∷ bs ≡ spelling x ++ rest → grows x rest ≡ false → ⊥
comment_sign b bs rest x e o h k =
    let some = sign_at_is x (b ∷ bs) rest h k in
    let none : sign_at (b ∷ bs) ≡ None = rw (e, o) refl in
    cc

-- what breaks a rule begins no token
pub broken_no : (r : Rule) (from place : List ℕ) (t : Tok) (rest : List ℕ) → BreaksRule r from place → IsLexeme from t rest → ⊥
broken_no r [] place t rest h k = h
broken_no rule.OpenString (b ∷ bs) place (tok.Word w) rest h k = open_word b bs h.1 (not_letter b 34 k.0 refl) (not_letter b 96 k.0 refl)
broken_no rule.OpenString (b ∷ bs) place (tok.Back w) rest h k = open_name b bs w rest h.1 k
broken_no rule.OpenString (b ∷ bs) place (tok.Str s) rest h k = open_string b bs s rest h.1 k
broken_no rule.OpenString (b ∷ bs) place (tok.Num n) rest h k = open_word b bs h.1 (not_digit b 34 k.0 refl) (not_digit b 96 k.0 refl)
broken_no rule.OpenString (b ∷ bs) place (tok.Sign x) rest h k = open_word b bs h.1 ((no_sign x b bs rest k.0).2) ((no_sign x b bs rest k.0).3)
broken_no rule.BadEscape (b ∷ bs) place (tok.Word w) rest h k = not_letter b 34 k.0 refl h.0
broken_no rule.BadEscape (b ∷ bs) place (tok.Back w) rest h k = omega (arith, h.0, k.0)
broken_no rule.BadEscape (b ∷ bs) place (tok.Str s) rest h k = bad_string b bs s rest place h k
broken_no rule.BadEscape (b ∷ bs) place (tok.Num n) rest h k = not_digit b 34 k.0 refl h.0
broken_no rule.BadEscape (b ∷ bs) place (tok.Sign x) rest h k = (no_sign x b bs rest k.0).2 h.0
broken_no rule.Fraction (b ∷ bs) place (tok.Word w) rest h k = not_letter_digit b k.0 h.1
broken_no rule.Fraction (b ∷ bs) place (tok.Back w) rest h k = not_digit b 96 h.1 refl k.0
broken_no rule.Fraction (b ∷ bs) place (tok.Str s) rest h k = not_digit b 34 h.1 refl k.0
broken_no rule.Fraction (b ∷ bs) place (tok.Num n) rest h k = true_not_false (sym h.2 ∙ ap begins_fraction (sym k.3) ∙ k.4)
broken_no rule.Fraction (b ∷ bs) place (tok.Sign x) rest h k = true_not_false (sym h.1 ∙ (no_sign x b bs rest k.0).1)
broken_no rule.NumberRange (b ∷ bs) place (tok.Word w) rest h k = not_letter_digit b k.0 h.1
broken_no rule.NumberRange (b ∷ bs) place (tok.Back w) rest h k = not_digit b 96 h.1 refl k.0
broken_no rule.NumberRange (b ∷ bs) place (tok.Str s) rest h k = not_digit b 34 h.1 refl k.0
broken_no rule.NumberRange (b ∷ bs) place (tok.Num n) rest h k = omega (arith, h.3, k.2)
broken_no rule.NumberRange (b ∷ bs) place (tok.Sign x) rest h k = true_not_false (sym h.1 ∙ (no_sign x b bs rest k.0).1)
broken_no rule.SingleQuote (b ∷ bs) place (tok.Word w) rest h k = not_letter b 39 k.0 refl h.1
broken_no rule.SingleQuote (b ∷ bs) place (tok.Back w) rest h k = omega (arith, h.1, k.0)
broken_no rule.SingleQuote (b ∷ bs) place (tok.Str s) rest h k = omega (arith, h.1, k.0)
broken_no rule.SingleQuote (b ∷ bs) place (tok.Num n) rest h k = not_digit b 39 k.0 refl h.1
broken_no rule.SingleQuote (b ∷ bs) place (tok.Sign x) rest h k = (no_sign x b bs rest k.0).4 h.1
broken_no rule.OpenComment (b ∷ bs) place (tok.Word w) rest h k = not_letter b 47 k.0 refl h.1
broken_no rule.OpenComment (b ∷ bs) place (tok.Back w) rest h k = omega (arith, h.1, k.0)
broken_no rule.OpenComment (b ∷ bs) place (tok.Str s) rest h k = omega (arith, h.1, k.0)
broken_no rule.OpenComment (b ∷ bs) place (tok.Num n) rest h k = not_digit b 47 k.0 refl h.1
broken_no rule.OpenComment (b ∷ bs) place (tok.Sign x) rest h k = comment_sign b bs rest x h.1 h.2 k.0 k.1
broken_no rule.BadByte (b ∷ bs) place (tok.Word w) rest h k = true_not_false (sym k.0 ∙ h.1)
broken_no rule.BadByte (b ∷ bs) place (tok.Back w) rest h k = h.4 k.0
broken_no rule.BadByte (b ∷ bs) place (tok.Str s) rest h k = h.3 k.0
broken_no rule.BadByte (b ∷ bs) place (tok.Num n) rest h k = true_not_false (sym k.0 ∙ h.2)
broken_no rule.BadByte (b ∷ bs) place (tok.Sign x) rest h k = let some = sign_at_is x (b ∷ bs) rest k.0 k.1 in cc

none_further : (n : ℕ) (r : Rule) (mid place : List ℕ) (more : List Token) (stop : List ℕ) → BreaksRule r (gap mid) place → AreTokensTo n mid more stop → gap stop ≡ [] → ⊥
none_further n r mid place [] stop h k e = subst (λ l. BreaksRule r l place) (ap gap (sym k) ∙ e) h
none_further n r mid place (t ∷ ts) stop h k e = broken_no r (gap mid) place t.tok k.0 h k.1

-- a text in which a rule is broken spells no tokens
pub none_spelled : (text : List ℕ) (r : Rule) (at : ℕ) (us : List Token) → BreaksAt text r at → Spells text us → ⊥
none_spelled text r at us h k =
    let far = further (length text) text h.0 us h.1 k.0 h.3 k.1 k.2 in
    none_further (length text) r h.1 h.2 far.0 k.0 h.4 far.2 k.2

-- tokens that a text spells are its answer, unless memory runs out
pub answered : (text : List ℕ) (r : Result (List Token) LexRefused) → length text ≤ 65536 → IsUtf8 text → IfOk r (Spells text) → IfErr r (RefusesText text)
    → (tokens : List Token) → Spells text tokens → MatchResult r (λ answer. answer ≡ tokens) IsMemory
answered text (Ok ts) short u h k tokens s = one_list text ts tokens h s
answered text (Err refused.Memory) short u h k tokens s = tt
answered text (Err refused.TooLong) short u h k tokens s = absurd (omega (arith, short, k))
answered text (Err refused.NotUtf8) short u h k tokens s = absurd (k.1 u)
answered text (Err (refused.BadByte at)) short u h k tokens s = absurd (none_spelled text rule.BadByte at tokens k s)
answered text (Err (refused.OpenString at)) short u h k tokens s = absurd (none_spelled text rule.OpenString at tokens k s)
answered text (Err (refused.BadEscape at)) short u h k tokens s = absurd (none_spelled text rule.BadEscape at tokens k s)
answered text (Err (refused.Fraction at)) short u h k tokens s = absurd (none_spelled text rule.Fraction at tokens k s)
answered text (Err (refused.SingleQuote at)) short u h k tokens s = absurd (none_spelled text rule.SingleQuote at tokens k s)
answered text (Err (refused.NumberRange at)) short u h k tokens s = absurd (none_spelled text rule.NumberRange at tokens k s)
answered text (Err (refused.OpenComment at)) short u h k tokens s = absurd (none_spelled text rule.OpenComment at tokens k s)
