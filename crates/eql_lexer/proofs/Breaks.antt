-- A text breaks one rule at one place at most.
use Rattle.std.proofs.Common.{◌≡◌, ◌≢◌, ℕ, List, [], ◌∷◌, length, inl, inr, refl, sym, ap, subst, ◌∙◌, arith}
use Rattle.eql_lexer.specs.declared.token.Token.{Token}
use Rattle.eql_lexer.specs.declared.refusal.Rule.{Rule}
use Rattle.eql_lexer.specs.declared.refusal.Rule.TheVariants as rule
use Rattle.eql_lexer.specs.Blanks.{gap}
use Rattle.eql_lexer.specs.Strings.{IsBadEscape, bad_here, bad_after_plain, bad_after_escape}
use Rattle.eql_lexer.specs.Spelling.{AreTokensTo}
use Rattle.eql_lexer.specs.Refusing.{IsOpen, BreaksRule, BreaksAt}
use Rattle.eql_lexer.proofs.Unique.{true_not_false, not_digit, escape_one, lexeme_one}
use Rattle.eql_lexer.proofs.Refusals.{broken_no}

bad_one : (bs p q : List ℕ) → IsBadEscape bs p → IsBadEscape bs q → p ≡ q
bad_one _ _ _ (bad_here e n) (bad_here f m) = refl
bad_one _ _ _ (bad_here e n) (bad_after_plain f k) = absurd (f.1 e)
bad_one _ _ _ (bad_here e n) (bad_after_escape f m k) = cc
bad_one _ _ _ (bad_after_plain e h) (bad_here f m) = absurd (e.1 f)
bad_one _ p q (bad_after_plain e h) (bad_after_plain f k) = bad_one _ p q h k
bad_one _ _ _ (bad_after_plain e h) (bad_after_escape f m k) = absurd (e.1 f)
bad_one _ _ _ (bad_after_escape e n h) (bad_here f m) = cc
bad_one _ _ _ (bad_after_escape e n h) (bad_after_plain f k) = absurd (f.1 e)
bad_one _ p q (bad_after_escape {c = c} {more = m} e n h) (bad_after_escape {c = d} {more = l} f o k) =
    bad_one _ p q h (subst (λ x. IsBadEscape x q) (escape_one _ d c l m o n).1 k)

-- an opening quote or backtick that isn't closed is no other fault
open_byte : (b : ℕ) (bs : List ℕ) → IsOpen b bs → b ≢ 34 → b ≢ 96 → ⊥
open_byte b bs (inl h) q t = q h.0
open_byte b bs (inr (inl h)) q t = q h.0
open_byte b bs (inr (inr h)) q t = t h.0

open_escape : (b : ℕ) (bs place : List ℕ) → IsOpen b bs → BreaksRule rule.BadEscape (b ∷ bs) place → ⊥
open_escape b bs place (inl h) k = true_not_false (sym h.1 ∙ k.1)
open_escape b bs place (inr (inl h)) k = true_not_false (sym k.2 ∙ h.2)
open_escape b bs place (inr (inr h)) k = omega (arith, h.0, k.0)

open_at : (b c : ℕ) (bs : List ℕ) → IsOpen b bs → b ≡ c → c ≢ 34 → c ≢ 96 → ⊥
open_at b c bs h e q t = open_byte b bs h (λ f. q (sym e ∙ f)) (λ f. t (sym e ∙ f))

open_digit : (b : ℕ) (bs place : List ℕ) → IsOpen b bs → BreaksRule rule.Fraction (b ∷ bs) place → ⊥
open_digit b bs place h k = open_byte b bs h (not_digit b 34 k.1 refl) (not_digit b 96 k.1 refl)

open_range : (b : ℕ) (bs place : List ℕ) → IsOpen b bs → BreaksRule rule.NumberRange (b ∷ bs) place → ⊥
open_range b bs place h k = open_byte b bs h (not_digit b 34 k.1 refl) (not_digit b 96 k.1 refl)

-- what begins no token breaks one rule, and from one place on
broken_one : (r s : Rule) (from p q : List ℕ) → BreaksRule r from p → BreaksRule s from q → (r ≡ s) × (p ≡ q)
broken_one r s [] p q h k = absurd h
broken_one rule.BadByte rule.BadByte (b ∷ bs) p q h k = (refl, h.0 ∙ sym k.0)
broken_one rule.BadByte rule.OpenString (b ∷ bs) p q h k = absurd (open_byte b bs k.1 h.3 h.4)
broken_one rule.BadByte rule.BadEscape (b ∷ bs) p q h k = absurd (h.3 k.0)
broken_one rule.BadByte rule.Fraction (b ∷ bs) p q h k = absurd (true_not_false (sym k.1 ∙ h.2))
broken_one rule.BadByte rule.SingleQuote (b ∷ bs) p q h k = absurd (h.5 k.1)
broken_one rule.BadByte rule.NumberRange (b ∷ bs) p q h k = absurd (true_not_false (sym k.1 ∙ h.2))
broken_one rule.BadByte rule.OpenComment (b ∷ bs) p q h k = absurd (true_not_false (sym k.2 ∙ h.6 k.1))
broken_one rule.OpenString rule.BadByte (b ∷ bs) p q h k = absurd (open_byte b bs h.1 k.3 k.4)
broken_one rule.OpenString rule.OpenString (b ∷ bs) p q h k = (refl, h.0 ∙ sym k.0)
broken_one rule.OpenString rule.BadEscape (b ∷ bs) p q h k = absurd (open_escape b bs q h.1 k)
broken_one rule.OpenString rule.Fraction (b ∷ bs) p q h k = absurd (open_digit b bs _ h.1 k)
broken_one rule.OpenString rule.SingleQuote (b ∷ bs) p q h k = absurd (open_at b 39 bs h.1 k.1 (λ e. omega (arith, e)) (λ e. omega (arith, e)))
broken_one rule.OpenString rule.NumberRange (b ∷ bs) p q h k = absurd (open_range b bs _ h.1 k)
broken_one rule.OpenString rule.OpenComment (b ∷ bs) p q h k = absurd (open_at b 47 bs h.1 k.1 (λ e. omega (arith, e)) (λ e. omega (arith, e)))
broken_one rule.BadEscape rule.BadByte (b ∷ bs) p q h k = absurd (k.3 h.0)
broken_one rule.BadEscape rule.OpenString (b ∷ bs) p q h k = absurd (open_escape b bs p k.1 h)
broken_one rule.BadEscape rule.BadEscape (b ∷ bs) p q h k = (refl, bad_one bs p q h.3 k.3)
broken_one rule.BadEscape rule.Fraction (b ∷ bs) p q h k = absurd (not_digit b 34 k.1 refl h.0)
broken_one rule.BadEscape rule.SingleQuote (b ∷ bs) p q h k = absurd (omega (arith, h.0, k.1))
broken_one rule.BadEscape rule.NumberRange (b ∷ bs) p q h k = absurd (not_digit b 34 k.1 refl h.0)
broken_one rule.BadEscape rule.OpenComment (b ∷ bs) p q h k = absurd (omega (arith, h.0, k.1))
broken_one rule.Fraction rule.BadByte (b ∷ bs) p q h k = absurd (true_not_false (sym h.1 ∙ k.2))
broken_one rule.Fraction rule.OpenString (b ∷ bs) p q h k = absurd (open_digit b bs _ k.1 h)
broken_one rule.Fraction rule.BadEscape (b ∷ bs) p q h k = absurd (not_digit b 34 h.1 refl k.0)
broken_one rule.Fraction rule.Fraction (b ∷ bs) p q h k = (refl, h.0 ∙ sym k.0)
broken_one rule.Fraction rule.SingleQuote (b ∷ bs) p q h k = absurd (not_digit b 39 h.1 refl k.1)
broken_one rule.Fraction rule.NumberRange (b ∷ bs) p q h k = absurd (true_not_false (sym h.2 ∙ k.2))
broken_one rule.Fraction rule.OpenComment (b ∷ bs) p q h k = absurd (not_digit b 47 h.1 refl k.1)
broken_one rule.SingleQuote rule.BadByte (b ∷ bs) p q h k = absurd (k.5 h.1)
broken_one rule.SingleQuote rule.OpenString (b ∷ bs) p q h k = absurd (open_at b 39 bs k.1 h.1 (λ e. omega (arith, e)) (λ e. omega (arith, e)))
broken_one rule.SingleQuote rule.BadEscape (b ∷ bs) p q h k = absurd (omega (arith, k.0, h.1))
broken_one rule.SingleQuote rule.Fraction (b ∷ bs) p q h k = absurd (not_digit b 39 k.1 refl h.1)
broken_one rule.SingleQuote rule.SingleQuote (b ∷ bs) p q h k = (refl, h.0 ∙ sym k.0)
broken_one rule.SingleQuote rule.NumberRange (b ∷ bs) p q h k = absurd (not_digit b 39 k.1 refl h.1)
broken_one rule.SingleQuote rule.OpenComment (b ∷ bs) p q h k = absurd (omega (arith, h.1, k.1))
broken_one rule.NumberRange rule.BadByte (b ∷ bs) p q h k = absurd (true_not_false (sym h.1 ∙ k.2))
broken_one rule.NumberRange rule.OpenString (b ∷ bs) p q h k = absurd (open_range b bs _ k.1 h)
broken_one rule.NumberRange rule.BadEscape (b ∷ bs) p q h k = absurd (not_digit b 34 h.1 refl k.0)
broken_one rule.NumberRange rule.Fraction (b ∷ bs) p q h k = absurd (true_not_false (sym k.2 ∙ h.2))
broken_one rule.NumberRange rule.SingleQuote (b ∷ bs) p q h k = absurd (not_digit b 39 h.1 refl k.1)
broken_one rule.NumberRange rule.NumberRange (b ∷ bs) p q h k = (refl, h.0 ∙ sym k.0)
broken_one rule.NumberRange rule.OpenComment (b ∷ bs) p q h k = absurd (not_digit b 47 h.1 refl k.1)
broken_one rule.OpenComment rule.BadByte (b ∷ bs) p q h k = absurd (true_not_false (sym h.2 ∙ k.6 h.1))
broken_one rule.OpenComment rule.OpenString (b ∷ bs) p q h k = absurd (open_at b 47 bs k.1 h.1 (λ e. omega (arith, e)) (λ e. omega (arith, e)))
broken_one rule.OpenComment rule.BadEscape (b ∷ bs) p q h k = absurd (omega (arith, k.0, h.1))
broken_one rule.OpenComment rule.Fraction (b ∷ bs) p q h k = absurd (not_digit b 47 k.1 refl h.1)
broken_one rule.OpenComment rule.SingleQuote (b ∷ bs) p q h k = absurd (omega (arith, k.1, h.1))
broken_one rule.OpenComment rule.NumberRange (b ∷ bs) p q h k = absurd (not_digit b 47 k.1 refl h.1)
broken_one rule.OpenComment rule.OpenComment (b ∷ bs) p q h k = (refl, h.0 ∙ sym k.0)

-- tokens that end where a rule is broken end at one place
stop_one : (n : ℕ) (text : List ℕ) (ts us : List Token) (m l p q : List ℕ) (r s : Rule) → AreTokensTo n text ts m → AreTokensTo n text us l → BreaksRule r (gap m) p → BreaksRule s (gap l) q → m ≡ l
stop_one n text [] [] m l p q r s h k a b = h ∙ sym k
stop_one n text [] (u ∷ us) m l p q r s h k a b = absurd (broken_no r (gap text) p u.tok k.0 (subst (λ x. BreaksRule r (gap x) p) h a) k.1)
stop_one n text (t ∷ ts) [] m l p q r s h k a b = absurd (broken_no s (gap text) q t.tok h.0 (subst (λ x. BreaksRule s (gap x) q) k b) h.1)
stop_one n text (t ∷ ts) (u ∷ us) m l p q r s h k a b =
    stop_one n h.0 ts us m l p q r s h.4 (subst (λ x. AreTokensTo n x us l) (sym (lexeme_one _ _ _ _ _ h.1 k.1).1) k.4) a b

-- a text breaks one rule at one place at most
pub one_break : (text : List ℕ) (r s : Rule) (at to : ℕ) → BreaksAt text r at → BreaksAt text s to → (r ≡ s) × (at ≡ to)
one_break text r s at to h k =
    let same = stop_one (length text) text h.0 k.0 h.1 k.1 h.2 k.2 r s h.3 k.3 h.4 k.4 in
    let one = broken_one r s (gap k.1) h.2 k.2 (subst (λ x. BreaksRule r (gap x) h.2) same h.4) k.4 in
    (one.0, omega (arith, h.5, k.5, ap length one.1))
