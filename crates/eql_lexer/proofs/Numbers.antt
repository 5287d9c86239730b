-- Numbers grow with their digits.
use Rattle.std.proofs.Common.{◌≡◌, ℕ, suc, ◌+◌, ◌*◌, ◌-◌, ◌<◌, ◌≤◌, ◌^◌, List, [], ◌∷◌, length, drop, take, get_or, add-one, ℤ, pos, true, false, refl, sym, ap, subst, ◌∙◌, arith, drop-cons, lit<, length-take}
use Rattle.std.proofs.Math.Nat.{pow-le-pow_right}
use Rattle.std.proofs.lemmas.List.{get_or-take}
use Rattle.std.proofs.lemmas.List.Sums.{prefix_len_passes}
use Rattle.std.specs.List.{take_while, prefix_len}
use Rattle.eql_lexer.specs.declared.token.Tok.TheVariants as tok
use Rattle.eql_lexer.specs.Bytes.{is_digit, is_hex, begins_fraction, number}
use Rattle.eql_lexer.specs.Spelling.{IsLexeme}

pub number_grows : (n : ℕ) (bs : List ℕ) → n ≤ number n bs
number_grows n [] = omega arith
number_grows n (b ∷ bs) = omega (arith, number_grows (n * 10 + (b - 48)) bs)

pub number_next : (n i : ℕ) (bs : List ℕ) (d : ℕ) → i < length bs → n * 10 + (get_or bs i d - 48) ≤ number n (drop i bs)
number_next n i bs d h = rw (drop-cons bs i d h) (number_grows (n * 10 + (get_or bs i d - 48)) (drop (suc i) bs))

pub lexeme_num : (text more rest : List ℕ) (b len : ℕ) (n : ℤ) → text ≡ b ∷ more → is_digit b ≡ true → len ≡ prefix_len is_digit more
    → n ≡ pos (number 0 (take (len + 1) text)) → number 0 (take (len + 1) text) < 2 ^ 63 → rest ≡ drop len more → begins_fraction rest ≡ false → IsLexeme text (tok.Num n) rest
lexeme_num text more rest b len n cons digit is value small behind whole =
    let front : take (len + 1) text ≡ b ∷ take_while is_digit more = rw (cons, add-one, is) refl in
    subst (λ l. IsLexeme l (tok.Num n) rest) (sym cons)
    (digit, value ∙ ap (λ l. pos (number 0 l)) front, subst (λ l. number 0 l < 2 ^ 63) front small, behind ∙ ap (λ k. drop k more) is, whole)

-- eight hexadecimal digits fit 32 bits
pub hex_fits : (n i : ℕ) → n < 16 ^ i → i ≤ 8 → n < 2 ^ 32
hex_fits n i h k = let most : 16 ^ i ≤ 16 ^ 8 = pow-le-pow_right (lit< tt) k in omega (arith, h, most)

pub hex_digits : (bs : List ℕ) (n : ℕ) → n ≡ prefix_len is_hex bs → (k : ℕ) → k < length (take n bs) → is_hex (get_or (take n bs) k 0) ≡ true
hex_digits bs n e k l =
    let below : k < n = omega (arith, length-take n bs, l) in
    ap is_hex (get_or-take n bs k 0 below) ∙ prefix_len_passes is_hex bs k 0 (omega (arith, e, below))
