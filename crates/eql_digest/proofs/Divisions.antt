-- Bits that are divided off: one by one, by a table, and of two rests at once.
use Rattle.std.proofs.Common.{◌≡◌, ℕ, zero, suc, ◌+◌, ◌*◌, ◌/◌, ◌%◌, ◌^◌, ◌<◌, List, [], ◌∷◌, ◌++◌, bit_xor, refl, sym, ap, ap₂, ◌∙◌, arith, pow-suc}
use Rattle.std.specs.Int.Bits.{xor_assoc, xor_self, xor_zero_r, xor_shifted}
use Rattle.std.proofs.lemmas.Nat.{xor_comm, xor_shr, xor_mod}
use Rattle.eql_digest.specs.Checksums.{polynomial, divided, divided_by_bits, rest_after}

-- (a ^ b) ^ (c ^ d) is (a ^ c) ^ (b ^ d)
pub xor_crossed : (a b c d : ℕ) → bit_xor (bit_xor a b) (bit_xor c d) ≡ bit_xor (bit_xor a c) (bit_xor b d)
xor_crossed a b c d =
    xor_assoc a b (bit_xor c d)
    ∙ ap (bit_xor a) (sym (xor_assoc b c d) ∙ ap (λ (x : ℕ). bit_xor x d) (xor_comm b c) ∙ xor_assoc c b d)
    ∙ sym (xor_assoc a c (bit_xor b d))

-- what is put to a number twice is gone
pub xor_twice : (a b : ℕ) → bit_xor (bit_xor a b) b ≡ a
xor_twice a b = xor_assoc a b b ∙ ap (bit_xor a) (xor_self b) ∙ xor_zero_r a

pub xor_cancels : (a b c : ℕ) → bit_xor a c ≡ bit_xor b c → a ≡ b
xor_cancels a b c e = sym (xor_twice a c) ∙ ap (λ (x : ℕ). bit_xor x c) e ∙ xor_twice b c

pub xor_cancels_first : (a b c : ℕ) → bit_xor c a ≡ bit_xor c b → a ≡ b
xor_cancels_first a b c e = xor_cancels a b c (xor_comm a c ∙ e ∙ xor_comm c b)

-- two numbers that are apart in no bit are one
pub xor_none : (a b : ℕ) → bit_xor a b ≡ 0 → a ≡ b
xor_none a b e = xor_cancels a b b (e ∙ sym (xor_self b))

one_bit : (a b : ℕ) → a < 2 → b < 2 → bit_xor a b * polynomial ≡ bit_xor (a * polynomial) (b * polynomial)
one_bit zero zero p q = refl
one_bit zero (suc zero) p q = refl
one_bit (suc zero) zero p q = refl
one_bit (suc zero) (suc zero) p q = refl
one_bit zero (suc (suc b)) p q = absurd (omega arith)
one_bit (suc zero) (suc (suc b)) p q = absurd (omega arith)
one_bit (suc (suc a)) b p q = absurd (omega arith)

-- two rests are divided as one
pub divided_xor : (a b : ℕ) → divided (bit_xor a b) ≡ bit_xor (divided a) (divided b)
divided_xor a b =
    ap₂ bit_xor (xor_shr a b 1) (ap (λ (x : ℕ). x * polynomial) (xor_mod a b 1) ∙ one_bit (a % 2) (b % 2) (omega arith) (omega arith))
    ∙ xor_crossed (a / 2) (b / 2) (a % 2 * polynomial) (b % 2 * polynomial)

pub divided_by_bits_xor : (bits a b : ℕ) → divided_by_bits bits (bit_xor a b) ≡ bit_xor (divided_by_bits bits a) (divided_by_bits bits b)
unfolding divided_by_bits
divided_by_bits_xor zero a b = refl
divided_by_bits_xor (suc bits) a b = ap (divided_by_bits bits) (divided_xor a b) ∙ divided_by_bits_xor bits (divided a) (divided b)

-- a zero that falls out changes nothing
divided_even : (a : ℕ) → divided (a * 2) ≡ a
divided_even a =
    let half : a * 2 / 2 ≡ a = omega arith in
    let none : a * 2 % 2 * polynomial ≡ 0 = ap (λ (x : ℕ). x * polynomial) (let even : a * 2 % 2 ≡ 0 = omega arith in even) in
    ap₂ bit_xor half none ∙ xor_zero_r a

pub divided_shifted : (bits a : ℕ) → divided_by_bits bits (a * 2 ^ bits) ≡ a
unfolding divided_by_bits
divided_shifted zero a = omega arith
divided_shifted (suc bits) a =
    let twice : a * 2 ^ suc bits ≡ a * 2 ^ bits * 2 = ap (λ (x : ℕ). a * x) (pow-suc 2 bits) ∙ omega arith in
    ap (λ (x : ℕ). divided_by_bits bits (divided x)) twice ∙ ap (divided_by_bits bits) (divided_even (a * 2 ^ bits)) ∙ divided_shifted bits a

-- a byte is divided off by what the table has of it
pub divided_by_table : (rest : ℕ) → divided_by_bits 8 rest ≡ bit_xor (divided_by_bits 8 (rest % 256)) (rest / 256)
divided_by_table rest =
    let high : ℕ = rest / 256 * 2 ^ 8 in
    let parts : rest ≡ bit_xor high (rest % 256) = (let sum : rest ≡ rest / 256 * 2 ^ 8 + rest % 256 = omega arith in sum) ∙ sym (xor_shifted (rest / 256) 8 (rest % 256) (omega arith)) in
    ap (divided_by_bits 8) parts ∙ divided_by_bits_xor 8 high (rest % 256)
    ∙ ap (λ (x : ℕ). bit_xor x (divided_by_bits 8 (rest % 256))) (divided_shifted 8 (rest / 256))
    ∙ xor_comm (rest / 256) (divided_by_bits 8 (rest % 256))

-- one more byte at the end
pub rest_after_more : (rest : ℕ) (bytes : List ℕ) (byte : ℕ) → rest_after rest (bytes ++ byte ∷ []) ≡ divided_by_bits 8 (bit_xor (rest_after rest bytes) byte)
unfolding rest_after
rest_after_more rest [] byte = refl
rest_after_more rest (first ∷ bytes) byte = rest_after_more (divided_by_bits 8 (bit_xor rest first)) bytes byte

-- bits that are divided off in two goes
pub divided_by_bits_add : (some more rest : ℕ) → divided_by_bits (some + more) rest ≡ divided_by_bits more (divided_by_bits some rest)
unfolding divided_by_bits
divided_by_bits_add zero more rest = ap (λ (n : ℕ). divided_by_bits n rest) (let sum : 0 + more ≡ more = omega arith in sum)
divided_by_bits_add (suc some) more rest =
    let sum : suc some + more ≡ suc (some + more) = omega arith in
    ap (λ (n : ℕ). divided_by_bits n rest) sum ∙ divided_by_bits_add some more (divided rest)

pub divided_once_more : (bits rest : ℕ) → divided_by_bits (bits + 1) rest ≡ divided (divided_by_bits bits rest)
unfolding divided_by_bits
divided_once_more bits rest = divided_by_bits_add bits 1 rest
