-- The checksum divides a text as one number, so what two texts differ in is divided alone; a burst of up to 64 bits leaves a rest.
use Rattle.std.proofs.Common.{◌≡◌, ℕ, zero, suc, ◌+◌, ◌-◌, ◌*◌, ◌/◌, ◌%◌, ◌^◌, ◌<◌, ◌≤◌, List, [], ◌∷◌, length, bit_xor, sym, ap, ◌∙◌, arith, inl, inr, pow-add, pow_mono, pos_of_ne-zero, le-mul_of_pos_right, mul_comm}
use Rattle.std.specs.Int.Bits.{xor_assoc, xor_self, xor_zero_r, xor_shifted}
use Rattle.std.proofs.lemmas.Nat.{xor_comm, xor_lt}
use Rattle.std.proofs.lemmas.Bool.{cases_lt}
use Rattle.eql_digest.specs.Checksums.{polynomial, divided, divided_by_bits, rest_after}
use Rattle.eql_digest.specs.Laws.{AreBytes, bits_of, BurstsAreFound}
use Rattle.eql_digest.proofs.Divisions.{xor_crossed, xor_cancels, xor_none, divided_by_bits_xor, divided_by_bits_add, divided_shifted}

first_fits : (byte : ℕ) (bytes : List ℕ) → AreBytes (byte ∷ bytes) → byte < 256
first_fits byte bytes all = all 0 0 (omega arith)

others_fit : (byte : ℕ) (bytes : List ℕ) → AreBytes (byte ∷ bytes) → AreBytes bytes
others_fit byte bytes all = λ k d within. all (suc k) d (omega arith)

-- the bits of a text are below the bit behind them
bits_fit : (bytes : List ℕ) → AreBytes bytes → bits_of bytes < 2 ^ (8 * length bytes)
unfolding bits_of
bits_fit [] all = omega arith
bits_fit (byte ∷ bytes) all =
    let rest = bits_fit bytes (others_fit byte bytes all) in
    let first = first_fits byte bytes all in
    let sum : 8 * suc (length bytes) ≡ 8 + 8 * length bytes = omega arith in
    let power : 2 ^ (8 * suc (length bytes)) ≡ 2 ^ 8 * 2 ^ (8 * length bytes) = ap (λ (k : ℕ). 2 ^ k) sum ∙ pow-add 2 8 (8 * length bytes) in
    omega (arith, rest, first, power)

-- the first byte, and the others above it
first_apart : (byte bytes : ℕ) → byte < 256 → byte + bytes * 256 ≡ bit_xor byte (bytes * 2 ^ 8)
first_apart byte bytes fits =
    (let sum : byte + bytes * 256 ≡ bytes * 2 ^ 8 + byte = omega arith in sum)
    ∙ sym (xor_shifted bytes 8 byte fits) ∙ xor_comm (bytes * 2 ^ 8) byte

first_divided : (rest byte bytes : ℕ) → byte < 256 → divided_by_bits 8 (bit_xor rest (byte + bytes * 256)) ≡ bit_xor (divided_by_bits 8 (bit_xor rest byte)) bytes
first_divided rest byte bytes fits =
    ap (λ (x : ℕ). divided_by_bits 8 (bit_xor rest x)) (first_apart byte bytes fits)
    ∙ ap (divided_by_bits 8) (sym (xor_assoc rest byte (bytes * 2 ^ 8)))
    ∙ divided_by_bits_xor 8 (bit_xor rest byte) (bytes * 2 ^ 8)
    ∙ ap (bit_xor (divided_by_bits 8 (bit_xor rest byte))) (divided_shifted 8 bytes)

-- all bytes are divided off as one number
divided_at_once : (rest : ℕ) (bytes : List ℕ) → AreBytes bytes → rest_after rest bytes ≡ divided_by_bits (8 * length bytes) (bit_xor rest (bits_of bytes))
unfolding rest_after bits_of divided_by_bits
divided_at_once rest [] all = sym (xor_zero_r rest)
divided_at_once rest (byte ∷ bytes) all =
    let n : ℕ = 8 * length bytes in
    let bits : ℕ = bit_xor rest (byte + bits_of bytes * 256) in
    let sum : 8 * suc (length bytes) ≡ 8 + n = omega arith in
    divided_at_once (divided_by_bits 8 (bit_xor rest byte)) bytes (others_fit byte bytes all)
    ∙ ap (divided_by_bits n) (sym (first_divided rest byte (bits_of bytes) (first_fits byte bytes all)))
    ∙ sym (divided_by_bits_add 8 n bits)
    ∙ ap (λ (k : ℕ). divided_by_bits k bits) (sym sum)

-- a rest that is there stays there
stays_by : (half low : ℕ) → half < 2 ^ 63 → low < 2 → 0 < half + low → (0 < bit_xor half (low * polynomial)) × (bit_xor half (low * polynomial) < 2 ^ 64)
stays_by half zero fits bit there = let same : bit_xor half (0 * polynomial) ≡ half = xor_zero_r half in (omega (arith, same), omega (arith, same))
stays_by half (suc zero) fits bit there = (
  pos_of_ne-zero (λ e. let same : half ≡ polynomial = xor_none half polynomial e in omega (arith, same)),
  xor_lt 64 half polynomial (omega arith) (omega arith),
)
stays_by half (suc (suc low)) fits bit there = absurd (omega arith)

divided_stays : (bits rest : ℕ) → 0 < rest → rest < 2 ^ 64 → 0 < divided_by_bits bits rest
unfolding divided_by_bits
divided_stays zero rest there fits = there
divided_stays (suc bits) rest there fits =
    let next = stays_by (rest / 2) (rest % 2) (omega arith) (omega arith) (omega arith) in
    divided_stays bits (divided rest) next.0 next.1

-- what two texts differ in is divided to nothing where their rests are one
differ_vanishes : (ones n a b : ℕ) → divided_by_bits n (bit_xor ones a) ≡ divided_by_bits n (bit_xor ones b) → divided_by_bits n (bit_xor a b) ≡ 0
differ_vanishes ones n a b same =
    let apart : bit_xor (bit_xor ones a) (bit_xor ones b) ≡ bit_xor a b = xor_crossed ones a ones b ∙ ap (λ (x : ℕ). bit_xor x (bit_xor a b)) (xor_self ones) in
    ap (divided_by_bits n) (sym apart) ∙ divided_by_bits_xor n (bit_xor ones a) (bit_xor ones b)
    ∙ ap (λ (x : ℕ). bit_xor x (divided_by_bits n (bit_xor ones b))) same ∙ xor_self (divided_by_bits n (bit_xor ones b))

burst_stays : (n behind burst differ : ℕ) → 0 < burst → burst < 2 ^ 64 → differ ≡ burst * 2 ^ behind → differ < 2 ^ n → 0 < divided_by_bits n differ
burst_stays n behind burst differ there fits is below = elim (cases_lt behind n) [
  | inl under ↦
      let sum : n ≡ behind + (n - behind) = omega arith in
      let whole : divided_by_bits n differ ≡ divided_by_bits (n - behind) burst =
      ap (λ (k : ℕ). divided_by_bits k differ) sum ∙ divided_by_bits_add behind (n - behind) differ
      ∙ ap (λ (x : ℕ). divided_by_bits (n - behind) (divided_by_bits behind x)) is ∙ ap (divided_by_bits (n - behind)) (divided_shifted behind burst) in
      let some = divided_stays (n - behind) burst there fits in
      omega (arith, whole, some)
  | inr over ↦
      let high : 2 ^ n ≤ 2 ^ behind = pow_mono over in
      let more : 2 ^ behind ≤ 2 ^ behind * burst = le-mul_of_pos_right (2 ^ behind) there in
      let turned : 2 ^ behind * burst ≡ burst * 2 ^ behind = mul_comm (2 ^ behind) burst in
      absurd (omega (arith, high, more, turned))
]

pub bursts : BurstsAreFound
bursts bytes others all all' len differ same =
    let ones : ℕ = 2 ^ 64 - 1 in
    let n : ℕ = 8 * length bytes in
    let rests : rest_after ones bytes ≡ rest_after ones others = xor_cancels (rest_after ones bytes) (rest_after ones others) ones same in
    let length_is : 8 * length others ≡ n = omega arith in
    let at_once : rest_after ones others ≡ divided_by_bits n (bit_xor ones (bits_of others)) =
    divided_at_once ones others all' ∙ ap (λ (k : ℕ). divided_by_bits k (bit_xor ones (bits_of others))) length_is in
    let none = differ_vanishes ones n (bits_of bytes) (bits_of others) (sym (divided_at_once ones bytes all) ∙ rests ∙ at_once) in
    let fits : bits_of others < 2 ^ n = (let own = bits_fit others all' in let power : 2 ^ (8 * length others) ≡ 2 ^ n = ap (λ (k : ℕ). 2 ^ k) length_is in omega (arith, own, power)) in
    let some = burst_stays n differ.0 differ.1 (bit_xor (bits_of bytes) (bits_of others)) differ.2 differ.3 differ.4
    (xor_lt n (bits_of bytes) (bits_of others) (bits_fit bytes all) fits) in
    omega (arith, none, some)
