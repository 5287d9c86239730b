-- A text of format 4 that was changed: its checksum tells it, since all that are closed by their checksums have one checksum.
use Rattle.std.proofs.Common.{◌≡◌, inl, inr, ℕ, zero, suc, ◌+◌, ◌-◌, ◌*◌, ◌/◌, ◌%◌, ◌^◌, ◌<◌, ◌≤◌, List, [], ◌∷◌, ◌++◌, length, bit_xor, refl, sym, ap, ap₂, ◌∙◌, subst, arith, pow-add}
use Rattle.std.specs.Int.{w64, to_le_bytes}
use Rattle.std.specs.Int.Bits.{xor_assoc, xor_self, xor_zero_l, xor_shifted}
use Rattle.std.proofs.lemmas.Nat.{xor_comm, xor_shr, xor_mod}
use Rattle.std.proofs.lemmas.Bool.{cases_lt}
use Rattle.std.proofs.lemmas.List.Elements.{All-from_get_or}
use Rattle.std.proofs.Math.Pow.{pow-lt}
use Rattle.eql_digest.specs.Checksums.{divided_by_bits, rest_after, checksum_of}
use Rattle.eql_digest.specs.Laws.{AreBytes, bits_of, BurstsAreFound}
use Rattle.eql_digest.proofs.Divisions.{divided_by_bits_xor, divided_by_bits_add, divided_shifted}
use Rattle.eql_cut.specs.declared.cut.Cut.{Cut}
use Rattle.eql_cut.specs.declared.reader.Version.{Version}
use Rattle.eql_cut.specs.declared.reader.Version.TheVariants as version
use Rattle.eql_cut.specs.Formats.{IsBytes, number_text}
use Rattle.eql_cut.specs.CutValues.{cut, unclosed, closing, cut_text, number_of}
use Rattle.eql_cut.specs.Changed.{ChangesAreFound, TurnedBitsAreFound}
use Rattle.eql_cut.specs.Whole.{IsText}
use Rattle.eql_cut.proofs.Laws.{rest_is_bytes}
use Rattle.eql_cut.proofs.Closings.{checksum_fits}
use Rattle.eql_cut.proofs.WholeLaws.{front_is_bytes}

rest_after_both : (rest : ℕ) (a b : List ℕ) → rest_after rest (a ++ b) ≡ rest_after (rest_after rest a) b
unfolding rest_after
rest_after_both rest [] b = refl
rest_after_both rest (byte ∷ a) b = rest_after_both (divided_by_bits 8 (bit_xor rest byte)) a b

-- the first byte of a number is divided off
first_divided : (rest byte bits : ℕ) → byte < 256 → divided_by_bits 8 (bit_xor rest (byte + bits * 256)) ≡ bit_xor (divided_by_bits 8 (bit_xor rest byte)) bits
first_divided rest byte bits fits =
    ap (λ (x : ℕ). divided_by_bits 8 (bit_xor rest x))
    ((let sum : byte + bits * 256 ≡ bits * 2 ^ 8 + byte = omega arith in sum) ∙ sym (xor_shifted bits 8 byte fits) ∙ xor_comm (bits * 2 ^ 8) byte)
    ∙ ap (divided_by_bits 8) (sym (xor_assoc rest byte (bits * 2 ^ 8)))
    ∙ divided_by_bits_xor 8 (bit_xor rest byte) (bits * 2 ^ 8)
    ∙ ap (bit_xor (divided_by_bits 8 (bit_xor rest byte))) (divided_shifted 8 bits)

-- bytes are divided off as one number
at_once : (rest : ℕ) (bytes : List ℕ) → IsBytes bytes → rest_after rest bytes ≡ divided_by_bits (8 * length bytes) (bit_xor rest (bits_of bytes))
unfolding rest_after bits_of divided_by_bits
at_once rest [] all = sym (xor_comm rest 0 ∙ xor_zero_l rest)
at_once rest (byte ∷ bytes) all =
    let n : ℕ = 8 * length bytes in
    let bits : ℕ = bit_xor rest (byte + bits_of bytes * 256) in
    let sum : 8 * suc (length bytes) ≡ 8 + n = omega arith in
    at_once (divided_by_bits 8 (bit_xor rest byte)) bytes (λ i. all (suc i))
    ∙ ap (divided_by_bits n) (sym (first_divided rest byte (bits_of bytes) (all 0)))
    ∙ sym (divided_by_bits_add 8 n bits)
    ∙ ap (λ (k : ℕ). divided_by_bits k bits) (sym sum)

bits_of_number : (n : ℕ) → n < 2 ^ 64 → bits_of (to_le_bytes w64 n) ≡ n
unfolding bits_of
bits_of_number n fits = omega (arith, fits)

-- the checksum of each text that is closed by its own
abbrev ones : ℕ
ones = 2 ^ 64 - 1

abbrev residue : ℕ
residue = bit_xor (divided_by_bits 64 ones) ones

closed_sum : (plain : List ℕ) → IsBytes (plain ++ number_text w64 (checksum_of plain)) → checksum_of (plain ++ number_text w64 (checksum_of plain)) ≡ residue
unfolding number_text
closed_sum plain all =
    let own : IsBytes plain = front_is_bytes plain (to_le_bytes w64 (checksum_of plain)) all in
    let behind : IsBytes (to_le_bytes w64 (checksum_of plain)) = rest_is_bytes plain (to_le_bytes w64 (checksum_of plain)) all in
    let rest : ℕ = rest_after ones plain in
    let gone : bit_xor rest (bit_xor rest ones) ≡ ones = sym (xor_assoc rest rest ones) ∙ ap (λ (x : ℕ). bit_xor x ones) (xor_self rest) ∙ xor_zero_l ones in
    ap (λ (x : ℕ). bit_xor x ones)
    (rest_after_both ones plain (to_le_bytes w64 (checksum_of plain))
    ∙ at_once rest (to_le_bytes w64 (checksum_of plain)) behind
    ∙ ap (λ (x : ℕ). divided_by_bits 64 (bit_xor rest x)) (bits_of_number (checksum_of plain) (checksum_fits plain own))
    ∙ ap (divided_by_bits 64) gone)

sum_by : (v : Version) (c : Cut) (bytes : List ℕ) → number_of v ≡ 4 → IsBytes bytes → bytes ≡ cut_text v c → checksum_of bytes ≡ residue
sum_by version.One c bytes is all spelt = absurd (omega (arith, is))
sum_by version.Two c bytes is all spelt = absurd (omega (arith, is))
sum_by version.Three c bytes is all spelt = absurd (omega (arith, is))
sum_by version.Four c bytes is all spelt = ap (λ (b : List ℕ). checksum_of b) spelt ∙ closed_sum (unclosed.text (version.Four, c)) (subst IsBytes spelt all)

each : (bytes : List ℕ) → IsBytes bytes → AreBytes bytes
each bytes all = All-from_get_or (λ byte. byte < 256) bytes 0 (λ i lt. all i)

pub changes : BurstsAreFound → ChangesAreFound
changes bursts c d bytes others all all' len differ is other =
    bursts bytes others (each bytes all) (each others all') len differ
    (sum_by is.version c bytes is.number all is.spelt ∙ sym (sum_by other.version d others other.number all' other.spelt))

-- the fifth byte of a text is the number of its format
number_fits : (v : Version) → number_of v < 256
number_fits version.One = omega arith
number_fits version.Two = omega arith
number_fits version.Three = omega arith
number_fits version.Four = omega arith

fifth_of : (n : ℕ) (bytes : List ℕ) → n < 256 → bits_of (0x45 ∷ 0x51 ∷ 0x4c ∷ 0x43 ∷ n ∷ bytes) / 2 ^ 32 % 2 ^ 8 ≡ n
unfolding bits_of
fifth_of n bytes fits = omega (arith, fits)

fifth : (v : Version) (c : Cut) (bytes : List ℕ) → bytes ≡ cut_text v c → bits_of bytes / 2 ^ 32 % 2 ^ 8 ≡ number_of v
fifth v c bytes spelt =
    ap (λ (b : List ℕ). bits_of b / 2 ^ 32 % 2 ^ 8) spelt ∙ fifth_of (number_of v) ((cut v).text c ++ (closing v (unclosed.text (v, c))).text tt) (number_fits v)

-- the bits of one byte, where one bit of all is turned round
byte_of_bit : (a b bit m n : ℕ) → bit_xor a b ≡ 2 ^ bit → a / 2 ^ 32 % 2 ^ 8 ≡ m → b / 2 ^ 32 % 2 ^ 8 ≡ n → bit_xor m n ≡ 2 ^ bit / 2 ^ 32 % 2 ^ 8
byte_of_bit a b bit m n differ am bn =
    ap₂ bit_xor (sym am) (sym bn) ∙ sym (xor_mod (a / 2 ^ 32) (b / 2 ^ 32) 8) ∙ ap (λ (x : ℕ). x % 2 ^ 8) (sym (xor_shr a b 32) ∙ ap (λ (x : ℕ). x / 2 ^ 32) differ)

-- no bit of a byte is 5, 6 or 7
abbrev IsFiveToSeven : ℕ → Type 0
IsFiveToSeven m = (5 ≤ m) × (m ≤ 7)

low_bit : (bit : ℕ) → bit < 8 → IsFiveToSeven (2 ^ bit % 2 ^ 8) → ⊥
low_bit zero lt is = omega (arith, is.0, is.1)
low_bit (suc zero) lt is = omega (arith, is.0, is.1)
low_bit (suc (suc zero)) lt is = omega (arith, is.0, is.1)
low_bit (suc (suc (suc zero))) lt is = omega (arith, is.0, is.1)
low_bit (suc (suc (suc (suc zero)))) lt is = omega (arith, is.0, is.1)
low_bit (suc (suc (suc (suc (suc zero))))) lt is = omega (arith, is.0, is.1)
low_bit (suc (suc (suc (suc (suc (suc zero)))))) lt is = omega (arith, is.0, is.1)
low_bit (suc (suc (suc (suc (suc (suc (suc zero))))))) lt is = omega (arith, is.0, is.1)
low_bit (suc (suc (suc (suc (suc (suc (suc (suc bit)))))))) lt is = omega (arith, lt)

behind_byte : (bit : ℕ) → 8 ≤ bit → 2 ^ bit % 2 ^ 8 ≡ 0
behind_byte bit over =
    let sum : bit ≡ 8 + (bit - 8) = omega arith in
    let power : 2 ^ bit ≡ 2 ^ 8 * 2 ^ (bit - 8) = ap (λ (k : ℕ). 2 ^ k) sum ∙ pow-add 2 8 (bit - 8) in
    omega (arith, power)

own_bit : (bit : ℕ) → IsFiveToSeven (2 ^ bit % 2 ^ 8) → ⊥
own_bit bit is = elim (cases_lt bit 8) [
  | inl under ↦ low_bit bit under is
  | inr over ↦ let none = behind_byte bit over in omega (arith, none, is.0)
]

some_bit : (bit : ℕ) → IsFiveToSeven (2 ^ bit / 2 ^ 32 % 2 ^ 8) → ⊥
some_bit bit is = elim (cases_lt bit 32) [
  | inl under ↦ let low = pow-lt under in omega (arith, low, is.0)
  | inr over ↦
      let sum : bit ≡ 32 + (bit - 32) = omega arith in
      let power : 2 ^ bit ≡ 2 ^ 32 * 2 ^ (bit - 32) = ap (λ (k : ℕ). 2 ^ k) sum ∙ pow-add 2 32 (bit - 32) in
      let moved : 2 ^ bit / 2 ^ 32 ≡ 2 ^ (bit - 32) = omega (arith, power) in
      own_bit (bit - 32) (subst (λ (x : ℕ). IsFiveToSeven (x % 2 ^ 8)) moved is)
]

module _ (bursts : BurstsAreFound) (c : Cut) (bytes others : List ℕ) (all : IsBytes bytes) (all' : IsBytes others) (len : length bytes ≡ length others) (bit : ℕ)
    (differ : bit_xor (bits_of bytes) (bits_of others) ≡ 2 ^ bit) (is : IsText 4 c bytes) where
  told : (v : Version) (d : Cut) → others ≡ cut_text v d → IsFiveToSeven (bit_xor 4 (number_of v)) → ⊥
  told v d spelt apart =
      let byte = byte_of_bit (bits_of bytes) (bits_of others) bit 4 (number_of v) differ (fifth is.version c bytes is.spelt ∙ is.number) (fifth v d others spelt) in
      some_bit bit (subst IsFiveToSeven byte apart)

  turned_by : (v : Version) (d : Cut) → (cut v).Fits d → others ≡ cut_text v d → ⊥
  turned_by version.One d fits spelt = told version.One d spelt (omega arith, omega arith)
  turned_by version.Two d fits spelt = told version.Two d spelt (omega arith, omega arith)
  turned_by version.Three d fits spelt = told version.Three d spelt (omega arith, omega arith)
  turned_by version.Four d fits spelt =
      let alone : bit_xor (bits_of bytes) (bits_of others) ≡ 1 * 2 ^ bit = differ ∙ (let once : 2 ^ bit ≡ 1 * 2 ^ bit = omega arith in once) in
      changes bursts c d bytes others all all' len (bit, 1, omega arith, omega arith, alone) is (record { version = version.Four; number = refl; fits = fits; spelt = spelt })

pub turned : BurstsAreFound → TurnedBitsAreFound
turned bursts c bytes others all all' len differ is = λ n d t. turned_by bursts c bytes others all all' len differ.0 differ.1 is t.version d t.fits t.spelt
