-- What closes a text has a spelling, and is read from what is left behind the bytes before it.
use Rattle.std.proofs.Common.{ℕ, zero, suc, ◌-◌, ◌*◌, ◌/◌, ◌%◌, ◌^◌, ◌<◌, List, [], ◌∷◌, bit_xor, refl, arith}
use Rattle.std.proofs.lemmas.Nat.{xor_lt}
use Rattle.std.proofs.lemmas.Bool.{eq-eqb}
use Rattle.eql_digest.specs.Checksums.{polynomial, divided, divided_by_bits, rest_after, checksum_of}
use Rattle.eql_cut.specs.declared.reader.Version.{Version}
use Rattle.eql_cut.specs.declared.reader.Version.TheVariants as version
use Rattle.eql_cut.specs.Formats.{IsBytes}
use Rattle.eql_cut.specs.CutValues.{closing}

divided_fits : (rest : ℕ) → rest < 2 ^ 64 → divided rest < 2 ^ 64
divided_fits rest fits = xor_lt 64 (rest / 2) (rest % 2 * polynomial) (omega arith) (omega arith)

divided_by_bits_fits : (bits rest : ℕ) → rest < 2 ^ 64 → divided_by_bits bits rest < 2 ^ 64
unfolding divided_by_bits
divided_by_bits_fits zero rest fits = fits
divided_by_bits_fits (suc bits) rest fits = divided_by_bits_fits bits (divided rest) (divided_fits rest fits)

rest_fits : (rest : ℕ) (bytes : List ℕ) → IsBytes bytes → rest < 2 ^ 64 → rest_after rest bytes < 2 ^ 64
unfolding rest_after
rest_fits rest [] all fits = fits
rest_fits rest (byte ∷ bytes) all fits =
    rest_fits (divided_by_bits 8 (bit_xor rest byte)) bytes (λ i. all (suc i)) (divided_by_bits_fits 8 (bit_xor rest byte) (xor_lt 64 rest byte fits (let small = all 0 in omega (arith, small))))

pub checksum_fits : (bytes : List ℕ) → IsBytes bytes → checksum_of bytes < 2 ^ 64
checksum_fits bytes all = xor_lt 64 (rest_after (2 ^ 64 - 1) bytes) (2 ^ 64 - 1) (rest_fits (2 ^ 64 - 1) bytes all (omega arith)) (omega arith)

pub closing_fits : (v : Version) (bytes : List ℕ) → IsBytes bytes → (closing v bytes).Fits tt
closing_fits version.One bytes all = tt
closing_fits version.Two bytes all = tt
closing_fits version.Three bytes all = tt
closing_fits version.Four bytes all = ((checksum_fits bytes all, eq-eqb (checksum_of bytes) (checksum_of bytes) refl), refl)
