-- What the checksum and the digest tell for certain.
use Rattle.std.specs.Prelude.{◌≡◌, ◌≢◌, ℕ, ◌+◌, ◌*◌, ◌^◌, ◌<◌, List, [], ◌∷◌, ◌++◌, length, All, bit_xor}
use Rattle.eql_digest.specs.Checksums.{checksum_of}
use Rattle.eql_digest.specs.Digests.{digest_of}

abbrev pub AreBytes : List ℕ → Type 0
AreBytes bytes = All (λ byte. byte < 256) bytes

-- the bits of a text as one number, the lowest bit of its first byte as the lowest
unfoldable pub bits_of : List ℕ → ℕ
bits_of [] = 0
bits_of (byte ∷ bytes) = byte + bits_of bytes * 256

-- the bits that two texts differ in: up to 64 in a row, behind some that are alike
abbrev pub DifferInBurst : List ℕ → List ℕ → Type 0
DifferInBurst bytes others =
    (behind burst : ℕ) × (0 < burst) × (burst < 2 ^ 64) × (bit_xor (bits_of bytes) (bits_of others) ≡ burst * 2 ^ behind)

-- two texts of one length that differ within 64 bits in a row have two checksums
abbrev pub BurstsAreFound : Type 0
BurstsAreFound = (bytes others : List ℕ) → AreBytes bytes → AreBytes others → length bytes ≡ length others → DifferInBurst bytes others
    → checksum_of bytes ≢ checksum_of others

-- two texts that differ in one byte have two digests
abbrev pub ChangedBytesAreFound : Type 0
ChangedBytesAreFound = (front back : List ℕ) (byte other : ℕ) → byte < 256 → other < 256 → byte ≢ other
    → digest_of (front ++ byte ∷ back) ≢ digest_of (front ++ other ∷ back)
