-- The digest of bytes. A word is eight of them, low byte first. Eight lanes take the words in turn, and at the end one more lane takes theirs.
use Rattle.std.specs.Prelude.{◌≡◌, ℕ, ◌+◌, ◌*◌, ◌/◌, ◌%◌, ◌^◌, List, [], ◌∷◌, ◌++◌, bit_xor, if◌then◌else◌, nat_eq}
use Rattle.eql_digest.specs.declared.digest.Digest.{Digest}

-- an odd number: 2 ^ 64 by the golden ratio
abbrev pub factor : ℕ
factor = 0x9E3779B97F4A7C15

-- a lane that has taken a word: its upper bits come to its lower ones, and the factor brings the lower ones up
abbrev pub turned : ℕ → ℕ → ℕ
turned lane word = bit_xor (bit_xor lane word) (bit_xor lane word / 2 ^ 37) * factor % 2 ^ 64

-- the first lane takes a word, and goes behind the others
unfoldable pub with_word : List ℕ → ℕ → List ℕ
with_word [] word = []
with_word (lane ∷ others) word = others ++ turned lane word ∷ []

-- a byte goes to its place in the word; the eighth makes it whole
abbrev pub word_with : Digest → ℕ → ℕ
word_with digest byte = (digest.word + byte * 2 ^ (8 * (digest.length % 8))) % 2 ^ 64

unfoldable pub with_byte : Digest → ℕ → Digest
with_byte digest byte =
    if nat_eq (digest.length % 8) 7
    then record { lanes = with_word digest.lanes (word_with digest byte); word = 0; length = (digest.length + 1) % 2 ^ 64 }
    else record { lanes = digest.lanes; word = word_with digest byte; length = (digest.length + 1) % 2 ^ 64 }

-- bytes are taken one by one
unfoldable pub with_bytes : Digest → List ℕ → Digest
with_bytes digest [] = digest
with_bytes digest (byte ∷ bytes) = with_bytes (with_byte digest byte) bytes

-- the lanes begin as the eight words with which SHA-512 begins (FIPS 180-4, 5.3.5)
abbrev pub start : Digest
start = record {
  lanes = 0x6A09E667F3BCC908 ∷ 0xBB67AE8584CAA73B ∷ 0x3C6EF372FE94F82B ∷ 0xA54FF53A5F1D36F1 ∷ 0x510E527FADE682D1 ∷ 0x9B05688C2B3E6C1F ∷ 0x1F83D9ABFB41BD6B ∷ 0x5BE0CD19137E2179 ∷ [];
  word = 0;
  length = 0;
}

-- the digest is of these bytes
abbrev pub IsDigestOf : Digest → List ℕ → Type 0
IsDigestOf digest bytes = digest ≡ with_bytes start bytes

-- one lane takes words one by one
unfoldable pub mixed : ℕ → List ℕ → ℕ
mixed lane [] = lane
mixed lane (word ∷ words) = mixed (turned lane word) words

-- what a digest comes to: a last lane takes the lanes, the bytes behind the last whole word, and the length
abbrev pub value_of : Digest → ℕ
value_of digest = mixed 0 (digest.lanes ++ digest.word ∷ digest.length ∷ [])

abbrev pub digest_of : List ℕ → ℕ
digest_of bytes = value_of (with_bytes start bytes)
