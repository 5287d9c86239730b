-- Bytes that a digest takes one by one: over two lists, its length, and what its word is between two words.
use Rattle.std.proofs.Common.{◌≡◌, ◌≢◌, ℕ, ◌+◌, ◌%◌, ◌^◌, ◌<◌, List, [], ◌∷◌, ◌++◌, length, true, false, nat_eq, refl, ap, arith, inl, inr}
use Rattle.std.proofs.lemmas.Bool.{cases_eq}
use Rattle.std.proofs.lemmas.Bool.Decides.{nat_tests}
use Rattle.eql_digest.specs.declared.digest.Digest.{Digest}
use Rattle.eql_digest.specs.Digests.{turned, with_word, word_with, with_byte, with_bytes, start, mixed}

pub with_bytes_append : (digest : Digest) (some more : List ℕ) → with_bytes digest (some ++ more) ≡ with_bytes (with_bytes digest some) more
unfolding with_bytes
with_bytes_append digest [] more = refl
with_bytes_append digest (byte ∷ some) more = with_bytes_append (with_byte digest byte) some more

pub with_bytes_more : (digest : Digest) (bytes : List ℕ) (byte : ℕ) → with_bytes digest (bytes ++ byte ∷ []) ≡ with_byte (with_bytes digest bytes) byte
unfolding with_bytes
with_bytes_more digest bytes byte = with_bytes_append digest bytes (byte ∷ [])

-- the byte that makes a word whole
pub whole_word : (digest : Digest) (byte : ℕ) → digest.length % 8 ≡ 7
    → with_byte digest byte ≡ record { lanes = with_word digest.lanes (word_with digest byte); word = 0; length = (digest.length + 1) % 2 ^ 64 }
unfolding with_byte
whole_word digest byte at = let yes : nat_eq (digest.length % 8) 7 ≡ true = grind (arith, nat_tests) in rw yes refl

-- a byte that doesn't
pub part_word : (digest : Digest) (byte : ℕ) → digest.length % 8 ≢ 7
    → with_byte digest byte ≡ record { lanes = digest.lanes; word = word_with digest byte; length = (digest.length + 1) % 2 ^ 64 }
unfolding with_byte
part_word digest byte at = let no : nat_eq (digest.length % 8) 7 ≡ false = grind (arith, nat_tests) in rw no refl

pub length_with_byte : (digest : Digest) (byte : ℕ) → (with_byte digest byte).length ≡ (digest.length + 1) % 2 ^ 64
length_with_byte digest byte = elim (cases_eq (digest.length % 8) 7) [
  | inl at ↦ ap (λ (d : Digest). d.length) (whole_word digest byte at)
  | inr at ↦ ap (λ (d : Digest). d.length) (part_word digest byte at)
]

pub length_with_bytes : (digest : Digest) (bytes : List ℕ) → digest.length < 2 ^ 64 → (with_bytes digest bytes).length ≡ (digest.length + length bytes) % 2 ^ 64
unfolding with_bytes
length_with_bytes digest [] fits = omega arith
length_with_bytes digest (byte ∷ bytes) fits =
    let one = length_with_byte digest byte in
    let rest = length_with_bytes (with_byte digest byte) bytes (omega (arith, one)) in
    omega (arith, one, rest)

-- between two words there are no bytes in the word
abbrev pub IsBetween : Digest → Type 0
IsBetween digest = digest.length % 8 ≡ 0 → digest.word ≡ 0

between_with_byte : (digest : Digest) (byte : ℕ) → IsBetween (with_byte digest byte)
between_with_byte digest byte zero_at = elim (cases_eq (digest.length % 8) 7) [
  | inl at ↦ ap (λ (d : Digest). d.word) (whole_word digest byte at)
  | inr at ↦ let one = length_with_byte digest byte in absurd (omega (arith, one, zero_at, at))
]

between_with_bytes : (digest : Digest) (bytes : List ℕ) → IsBetween digest → IsBetween (with_bytes digest bytes)
unfolding with_bytes
between_with_bytes digest [] between = between
between_with_bytes digest (byte ∷ bytes) between = between_with_bytes (with_byte digest byte) bytes (between_with_byte digest byte)

pub between_from_start : (bytes : List ℕ) → IsBetween (with_bytes start bytes)
between_from_start bytes = between_with_bytes start bytes (λ _. refl)

pub mixed_append : (lane : ℕ) (some more : List ℕ) → mixed lane (some ++ more) ≡ mixed (mixed lane some) more
unfolding mixed
mixed_append lane [] more = refl
mixed_append lane (word ∷ some) more = mixed_append (turned lane word) some more
