-- Whole words that a digest takes, eight bytes at once, and blocks of eight words.
use Rattle.std.proofs.Common.{◌≡◌, ℕ, zero, suc, ◌+◌, ◌-◌, ◌*◌, ◌%◌, ◌^◌, ◌<◌, ◌≤◌, List, [], ◌∷◌, ◌++◌, length, take, drop, get_or, refl, sym, ap, ap₂, ◌∙◌, arith, w64, take-add, drop-drop, length-drop, length-take-le, get_or-take, get_or-drop, mod-eq_of_lt, length-take, take_all, inl, inr}
use Rattle.std.proofs.lemmas.List.{get_or_past}
use Rattle.std.proofs.lemmas.Bool.{cases_lt}
use Rattle.std.specs.Int.{from_le_bytes}
use Rattle.std.proofs.lemmas.Nat.{mul-add-lt}
use Rattle.eql_digest.specs.declared.digest.Digest.{Digest}
use Rattle.eql_digest.specs.Digests.{turned, with_word, word_with, with_byte, with_bytes}
use Rattle.eql_digest.specs.Words.{lanes_after}
use Rattle.eql_digest.proofs.Taking.{with_bytes_append, whole_word, part_word}

-- the digest with these lanes, this word, and so many bytes
abbrev pub made : List ℕ → ℕ → ℕ → Digest
made lanes word bytes = record { lanes = lanes; word = word; length = bytes }

word_placed : (lanes : List ℕ) (n word byte j p : ℕ) → n % 8 ≡ j → 2 ^ (8 * j) ≡ p → p * 256 ≤ 2 ^ 64 → word < p → byte < 256
    → word_with (made lanes word n) byte ≡ word + byte * p
word_placed lanes n word byte j p at power fits below byte_fits =
    let is_power : 2 ^ (8 * (n % 8)) ≡ p = ap (λ (k : ℕ). 2 ^ (8 * k)) at ∙ power in
    let small : byte * p + word < p * 256 = mul-add-lt byte p word 256 byte_fits below in
    ap (λ (x : ℕ). (word + byte * x) % 2 ^ 64) is_power ∙ mod-eq_of_lt (omega (arith, small))

-- a byte that is one of the first seven of a word
part : (lanes : List ℕ) (n word byte j p : ℕ) → n % 8 ≡ 0 → j < 7 → 2 ^ (8 * j) ≡ p → p * 256 ≤ 2 ^ 64 → word < p → byte < 256
    → with_byte (made lanes word ((n + j) % 2 ^ 64)) byte ≡ made lanes (word + byte * p) ((n + (j + 1)) % 2 ^ 64)
part lanes n word byte j p at low power fits below byte_fits =
    let place : (n + j) % 2 ^ 64 % 8 ≡ j = omega arith in
    let more : ((n + j) % 2 ^ 64 + 1) % 2 ^ 64 ≡ (n + (j + 1)) % 2 ^ 64 = omega arith in
    part_word (made lanes word ((n + j) % 2 ^ 64)) byte (λ e. omega (arith, e, place))
    ∙ ap₂ (λ (x y : ℕ). made lanes x y) (word_placed lanes ((n + j) % 2 ^ 64) word byte j p place power fits below byte_fits) more

-- the eighth
last : (lanes : List ℕ) (n word byte : ℕ) → n % 8 ≡ 0 → word < 2 ^ 56 → byte < 256
    → with_byte (made lanes word ((n + 7) % 2 ^ 64)) byte ≡ made (with_word lanes (word + byte * 2 ^ 56)) 0 ((n + 8) % 2 ^ 64)
last lanes n word byte at below byte_fits =
    let place : (n + 7) % 2 ^ 64 % 8 ≡ 7 = omega arith in
    let more : ((n + 7) % 2 ^ 64 + 1) % 2 ^ 64 ≡ (n + 8) % 2 ^ 64 = omega arith in
    whole_word (made lanes word ((n + 7) % 2 ^ 64)) byte place
    ∙ ap₂ (λ (x y : ℕ). made (with_word lanes x) 0 y) (word_placed lanes ((n + 7) % 2 ^ 64) word byte 7 (2 ^ 56) place refl (omega arith) below byte_fits) more

eight : (lanes : List ℕ) (n a b c d e f g h : ℕ) → n % 8 ≡ 0 → n < 2 ^ 64
    → a < 256 → b < 256 → c < 256 → d < 256 → e < 256 → f < 256 → g < 256 → h < 256
    → with_bytes (made lanes 0 n) (a ∷ b ∷ c ∷ d ∷ e ∷ f ∷ g ∷ h ∷ []) ≡ made (with_word lanes (from_le_bytes w64 (a ∷ b ∷ c ∷ d ∷ e ∷ f ∷ g ∷ h ∷ []))) 0 ((n + 8) % 2 ^ 64)
unfolding with_bytes
eight lanes n a b c d e f g h at fits fa fb fc fd fe ff fg fh =
    let begin : made lanes 0 n ≡ made lanes 0 ((n + 0) % 2 ^ 64) = ap (made lanes 0) (let same : n ≡ (n + 0) % 2 ^ 64 = omega arith in same) in
    let w1 : ℕ = 0 + a * 2 ^ 0 in
    let w2 : ℕ = w1 + b * 2 ^ 8 in
    let w3 : ℕ = w2 + c * 2 ^ 16 in
    let w4 : ℕ = w3 + d * 2 ^ 24 in
    let w5 : ℕ = w4 + e * 2 ^ 32 in
    let w6 : ℕ = w5 + f * 2 ^ 40 in
    let w7 : ℕ = w6 + g * 2 ^ 48 in
    let s1 : with_byte (made lanes 0 n) a ≡ made lanes w1 ((n + 1) % 2 ^ 64) = ap (λ (s : Digest). with_byte s a) begin ∙ part lanes n 0 a 0 (2 ^ 0) at (omega arith) refl (omega arith) (omega arith) fa in
    let s2 : with_byte (made lanes w1 ((n + 1) % 2 ^ 64)) b ≡ made lanes w2 ((n + 2) % 2 ^ 64) = part lanes n w1 b 1 (2 ^ 8) at (omega arith) refl (omega arith) (omega arith) fb in
    let s3 : with_byte (made lanes w2 ((n + 2) % 2 ^ 64)) c ≡ made lanes w3 ((n + 3) % 2 ^ 64) = part lanes n w2 c 2 (2 ^ 16) at (omega arith) refl (omega arith) (omega arith) fc in
    let s4 : with_byte (made lanes w3 ((n + 3) % 2 ^ 64)) d ≡ made lanes w4 ((n + 4) % 2 ^ 64) = part lanes n w3 d 3 (2 ^ 24) at (omega arith) refl (omega arith) (omega arith) fd in
    let s5 : with_byte (made lanes w4 ((n + 4) % 2 ^ 64)) e ≡ made lanes w5 ((n + 5) % 2 ^ 64) = part lanes n w4 e 4 (2 ^ 32) at (omega arith) refl (omega arith) (omega arith) fe in
    let s6 : with_byte (made lanes w5 ((n + 5) % 2 ^ 64)) f ≡ made lanes w6 ((n + 6) % 2 ^ 64) = part lanes n w5 f 5 (2 ^ 40) at (omega arith) refl (omega arith) (omega arith) ff in
    let s7 : with_byte (made lanes w6 ((n + 6) % 2 ^ 64)) g ≡ made lanes w7 ((n + 7) % 2 ^ 64) = part lanes n w6 g 6 (2 ^ 48) at (omega arith) refl (omega arith) (omega arith) fg in
    let s8 = last lanes n w7 h at (omega arith) fh in
    let word : w7 + h * 2 ^ 56 ≡ from_le_bytes w64 (a ∷ b ∷ c ∷ d ∷ e ∷ f ∷ g ∷ h ∷ []) = omega arith in
    ap (λ (s : Digest). with_bytes s (b ∷ c ∷ d ∷ e ∷ f ∷ g ∷ h ∷ [])) s1
    ∙ ap (λ (s : Digest). with_bytes s (c ∷ d ∷ e ∷ f ∷ g ∷ h ∷ [])) s2
    ∙ ap (λ (s : Digest). with_bytes s (d ∷ e ∷ f ∷ g ∷ h ∷ [])) s3
    ∙ ap (λ (s : Digest). with_bytes s (e ∷ f ∷ g ∷ h ∷ [])) s4
    ∙ ap (λ (s : Digest). with_bytes s (f ∷ g ∷ h ∷ [])) s5
    ∙ ap (λ (s : Digest). with_bytes s (g ∷ h ∷ [])) s6
    ∙ ap (λ (s : Digest). with_bytes s (h ∷ [])) s7
    ∙ s8
    ∙ ap (λ (x : ℕ). made (with_word lanes x) 0 ((n + 8) % 2 ^ 64)) word

-- eight bytes are taken as their word
one_word : (lanes bytes : List ℕ) (n : ℕ) → n % 8 ≡ 0 → n < 2 ^ 64 → length bytes ≡ 8 → ((k : ℕ) → get_or bytes k 0 < 256)
    → with_bytes (made lanes 0 n) bytes ≡ made (with_word lanes (from_le_bytes w64 bytes)) 0 ((n + 8) % 2 ^ 64)
one_word lanes (a ∷ b ∷ c ∷ d ∷ e ∷ f ∷ g ∷ h ∷ []) n at fits len are =
    eight lanes n a b c d e f g h at fits (are 0) (are 1) (are 2) (are 3) (are 4) (are 5) (are 6) (are 7)
one_word lanes bytes n at fits len are = absurd (omega arith)

-- some bytes of a text, from a place on, are bytes
part_fits : (bytes : List ℕ) (at count : ℕ) → ((k : ℕ) → get_or bytes k 0 < 256) → (k : ℕ) → get_or (take count (drop at bytes)) k 0 < 256
part_fits bytes at count are k = elim (cases_lt k count) [
  | inl under ↦ let here = are (at + k) in omega (arith, here, get_or-take count (drop at bytes) k 0 under, get_or-drop at bytes k 0)
  | inr over ↦
      let none = get_or_past (take count (drop at bytes)) k 0 (omega (arith, length-take count (drop at bytes))) in
      omega (arith, none)
]

-- words are taken one after the other
pub words_taken : (words : ℕ) (lanes bytes : List ℕ) (n at : ℕ) → n % 8 ≡ 0 → n < 2 ^ 64 → at + 8 * words ≤ length bytes → ((k : ℕ) → get_or bytes k 0 < 256)
    → with_bytes (made lanes 0 n) (take (8 * words) (drop at bytes)) ≡ made (lanes_after lanes bytes at words) 0 ((n + 8 * words) % 2 ^ 64)
unfolding with_bytes lanes_after
words_taken zero lanes bytes n at whole fits within are = ap (made lanes 0) (let same : n ≡ (n + 0) % 2 ^ 64 = omega arith in same)
words_taken (suc words) lanes bytes n at whole fits within are =
    let first : List ℕ = take 8 (drop at bytes) in
    let sum : 8 * suc words ≡ 8 + 8 * words = omega arith in
    let parts : take (8 * suc words) (drop at bytes) ≡ first ++ take (8 * words) (drop (at + 8) bytes) =
    ap (λ (k : ℕ). take k (drop at bytes)) sum ∙ take-add 8 (8 * words) (drop at bytes) ∙ ap (λ (x : List ℕ). first ++ take (8 * words) x) (drop-drop 8 at bytes) in
    let len : length first ≡ 8 = length-take-le 8 (drop at bytes) (omega (arith, length-drop at bytes)) in
    let bytes_fit : (k : ℕ) → get_or first k 0 < 256 = part_fits bytes at 8 are in
    let m : ℕ = (n + 8) % 2 ^ 64 in
    let more : (m + 8 * words) % 2 ^ 64 ≡ (n + 8 * suc words) % 2 ^ 64 = omega arith in
    ap (with_bytes (made lanes 0 n)) parts
    ∙ with_bytes_append (made lanes 0 n) first (take (8 * words) (drop (at + 8) bytes))
    ∙ ap (λ (s : Digest). with_bytes s (take (8 * words) (drop (at + 8) bytes))) (one_word lanes first n whole fits len bytes_fit)
    ∙ words_taken words (with_word lanes (from_le_bytes w64 first)) bytes m (at + 8) (omega arith) (omega arith) (omega arith) are
    ∙ ap (made (lanes_after (with_word lanes (from_le_bytes w64 first)) bytes (at + 8) words) 0) more

-- the lanes after eight words
pub eight_words : (lanes bytes : List ℕ) → length lanes ≡ 8
    → turned (get_or lanes 0 0) (from_le_bytes w64 (take 8 (drop 0 bytes)))
    ∷ turned (get_or lanes 1 0) (from_le_bytes w64 (take 8 (drop 8 bytes)))
    ∷ turned (get_or lanes 2 0) (from_le_bytes w64 (take 8 (drop 16 bytes)))
    ∷ turned (get_or lanes 3 0) (from_le_bytes w64 (take 8 (drop 24 bytes)))
    ∷ turned (get_or lanes 4 0) (from_le_bytes w64 (take 8 (drop 32 bytes)))
    ∷ turned (get_or lanes 5 0) (from_le_bytes w64 (take 8 (drop 40 bytes)))
    ∷ turned (get_or lanes 6 0) (from_le_bytes w64 (take 8 (drop 48 bytes)))
    ∷ turned (get_or lanes 7 0) (from_le_bytes w64 (take 8 (drop 56 bytes))) ∷ []
    ≡ lanes_after lanes bytes 0 8
unfolding lanes_after with_word
eight_words (a ∷ b ∷ c ∷ d ∷ e ∷ f ∷ g ∷ h ∷ []) bytes len = refl
eight_words lanes bytes len = absurd (omega arith)

-- the first lane takes a word and goes behind the others
pub first_turns : (lanes : List ℕ) (lane word : ℕ) → length lanes ≡ 8 → lane ≡ turned (get_or lanes 0 0) word
    → get_or lanes 1 0 ∷ get_or lanes 2 0 ∷ get_or lanes 3 0 ∷ get_or lanes 4 0 ∷ get_or lanes 5 0 ∷ get_or lanes 6 0 ∷ get_or lanes 7 0 ∷ lane ∷ []
    ≡ with_word lanes word
unfolding with_word
first_turns (a ∷ b ∷ c ∷ d ∷ e ∷ f ∷ g ∷ h ∷ []) lane word len is = rw is refl
first_turns lanes lane word len is = absurd (omega arith)

-- a byte that is moved to its place in the word
pub word_is : (digest : Digest) (byte : ℕ) → (digest.word + byte * 2 ^ (8 * (digest.length % 8)) % 2 ^ 64) % 2 ^ 64 ≡ word_with digest byte
word_is digest byte = omega arith

-- one more block
pub blocks_taken : (digest : Digest) (bytes lanes next : List ℕ) (i : ℕ) → i * 64 + 64 ≤ length bytes
    → (0 < length bytes → digest.length % 8 ≡ 0) → (0 < length bytes → digest.word ≡ 0) → ((k : ℕ) → get_or bytes k 0 < 256)
    → with_bytes digest (take (i * 64) bytes) ≡ made lanes digest.word ((digest.length + i * 64) % 2 ^ 64)
    → next ≡ lanes_after lanes (take (i * 64 + 64 - i * 64) (drop (i * 64) bytes)) 0 8
    → with_bytes digest (take ((i + 1) * 64) bytes) ≡ made next digest.word ((digest.length + (i + 1) * 64) % 2 ^ 64)
blocks_taken digest bytes lanes next i within at between are before is =
    let n : ℕ = (digest.length + i * 64) % 2 ^ 64 in
    let block : List ℕ = take 64 (drop (i * 64) bytes) in
    let width : i * 64 + 64 - i * 64 ≡ 64 = omega arith in
    let sum : (i + 1) * 64 ≡ i * 64 + 64 = omega arith in
    let empty : digest.word ≡ 0 = between (omega arith) in
    let aligned : digest.length % 8 ≡ 0 = at (omega arith) in
    let len : length block ≡ 64 = length-take-le 64 (drop (i * 64) bytes) (omega (arith, length-drop (i * 64) bytes)) in
    let whole : take (8 * 8) (drop 0 block) ≡ block = take_all 64 block (omega arith) in
    let words = words_taken 8 lanes block n 0 (omega arith) (omega arith) (omega arith) (part_fits bytes (i * 64) 64 are) in
    let more : (n + 8 * 8) % 2 ^ 64 ≡ (digest.length + (i + 1) * 64) % 2 ^ 64 = omega arith in
    let lanes_are : lanes_after lanes block 0 8 ≡ next = ap (λ (k : ℕ). lanes_after lanes (take k (drop (i * 64) bytes)) 0 8) (sym width) ∙ sym is in
    ap (λ (k : ℕ). with_bytes digest (take k bytes)) sum
    ∙ ap (with_bytes digest) (take-add (i * 64) 64 bytes)
    ∙ with_bytes_append digest (take (i * 64) bytes) block
    ∙ ap (λ (s : Digest). with_bytes s block) before
    ∙ ap (λ (w : ℕ). with_bytes (made lanes w n) block) empty
    ∙ ap (with_bytes (made lanes 0 n)) (sym whole)
    ∙ words
    ∙ ap₂ (λ (x : List ℕ) (y : ℕ). made x 0 y) lanes_are more
    ∙ ap (λ (w : ℕ). made next w ((digest.length + (i + 1) * 64) % 2 ^ 64)) (sym empty)
