-- Two digests that differ in one place: in the word, or in one lane. More bytes leave them so, and their values differ.
use Rattle.std.proofs.Common.{◌≡◌, ◌≢◌, ◌⊎◌, ℕ, ◌+◌, ◌*◌, ◌/◌, ◌%◌, ◌^◌, ◌<◌, ◌≤◌, List, [], ◌∷◌, ◌++◌, length, bit_xor, refl, sym, ap, ap₂, ◌∙◌, arith, inl, inr, pow_mono, length-append, subst, subst₂, mul-div_cancel, pow_pos, pow-add}
use Rattle.std.specs.Int.Bits.{xor_self}
use Rattle.std.proofs.lemmas.Nat.{xor_shr, xor_lt, mul-mod_first, mul-add-lt}
use Rattle.std.proofs.lemmas.Bool.{cases_eq}
use Rattle.eql_digest.specs.declared.digest.Digest.{Digest}
use Rattle.eql_digest.specs.Digests.{factor, turned, with_word, word_with, with_byte, with_bytes, start, mixed, value_of}
use Rattle.eql_digest.specs.Laws.{ChangedBytesAreFound}
use Rattle.eql_digest.proofs.Divisions.{xor_crossed, xor_cancels, xor_cancels_first, xor_none}
use Rattle.eql_digest.proofs.Taking.{with_bytes_append, whole_word, part_word}

-- the number by which the factor is undone
abbrev undone : ℕ
undone = 0xF1DE83E19937733D

-- moving the upper bits to the lower ones can be undone
folded_injective : (a b : ℕ) → bit_xor a (a / 2 ^ 37) ≡ bit_xor b (b / 2 ^ 37) → a ≡ b
folded_injective a b same =
    let both : bit_xor (bit_xor a b) (bit_xor a b / 2 ^ 37) ≡ 0 =
    ap (bit_xor (bit_xor a b)) (xor_shr a b 37) ∙ xor_crossed a b (a / 2 ^ 37) (b / 2 ^ 37) ∙ ap (λ (x : ℕ). bit_xor x (bit_xor b (b / 2 ^ 37))) same ∙ xor_self (bit_xor b (b / 2 ^ 37)) in
    let moved : bit_xor a b ≡ bit_xor a b / 2 ^ 37 = xor_none (bit_xor a b) (bit_xor a b / 2 ^ 37) both in
    xor_none a b (omega (arith, moved))

-- so can the factor
undo : (a : ℕ) → a < 2 ^ 64 → a * factor % 2 ^ 64 * undone % 2 ^ 64 ≡ a
undo a fits = mul-mod_first (a * factor) undone (2 ^ 64) ∙ (let product : a * factor * undone % 2 ^ 64 ≡ a = omega arith in product)

factor_injective : (a b : ℕ) → a < 2 ^ 64 → b < 2 ^ 64 → a * factor % 2 ^ 64 ≡ b * factor % 2 ^ 64 → a ≡ b
factor_injective a b fa fb same = sym (undo a fa) ∙ ap (λ (x : ℕ). x * undone % 2 ^ 64) same ∙ undo b fb

-- what a lane comes to tells what it was xored with
turned_tells : (a b : ℕ) → a < 2 ^ 64 → b < 2 ^ 64 → bit_xor a (a / 2 ^ 37) * factor % 2 ^ 64 ≡ bit_xor b (b / 2 ^ 37) * factor % 2 ^ 64 → a ≡ b
turned_tells a b fa fb same =
    folded_injective a b (factor_injective (bit_xor a (a / 2 ^ 37)) (bit_xor b (b / 2 ^ 37)) (xor_lt 64 a (a / 2 ^ 37) fa (omega arith)) (xor_lt 64 b (b / 2 ^ 37) fb (omega arith)) same)

-- two words make two lanes of one
pub words_tell : (lane word other : ℕ) → lane < 2 ^ 64 → word < 2 ^ 64 → other < 2 ^ 64 → turned lane word ≡ turned lane other → word ≡ other
words_tell lane word other fl fw fo same = xor_cancels_first word other lane (turned_tells (bit_xor lane word) (bit_xor lane other) (xor_lt 64 lane word fl fw) (xor_lt 64 lane other fl fo) same)

-- two lanes stay two by one word
pub lanes_tell : (lane other word : ℕ) → lane < 2 ^ 64 → other < 2 ^ 64 → word < 2 ^ 64 → turned lane word ≡ turned other word → lane ≡ other
lanes_tell lane other word fl fo fw same = xor_cancels lane other word (turned_tells (bit_xor lane word) (bit_xor other word) (xor_lt 64 lane word fl fw) (xor_lt 64 other word fo fw) same)

-- ---- lists of lanes

abbrev Below : List ℕ → Type 0
Below [] = Unit {0}
Below (lane ∷ lanes) = (lane < 2 ^ 64) × Below lanes

-- two lists that differ in one place
abbrev Apart : List ℕ → List ℕ → Type 0
Apart [] others = ⊥
Apart (lane ∷ lanes) [] = ⊥
Apart (lane ∷ lanes) (other ∷ others) = ((lane ≢ other) × (lanes ≡ others)) ⊎ ((lane ≡ other) × Apart lanes others)

apart_at : (front back : List ℕ) (a b : ℕ) → a ≢ b → Apart (front ++ a ∷ back) (front ++ b ∷ back)
apart_at [] back a b differ = inl (differ, refl)
apart_at (lane ∷ front) back a b differ = inr (refl, apart_at front back a b differ)

apart_more : (lanes others more : List ℕ) → Apart lanes others → Apart (lanes ++ more) (others ++ more)
apart_more [] others more apart = absurd apart
apart_more (lane ∷ lanes) [] more apart = absurd apart
apart_more (lane ∷ lanes) (other ∷ others) more apart = elim apart [
  | inl here ↦ inl (here.0, ap (λ (x : List ℕ). x ++ more) here.1)
  | inr there ↦ inr (there.0, apart_more lanes others more there.1)
]

below_append : (lanes others : List ℕ) → Below lanes → Below others → Below (lanes ++ others)
below_append [] others one two = two
below_append (lane ∷ lanes) others one two = (one.0, below_append lanes others one.1 two)

turned_fits : (lane word : ℕ) → turned lane word < 2 ^ 64
turned_fits lane word = omega arith

below_with_word : (lanes : List ℕ) (word : ℕ) → Below lanes → Below (with_word lanes word)
unfolding with_word
below_with_word [] word below = below
below_with_word (lane ∷ lanes) word below = below_append lanes (turned lane word ∷ []) below.1 (turned_fits lane word, tt)

some_with_word : (lanes : List ℕ) (word : ℕ) → 0 < length lanes → 0 < length (with_word lanes word)
unfolding with_word
some_with_word [] word some = some
some_with_word (lane ∷ lanes) word some = omega (arith, length-append lanes (turned lane word ∷ []))

-- lanes that differ in one place still do after a word
lanes_stay_apart : (lanes others : List ℕ) (word : ℕ) → Below lanes → Below others → word < 2 ^ 64 → Apart lanes others → Apart (with_word lanes word) (with_word others word)
unfolding with_word
lanes_stay_apart [] others word below below' fits apart = absurd apart
lanes_stay_apart (lane ∷ lanes) [] word below below' fits apart = absurd apart
lanes_stay_apart (lane ∷ lanes) (other ∷ others) word below below' fits apart = elim apart [
  | inl here ↦
      subst (λ (x : List ℕ). Apart (lanes ++ turned lane word ∷ []) (x ++ turned other word ∷ [])) here.1
      (apart_at lanes [] (turned lane word) (turned other word) (λ same. here.0 (lanes_tell lane other word below.0 below'.0 fits same)))
  | inr there ↦
      subst (λ (x : ℕ). Apart (lanes ++ turned lane word ∷ []) (others ++ x ∷ [])) (ap (λ (x : ℕ). turned x word) there.0)
      (apart_more lanes others (turned lane word ∷ []) there.1)
]

-- two words make the same lanes differ in one place
words_set_apart : (lanes : List ℕ) (word other : ℕ) → Below lanes → 0 < length lanes → word < 2 ^ 64 → other < 2 ^ 64 → word ≢ other
    → Apart (with_word lanes word) (with_word lanes other)
unfolding with_word
words_set_apart [] word other below some fits fits' differ = absurd (omega arith)
words_set_apart (lane ∷ lanes) word other below some fits fits' differ =
    apart_at lanes [] (turned lane word) (turned lane other) (λ same. differ (words_tell lane word other below.0 fits fits' same))

-- two lanes that differ still do after more words
lanes_mixed_apart : (lane other : ℕ) (words : List ℕ) → lane < 2 ^ 64 → other < 2 ^ 64 → Below words → lane ≢ other → mixed lane words ≢ mixed other words
unfolding mixed
lanes_mixed_apart lane other [] fits fits' below differ = differ
lanes_mixed_apart lane other (word ∷ words) fits fits' below differ =
    lanes_mixed_apart (turned lane word) (turned other word) words (turned_fits lane word) (turned_fits other word) below.1
    (λ same. differ (lanes_tell lane other word fits fits' below.0 same))

mixed_apart : (lane : ℕ) (words others : List ℕ) → lane < 2 ^ 64 → Below words → Below others → Apart words others → mixed lane words ≢ mixed lane others
unfolding mixed
mixed_apart lane [] others fits below below' apart = absurd apart
mixed_apart lane (word ∷ words) [] fits below below' apart = absurd apart
mixed_apart lane (word ∷ words) (other ∷ others) fits below below' apart = elim apart [
  | inl here ↦
      subst (λ (x : List ℕ). mixed (turned lane word) words ≢ mixed (turned lane other) x) here.1
      (lanes_mixed_apart (turned lane word) (turned lane other) words (turned_fits lane word) (turned_fits lane other) below.1
      (λ same. here.0 (words_tell lane word other fits below.0 below'.0 same)))
  | inr there ↦
      subst (λ (x : ℕ). mixed (turned lane word) words ≢ mixed (turned lane x) others) there.0
      (mixed_apart (turned lane word) words others (turned_fits lane word) below.1 below'.1 there.1)
]

-- ---- digests

record IsSound (digest : Digest) : Type 0 where
  lanes_fit : Below digest.lanes
  some : 0 < length digest.lanes
  word_fits : digest.word < 2 ^ 64
  length_fits : digest.length < 2 ^ 64

sound_with_byte : (digest : Digest) (byte : ℕ) → IsSound digest → IsSound (with_byte digest byte)
sound_with_byte digest byte sound = elim (cases_eq (digest.length % 8) 7) [
  | inl at ↦
      subst IsSound (sym (whole_word digest byte at))
      (record {
        lanes_fit = below_with_word digest.lanes (word_with digest byte) sound.lanes_fit;
        some = some_with_word digest.lanes (word_with digest byte) sound.some;
        word_fits = omega arith;
        length_fits = omega arith;
      })
  | inr at ↦
      subst IsSound (sym (part_word digest byte at))
      (record { lanes_fit = sound.lanes_fit; some = sound.some; word_fits = omega arith; length_fits = omega arith })
]

sound_with_bytes : (digest : Digest) (bytes : List ℕ) → IsSound digest → IsSound (with_bytes digest bytes)
unfolding with_bytes
sound_with_bytes digest [] sound = sound
sound_with_bytes digest (byte ∷ bytes) sound = sound_with_bytes (with_byte digest byte) bytes (sound_with_byte digest byte sound)

start_is_sound : IsSound start
start_is_sound = record {
  lanes_fit = (omega arith, (omega arith, (omega arith, (omega arith, (omega arith, (omega arith, (omega arith, (omega arith, tt))))))));
  some = omega arith;
  word_fits = omega arith;
  length_fits = omega arith;
}

-- the same lanes and two words, or one word and lanes that differ in one place
abbrev OneDiffers : List ℕ → List ℕ → ℕ → ℕ → Type 0
OneDiffers lanes others word other = ((lanes ≡ others) × (word ≢ other)) ⊎ (Apart lanes others × (word ≡ other))

record Differ (digest another : Digest) : Type 0 where
  lengths : digest.length ≡ another.length
  one : OneDiffers digest.lanes another.lanes digest.word another.word

words_apart : (word other more : ℕ) → word < 2 ^ 64 → other < 2 ^ 64 → (word + more) % 2 ^ 64 ≡ (other + more) % 2 ^ 64 → word ≡ other
words_apart word other more fits fits' same = omega arith

words_stay_two : (digest another : Digest) (byte : ℕ) → IsSound digest → IsSound another → digest.length ≡ another.length → digest.word ≢ another.word
    → word_with digest byte ≢ word_with another byte
words_stay_two digest another byte sound sound' lengths two same =
    two (words_apart digest.word another.word (byte * 2 ^ (8 * (digest.length % 8))) sound.word_fits sound'.word_fits
    (same ∙ ap (λ (n : ℕ). (another.word + byte * 2 ^ (8 * (n % 8))) % 2 ^ 64) (sym lengths)))

words_stay_one : (digest another : Digest) (byte : ℕ) → digest.length ≡ another.length → digest.word ≡ another.word → word_with digest byte ≡ word_with another byte
words_stay_one digest another byte lengths one = ap₂ (λ (w n : ℕ). (w + byte * 2 ^ (8 * (n % 8))) % 2 ^ 64) one lengths

-- one more byte leaves them so
differ_with_byte : (digest another : Digest) (byte : ℕ) → IsSound digest → IsSound another → Differ digest another → Differ (with_byte digest byte) (with_byte another byte)
differ_with_byte digest another byte sound sound' differ =
    let w : ℕ = word_with digest byte in
    let v : ℕ = word_with another byte in
    elim (cases_eq (digest.length % 8) 7) [
      | inl at ↦
          let at' : another.length % 8 ≡ 7 = ap (λ (n : ℕ). n % 8) (sym differ.lengths) ∙ at in
          let lanes : Apart (with_word digest.lanes w) (with_word another.lanes v) = elim differ.one [
            | inl two ↦
                subst (λ (x : List ℕ). Apart (with_word digest.lanes w) (with_word x v)) two.0
                (words_set_apart digest.lanes w v sound.lanes_fit sound.some (omega arith) (omega arith) (words_stay_two digest another byte sound sound' differ.lengths two.1))
            | inr one ↦
                subst (λ (x : ℕ). Apart (with_word digest.lanes w) (with_word another.lanes x)) (words_stay_one digest another byte differ.lengths one.1)
                (lanes_stay_apart digest.lanes another.lanes w sound.lanes_fit sound'.lanes_fit (omega arith) one.0)
          ] in
          subst₂ Differ (sym (whole_word digest byte at)) (sym (whole_word another byte at'))
          (record { lengths = ap (λ (n : ℕ). (n + 1) % 2 ^ 64) differ.lengths; one = inr (lanes, refl) })
      | inr at ↦
          let at' : another.length % 8 ≢ 7 = λ e. at (ap (λ (n : ℕ). n % 8) differ.lengths ∙ e) in
          let one : OneDiffers digest.lanes another.lanes w v = elim differ.one [
            | inl two ↦ inl (two.0, words_stay_two digest another byte sound sound' differ.lengths two.1)
            | inr one ↦ inr (one.0, words_stay_one digest another byte differ.lengths one.1)
          ] in
          subst₂ Differ (sym (part_word digest byte at)) (sym (part_word another byte at'))
          (record { lengths = ap (λ (n : ℕ). (n + 1) % 2 ^ 64) differ.lengths; one = one })
    ]

differ_with_bytes : (digest another : Digest) (bytes : List ℕ) → IsSound digest → IsSound another → Differ digest another → Differ (with_bytes digest bytes) (with_bytes another bytes)
unfolding with_bytes
differ_with_bytes digest another [] sound sound' differ = differ
differ_with_bytes digest another (byte ∷ bytes) sound sound' differ =
    differ_with_bytes (with_byte digest byte) (with_byte another byte) bytes (sound_with_byte digest byte sound) (sound_with_byte another byte sound')
    (differ_with_byte digest another byte sound sound' differ)

-- two bytes come to two words
bytes_apart : (word byte other p : ℕ) → word < 2 ^ 64 → byte < 256 → other < 256 → 0 < p → p * 256 ≤ 2 ^ 64 → (word + byte * p) % 2 ^ 64 ≡ (word + other * p) % 2 ^ 64 → byte ≡ other
bytes_apart word byte other p fits one two some below same =
    let first = mul-add-lt byte p 0 256 one some in
    let second = mul-add-lt other p 0 256 two some in
    let products : byte * p ≡ other * p = omega (arith, first, second) in
    sym (mul-div_cancel byte some) ∙ ap (λ (x : ℕ). x / p) products ∙ mul-div_cancel other some

place_fits : (n : ℕ) → 2 ^ (8 * (n % 8)) * 256 ≤ 2 ^ 64
place_fits n =
    let within : 8 * (n % 8) + 8 ≤ 64 = omega arith in
    let high : 2 ^ (8 * (n % 8) + 8) ≤ 2 ^ 64 = pow_mono within in
    omega (arith, high, pow-add 2 (8 * (n % 8)) 8)

differ_by_byte : (digest : Digest) (byte other : ℕ) → IsSound digest → byte < 256 → other < 256 → byte ≢ other → Differ (with_byte digest byte) (with_byte digest other)
differ_by_byte digest byte other sound fits fits' two =
    let w : ℕ = word_with digest byte in
    let v : ℕ = word_with digest other in
    let words : w ≢ v = λ same.
    two (bytes_apart digest.word byte other (2 ^ (8 * (digest.length % 8))) sound.word_fits fits fits' (pow_pos (8 * (digest.length % 8))) (place_fits digest.length) same) in
    elim (cases_eq (digest.length % 8) 7) [
      | inl at ↦
          subst₂ Differ (sym (whole_word digest byte at)) (sym (whole_word digest other at))
          (record { lengths = refl; one = inr (words_set_apart digest.lanes w v sound.lanes_fit sound.some (omega arith) (omega arith) words, refl) })
      | inr at ↦ subst₂ Differ (sym (part_word digest byte at)) (sym (part_word digest other at)) (record { lengths = refl; one = inl (refl, words) })
    ]

-- such digests have two values
values_differ : (digest another : Digest) → IsSound digest → IsSound another → Differ digest another → value_of digest ≢ value_of another
values_differ digest another sound sound' differ =
    let words : List ℕ = digest.lanes ++ digest.word ∷ digest.length ∷ [] in
    let apart : Apart words (another.lanes ++ another.word ∷ another.length ∷ []) = elim differ.one [
      | inl two ↦
          subst₂ (λ (x : List ℕ) (n : ℕ). Apart words (x ++ another.word ∷ n ∷ [])) two.0 differ.lengths (apart_at digest.lanes (digest.length ∷ []) digest.word another.word two.1)
      | inr one ↦
          subst₂ (λ (w n : ℕ). Apart words (another.lanes ++ w ∷ n ∷ [])) one.1 differ.lengths (apart_more digest.lanes another.lanes (digest.word ∷ digest.length ∷ []) one.0)
    ] in
    mixed_apart 0 words (another.lanes ++ another.word ∷ another.length ∷ []) (omega arith)
    (below_append digest.lanes (digest.word ∷ digest.length ∷ []) sound.lanes_fit (sound.word_fits, (sound.length_fits, tt)))
    (below_append another.lanes (another.word ∷ another.length ∷ []) sound'.lanes_fit (sound'.word_fits, (sound'.length_fits, tt))) apart

pub changed_bytes : ChangedBytesAreFound
unfolding with_bytes
changed_bytes front back byte other fits fits' two same =
    let digest : Digest = with_bytes start front in
    let sound : IsSound digest = sound_with_bytes start front start_is_sound in
    let differ = differ_by_byte digest byte other sound fits fits' two in
    let one = sound_with_byte digest byte sound in
    let another = sound_with_byte digest other sound in
    values_differ (with_bytes (with_byte digest byte) back) (with_bytes (with_byte digest other) back)
    (sound_with_bytes (with_byte digest byte) back one) (sound_with_bytes (with_byte digest other) back another)
    (differ_with_bytes (with_byte digest byte) (with_byte digest other) back one another differ)
    (ap value_of (sym (with_bytes_append start front (byte ∷ back))) ∙ same ∙ ap value_of (with_bytes_append start front (other ∷ back)))
