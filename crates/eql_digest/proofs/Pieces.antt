-- A piece in three parts: up to the next whole word, blocks, and the rest.
use Rattle.std.proofs.Common.{◌≡◌, ℕ, ◌+◌, ◌-◌, ◌%◌, ◌^◌, ◌<◌, ◌≤◌, min, List, ◌++◌, length, take, drop, sym, ap, ◌∙◌, arith, take-add, take-append-drop, length-take, length-drop}
use Rattle.std.proofs.lemmas.List.{take_rest}
use Rattle.eql_digest.specs.declared.digest.Digest.{Digest}
use Rattle.eql_digest.specs.Digests.{with_bytes, start, IsDigestOf}
use Rattle.eql_digest.proofs.Taking.{with_bytes_append, length_with_bytes, between_from_start}

three_parts : (bytes : List ℕ) (head end : ℕ) → head ≤ end → end ≤ length bytes
    → (take head bytes ++ take (end - head) (drop head bytes)) ++ take (length bytes - end) (drop end bytes) ≡ bytes
three_parts bytes head end some within =
    let sum : head + (end - head) ≡ end = omega arith in
    ap (λ (x : List ℕ). x ++ take (length bytes - end) (drop end bytes)) (sym (take-add head (end - head) bytes) ∙ ap (λ (k : ℕ). take k bytes) sum)
    ∙ ap (λ (x : List ℕ). take end bytes ++ x) (take_rest bytes end)
    ∙ take-append-drop end bytes

-- where blocks follow the head, it ends with a word
pub whole_at_head : (digest after : Digest) (bytes : List ℕ) (head : ℕ) → digest.length < 2 ^ 64 → head ≡ min (length bytes) ((8 - digest.length % 8) % 8)
    → after ≡ with_bytes digest (take head bytes)
    → 0 < length (take (length bytes - (length bytes - head) % 64 - head) (drop head bytes)) → after.length % 8 ≡ 0
whole_at_head digest after bytes head fits is after_is some =
    let length_is : after.length ≡ (digest.length + length (take head bytes)) % 2 ^ 64 = ap (λ (s : Digest). s.length) after_is ∙ length_with_bytes digest (take head bytes) fits in
    omega (arith, length_is, length-take head bytes, length-take (length bytes - (length bytes - head) % 64 - head) (drop head bytes), length-drop head bytes)

-- between two words no byte waits, where the digest is of some bytes
pub none_waits : (digest after : Digest) (before piece : List ℕ) → IsDigestOf digest before → after ≡ with_bytes digest piece → after.length % 8 ≡ 0 → after.word ≡ 0
none_waits digest after before piece is after_is at =
    let whole : after ≡ with_bytes start (before ++ piece) = after_is ∙ ap (λ (s : Digest). with_bytes s piece) is ∙ sym (with_bytes_append start before piece) in
    ap (λ (s : Digest). s.word) whole ∙ between_from_start (before ++ piece) (ap (λ (s : Digest). s.length % 8) (sym whole) ∙ at)

-- the three parts together
pub piece_taken : (digest first second third : Digest) (before bytes : List ℕ) (head end : ℕ) → head ≤ end → end ≤ length bytes → IsDigestOf digest before
    → first ≡ with_bytes digest (take head bytes) → second ≡ with_bytes first (take (end - head) (drop head bytes))
    → third ≡ with_bytes second (take (length bytes - end) (drop end bytes)) → IsDigestOf third (before ++ bytes)
piece_taken digest first second third before bytes head end some within is one two three =
    let a : List ℕ = take head bytes in
    let b : List ℕ = take (end - head) (drop head bytes) in
    let c : List ℕ = take (length bytes - end) (drop end bytes) in
    let two_parts : second ≡ with_bytes digest (a ++ b) = two ∙ ap (λ (s : Digest). with_bytes s b) one ∙ sym (with_bytes_append digest a b) in
    let all : third ≡ with_bytes digest bytes =
    three ∙ ap (λ (s : Digest). with_bytes s c) two_parts ∙ sym (with_bytes_append digest (a ++ b) c) ∙ ap (with_bytes digest) (three_parts bytes head end some within) in
    all ∙ ap (λ (s : Digest). with_bytes s bytes) is ∙ sym (with_bytes_append start before bytes)
