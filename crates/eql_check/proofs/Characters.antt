-- UTF-8 keeps the order of characters.
use Rattle.std.proofs.Common.{◌≡◌, ℕ, ◌+◌, ◌/◌, ◌%◌, ◌<◌, ◌≤◌, ◌⊎◌, inl, inr, ⊎_elim, List, [], ◌∷◌, ◌++◌, length, encode_utf8_all, refl, sym, ap, ◌∙◌, subst, arith, lt-ltb, le-ltb}
use Rattle.std.specs.Char.{encode_utf8}
use Rattle.std.specs.Ordering.{nat_cmp, ordering_then, ordering_reverse}
use Rattle.std.specs.Cmp.Lexicographic.{slice_cmp}
use Rattle.std.specs.declared.cmp.Ordering.{Ordering}
use Rattle.std.specs.declared.cmp.Ordering.TheVariants.{Less, Equal, Greater}
use Rattle.std.proofs.lemmas.Bool.{cond-true, cond-false, cases_lt}
use Rattle.std.proofs.lemmas.Bool.Decides.{nat_tests}
use Rattle.std.proofs.lemmas.Cmp.{nat_list_cmp_total}
use Rattle.std.proofs.lemmas.Str.{length-le-encodes}
use Rattle.eql_check.specs.ByCharacters.{TextsCompareByCharacters}

-- the order of lists of bytes
abbrev order : List ℕ → List ℕ → Ordering
order = slice_cmp nat_cmp

less_is : (a b : ℕ) → a < b → nat_cmp a b ≡ Less
less_is a b l = grind (arith, nat_tests)

equal_is : (a : ℕ) → nat_cmp a a ≡ Equal
equal_is a = grind (arith, nat_tests)

-- one list of bytes comes before another
record IsBefore (us vs : List ℕ) : Type 0 where
  is_less : order us vs ≡ Less

-- the first byte is less; or it isn't greater, and where it is the same the rest is less
first_less : (a b : ℕ) (xs ys : List ℕ) → a < b → IsBefore (a ∷ xs) (b ∷ ys)
first_less a b xs ys l = record { is_less = ap (λ o. ordering_then o (order xs ys)) (less_is a b l) }

next_less : (a b : ℕ) (xs ys : List ℕ) → a ≤ b → (a ≡ b → IsBefore xs ys) → IsBefore (a ∷ xs) (b ∷ ys)
next_less a b xs ys l rest = ⊎_elim (first_less a b xs ys) (λ (m : b ≤ a). same (omega arith)) (cases_lt a b)
  where
    same : a ≡ b → IsBefore (a ∷ xs) (b ∷ ys)
    same e = record {
      is_less = ap (λ n. ordering_then (nat_cmp a n) (order xs ys)) (sym e) ∙ ap (λ o. ordering_then o (order xs ys)) (equal_is a) ∙ (rest e).is_less;
    }

-- the bytes of a character, by their number
data HasBytes (c : ℕ) : List ℕ → Type 0 where
  one : c < 128 → HasBytes c (c ∷ [])
  two : 128 ≤ c → c < 2048 → HasBytes c ((192 + c / 64) ∷ (128 + c % 64) ∷ [])
  three : 2048 ≤ c → c < 65536 → HasBytes c ((224 + c / 4096) ∷ (128 + c / 64 % 64) ∷ (128 + c % 64) ∷ [])
  four : 65536 ≤ c → HasBytes c ((240 + c / 262144) ∷ (128 + c / 4096 % 64) ∷ (128 + c / 64 % 64) ∷ (128 + c % 64) ∷ [])

by_limits : (c : ℕ) → (c < 128) ⊎ (128 ≤ c) → (c < 2048) ⊎ (2048 ≤ c) → (c < 65536) ⊎ (65536 ≤ c) → HasBytes c (encode_utf8 c)
unfolding encode_utf8
by_limits c (inl l) y z = subst (HasBytes c) (sym (cond-true _ _ _ (lt-ltb c 128 l))) (one l)
by_limits c (inr m) (inl l) z = subst (HasBytes c) (sym (cond-false _ _ _ (le-ltb c 128 m) ∙ cond-true _ _ _ (lt-ltb c 2048 l))) (two m l)
by_limits c (inr m) (inr n) (inl l) =
    subst (HasBytes c) (sym (cond-false _ _ _ (le-ltb c 128 m) ∙ cond-false _ _ _ (le-ltb c 2048 n) ∙ cond-true _ _ _ (lt-ltb c 65536 l))) (three n l)
by_limits c (inr m) (inr n) (inr o) =
    subst (HasBytes c) (sym (cond-false _ _ _ (le-ltb c 128 m) ∙ cond-false _ _ _ (le-ltb c 2048 n) ∙ cond-false _ _ _ (le-ltb c 65536 o))) (four o)

has_bytes : (c : ℕ) → HasBytes c (encode_utf8 c)
has_bytes c = by_limits c (cases_lt c 128) (cases_lt c 2048) (cases_lt c 65536)

-- the last byte, the last two, and the last three, where what stands before is the same
last_less : (a b : ℕ) (xs ys : List ℕ) → a < b → a / 64 ≡ b / 64 → IsBefore ((128 + a % 64) ∷ xs) ((128 + b % 64) ∷ ys)
last_less a b xs ys l e = first_less (128 + a % 64) (128 + b % 64) xs ys (omega arith)

last_two_less : (a b : ℕ) (xs ys : List ℕ) → a < b → a / 4096 ≡ b / 4096 →
    IsBefore ((128 + a / 64 % 64) ∷ (128 + a % 64) ∷ xs) ((128 + b / 64 % 64) ∷ (128 + b % 64) ∷ ys)
last_two_less a b xs ys l e =
    next_less (128 + a / 64 % 64) (128 + b / 64 % 64) ((128 + a % 64) ∷ xs) ((128 + b % 64) ∷ ys) (omega arith)
    (λ f. last_less a b xs ys l (omega arith))

last_three_less : (a b : ℕ) (xs ys : List ℕ) → a < b → a / 262144 ≡ b / 262144 →
    IsBefore ((128 + a / 4096 % 64) ∷ (128 + a / 64 % 64) ∷ (128 + a % 64) ∷ xs) ((128 + b / 4096 % 64) ∷ (128 + b / 64 % 64) ∷ (128 + b % 64) ∷ ys)
last_three_less a b xs ys l e =
    next_less (128 + a / 4096 % 64) (128 + b / 4096 % 64) ((128 + a / 64 % 64) ∷ (128 + a % 64) ∷ xs) ((128 + b / 64 % 64) ∷ (128 + b % 64) ∷ ys) (omega arith)
    (λ f. last_two_less a b xs ys l (omega arith))

-- the bytes of a lesser character come before, whatever follows
by_bytes : (a b : ℕ) {us vs : List ℕ} (xs ys : List ℕ) → a < b → HasBytes a us → HasBytes b vs → IsBefore (us ++ xs) (vs ++ ys)
by_bytes a b xs ys l (one h) (one k) = first_less a b xs ys l
by_bytes a b xs ys l (one h) (two k i) = first_less a (192 + b / 64) _ _ (omega arith)
by_bytes a b xs ys l (one h) (three k i) = first_less a (224 + b / 4096) _ _ (omega arith)
by_bytes a b xs ys l (one h) (four k) = first_less a (240 + b / 262144) _ _ (omega arith)
by_bytes a b xs ys l (two h i) (two k j) = next_less (192 + a / 64) (192 + b / 64) _ _ (omega arith) (λ e. last_less a b xs ys l (omega arith))
by_bytes a b xs ys l (two h i) (three k j) = first_less (192 + a / 64) (224 + b / 4096) _ _ (omega arith)
by_bytes a b xs ys l (two h i) (four k) = first_less (192 + a / 64) (240 + b / 262144) _ _ (omega arith)
by_bytes a b xs ys l (three h i) (three k j) = next_less (224 + a / 4096) (224 + b / 4096) _ _ (omega arith) (λ e. last_two_less a b xs ys l (omega arith))
by_bytes a b xs ys l (three h i) (four k) = first_less (224 + a / 4096) (240 + b / 262144) _ _ (omega arith)
by_bytes a b xs ys l (four h) (four k) =
    next_less (240 + a / 262144) (240 + b / 262144) _ _ (omega arith) (λ e. last_three_less a b xs ys l (omega arith))
by_bytes a b xs ys l (two h i) (one k) = absurd (omega arith)
by_bytes a b xs ys l (three h i) (one k) = absurd (omega arith)
by_bytes a b xs ys l (three h i) (two k j) = absurd (omega arith)
by_bytes a b xs ys l (four h) (one k) = absurd (omega arith)
by_bytes a b xs ys l (four h) (two k j) = absurd (omega arith)
by_bytes a b xs ys l (four h) (three k j) = absurd (omega arith)

lesser : (a b : ℕ) (xs ys : List ℕ) → a < b → IsBefore (encode_utf8 a ++ xs) (encode_utf8 b ++ ys)
lesser a b xs ys l = by_bytes a b xs ys l (has_bytes a) (has_bytes b)

-- each character has a byte
nothing_before : (bs : List ℕ) → 0 < length bs → order [] bs ≡ Less
nothing_before [] l = absurd (omega arith)
nothing_before (b ∷ bs) l = refl

nothing_before_text : (c : ℕ) (s : List ℕ) → order [] (encode_utf8_all (c ∷ s)) ≡ Less
nothing_before_text c s = nothing_before (encode_utf8_all (c ∷ s)) (omega (arith, length-le-encodes (c ∷ s)))

past_same : (zs xs ys : List ℕ) → order (zs ++ xs) (zs ++ ys) ≡ order xs ys
past_same [] xs ys = refl
past_same (z ∷ zs) xs ys = ap (λ o. ordering_then o (order (zs ++ xs) (zs ++ ys))) (equal_is z) ∙ past_same zs xs ys

turned : (xs ys : List ℕ) → order ys xs ≡ Less → order xs ys ≡ Greater
turned xs ys e = nat_list_cmp_total.antisymm xs ys ∙ ap ordering_reverse e

-- the characters that stand first decide, or the rest does
first_decides : (c d : ℕ) (s t : List ℕ) → order (encode_utf8_all s) (encode_utf8_all t) ≡ order s t →
    order (encode_utf8_all (c ∷ s)) (encode_utf8_all (d ∷ t)) ≡ order (c ∷ s) (d ∷ t)
first_decides c d s t rest = ⊎_elim less (λ (m : d ≤ c). ⊎_elim greater (λ (n : c ≤ d). same (omega arith)) (cases_lt d c)) (cases_lt c d)
  where
    less : c < d → order (encode_utf8_all (c ∷ s)) (encode_utf8_all (d ∷ t)) ≡ order (c ∷ s) (d ∷ t)
    less l = (lesser c d (encode_utf8_all s) (encode_utf8_all t) l).is_less ∙ sym (first_less c d s t l).is_less

    greater : d < c → order (encode_utf8_all (c ∷ s)) (encode_utf8_all (d ∷ t)) ≡ order (c ∷ s) (d ∷ t)
    greater l =
        turned (encode_utf8_all (c ∷ s)) (encode_utf8_all (d ∷ t)) (lesser d c (encode_utf8_all t) (encode_utf8_all s) l).is_less
        ∙ sym (turned (c ∷ s) (d ∷ t) (first_less d c t s l).is_less)

    same : c ≡ d → order (encode_utf8_all (c ∷ s)) (encode_utf8_all (d ∷ t)) ≡ order (c ∷ s) (d ∷ t)
    same e =
        ap (λ x. order (encode_utf8_all (c ∷ s)) (encode_utf8_all (x ∷ t))) (sym e)
        ∙ past_same (encode_utf8 c) (encode_utf8_all s) (encode_utf8_all t) ∙ rest ∙ sym (past_same (c ∷ []) s t)
        ∙ ap (λ x. order (c ∷ s) (x ∷ t)) e

pub texts_by_characters : TextsCompareByCharacters
texts_by_characters [] [] = refl
texts_by_characters [] (d ∷ t) = nothing_before_text d t
texts_by_characters (c ∷ s) [] = turned (encode_utf8_all (c ∷ s)) [] (nothing_before_text c s)
texts_by_characters (c ∷ s) (d ∷ t) = first_decides c d s t (texts_by_characters s t)
