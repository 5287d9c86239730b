-- What stands under each hash as buckets are written, cleared and parted.
use Rattle.std.proofs.Common.{◌≡◌, ◌<◌, ◌≤◌, ◌+◌, ◌*◌, ◌/◌, ◌^◌, ◌%◌, ℕ, zero, suc, Bool, true, false, cond, List, [], ◌∷◌, ◌++◌, length, map, Option, Some, None, refl, sym, ap, ◌∙◌, subst, arith, inl, inr}
use Rattle.std.specs.Prelude.{◌⊎◌, nat_eq, slice_get, slice_set, replicate}
use Rattle.std.proofs.lemmas.Bool.{cases_lt, eqb-true, eq-eqb}
use Rattle.std.proofs.lemmas.List.{length-append, length-set}
use Rattle.std.proofs.Math.Nat.{div-div-eq-div-mul, div-lt_iff_lt-mul, mod-lt, mul-div-mul_right, mul-lt-mul_of_pos_right, mul_assoc, mul_comm}
use Rattle.eql_part.specs.declared.index.Slot.{Slot}
use Rattle.eql_part.specs.declared.index.Slot.TheVariants.{Free, Taken}
use Rattle.eql_part.specs.Hashes.{mixed_hash}
use Rattle.eql_part.specs.Indexed.{Forgets, Notes, bucket_number, slot_without, first_or, kept_at, place_at, place_in, place_there, place_under}
use Rattle.eql_part.proofs.Housed.{get_apart, get_here, one_or_two}

-- what a slot keeps, where its own hash may go to that bucket
kept_place : (number count : ℕ) (slot : Slot) (hash : ℕ) → bucket_number hash count ≡ number → place_at (kept_at number count slot) hash ≡ place_at slot hash
kept_place number count Free hash is = refl
kept_place number count (Taken place own) hash is = by (nat_eq (bucket_number own count) number) refl (nat_eq own hash) refl
  where
    by : (b : Bool) → nat_eq (bucket_number own count) number ≡ b → (s : Bool) → nat_eq own hash ≡ s
        → place_at (cond b (Taken place own) Free) hash ≡ place_at (Taken place own) hash
    by true e s t = refl
    by false e true t = let wrong = sym e ∙ eq-eqb (bucket_number own count) number (ap (λ (n : ℕ). bucket_number n count) (eqb-true own hash t) ∙ is) in cc
    by false e false t = sym (ap (λ (b : Bool). cond b (Some place) None) t)

-- a part of a bucket has what its hashes have in the whole
pub place_kept : (number count hash : ℕ) (slots : List Slot) → bucket_number hash count ≡ number → place_in (map (kept_at number count) slots) hash ≡ place_in slots hash
place_kept number count hash [] is = refl
place_kept number count hash (slot ∷ slots) is = λ i. first_or (kept_place number count slot hash is i) (place_kept number count hash slots is i)

cleared_place : (hash q : ℕ) (slot : Slot) → place_at (slot_without hash slot) q ≡ cond (nat_eq hash q) None (place_at slot q)
cleared_place hash q Free = by (nat_eq hash q)
  where
    by : (b : Bool) → ◌≡◌ {A = Option ℕ} None (cond b None None)
    by true = refl
    by false = refl
cleared_place hash q (Taken place own) = by (nat_eq own hash) refl (nat_eq hash q) refl (nat_eq own q) refl
  where
    by : (b : Bool) → nat_eq own hash ≡ b → (s : Bool) → nat_eq hash q ≡ s → (r : Bool) → nat_eq own q ≡ r
        → place_at (cond b Free (Taken place own)) q ≡ cond s None (cond r (Some place) None)
    by true e true t r u = refl
    by true e false t true u = let wrong = sym t ∙ eq-eqb hash q (sym (eqb-true own hash e) ∙ eqb-true own q u) in cc
    by true e false t false u = refl
    by false e true t true u = let wrong = sym e ∙ eq-eqb own hash (eqb-true own q u ∙ sym (eqb-true hash q t)) in cc
    by false e true t false u = ap (λ (b : Bool). cond b (Some place) None) u
    by false e false t r u = ap (λ (b : Bool). cond b (Some place) None) u

none_or : (b : Bool) (o p : Option ℕ) → first_or (cond b None o) (cond b None p) ≡ cond b None (first_or o p)
none_or true o p = refl
none_or false o p = refl

-- a bucket without the slots of one hash
pub place_cleared : (hash q : ℕ) (slots : List Slot) → place_in (map (slot_without hash) slots) q ≡ cond (nat_eq hash q) None (place_in slots q)
place_cleared hash q [] = by (nat_eq hash q)
  where
    by : (b : Bool) → ◌≡◌ {A = Option ℕ} None (cond b None None)
    by true = refl
    by false = refl
place_cleared hash q (slot ∷ slots) =
    (λ i. first_or (cleared_place hash q slot i) (place_cleared hash q slots i))
    ∙ none_or (nat_eq hash q) (place_at slot q) (place_in slots q)

none_first : (o p : Option ℕ) → first_or o p ≡ None → o ≡ None
none_first None p e = refl
none_first (Some x) p e = cc

none_last : (o p : Option ℕ) → first_or o p ≡ None → p ≡ None
none_last None p e = e
none_last (Some x) p e = cc

-- a place in an empty slot
pub place_noted : (slots : List Slot) (at hash place : ℕ) → slice_get slots at ≡ Some Free → place_in slots hash ≡ None → Notes hash place (place_in slots) (place_in (slice_set slots at (Taken place hash)))
place_noted [] at hash place free none q = cc
place_noted (slot ∷ slots) zero hash place free none q =
    by (nat_eq hash q) refl ∙ ap (λ (s : Slot). cond (nat_eq hash q) (Some place) (first_or (place_at s q) (place_in slots q))) (sym is)
  where
    is : slot ≡ Free
    is = let e : Some slot ≡ Some Free = free in cc

    by : (b : Bool) → nat_eq hash q ≡ b → first_or (cond b (Some place) None) (place_in slots q) ≡ cond b (Some place) (place_in slots q)
    by true e = refl
    by false e = refl
place_noted (slot ∷ slots) (suc at) hash place free none q =
    ap (first_or (place_at slot q)) (place_noted slots at hash place free (none_last (place_at slot hash) (place_in slots hash) none) q)
    ∙ by (nat_eq hash q) refl
  where
    by : (b : Bool) → nat_eq hash q ≡ b → first_or (place_at slot q) (cond b (Some place) (place_in slots q)) ≡ cond b (Some place) (first_or (place_at slot q) (place_in slots q))
    by true e =
        ap (λ (o : Option ℕ). first_or o (Some place))
        (ap (place_at slot) (sym (eqb-true hash q e)) ∙ none_first (place_at slot hash) (place_in slots hash) none)
    by false e = refl

within_by : (m n d : ℕ) → m < d → 0 < n → m * n / d < n
within_by m n d below some =
    (div-lt_iff_lt-mul {k = d} {x = m * n} {y = n} (omega (arith, below))).1
    (subst (λ (p : ℕ). m * n < p) (mul_comm d n) (mul-lt-mul_of_pos_right {m = m} {n = d} {k = n} below some))

half_by : (m n d : ℕ) → m * (n * 2) / d / 2 ≡ m * n / d
half_by m n d =
    div-div-eq-div-mul (m * (n * 2)) d 2
    ∙ ap (λ (p : ℕ). p / (d * 2)) (sym (mul_assoc m n 2))
    ∙ mul-div-mul_right {m = 2} (m * n) d (omega arith)

-- the bucket of a hash is there
pub number_within : (hash count : ℕ) → 0 < count → bucket_number hash count < count
number_within hash count some = within_by (mixed_hash hash 0) count (2 ^ 64) (mod-lt (((hash + 0) % 2 ^ 64) * 11400714819323198485) {m = 2 ^ 64} (omega arith)) some

-- among twice as many buckets it is one of two that stand where the one stood
pub number_half : (hash count : ℕ) → bucket_number hash (count * 2) / 2 ≡ bucket_number hash count
number_half hash count = half_by (mixed_hash hash 0) count (2 ^ 64)

pub get_left : {A : Type 0} (xs ys : List A) (k : ℕ) → k < length xs → slice_get (xs ++ ys) k ≡ slice_get xs k
get_left [] ys k lt = absurd (omega (arith, lt))
get_left (x ∷ xs) ys zero lt = refl
get_left (x ∷ xs) ys (suc k) lt = get_left xs ys k (omega (arith, lt))

pub get_end : {A : Type 0} (xs : List A) (x : A) (ys : List A) → slice_get (xs ++ x ∷ ys) (length xs) ≡ Some x
get_end [] x ys = refl
get_end (y ∷ xs) x ys = get_end xs x ys

place_free : (n hash : ℕ) → place_in (replicate n Free) hash ≡ None
place_free zero hash = refl
place_free (suc n) hash = place_free n hash

-- the buckets so far, of twice as many, have what the old ones have
abbrev pub IsDoubledTo : (old new : List (List Slot)) → Type 0
IsDoubledTo old new =
    (hash : ℕ) → bucket_number hash (length old * 2) < length new → place_there (slice_get new (bucket_number hash (length old * 2))) hash ≡ place_under old hash

module _ (old new : List (List Slot)) (i : ℕ) (bucket : List Slot) (even : length new ≡ i * 2) (at : slice_get old i ≡ Some bucket) where
  -- a part of a bucket has what the whole one has
  of_part : (hash : ℕ) (k : ℕ) → bucket_number hash (length old * 2) ≡ k → k / 2 ≡ i → place_in (map (kept_at k (length old * 2)) bucket) hash ≡ place_under old hash
  of_part hash k is half =
      place_kept k (length old * 2) hash bucket is
      ∙ sym (ap (λ (o : Option (List Slot)). place_there o hash)
      (ap (slice_get old) (sym (number_half hash (length old)) ∙ ap (λ (n : ℕ). n / 2) is ∙ half) ∙ at))

  -- one bucket's parts more
  module _ (first last : List Slot) (one : first ≡ map (kept_at (length new) (length old * 2)) bucket) (two : last ≡ map (kept_at (length new + 1) (length old * 2)) bucket) where
    pub doubled_more : IsDoubledTo old new → IsDoubledTo old ((new ++ first ∷ []) ++ last ∷ [])
    doubled_more before hash lt = by (cases_lt b (length new))
      where
        b : ℕ
        b = bucket_number hash (length old * 2)

        long : length (new ++ first ∷ []) ≡ length new + 1
        long = length-append new (first ∷ [])

        whole : length ((new ++ first ∷ []) ++ last ∷ []) ≡ length new + 2
        whole = let e = length-append (new ++ first ∷ []) (last ∷ []) in omega (arith, e, long)

        in_new : b < length new → place_there (slice_get ((new ++ first ∷ []) ++ last ∷ []) b) hash ≡ place_under old hash
        in_new small =
            ap (λ (o : Option (List Slot)). place_there o hash)
            (get_left (new ++ first ∷ []) (last ∷ []) b (omega (arith, long, small)) ∙ get_left new (first ∷ []) b small)
            ∙ before hash small

        at_first : b ≡ length new → place_there (slice_get ((new ++ first ∷ []) ++ last ∷ []) b) hash ≡ place_under old hash
        at_first is =
            ap (λ (o : Option (List Slot)). place_there o hash)
            (get_left (new ++ first ∷ []) (last ∷ []) b (omega (arith, long, is)) ∙ ap (slice_get (new ++ first ∷ [])) is ∙ get_end new first [])
            ∙ ap (λ (l : List Slot). place_in l hash) one
            ∙ of_part hash (length new) is (omega (arith, even))

        at_last : b ≡ length new + 1 → place_there (slice_get ((new ++ first ∷ []) ++ last ∷ []) b) hash ≡ place_under old hash
        at_last is =
            ap (λ (o : Option (List Slot)). place_there o hash)
            (ap (slice_get ((new ++ first ∷ []) ++ last ∷ [])) (is ∙ sym long) ∙ get_end (new ++ first ∷ []) last [])
            ∙ ap (λ (l : List Slot). place_in l hash) two
            ∙ of_part hash (length new + 1) is (omega (arith, even))

        by : (b < length new) ⊎ (length new ≤ b) → place_there (slice_get ((new ++ first ∷ []) ++ last ∷ []) b) hash ≡ place_under old hash
        by (inl small) = in_new small
        by (inr large) = or (one_or_two b (length new))
          where
            or : (b ≡ length new) ⊎ (b ≡ length new → ⊥) → place_there (slice_get ((new ++ first ∷ []) ++ last ∷ []) b) hash ≡ place_under old hash
            or (inl is) = at_first is
            or (inr apart) = at_last (rest (one_or_two b (length new + 1)))
              where
                rest : (b ≡ length new + 1) ⊎ (b ≡ length new + 1 → ⊥) → b ≡ length new + 1
                rest (inl is) = is
                rest (inr past) = absurd (past (omega (arith, large, lt, whole, apart)))

-- all buckets, where there are some
pub doubled_all : (old new : List (List Slot)) → length new ≡ length old * 2 → 0 < length old → IsDoubledTo old new → (hash : ℕ) → place_under new hash ≡ place_under old hash
doubled_all old new twice some h hash =
    ap (λ (n : ℕ). place_there (slice_get new (bucket_number hash n)) hash) twice
    ∙ h hash (subst (λ (n : ℕ). bucket_number hash (length old * 2) < n) (sym twice) (number_within hash (length old * 2) (omega (arith, some))))

-- one empty bucket, where there was none
pub doubled_none : (old new : List (List Slot)) (n : ℕ) → length old ≡ 0 → length new ≡ 0 → (hash : ℕ) → place_under (new ++ replicate n Free ∷ []) hash ≡ place_under old hash
doubled_none (b ∷ old) new n none empty hash = absurd (omega (arith, none))
doubled_none [] (b ∷ new) n none empty hash = absurd (omega (arith, empty))
doubled_none [] [] n none empty hash =
    ap (λ (k : ℕ). place_there (slice_get (replicate n Free ∷ []) k) hash) (let lt = number_within hash 1 (omega arith) in let e : bucket_number hash 1 ≡ 0 = omega (arith, lt) in e)
    ∙ place_free n hash

-- one bucket written
module _ (buckets : List (List Slot)) (hash : ℕ) (bucket now : List Slot) (at : slice_get buckets (bucket_number hash (length buckets)) ≡ Some bucket) where
  long : length (slice_set buckets (bucket_number hash (length buckets)) now) ≡ length buckets
  long = length-set buckets (bucket_number hash (length buckets)) now

  under_here : (q : ℕ) → bucket_number q (length buckets) ≡ bucket_number hash (length buckets) → place_under (slice_set buckets (bucket_number hash (length buckets)) now) q ≡ place_in now q
  under_here q is =
      ap (λ (n : ℕ). place_there (slice_get (slice_set buckets (bucket_number hash (length buckets)) now) (bucket_number q n)) q) long
      ∙ ap (λ (o : Option (List Slot)). place_there o q)
      (ap (slice_get (slice_set buckets (bucket_number hash (length buckets)) now)) is ∙ get_here buckets (bucket_number hash (length buckets)) now bucket at)

  was_here : (q : ℕ) → bucket_number q (length buckets) ≡ bucket_number hash (length buckets) → place_under buckets q ≡ place_in bucket q
  was_here q is = ap (λ (o : Option (List Slot)). place_there o q) (ap (slice_get buckets) is ∙ at)

  under_apart : (q : ℕ) → (bucket_number q (length buckets) ≡ bucket_number hash (length buckets) → ⊥) → place_under (slice_set buckets (bucket_number hash (length buckets)) now) q ≡ place_under buckets q
  under_apart q apart =
      ap (λ (n : ℕ). place_there (slice_get (slice_set buckets (bucket_number hash (length buckets)) now) (bucket_number q n)) q) long
      ∙ ap (λ (o : Option (List Slot)). place_there o q)
      (get_apart buckets (bucket_number hash (length buckets)) (bucket_number q (length buckets)) now apart)

  -- the slots of a hash were emptied in its bucket
  pub cleared_in : (place : ℕ) → place_under buckets hash ≡ Some place → now ≡ map (slot_without hash) bucket → Forgets place (place_under buckets) (place_under (slice_set buckets (bucket_number hash (length buckets)) now))
  cleared_in place there is q = by (one_or_two (bucket_number q (length buckets)) (bucket_number hash (length buckets)))
    where
      own : (b : Bool) → nat_eq hash q ≡ b → place_under (slice_set buckets (bucket_number hash (length buckets)) now) q ≡ cond b None (place_under buckets q)
          → (place_under (slice_set buckets (bucket_number hash (length buckets)) now) q ≡ place_under buckets q)
          ⊎ ((place_under buckets q ≡ Some place) × (place_under (slice_set buckets (bucket_number hash (length buckets)) now) q ≡ None))
      own true e gone = inr (ap (place_under buckets) (sym (eqb-true hash q e)) ∙ there, gone)
      own false e same = inl same

      by : (bucket_number q (length buckets) ≡ bucket_number hash (length buckets)) ⊎ (bucket_number q (length buckets) ≡ bucket_number hash (length buckets) → ⊥)
          → (place_under (slice_set buckets (bucket_number hash (length buckets)) now) q ≡ place_under buckets q)
          ⊎ ((place_under buckets q ≡ Some place) × (place_under (slice_set buckets (bucket_number hash (length buckets)) now) q ≡ None))
      by (inl same) =
          own (nat_eq hash q) refl
          (under_here q same ∙ ap (λ (l : List Slot). place_in l q) is ∙ place_cleared hash q bucket
          ∙ ap (λ (o : Option ℕ). cond (nat_eq hash q) None o) (sym (was_here q same)))
      by (inr apart) = inl (under_apart q apart)
