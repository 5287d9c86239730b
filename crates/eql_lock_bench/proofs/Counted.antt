-- What is counted in lists, once there is more.
use Rattle.std.proofs.Common.{◌≡◌, ◌≤◌, ◌<◌, ◌+◌, ◌^◌, ℕ, Bool, true, cond, List, [], ◌∷◌, ◌++◌, Some, refl, ap, arith}
use Rattle.std.specs.Prelude.{All, slice_get, slice_set}
use Rattle.std.specs.List.{count_by, sum_by}
use Rattle.std.proofs.lemmas.Bool.{le-leb, lt-leb}
use Rattle.std.proofs.lemmas.List.Elements.{All-head, All-tail}
use Rattle.std.proofs.lemmas.List.Sums.{sum_by-append, sum_by-cons, sum_by-set}
use Rattle.std.proofs.lemmas.Option.{get_or_from_slice_get, slice_get_within}
use Rattle.eql_turn_lock.specs.declared.view.View.{View}
use Rattle.eql_lock_bench.specs.Locked.{is_worn, worn_in, worn_of}

module _ {X : Type 0} (p : X → Bool) where
  pub count_append : (xs ys : List X) → count_by p (xs ++ ys) ≡ count_by p xs + count_by p ys
  count_append xs ys = sum_by-append (λ (x : X). cond (p x) 1 0) xs ys

  pub count_cons : (x : X) (xs : List X) → count_by p (x ∷ xs) ≡ cond (p x) 1 0 + count_by p xs
  count_cons x xs = sum_by-cons (λ (x : X). cond (p x) 1 0) x xs

  -- one more at the end
  pub count_snoc : (xs : List X) (x : X) (b : Bool) → p x ≡ b → count_by p (xs ++ x ∷ []) ≡ count_by p xs + cond b 1 0
  count_snoc xs x b is =
      let a = count_append xs (x ∷ []) in let c = count_cons x [] in let d = ap {B = ℕ} (λ (t : Bool). cond t 1 0) is in
      omega (arith, a, c, d)

pub sum_set : {X : Type 0} (f : X → ℕ) (xs : List X) (k : ℕ) (x y : X) → slice_get xs k ≡ Some x → sum_by f (slice_set xs k y) + f x ≡ sum_by f xs + f y
sum_set f xs k x y e =
    let whole = sum_by-set f xs k y x (slice_get_within xs k x e) in
    let one = ap f (get_or_from_slice_get xs k x x e) in
    omega (arith, whole, one)

-- ---- words that are worn
-- words that aren't
pub none_worn : (words : List ℕ) → All (λ n. n < 2 ^ 63) words → count_by is_worn words ≡ 0
none_worn [] small = refl
none_worn (word ∷ words) small =
    let a = count_cons is_worn word words in
    let b = ap {B = ℕ} (λ (t : Bool). cond t 1 0) (lt-leb (2 ^ 63) word (All-head (λ n. n < 2 ^ 63) word words small)) in
    let c = none_worn words (All-tail (λ n. n < 2 ^ 63) word words small) in
    omega (arith, a, b, c)

-- no word more that is worn
pub worn_stays : (old words new : List ℕ) → new ≡ old ++ words → All (λ n. n < 2 ^ 63) words → count_by is_worn new ≡ count_by is_worn old
worn_stays old words new is small =
    let a = ap (count_by is_worn) is in let b = count_append is_worn old words in let c = none_worn words small in
    omega (arith, a, b, c)

-- a worn word more
pub worn_rises : (old words : List ℕ) (word : ℕ) (new : List ℕ) → new ≡ (old ++ words) ++ word ∷ [] → 2 ^ 63 ≤ word → count_by is_worn old < count_by is_worn new
worn_rises old words word new is large =
    let a = ap (count_by is_worn) is in let b = count_snoc is_worn (old ++ words) word true (le-leb (2 ^ 63) word large) in
    let c = count_append is_worn old words in
    omega (arith, a, b, c)

module _ {T O R : Type 0} (views : List (View T O R)) (k : ℕ) (v w : View T O R) (was : slice_get views k ≡ Some v) where
  pub worn_in_stays : worn_of w ≡ worn_of v → worn_in (slice_set views k w) ≡ worn_in views
  worn_in_stays same = let a = sum_set worn_of views k v w was in omega (arith, a, same)

  pub worn_in_rises : worn_of v < worn_of w → worn_in views < worn_in (slice_set views k w)
  worn_in_rises more = let a = sum_set worn_of views k v w was in omega (arith, a, more)
