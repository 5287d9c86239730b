-- Lists that are mapped and filtered, and entries in parts.
use Rattle.std.proofs.Common.{◌≡◌, ℕ, zero, suc, Bool, true, false, cond, List, [], ◌∷◌, ◌++◌, map, Option, None, refl, sym, ap, ◌∙◌, arith}
use Rattle.std.specs.Prelude.{filter, ◌==◌, nat_lt}
use Rattle.std.specs.List.{flat_map}
use Rattle.std.specs.FinMap.{IsAntisymmetric}
use Rattle.std.specs.FinMap.Entries.{find, find-where_key}
use Rattle.std.specs.declared.cmp.Ordering.{Ordering}
use Rattle.std.proofs.lemmas.Bool.Decides.{nat_tests}
use Rattle.std.proofs.lemmas.List.{map-append, append-nil}
use Rattle.std.proofs.lemmas.Grind.{flat_map-append}
use Rattle.eql_values.specs.Ordered.{found_or, numbers}
use Rattle.eql_values.proofs.InOrder.{find-append}

pub map_back : {A B : Type 0} (f : A → B) (g : B → A) → ((y : B) → f (g y) ≡ y) → (ys : List B) → map f (map g ys) ≡ ys
map_back f g back [] = refl
map_back f g back (y ∷ ys) = λ i. back y i ∷ map_back f g back ys i

-- filtering before and after a map
pub map_filter : {A B : Type 0} (f : A → B) (p : A → Bool) (q : B → Bool) → ((x : A) → p x ≡ q (f x)) → (xs : List A) → map f (filter p xs) ≡ filter q (map f xs)
map_filter f p q same [] = refl
map_filter f p q same (x ∷ xs) =
    one (p x) (map_filter f p q same xs) ∙ ap (λ (b : Bool). cond b (f x ∷ filter q (map f xs)) (filter q (map f xs))) (same x)
  where
    one : (b : Bool) → map f (filter p xs) ≡ filter q (map f xs) → map f (cond b (x ∷ filter p xs) (filter p xs)) ≡ cond b (f x ∷ filter q (map f xs)) (filter q (map f xs))
    one true rest = ap (λ (l : List _). f x ∷ l) rest
    one false rest = rest

-- a test that another implies keeps what the other left
pub filter_implied : {A : Type 0} (p q : A → Bool) → ((x : A) → q x ≡ true → p x ≡ true) → (xs : List A) → filter p (filter q xs) ≡ filter q xs
filter_implied p q implied [] = refl
filter_implied p q implied (x ∷ xs) = one (q x) refl (filter_implied p q implied xs)
  where
    one : (b : Bool) → q x ≡ b → filter p (filter q xs) ≡ filter q xs → filter p (cond b (x ∷ filter q xs) (filter q xs)) ≡ cond b (x ∷ filter q xs) (filter q xs)
    one true e rest = ap (λ (c : Bool). cond c (x ∷ filter p (filter q xs)) (filter p (filter q xs))) (implied x e) ∙ ap (λ (l : List _). x ∷ l) rest
    one false e rest = rest

swap_one : {A : Type 0} (p q : A → Bool) (x : A) (xs ys : List A) (a b : Bool) → p x ≡ a → q x ≡ b → filter p xs ≡ filter q ys
    → filter p (cond b (x ∷ xs) xs) ≡ filter q (cond a (x ∷ ys) ys)
swap_one p q x xs ys true true e f h =
    ap (λ (c : Bool). cond c (x ∷ filter p xs) (filter p xs)) e ∙ ap (λ (l : List _). x ∷ l) h ∙ sym (ap (λ (c : Bool). cond c (x ∷ filter q ys) (filter q ys)) f)
swap_one p q x xs ys true false e f h = h ∙ sym (ap (λ (c : Bool). cond c (x ∷ filter q ys) (filter q ys)) f)
swap_one p q x xs ys false true e f h = ap (λ (c : Bool). cond c (x ∷ filter p xs) (filter p xs)) e ∙ h
swap_one p q x xs ys false false e f h = h

pub filters_swap : {A : Type 0} (p q : A → Bool) (xs : List A) → filter p (filter q xs) ≡ filter q (filter p xs)
filters_swap p q [] = refl
filters_swap p q (x ∷ xs) = swap_one p q x (filter q xs) (filter p xs) (p x) (q x) refl refl (filters_swap p q xs)

never : (k : ℕ) → nat_lt k 0 ≡ false
never k = grind (arith, nat_tests)

one_more_kind : {V : Type 0} (k n : ℕ) (o : Option V) → found_or (cond (nat_lt k n) o None) (cond (k == n) o None) ≡ cond (nat_lt k (suc n)) o None
one_more_kind k n o = grind (arith, nat_tests)

-- look-ups in entries whose keys are of several kinds
module _ {X K V : Type 0} (R : K → K → Ordering) (same : IsAntisymmetric R) (entry : X → K × V) (kind : K → ℕ) where
  abbrev pub of_kind : ℕ → List X → List X
  of_kind n = filter (λ x. kind (entry x).0 == n)

  pub find_kind : (n : ℕ) (xs : List X) (q : K) → find R q (map entry (of_kind n xs)) ≡ cond (kind q == n) (find R q (map entry xs)) None
  find_kind n xs q =
      ap (find R q) (map_filter entry (λ x. kind (entry x).0 == n) (λ e. kind e.0 == n) (λ x. refl) xs)
      ∙ find-where_key R (λ k. kind k == n) q (λ k e. ap (λ (k : K). kind k == n) (sym (same q k e))) (map entry xs)

  pub find_kinds : (xs : List X) (each : ℕ → List X) → ((n : ℕ) → each n ≡ of_kind n xs) → (q : K) (n : ℕ)
      → find R q (map entry (flat_map each (numbers n))) ≡ cond (nat_lt (kind q) n) (find R q (map entry xs)) None
  find_kinds xs each is q zero = sym (ap (λ (b : Bool). cond b (find R q (map entry xs)) None) (never (kind q)))
  find_kinds xs each is q (suc n) =
      ap (λ (l : List X). find R q (map entry l)) (flat_map-append each (numbers n) (n ∷ []) ∙ ap (λ (l : List X). flat_map each (numbers n) ++ l) (append-nil (each n)))
      ∙ ap (find R q) (map-append entry (flat_map each (numbers n)) (each n))
      ∙ find-append R q (map entry (flat_map each (numbers n))) (map entry (each n))
      ∙ (λ i. found_or (find_kinds xs each is q n i) ((ap (λ (l : List X). find R q (map entry l)) (is n) ∙ find_kind n xs q) i))
      ∙ one_more_kind (kind q) n (find R q (map entry xs))
