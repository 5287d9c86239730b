-- Whether a path leads under a name, by one byte and one comparison.
use Rattle.std.proofs.Common.{◌≡◌, ℕ, ◌<◌, ◌≤◌, List, [], ◌∷◌, ◌++◌, length, take, get_or, Bool, true, false, not, ◌&&◌, ◌||◌, ◌==◌, nat_eq, bytes_eq, refl, sym, ap, ap₂, ◌∙◌, arith}
use Rattle.std.proofs.lemmas.Bool.{eqb-true, eqb-false, eq-eqb, ne_eqb}
use Rattle.std.specs.List.{starts_with}
use Rattle.eql_lines.specs.Reach.{is_nil, leads}

or_false : (b : Bool) → (b || false) ≡ b
or_false true = refl
or_false false = refl

and_false : (b : Bool) → (b && false) ≡ false
and_false true = refl
and_false false = refl

and_swap : (a b c : Bool) → (a && (b && c)) ≡ (b && (a && c))
and_swap true true c = refl
and_swap true false c = refl
and_swap false true c = refl
and_swap false false c = refl

no_dot : (path key : List ℕ) → length path ≤ length key → starts_with nat_eq path (key ++ 46 ∷ []) ≡ false
no_dot [] [] h = refl
no_dot [] (k ∷ ks) h = refl
no_dot (p ∷ ps) [] h = absurd (omega arith)
no_dot (p ∷ ps) (k ∷ ks) h = ap (λ b. nat_eq k p && b) (no_dot ps ks (omega arith)) ∙ and_false (nat_eq k p)

longer : (path key : List ℕ) → length key < length path → bytes_eq key path ≡ false
longer [] key h = absurd (omega arith)
longer (p ∷ ps) [] h = refl
longer (p ∷ ps) (k ∷ ks) h = ap (λ b. nat_eq k p && b) (longer ps ks (omega arith)) ∙ and_false (nat_eq k p)

swapped : (a b : ℕ) (t : Bool) → nat_eq a b ≡ t → nat_eq b a ≡ t
swapped a b true e = eq-eqb b a (sym (eqb-true a b e))
swapped a b false e = ne_eqb b a (λ f. eqb-false a b e (sym f))

dot_after : (path key : List ℕ) → length key < length path → starts_with nat_eq path (key ++ 46 ∷ []) ≡ ((get_or path (length key) 0 == 46) && bytes_eq key (take (length key) path))
dot_after [] key h = absurd (omega arith)
dot_after (p ∷ ps) [] h = ap (λ b. b && true) (swapped p 46 _ refl)
dot_after (p ∷ ps) (k ∷ ks) h = ap (λ b. nat_eq k p && b) (dot_after ps ks (omega arith)) ∙ and_swap (nat_eq k p) _ _

pub leads_short : (key path : List ℕ) → length path ≤ length key → leads key path ≡ (not (is_nil path) && bytes_eq key path)
leads_short key path h = ap (λ b. not (is_nil path) && b) (ap (λ b. bytes_eq key path || b) (no_dot path key h) ∙ or_false (bytes_eq key path))

not_nil : (path : List ℕ) → 0 < length path → not (is_nil path) ≡ true
not_nil [] h = absurd (omega arith)
not_nil (p ∷ ps) h = refl

pub leads_long : (key path : List ℕ) → length key < length path → leads key path ≡ ((get_or path (length key) 0 == 46) && bytes_eq key (take (length key) path))
leads_long key path h = ap₂ (λ a b. a && b) (not_nil path (omega arith)) (ap (λ b. b || starts_with nat_eq path (key ++ 46 ∷ [])) (longer path key h) ∙ dot_after path key h)
