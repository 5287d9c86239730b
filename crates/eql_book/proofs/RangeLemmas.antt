-- What lies between two places of a list, and what pipes keep of it.
use Rattle.std.proofs.Common.{get_or, ◌≡◌, ℕ, zero, suc, ◌+◌, ◌-◌, ◌<◌, ◌≤◌, List, [], ◌∷◌, ◌++◌, length, take, drop, refl, sym, ap, ◌∙◌, arith, Some, None}
use Rattle.std.specs.Prelude.{min, slice_get}
use Rattle.std.proofs.lemmas.List.{drop-drop, drop-take, length-drop, length-take-le, take_more, drop_more}
use Rattle.std.proofs.lemmas.Option.{slice_get-get_or, get_or_from_slice_get}
use Rattle.eql_values.specs.declared.found.Numbered.{Numbered}
use Rattle.eql_values.specs.declared.cut.Pipe.TheVariants as pipe
use Rattle.eql_book.specs.Gates.{Narrows}

take_none : (n : ℕ) → take n (let none : List Numbered = [] in none) ≡ []
take_none zero = refl
take_none (suc n) = refl

take_take : (n k : ℕ) (xs : List Numbered) → take n (take k xs) ≡ take (min k n) xs
take_take zero k xs = ap (λ (j : ℕ). take j xs) (least k)
  where
    least : (k : ℕ) → 0 ≡ min k 0
    least k = omega arith
take_take (suc n) zero xs = ap (λ (j : ℕ). take j xs) (least n)
  where
    least : (n : ℕ) → 0 ≡ min 0 (suc n)
    least n = omega arith
take_take (suc n) (suc k) [] = sym (take_none (min (suc k) (suc n)))
take_take (suc n) (suc k) (x ∷ xs) = ap (λ (l : List Numbered). x ∷ l) (take_take n k xs) ∙ ap (λ (j : ℕ). take j (x ∷ xs)) (more n k)
  where
    more : (n k : ℕ) → suc (min k n) ≡ min (suc k) (suc n)
    more n k = omega arith

pub head_narrows : (count from to : ℕ) → from ≤ to → Narrows (pipe.Head count) (from, to) (from, from + min (to - from) count)
head_narrows count from to order list within =
    take_take count (to - from) (drop from list) ∙ ap (λ (j : ℕ). take j (drop from list)) same
  where
    same : min (to - from) count ≡ from + min (to - from) count - from
    same = omega arith

pub tail_narrows : (count from to : ℕ) → from ≤ to → Narrows (pipe.Tail count) (from, to) (to - min (to - from) count, to)
tail_narrows count from to order list within =
    let some : List Numbered = drop from list in
    let gone : ℕ = to - from - count in
    let left : ℕ = min (to - from) count in
    let fewer = length-drop from list in
    let all : length (take (to - from) some) ≡ to - from = length-take-le (to - from) some (omega (arith, fewer, within, order)) in
    let sum : to - from ≡ gone + left = omega (arith, order) in
    let start : from + gone ≡ to - left = omega (arith, order) in
    let count_is : left ≡ to - (to - left) = omega (arith, order) in
    ap (λ (n : ℕ). drop (n - count) (take (to - from) some)) all
    ∙ ap (λ (n : ℕ). drop gone (take n some)) sum
    ∙ drop-take gone left some
    ∙ ap (take left) (drop-drop gone from list)
    ∙ (λ i. take (count_is i) (drop (start i) list))

-- one more item
pub one_more : (from index : ℕ) (items : List Numbered) (x : Numbered) → from ≤ index → slice_get items index ≡ Some x → index < length items
    → take (index + 1 - from) (drop from items) ≡ take (index - from) (drop from items) ++ x ∷ []
one_more from index items x order is within =
    let fewer = length-drop from items in
    let rest : List Numbered = drop from items in
    let next : index + 1 - from ≡ index - from + 1 = omega (arith, order) in
    let there : index - from < length rest = omega (arith, fewer, within, order) in
    let place : from + (index - from) ≡ index = omega (arith, order) in
    let here : drop (index - from) rest ≡ drop index items = drop-drop (index - from) from items ∙ ap (λ (n : ℕ). drop n items) place in
    ap (λ (n : ℕ). take n rest) next ∙ take_more rest (index - from) x there
    ∙ ap (λ (y : Numbered). take (index - from) rest ++ y ∷ []) (first_is (index - from) rest x (here ∙ drop_more items index x within) there ∙ get_or_from_slice_get items index x x is)
  where
    heads : (a b : Numbered) (l m : List Numbered) → a ∷ l ≡ b ∷ m → a ≡ b
    heads a b l m e = cc

    first_is : (n : ℕ) (xs : List Numbered) (x : Numbered) {y : Numbered} {ys : List Numbered} → drop n xs ≡ y ∷ ys → n < length xs → get_or xs n x ≡ y
    first_is n xs x {y} {ys} e lt = heads (get_or xs n x) y (drop (n + 1) xs) ys (sym (drop_more xs n x lt) ∙ e)

-- an item within the list is there
pub is_there : (items : List Numbered) (index : ℕ) → index < length items → slice_get items index ≡ None → ⊥
is_there [] index within none = absurd (omega (arith, within))
is_there (x ∷ items) index within none = let some = slice_get-get_or (x ∷ items) index x within in cc
