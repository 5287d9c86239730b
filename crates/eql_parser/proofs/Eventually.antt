-- What a run comes to, from some number of parentheses on.
use Rattle.std.proofs.Common.{◌≡◌, ℕ, zero, suc, ◌<◌, ◌≤◌, max, Bool, true, false, if◌then◌else◌, nat_lt, List, [], ◌∷◌, length, Option, None, Ok, refl, ap, ◌∙◌, le_refl, lt-ltb, arith}
use Rattle.eql_query.specs.declared.expr.MathOp.{MathOp}
use Rattle.eql_query.specs.Tree.{Tree, Trees}
use Rattle.eql_parser.specs.Kinds.{Kind, comma_}
use Rattle.eql_parser.specs.Grammar.{IsListed, last_one, next_one}
use Rattle.eql_parser.specs.Limits.{depth}
use Rattle.eql_parser.specs.Reading.{Res, then_do, res_map, is_comma, more_of, separated, comma_list, at_level, above, chain_on, chain_from, joined_operands}
use Rattle.eql_parser.proofs.Rows.{Row, last_of, next_of}

-- the value from some number on
abbrev pub Eventually : {A : Type 0} → (ℕ → A) → A → Type 0
Eventually f x = (k : ℕ) × ((d : ℕ) → k ≤ d → f d ≡ x)

pub at_once : {A : Type 0} (f : ℕ → A) (x : A) → ((d : ℕ) → f d ≡ x) → Eventually f x
at_once f x h = (0, λ d k. h d)

pub always : {A : Type 0} (x y : A) → Eventually (λ d. x) y → x ≡ y
always x y h = h.1 h.0 (le_refl h.0)

pub eventually_same : {A : Type 0} (f g : ℕ → A) (x : A) → ((d : ℕ) → g d ≡ f d) → Eventually f x → Eventually g x
eventually_same f g x e h = (h.0, λ d k. e d ∙ h.1 d k)

pub eventually_then : {A B : Type 0} (f : ℕ → Res A) (g : ℕ → A → List Kind → Res B) (a : A) (us : List Kind) (y : Res B)
    → Eventually f (Ok (a, us)) → Eventually (λ d. g d a us) y → Eventually (λ d. then_do (f d) (g d)) y
eventually_then f g a us y h k = (max h.0 k.0, λ d l. ap (λ r. then_do r (g d)) (h.1 d (omega arith)) ∙ k.1 d (omega arith))

pub eventually_map : {A B : Type 0} (f : ℕ → Res A) (g : A → B) (a : A) (us : List Kind) → Eventually f (Ok (a, us)) → Eventually (λ d. res_map g (f d)) (Ok (g a, us))
eventually_map f g a us h = (h.0, λ d l. ap (res_map g) (h.1 d l))

pub if_true : {A : Type 0} (b : Bool) (x y : A) → b ≡ true → (if b then x else y) ≡ x
if_true true x y h = refl
if_true false x y h = absurd cc

pub if_false : {A : Type 0} (b : Bool) (x y : A) → b ≡ false → (if b then x else y) ≡ y
if_false false x y h = refl
if_false true x y h = absurd cc

pub at_level_ok : {A : Type 0} (l place : ℕ) (r : Res A) → 1 ≤ l → at_level l place r ≡ r
at_level_ok zero place r h = absurd (omega (arith, h))
at_level_ok (suc l) place r h = refl

pub above_ok : {A : Type 0} (l : ℕ) (a : Tree) (place : ℕ) (r : Res A) → depth a < l → above l a place r ≡ r
above_ok l a place r h = if_true (nat_lt (depth a) l) r _ (lt-ltb (depth a) l h)

-- nothing that goes between comes first
abbrev pub Ends : (Kind → Bool) → List Kind → Type 0
Ends is_between [] = Unit {0}
Ends is_between (k ∷ ts) = is_between k ≡ false

pub more_ends : {A : Type 0} (is_between : Kind → Bool) (again : List Kind → Res (List A)) (x : A) (rest : List Kind) → Ends is_between rest → more_of is_between again x rest ≡ Ok (x ∷ [], rest)
more_ends is_between again x [] h = refl
more_ends is_between again x (k ∷ us) h = if_false (is_between k) (res_map (λ xs. x ∷ xs) (again us)) (Ok (x ∷ [], k ∷ us)) h

-- a part that is read, and is not empty
abbrev pub Comes : {A : Type 0} → (ℕ → List Kind → Res A) → List Kind → A → List Kind → Type 0
Comes read ts x rest = Eventually (λ d. read d ts) (Ok (x, rest)) × (length rest < length ts)

pub row_all : {A : Type 0} (is_between : Kind → Bool) (read : ℕ → List Kind → Res A) (n : ℕ) (ts : List Kind) (xs : List A) (rest : List Kind) → Row is_between (Comes read) ts xs rest
    → Ends is_between rest → length ts ≤ n → Eventually (λ d. separated is_between (read d) n ts) (Ok (xs, rest))
unfolding separated
row_all is_between read zero ts _ rest (last_of h) e i = absurd (omega (arith, h.1, i))
row_all is_between read zero ts _ rest (next_of b h row) e i = absurd (omega (arith, h.1, i))
row_all is_between read (suc n) ts _ rest (last_of {x = x} h) e i =
    eventually_then (λ d. read d ts) (λ d. more_of is_between (separated is_between (read d) n)) x rest (Ok (x ∷ [], rest)) h.0
    (at_once _ _ (λ d. more_ends is_between (separated is_between (read d) n) x rest e))
row_all is_between read (suc n) ts _ rest (next_of {us = us} {k = k} {x = x} {xs = xs} b h row) e i =
    eventually_then (λ d. read d ts) (λ d. more_of is_between (separated is_between (read d) n)) x (k ∷ us) (Ok (x ∷ xs, rest)) h.0
    (eventually_same (λ d. res_map (λ ys. x ∷ ys) (separated is_between (read d) n us)) (λ d. more_of is_between (separated is_between (read d) n) x (k ∷ us)) (Ok (x ∷ xs, rest))
    (λ d. if_true (is_between k) (res_map (λ ys. x ∷ ys) (separated is_between (read d) n us)) (Ok (x ∷ [], k ∷ us)) b)
    (eventually_map (λ d. separated is_between (read d) n us) (λ ys. x ∷ ys) xs rest (row_all is_between read n us xs rest row e (omega (arith, h.1, i)))))

-- a list of the grammar is read, where what follows each of its parts lets it end
module _ {A : Type 0} (Is : List Kind → A → List Kind → Type 0) (Good : List Kind → Type 0) (read : List Kind → Res A) (good : (us : List Kind) → Good (comma_ ∷ us))
    (all : (ts : List Kind) (x : A) (rest : List Kind) → Is ts x rest → Good rest → (read ts ≡ Ok (x, rest)) × (length rest < length ts)) where
  comes : (ts : List Kind) (x : A) (rest : List Kind) → Is ts x rest → Good rest → Comes (λ d. read) ts x rest
  comes ts x rest h g = let a = all ts x rest h g in (at_once (λ d. read ts) (Ok (x, rest)) (λ d. a.0), a.1)

  listed_row : (ts : List Kind) (xs : List A) (rest : List Kind) → IsListed Is ts xs rest → Good rest → Row is_comma (Comes (λ d. read)) ts xs rest
  listed_row ts _ rest (last_one {x = x} h) g = last_of (comes ts x rest h g)
  listed_row ts _ rest (next_one {us = us} {x = x} {xs = xs} h k) g = next_of {k = comma_} refl (comes ts x (comma_ ∷ us) h (good us)) (listed_row us xs rest k g)

  pub listed_all : (ts : List Kind) (xs : List A) (rest : List Kind) → IsListed Is ts xs rest → Good rest → Ends is_comma rest → comma_list read ts ≡ Ok (xs, rest)
  listed_all ts xs rest h g e = always _ _ (row_all is_comma (λ d. read) (length ts) ts xs rest (listed_row ts xs rest h g) e (le_refl (length ts)))

-- no operator comes first
abbrev pub Stops : (Kind → Option MathOp) → List Kind → Type 0
Stops operator [] = Unit {0}
Stops operator (k ∷ ts) = operator k ≡ None

pub chain_ends : (operator : Kind → Option MathOp) (read : ℕ → List Kind → Res Tree) (l n : ℕ) (a : Tree) (rest : List Kind) → Stops operator rest
    → chain_from operator read l n a rest ≡ Ok (a, rest)
unfolding chain_from
chain_ends operator read l zero a rest s = refl
chain_ends operator read l (suc n) a [] s = refl
chain_ends operator read l (suc n) a (k ∷ us) s = ap (λ o. chain_on read l (chain_from operator read l n) a o k us) s

pub joined_one : (is_between : Kind → Bool) (node : Trees → Tree) (read : ℕ → List Kind → Res Tree) (l : ℕ) (e : Tree) (rest : List Kind) → Ends is_between rest
    → joined_operands is_between node read l e rest ≡ Ok (e, rest)
joined_one is_between node read l e [] h = refl
joined_one is_between node read l e (k ∷ us) h = if_false (is_between k) _ (Ok (e, k ∷ us)) h
