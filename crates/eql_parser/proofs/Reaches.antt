-- What a run comes to, from some number of parentheses on, or that it stops at a level too many, where no more than so many tokens are left.
use Rattle.std.proofs.Common.{◌≡◌, ℕ, zero, suc, ◌-◌, ◌<◌, ◌≤◌, ◌⊎◌, inl, inr, Bool, true, List, [], ◌∷◌, length, Some, Option, Ok, Err, refl, ap, arith}
use Rattle.eql_query.specs.declared.expr.MathOp.{MathOp}
use Rattle.eql_query.specs.Tree.{Tree, Trees, more}
use Rattle.eql_query.specs.Tree as t
use Rattle.eql_query.specs.View.{trees_of}
use Rattle.eql_parser.specs.Kinds.{Kind}
use Rattle.eql_parser.specs.Limits.{depth}
use Rattle.eql_parser.specs.Reading.{Fail, TooDeep, Res, then_do, res_map, more_of, separated, above, chain_on, chain_from, joined_operands}
use Rattle.eql_parser.proofs.Rows.{Row, last_of, next_of}
use Rattle.eql_parser.proofs.Agrees.{which}
use Rattle.eql_parser.proofs.Levels.{above_deep}
use Rattle.eql_parser.proofs.Eventually.{Eventually, at_once, eventually_same, eventually_then, eventually_map, if_true, above_ok, Ends, more_ends}

-- the run stops at a level too many, with no more than so many tokens left
abbrev pub StopsLate : {A : Type 0} → (most : ℕ) → (ℕ → Res A) → Type 0
StopsLate most f = (j : ℕ) × (j < most) × Eventually f (Err (TooDeep (suc j)))

abbrev pub Reaches : {A : Type 0} → (most : ℕ) → (ℕ → Res A) → A × List Kind → Type 0
Reaches most f x = Eventually f (Ok x) ⊎ StopsLate most f

stops_then : {A B : Type 0} (f : ℕ → Res A) (g : ℕ → A → List Kind → Res B) (e : Fail) → Eventually f (Err e) → Eventually (λ d. then_do (f d) (g d)) (Err e)
stops_then f g e h = (h.0, λ d l. ap (λ r. then_do r (g d)) (h.1 d l))

stops_map : {A B : Type 0} (f : ℕ → Res A) (g : A → B) (e : Fail) → Eventually f (Err e) → Eventually (λ d. res_map g (f d)) (Err e)
stops_map f g e h = (h.0, λ d l. ap (res_map g) (h.1 d l))

-- With none left, the run doesn't stop.
pub reaches_now : {A : Type 0} (f : ℕ → Res A) (x : A × List Kind) → Reaches 0 f x → Eventually f (Ok x)
reaches_now f x (inl h) = h
reaches_now f x (inr (j, i, h)) = absurd (omega (arith, i))

module _ (most : ℕ) where
  pub reaches_at_once : {A : Type 0} (f : ℕ → Res A) (x : A × List Kind) → ((d : ℕ) → f d ≡ Ok x) → Reaches most f x
  reaches_at_once f x h = inl (at_once f (Ok x) h)

  pub reaches_same : {A : Type 0} (f g : ℕ → Res A) (x : A × List Kind) → ((d : ℕ) → g d ≡ f d) → Reaches most f x → Reaches most g x
  reaches_same f g x e (inl h) = inl (eventually_same f g (Ok x) e h)
  reaches_same f g x e (inr (j, i, h)) = inr (j, i, eventually_same f g (Err (TooDeep (suc j))) e h)

  pub reaches_then : {A B : Type 0} (f : ℕ → Res A) (g : ℕ → A → List Kind → Res B) (a : A) (us : List Kind) (y : B × List Kind)
      → Reaches most f (a, us) → Reaches most (λ d. g d a us) y → Reaches most (λ d. then_do (f d) (g d)) y
  reaches_then f g a us y (inl h) (inl k) = inl (eventually_then f g a us (Ok y) h k)
  reaches_then f g a us y (inl h) (inr (j, i, k)) = inr (j, i, eventually_then f g a us (Err (TooDeep (suc j))) h k)
  reaches_then f g a us y (inr (j, i, h)) k = inr (j, i, stops_then f g (TooDeep (suc j)) h)

  pub reaches_map : {A B : Type 0} (f : ℕ → Res A) (g : A → B) (a : A) (us : List Kind) → Reaches most f (a, us) → Reaches most (λ d. res_map g (f d)) (g a, us)
  reaches_map f g a us (inl h) = inl (eventually_map f g a us h)
  reaches_map f g a us (inr (j, i, h)) = inr (j, i, stops_map f g (TooDeep (suc j)) h)

  -- an operator above its operand, which has a level left unless few tokens are
  pub reaches_above : {A : Type 0} (l : ℕ) (a : Tree) (j : ℕ) (x : ℕ → Res A) (y : A × List Kind) → (most ≤ suc j → depth a < l) → Reaches most x y
      → Reaches most (λ d. above l a (suc j) (x d)) y
  reaches_above l a j x y less r = by_depth (which (depth a) l) (which (suc j) most)
    where
      by_depth : (depth a < l) ⊎ (l ≤ depth a) → (suc j < most) ⊎ (most ≤ suc j) → Reaches most (λ d. above l a (suc j) (x d)) y
      by_depth (inl h) k = reaches_same x (λ d. above l a (suc j) (x d)) y (λ d. above_ok l a (suc j) (x d) h) r
      by_depth (inr h) (inl k) = inr (j, omega (arith, k), at_once (λ d. above l a (suc j) (x d)) (Err (TooDeep (suc j))) (λ d. above_deep l (depth a) a (suc j) (x d) refl h))
      by_depth (inr h) (inr k) = let few = less k in absurd (omega (arith, h, few))

  -- a part that is read, and is not empty
  abbrev pub Part : {A : Type 0} → (ℕ → List Kind → Res A) → List Kind → A → List Kind → Type 0
  Part read ts x rest = Reaches most (λ d. read d ts) (x, rest) × (length rest < length ts)

  pub row_reaches : {A : Type 0} (is_between : Kind → Bool) (read : ℕ → List Kind → Res A) (n : ℕ) (ts : List Kind) (xs : List A) (rest : List Kind) → Row is_between (Part read) ts xs rest
      → Ends is_between rest → length ts ≤ n → Reaches most (λ d. separated is_between (read d) n ts) (xs, rest)
  unfolding separated
  row_reaches is_between read zero ts _ rest (last_of h) e i = absurd (omega (arith, h.1, i))
  row_reaches is_between read zero ts _ rest (next_of b h row) e i = absurd (omega (arith, h.1, i))
  row_reaches is_between read (suc n) ts _ rest (last_of {x = x} h) e i =
      reaches_then (λ d. read d ts) (λ d. more_of is_between (separated is_between (read d) n)) x rest (x ∷ [], rest) h.0
      (reaches_at_once (λ d. more_of is_between (separated is_between (read d) n) x rest) (x ∷ [], rest) (λ d. more_ends is_between (separated is_between (read d) n) x rest e))
  row_reaches is_between read (suc n) ts _ rest (next_of {us = us} {k = k} {x = x} {xs = xs} b h row) e i =
      reaches_then (λ d. read d ts) (λ d. more_of is_between (separated is_between (read d) n)) x (k ∷ us) (x ∷ xs, rest) h.0
      (reaches_same (λ d. res_map (λ ys. x ∷ ys) (separated is_between (read d) n us)) (λ d. more_of is_between (separated is_between (read d) n) x (k ∷ us)) (x ∷ xs, rest)
      (λ d. if_true (is_between k) (res_map (λ ys. x ∷ ys) (separated is_between (read d) n us)) (Ok (x ∷ [], k ∷ us)) b)
      (reaches_map (λ d. separated is_between (read d) n us) (λ ys. x ∷ ys) xs rest (row_reaches is_between read n us xs rest row e (omega (arith, h.1, i)))))

  -- an operator and its right side are one turn of the loop
  pub reaches_turn : (operator : Kind → Option MathOp) (read : ℕ → ℕ → List Kind → Res Tree) (l n : ℕ) (us : List Kind) (k : Kind) (o : MathOp) (a b : Tree) (rest : List Kind) (y : Tree × List Kind)
      → operator k ≡ Some o → (most ≤ suc (length us) → depth a < l) → Reaches most (λ d. read d (l - 1) us) (b, rest) → length (k ∷ us) ≤ n
      → ((m : ℕ) → n ≡ suc m → Reaches most (λ d. chain_from operator (read d) l m (t.math o a b) rest) y) → Reaches most (λ d. chain_from operator (read d) l n a (k ∷ us)) y
  unfolding chain_from
  reaches_turn operator read l zero us k o a b rest y e less r s turns = absurd (omega (arith, s))
  reaches_turn operator read l (suc n) us k o a b rest y e less r s turns =
      reaches_same (λ d. above l a (suc (length us)) (then_do (read d (l - 1) us) (λ c vs. chain_from operator (read d) l n (t.math o a c) vs))) (λ d. chain_from operator (read d) l (suc n) a (k ∷ us)) y
      (λ d. ap (λ p. chain_on (read d) l (chain_from operator (read d) l n) a p k us) e)
      (reaches_above l a (length us) (λ d. then_do (read d (l - 1) us) (λ c vs. chain_from operator (read d) l n (t.math o a c) vs)) y less
      (reaches_then (λ d. read d (l - 1) us) (λ d c vs. chain_from operator (read d) l n (t.math o a c) vs) b rest y r (turns n refl)))

  pub reaches_joined : (is_between : Kind → Bool) (node : Trees → Tree) (read : ℕ → ℕ → List Kind → Res Tree) (l : ℕ) (e : Tree) (k : Kind) (us : List Kind) (es : List Tree) (rest : List Kind)
      → is_between k ≡ true → (most ≤ suc (length us) → depth e < l) → Reaches most (λ d. separated is_between (read d (l - 1)) (length us) us) (es, rest)
      → Reaches most (λ d. joined_operands is_between node (read d) l e (k ∷ us)) (node (more e (trees_of es)), rest)
  reaches_joined is_between node read l e k us es rest b less r =
      let make : List Tree → Tree = λ xs. node (more e (trees_of xs)) in
      reaches_same (λ d. above l e (suc (length us)) (res_map make (separated is_between (read d (l - 1)) (length us) us))) (λ d. joined_operands is_between node (read d) l e (k ∷ us)) (node (more e (trees_of es)), rest)
      (λ d. if_true (is_between k) (above l e (suc (length us)) (res_map make (separated is_between (read d (l - 1)) (length us) us))) (Ok (e, k ∷ us)) b)
      (reaches_above l e (length us) (λ d. res_map make (separated is_between (read d (l - 1)) (length us) us)) (node (more e (trees_of es)), rest) less
      (reaches_map (λ d. separated is_between (read d (l - 1)) (length us) us) make es rest r))
