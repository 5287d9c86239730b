-- Several parts with something between: what is read as a list is a list of the grammar, and back.
use Rattle.std.proofs.Common.{◌≡◌, ℕ, ◌≤◌, Bool, true, false, List, [], ◌∷◌, refl, subst, arith}
use Rattle.eql_query.specs.Tree.{Tree}
use Rattle.eql_query.specs.View.{trees_of}
use Rattle.eql_parser.specs.Kinds.{Kind, and_, or_, comma_}
use Rattle.eql_parser.specs.Grammar.{IsListed, last_one, next_one, Joint, between, IsOperands, last, next, IsOperand}
use Rattle.eql_parser.specs.Limits.{depth, deepest, depth_but}
use Rattle.eql_parser.specs.Reading.{is_or, is_and, is_comma}

-- parts of one sort, with something between
pub data Row {A : Type 0} (is_between : Kind → Bool) (Is : List Kind → A → List Kind → Type 0) : List Kind → List A → List Kind → Type 0 where
  last_of : {ts rest : List Kind} {x : A} → Is ts x rest → Row is_between Is ts (x ∷ []) rest
  next_of : {ts us rest : List Kind} {k : Kind} {x : A} {xs : List A} → is_between k ≡ true → Is ts x (k ∷ us) → Row is_between Is us xs rest → Row is_between Is ts (x ∷ xs) rest

pub false_not_true : {A : Type 0} → false ≡ true → A
false_not_true h = absurd cc

pub or_only : (k : Kind) → is_or k ≡ true → k ≡ or_
or_only or_ h = refl
or_only _ h = false_not_true h

pub and_only : (k : Kind) → is_and k ≡ true → k ≡ and_
and_only and_ h = refl
and_only _ h = false_not_true h

pub comma_only : (k : Kind) → is_comma k ≡ true → k ≡ comma_
comma_only comma_ h = refl
comma_only _ h = false_not_true h

pub row_listed : {A : Type 0} (Is : List Kind → A → List Kind → Type 0) (ts : List Kind) (xs : List A) (rest : List Kind) → Row is_comma Is ts xs rest → IsListed Is ts xs rest
row_listed Is _ _ rest (last_of h) = last_one h
row_listed Is ts _ rest (next_of {us = us} {k = k} {x = x} {xs = xs} t h r) =
    next_one (subst (λ j. Is ts x (j ∷ us)) (comma_only k t) h) (row_listed Is us xs rest r)

-- a tree of at most so many levels
abbrev pub Within : (List Kind → Tree → List Kind → Type 0) → ℕ → List Kind → Tree → List Kind → Type 0
Within Is l ts e rest = Is ts e rest × (depth e ≤ l)

-- and where one number counts as nothing
abbrev pub WithinBut : ℕ → (List Kind → Tree → List Kind → Type 0) → ℕ → List Kind → Tree → List Kind → Type 0
WithinBut h Is l ts e rest = Is ts e rest × (depth_but h e ≤ l)

pub row_operands : (j : Joint) (is_between : Kind → Bool) (Is : List Kind → Tree → List Kind → Type 0) (l : ℕ) → ((k : Kind) → is_between k ≡ true → k ≡ between j)
    → ((ts : List Kind) (e : Tree) (rest : List Kind) → Is ts e rest → Within (IsOperand j) l ts e rest)
    → (ts : List Kind) (es : List Tree) (rest : List Kind) → Row is_between Is ts es rest → IsOperands j ts (trees_of es) rest × (deepest (trees_of es) ≤ l)
row_operands j is_between Is l only operand ts _ rest (last_of {x = e} h) = let o = operand ts e rest h in (last o.0, omega (arith, o.1))
row_operands j is_between Is l only operand ts _ rest (next_of {us = us} {k = k} {x = e} {xs = es} t h r) =
    let o = operand ts e (k ∷ us) h in
    let s = row_operands j is_between Is l only operand us es rest r in
    (next (subst (λ i. IsOperand j ts e (i ∷ us)) (only k t) o.0) s.0, omega (arith, o.1, s.1))
