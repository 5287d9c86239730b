-- The tree of each form of an expression.
use Rattle.std.proofs.Common.{◌≡◌, ◌⊎◌, inl, inr, ℕ, List, Bool, sym, ap, ◌∙◌}
use Rattle.std.specs.Prelude.{ℤ, Box}
use Rattle.std.specs.declared.alloc.Global.{Global}
use Rattle.eql_values.specs.declared.value.Value.{Value}
use Rattle.eql_query.specs.View.{tree, trees, tree_step, trees_step}
use Rattle.eql_query.specs.Tree.{Tree, Trees}
use Rattle.eql_query.specs.Tree as t
use Rattle.eql_query.specs.declared.expr.CmpOp.{CmpOp}
use Rattle.eql_query.specs.declared.expr.PatOp.{PatOp}
use Rattle.eql_query.specs.declared.expr.MathOp.{MathOp}
use Rattle.eql_query.specs.declared.expr.FieldRef.{FieldRef}
use Rattle.eql_query.specs.declared.expr.Expr.{Expr, fold-roll-Expr}
use Rattle.eql_query.specs.declared.expr.Expr.TheVariants as e
use Rattle.eql_query.specs.declared.expr.Expr.TheOpen as layer
use Rattle.eql_query.specs.declared.expr.Exprs.{Exprs}

pub tree_null : tree e.Null ≡ t.null
tree_null = ap tree (sym e.rolls-Null) ∙ fold-roll-Expr Tree Trees tree_step trees_step layer.Null

pub tree_bool : (b : Bool) → tree (e.Bool b) ≡ t.bool b
tree_bool b = ap tree (sym (e.rolls-Bool b)) ∙ fold-roll-Expr Tree Trees tree_step trees_step (layer.Bool b)

pub tree_long : (n : ℤ) → tree (e.Long n) ≡ t.long n
tree_long n = ap tree (sym (e.rolls-Long n)) ∙ fold-roll-Expr Tree Trees tree_step trees_step (layer.Long n)

pub tree_str : (s : List ℕ) → tree (e.Str s) ≡ t.str s
tree_str s = ap tree (sym (e.rolls-Str s)) ∙ fold-roll-Expr Tree Trees tree_step trees_step (layer.Str s)

pub tree_field : (field : FieldRef) → tree (e.Field field) ≡ t.field field.name field.optional
tree_field field = ap tree (sym (e.rolls-Field field)) ∙ fold-roll-Expr Tree Trees tree_step trees_step (layer.Field field)

pub tree_not : (a : Box Expr Global) → tree (e.Not a) ≡ t.not (tree a.value)
tree_not a = ap tree (sym (e.rolls-Not a)) ∙ fold-roll-Expr Tree Trees tree_step trees_step (layer.Not a)

pub tree_and : (es : Exprs) → tree (e.And es) ≡ t.and (trees es)
tree_and es = ap tree (sym (e.rolls-And es)) ∙ fold-roll-Expr Tree Trees tree_step trees_step (layer.And es)

pub tree_or : (es : Exprs) → tree (e.Or es) ≡ t.or (trees es)
tree_or es = ap tree (sym (e.rolls-Or es)) ∙ fold-roll-Expr Tree Trees tree_step trees_step (layer.Or es)

pub tree_cmp : (op : CmpOp) (a b : Box Expr Global) → tree (e.Cmp op a b) ≡ t.cmp op (tree a.value) (tree b.value)
tree_cmp op a b = ap tree (sym (e.rolls-Cmp op a b)) ∙ fold-roll-Expr Tree Trees tree_step trees_step (layer.Cmp op a b)

pub tree_pattern : (op : PatOp) (a : Box Expr Global) (patterns : List (List ℕ)) → tree (e.Pattern op a patterns) ≡ t.pattern op (tree a.value) patterns
tree_pattern op a patterns = ap tree (sym (e.rolls-Pattern op a patterns)) ∙ fold-roll-Expr Tree Trees tree_step trees_step (layer.Pattern op a patterns)

pub tree_member : (fold negated : Bool) (a : Box Expr Global) (list : List Value) → tree (e.Member fold negated a list) ≡ t.member fold negated (tree a.value) list
tree_member fold negated a list = ap tree (sym (e.rolls-Member fold negated a list)) ∙ fold-roll-Expr Tree Trees tree_step trees_step (layer.Member fold negated a list)

pub tree_neg : (a : Box Expr Global) → tree (e.Neg a) ≡ t.neg (tree a.value)
tree_neg a = ap tree (sym (e.rolls-Neg a)) ∙ fold-roll-Expr Tree Trees tree_step trees_step (layer.Neg a)

pub tree_math : (op : MathOp) (a b : Box Expr Global) → tree (e.Math op a b) ≡ t.math op (tree a.value) (tree b.value)
tree_math op a b = ap tree (sym (e.rolls-Math op a b)) ∙ fold-roll-Expr Tree Trees tree_step trees_step (layer.Math op a b)

pub tree_call : (name : List ℕ) (fold : Bool) (args : Exprs) → tree (e.Call name fold args) ≡ t.call name fold (trees args)
tree_call name fold args = ap tree (sym (e.rolls-Call name fold args)) ∙ fold-roll-Expr Tree Trees tree_step trees_step (layer.Call name fold args)

-- an expression without operands that is no field
abbrev pub IsLeaf : Expr → Type 0
IsLeaf x = (x ≡ e.Null) ⊎ (((b : Bool) × (x ≡ e.Bool b)) ⊎ (((n : ℤ) × (x ≡ e.Long n)) ⊎ ((s : List ℕ) × (x ≡ e.Str s))))

-- what a function gives there, if it gives the same at each of its four forms
pub of_leaf : {A : Type 0} (f : Tree → A) (a : A) → f t.null ≡ a → ((b : Bool) → f (t.bool b) ≡ a) → ((n : ℤ) → f (t.long n) ≡ a) → ((s : List ℕ) → f (t.str s) ≡ a) →
    (x : Expr) → IsLeaf x → f (tree x) ≡ a
of_leaf f a null bool long str x (inl is) = ap (λ y. f (tree y)) is ∙ ap f tree_null ∙ null
of_leaf f a null bool long str x (inr (inl is)) = ap (λ y. f (tree y)) is.1 ∙ ap f (tree_bool is.0) ∙ bool is.0
of_leaf f a null bool long str x (inr (inr (inl is))) = ap (λ y. f (tree y)) is.1 ∙ ap f (tree_long is.0) ∙ long is.0
of_leaf f a null bool long str x (inr (inr (inr is))) = ap (λ y. f (tree y)) is.1 ∙ ap f (tree_str is.0) ∙ str is.0

-- an operator on one operand
abbrev pub IsOverOne : Expr → Box Expr Global → Type 0
IsOverOne x a =
    (x ≡ e.Not a) ⊎ ((x ≡ e.Neg a) ⊎ (((op : PatOp) × (patterns : List (List ℕ)) × (x ≡ e.Pattern op a patterns))
    ⊎ ((fold : Bool) × (negated : Bool) × (list : List Value) × (x ≡ e.Member fold negated a list))))

-- on two
abbrev pub IsOverTwo : Expr → (a b : Box Expr Global) → Type 0
IsOverTwo x a b = ((op : CmpOp) × (x ≡ e.Cmp op a b)) ⊎ ((op : MathOp) × (x ≡ e.Math op a b))

-- on a list, or a call
abbrev pub IsOverList : Expr → Exprs → Type 0
IsOverList x es = (x ≡ e.And es) ⊎ ((x ≡ e.Or es) ⊎ ((name : List ℕ) × (fold : Bool) × (x ≡ e.Call name fold es)))

module _ {A : Type 0} (f : Tree → A) (r : A) where
  pub of_one : (x : Expr) (a : Box Expr Global) → f (t.not (tree a.value)) ≡ r → f (t.neg (tree a.value)) ≡ r →
      ((op : PatOp) (patterns : List (List ℕ)) → f (t.pattern op (tree a.value) patterns) ≡ r) →
      ((fold negated : Bool) (list : List Value) → f (t.member fold negated (tree a.value) list) ≡ r) → IsOverOne x a → f (tree x) ≡ r
  of_one x a not neg pattern member (inl is) = ap (λ y. f (tree y)) is ∙ ap f (tree_not a) ∙ not
  of_one x a not neg pattern member (inr (inl is)) = ap (λ y. f (tree y)) is ∙ ap f (tree_neg a) ∙ neg
  of_one x a not neg pattern member (inr (inr (inl is))) = ap (λ y. f (tree y)) is.2 ∙ ap f (tree_pattern is.0 a is.1) ∙ pattern is.0 is.1
  of_one x a not neg pattern member (inr (inr (inr is))) =
      ap (λ y. f (tree y)) is.3 ∙ ap f (tree_member is.0 is.1 a is.2) ∙ member is.0 is.1 is.2

  pub of_two : (x : Expr) (a b : Box Expr Global) → ((op : CmpOp) → f (t.cmp op (tree a.value) (tree b.value)) ≡ r) →
      ((op : MathOp) → f (t.math op (tree a.value) (tree b.value)) ≡ r) → IsOverTwo x a b → f (tree x) ≡ r
  of_two x a b cmp math (inl is) = ap (λ y. f (tree y)) is.1 ∙ ap f (tree_cmp is.0 a b) ∙ cmp is.0
  of_two x a b cmp math (inr is) = ap (λ y. f (tree y)) is.1 ∙ ap f (tree_math is.0 a b) ∙ math is.0

  pub of_list : (x : Expr) (es : Exprs) → f (t.and (trees es)) ≡ r → f (t.or (trees es)) ≡ r →
      ((name : List ℕ) (fold : Bool) → f (t.call name fold (trees es)) ≡ r) → IsOverList x es → f (tree x) ≡ r
  of_list x es and or call (inl is) = ap (λ y. f (tree y)) is ∙ ap f (tree_and es) ∙ and
  of_list x es and or call (inr (inl is)) = ap (λ y. f (tree y)) is ∙ ap f (tree_or es) ∙ or
  of_list x es and or call (inr (inr is)) = ap (λ y. f (tree y)) is.2 ∙ ap f (tree_call is.0 is.1 es) ∙ call is.0 is.1
