-- Expressions as trees without pointers, one constructor for each variant.
use Rattle.std.specs.Prelude.{ℕ, ℤ, List, Bool}
use Rattle.eql_values.specs.declared.value.Value.{Value}
use Rattle.eql_query.specs.declared.expr.CmpOp.{CmpOp}
use Rattle.eql_query.specs.declared.expr.PatOp.{PatOp}
use Rattle.eql_query.specs.declared.expr.MathOp.{MathOp}

mutual
  pub data Tree : Type 0 where
    null : Tree
    bool : Bool → Tree
    long : ℤ → Tree
    str : List ℕ → Tree
    field : (name : List ℕ) (optional : Bool) → Tree
    not : Tree → Tree
    and : Trees → Tree
    or : Trees → Tree
    cmp : CmpOp → Tree → Tree → Tree
    pattern : PatOp → Tree → List (List ℕ) → Tree
    member : (fold negated : Bool) → Tree → List Value → Tree
    neg : Tree → Tree
    math : MathOp → Tree → Tree → Tree
    call : (name : List ℕ) (fold : Bool) → Trees → Tree

  pub data Trees : Type 0 where
    none : Trees
    more : Tree → Trees → Trees
