-- The tree that an expression stands for.
use Rattle.std.specs.Prelude.{List, [], ◌∷◌}
use Rattle.eql_query.specs.Tree.{Tree, Trees, none, more}
use Rattle.eql_query.specs.Tree as t
use Rattle.eql_query.specs.declared.expr.Expr.{Expr, fold-Expr}
use Rattle.eql_query.specs.declared.expr.Exprs.{Exprs, fold-Exprs}
use Rattle.eql_query.specs.declared.expr.Expr.TheOpen.{Expr-F, Exprs-F}

-- a list of trees as one
abbrev pub trees_of : List Tree → Trees
trees_of [] = none
trees_of (x ∷ xs) = more x (trees_of xs)

-- one level, with each expression inside already seen as its tree
abbrev pub tree_step : Expr-F Tree Trees → Tree
tree_step Expr-F.Null = t.null
tree_step (Expr-F.Bool b) = t.bool b
tree_step (Expr-F.Long n) = t.long n
tree_step (Expr-F.Str s) = t.str s
tree_step (Expr-F.Field f) = t.field f.name f.optional
tree_step (Expr-F.Not a) = t.not a.value
tree_step (Expr-F.And es) = t.and es
tree_step (Expr-F.Or es) = t.or es
tree_step (Expr-F.Cmp op a b) = t.cmp op a.value b.value
tree_step (Expr-F.Pattern op a patterns) = t.pattern op a.value patterns
tree_step (Expr-F.Member fold negated left list) = t.member fold negated left.value list
tree_step (Expr-F.Neg a) = t.neg a.value
tree_step (Expr-F.Math op a b) = t.math op a.value b.value
tree_step (Expr-F.Call name fold args) = t.call name fold args

abbrev pub trees_step : Exprs-F Tree Trees → Trees
trees_step es = trees_of es.items.items

-- the tree of an expression
abbrev pub tree : Expr → Tree
tree = fold-Expr Tree Trees tree_step trees_step

-- the trees of a list of expressions
abbrev pub trees : Exprs → Trees
trees = fold-Exprs Tree Trees tree_step trees_step
