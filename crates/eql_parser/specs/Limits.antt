-- How many levels a query has, and how many parentheses stand open in it.
use Rattle.std.specs.Prelude.{◌≡◌, ◌++◌, ℕ, suc, ◌-◌, ◌≤◌, ◌==◌, max, pos, negsuc, if◌then◌else◌, List, [], ◌∷◌, Option, Some, None}
use Rattle.eql_lexer.specs.declared.token.Token.{Token}
use Rattle.eql_query.specs.Tree.{Tree, Trees, none, more}
use Rattle.eql_query.specs.Tree as t
use Rattle.eql_query.specs.QueryTree.{TermTree, BodyTree, event, sequence, QueryTree}
use Rattle.eql_parser.specs.Kinds.{Kind, open_, close_, kinds}

-- the levels of a tree: a leaf is one, and the operands of one `and` or `or` stand side by side
abbrev mutual
  pub depth : Tree → ℕ
  depth t.null = 1
  depth (t.bool b) = 1
  depth (t.long n) = 1
  depth (t.str s) = 1
  depth (t.field n o) = 1
  depth (t.not e) = suc (depth e)
  depth (t.and es) = suc (deepest es)
  depth (t.or es) = suc (deepest es)
  depth (t.cmp o a b) = suc (max (depth a) (depth b))
  depth (t.pattern o a ss) = suc (depth a)
  depth (t.member f n a vs) = suc (depth a)
  depth (t.neg e) = suc (depth e)
  depth (t.math o a b) = suc (max (depth a) (depth b))
  depth (t.call w f es) = suc (deepest es)

  pub deepest : Trees → ℕ
  deepest none = 0
  deepest (more e es) = max (depth e) (deepest es)

abbrev pub deepest_item : List TermTree → ℕ
deepest_item [] = 0
deepest_item (i ∷ is) = max (depth i.cond) (deepest_item is)

abbrev pub until_depth : Option TermTree → ℕ
until_depth None = 0
until_depth (Some i) = depth i.cond

abbrev pub body_levels : BodyTree → ℕ
body_levels (event i) = depth i.cond
body_levels (sequence by span items until) = max (deepest_item items) (until_depth until)

-- the levels of the deepest condition
abbrev pub levels : QueryTree → ℕ
levels query = body_levels query.body

-- The levels of a tree, in which one number counts as nothing: it stands for what hasn't begun yet.
abbrev mutual
  pub depth_but : ℕ → Tree → ℕ
  depth_but h t.null = 1
  depth_but h (t.bool b) = 1
  depth_but h (t.long (pos n)) = if n == h then 0 else 1
  depth_but h (t.long (negsuc n)) = 1
  depth_but h (t.str s) = 1
  depth_but h (t.field n o) = 1
  depth_but h (t.not e) = suc (depth_but h e)
  depth_but h (t.and es) = suc (deepest_but h es)
  depth_but h (t.or es) = suc (deepest_but h es)
  depth_but h (t.cmp o a b) = suc (max (depth_but h a) (depth_but h b))
  depth_but h (t.pattern o a ss) = suc (depth_but h a)
  depth_but h (t.member f n a vs) = suc (depth_but h a)
  depth_but h (t.neg e) = suc (depth_but h e)
  depth_but h (t.math o a b) = suc (max (depth_but h a) (depth_but h b))
  depth_but h (t.call w f es) = suc (deepest_but h es)

  pub deepest_but : ℕ → Trees → ℕ
  deepest_but h none = 0
  deepest_but h (more e es) = max (depth_but h e) (deepest_but h es)

abbrev pub deepest_item_but : ℕ → List TermTree → ℕ
deepest_item_but h [] = 0
deepest_item_but h (i ∷ is) = max (depth_but h i.cond) (deepest_item_but h is)

abbrev pub until_depth_but : ℕ → Option TermTree → ℕ
until_depth_but h None = 0
until_depth_but h (Some i) = depth_but h i.cond

abbrev pub body_levels_but : ℕ → BodyTree → ℕ
body_levels_but h (event i) = depth_but h i.cond
body_levels_but h (sequence by span items until) = max (deepest_item_but h items) (until_depth_but h until)

-- the levels of a query, in which one number counts as nothing
abbrev pub levels_but : ℕ → QueryTree → ℕ
levels_but h query = body_levels_but h query.body

-- the parentheses that stand open behind these tokens, with n before them
abbrev pub open_behind : ℕ → List Kind → ℕ
open_behind n [] = n
open_behind n (open_ ∷ ts) = open_behind (suc n) ts
open_behind n (close_ ∷ ts) = open_behind (n - 1) ts
open_behind n (_ ∷ ts) = open_behind n ts

-- nowhere more than so many parentheses stand open
abbrev pub FewAreOpen : ℕ → List Kind → Type 0
FewAreOpen most ks = (before behind : List Kind) → ks ≡ before ++ behind → open_behind 0 before ≤ most

abbrev pub OpensAtMost : ℕ → List Token → Type 0
OpensAtMost most tokens = FewAreOpen most (kinds tokens)
