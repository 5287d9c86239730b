-- The rules of kinds, one by one, and what a query that breaks no rule is.
use Rattle.std.specs.Prelude.{◌≡◌, ◌↔◌, ℕ, ℤ, pos, int_le, List, [], ◌∷◌, length, Bool, true, false, ◌&&◌, ◌==◌, nat_le, Option, Some, None, is_none}
use Rattle.std.specs.List.{list_all}
use Rattle.eql_values.specs.declared.value.Kind.{Kind}
use Rattle.eql_values.specs.declared.value.Kind.TheVariants as kind
use Rattle.eql_values.specs.declared.value.Value.{Value}
use Rattle.eql_query.specs.Tree.{Tree, Trees, none, more}
use Rattle.eql_query.specs.Tree as t
use Rattle.eql_query.specs.declared.expr.CmpOp.{CmpOp}
use Rattle.eql_query.specs.declared.expr.PatOp.{PatOp}
use Rattle.eql_query.specs.declared.expr.MathOp.{MathOp}
use Rattle.eql_query.specs.declared.query.Span.{Span}
use Rattle.eql_query.specs.QueryTree.{TermTree, BodyTree, event, sequence, QueryTree}
use Rattle.eql_check.specs.declared.function.Function.{Function}
use Rattle.eql_check.specs.Names.{function_of}
use Rattle.eql_values.specs.Fitting.{same_kind, may_be}
use Rattle.eql_check.specs.Kinds.{can_compare, can_be_among, holds_field}
use Rattle.eql_check.specs.Calls.{takes_count, takes_kinds, given_by, bad_block_of}
use Rattle.std.specs.declared.result.Result.TheVariants.{Ok}
use Rattle.eql_check.specs.FirstBroken.{all_bool, kind_of}
use Rattle.eql_check.specs.Conditions.{all_items, own_count, shared_keys, key_count}
use Rattle.eql_check.specs.Used.{used_fields}
use Rattle.eql_check.specs.Rules.{is_known, are_runs, key_kinds, stage_count, is_span, span_of, is_pipe, first_broken}

module _ (mapping : List ℕ → Option Kind) where
  mutual
    -- an expression has this kind, or none because it is always null
    pub data HasKind : Tree → Option Kind → Type 0 where
      of_null : HasKind t.null None
      of_bool : {b : Bool} → HasKind (t.bool b) (Some kind.Bool)
      of_long : {n : ℤ} → HasKind (t.long n) (Some kind.Long)
      of_str : {s : List ℕ} → HasKind (t.str s) (Some kind.Text)
      of_field : {name : List ℕ} {optional : Bool} {k : Kind} → mapping name ≡ Some k → HasKind (t.field name optional) (Some k)
      of_no_field : {name : List ℕ} → mapping name ≡ None → HasKind (t.field name true) None
      of_not : {a : Tree} {k : Option Kind} → HasKind a k → may_be kind.Bool k ≡ true → HasKind (t.not a) (Some kind.Bool)
      of_and : {es : Trees} {ks : List (Option Kind)} → HaveKinds es ks → all_bool ks ≡ true → HasKind (t.and es) (Some kind.Bool)
      of_or : {es : Trees} {ks : List (Option Kind)} → HaveKinds es ks → all_bool ks ≡ true → HasKind (t.or es) (Some kind.Bool)
      of_cmp : {op : CmpOp} {a b : Tree} {j k : Option Kind} → HasKind a j → HasKind b k → can_compare op j k a b ≡ true →
          holds_field a && holds_field b ≡ false → HasKind (t.cmp op a b) (Some kind.Bool)
      of_pattern : {op : PatOp} {a : Tree} {patterns : List (List ℕ)} {k : Option Kind} → HasKind a k → may_be kind.Text k ≡ true →
          HasKind (t.pattern op a patterns) (Some kind.Bool)
      of_member : {fold negated : Bool} {a : Tree} {list : List Value} {k : Option Kind} → HasKind a k → can_be_among fold k list ≡ true →
          HasKind (t.member fold negated a list) (Some kind.Bool)
      of_neg : {a : Tree} {k : Option Kind} → HasKind a k → may_be kind.Long k ≡ true → HasKind (t.neg a) (Some kind.Long)
      of_math : {op : MathOp} {a b : Tree} {j k : Option Kind} → HasKind a j → HasKind b k → may_be kind.Long j ≡ true →
          may_be kind.Long k ≡ true → HasKind (t.math op a b) (Some kind.Long)
      of_call : {name : List ℕ} {fold : Bool} {args : Trees} {ks : List (Option Kind)} {f : Function} → function_of name fold ≡ Some f →
          HaveKinds args ks → takes_count f (length ks) ≡ true → bad_block_of f args ≡ None → takes_kinds f args ks ≡ true →
          HasKind (t.call name fold args) (Some (given_by f))

    pub data HaveKinds : Trees → List (Option Kind) → Type 0 where
      of_none : HaveKinds none []
      of_more : {a : Tree} {es : Trees} {k : Option Kind} {ks : List (Option Kind)} → HasKind a k → HaveKinds es ks →
          HaveKinds (more a es) (k ∷ ks)

  -- the rules of an item by itself
  pub record IsItem (term : TermTree) : Type 0 where
    pub its_kind : Option Kind
    pub has_kind : HasKind term.cond its_kind
    pub is_condition : may_be kind.Bool its_kind ≡ true
    pub keys_known : list_all (is_known mapping) term.by ≡ true
    pub runs : are_runs term.runs ≡ true

  pub data AreItems : List TermTree → Type 0 where
    no_items : AreItems []
    more_items : {term : TermTree} {terms : List TermTree} → IsItem term → AreItems terms → AreItems (term ∷ terms)

-- a key of kind k agrees with the common kind c of its place
abbrev pub may_equal : Option Kind → Option Kind → Bool
may_equal c None = true
may_equal (Some j) (Some k) = same_kind j k
may_equal None (Some k) = false

-- each key agrees with the common kind at its place; beyond them all are always null
abbrev pub within : List (Option Kind) → List (Option Kind) → Bool
within cs [] = true
within [] (k ∷ ks) = is_none k && within [] ks
within (c ∷ cs) (k ∷ ks) = may_equal c k && within cs ks

-- at each place the keys of all items that aren't always null are of one kind
pub record AreAlike (mapping : List ℕ → Option Kind) (terms : List TermTree) : Type 0 where
  pub common : List (Option Kind)
  pub each : list_all (λ term. within common (key_kinds mapping term.by)) terms ≡ true

-- a sequence has 2 to 256 stages
abbrev pub has_stages : BodyTree → Bool
has_stages (event term) = true
has_stages (sequence by span items until) = int_le (pos 2) (stage_count items) && int_le (stage_count items) (pos 256)

abbrev pub may_span : Option Span → Bool
may_span None = true
may_span (Some span) = is_span span

-- no rule is broken
pub record IsChecked (mapping : List ℕ → Option Kind) (query : QueryTree) : Type 0 where
  pub shared_known : list_all (is_known mapping) (shared_keys query.body) ≡ true
  pub items : AreItems mapping (all_items query.body)
  pub as_many_keys : list_all (λ term. length term.by == own_count (all_items query.body)) (all_items query.body) ≡ true
  pub alike_keys : AreAlike mapping (all_items query.body)
  pub stages : has_stages query.body ≡ true
  pub few_keys : nat_le (key_count query.body) 8 ≡ true
  pub few_fields : nat_le (length (used_fields mapping query)) 64 ≡ true
  pub span : may_span (span_of query.body) ≡ true
  pub few_pipes : nat_le (length query.pipes) 8 ≡ true
  pub pipes : list_all is_pipe query.pipes ≡ true

-- the function that gives the first broken rule gives none exactly when none is broken
abbrev pub CheckIsExact : Type 0
CheckIsExact = (mapping : List ℕ → Option Kind) (query : QueryTree) → (first_broken mapping query ≡ None) ↔ IsChecked mapping query

-- an expression of an item has a kind by the rules exactly when the function finds that kind
abbrev pub KindsAreExact : Type 0
KindsAreExact = (item : ℕ) (mapping : List ℕ → Option Kind) (a : Tree) (k : Option Kind) → (kind_of item mapping a ≡ Ok k) ↔ HasKind mapping a k
