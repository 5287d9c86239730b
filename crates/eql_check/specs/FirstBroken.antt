-- The kind of an expression, or the first rule that it breaks: operands before their operator, and left before right.
use Rattle.std.specs.Prelude.{ℕ, List, [], ◌∷◌, length, Bool, true, false, ◌&&◌, Option, Some, None, if◌then◌else◌}
use Rattle.std.specs.declared.result.Result.{Result}
use Rattle.std.specs.declared.result.Result.TheVariants.{Ok, Err}
use Rattle.eql_values.specs.declared.value.Kind.{Kind}
use Rattle.eql_values.specs.declared.value.Kind.TheVariants as kind
use Rattle.eql_values.specs.declared.value.Value.{Value}
use Rattle.eql_query.specs.Tree.{Tree, Trees, none, more}
use Rattle.eql_query.specs.Tree as t
use Rattle.eql_query.specs.declared.expr.CmpOp.{CmpOp}
use Rattle.eql_check.specs.declared.function.Function.{Function}
use Rattle.eql_check.specs.declared.refused.CheckRefused.{CheckRefused}
use Rattle.eql_check.specs.declared.refused.CheckRefused.TheVariants as broken
use Rattle.eql_check.specs.Names.{function_of}
use Rattle.eql_values.specs.Fitting.{may_be}
use Rattle.eql_check.specs.Kinds.{can_compare, can_be_among, holds_field}
use Rattle.eql_check.specs.Calls.{takes_count, takes_kinds, given_by, bad_block_of, shown_function}

-- a kind, which is none for what is always null, or a broken rule
abbrev pub Found : Type 0
Found = Result (Option Kind) CheckRefused

-- the kinds of several expressions, or the first broken rule
abbrev pub AllFound : Type 0
AllFound = Result (List (Option Kind)) CheckRefused

abbrev pub bind : Found → (Option Kind → Found) → Found
bind (Ok k) go = go k
bind (Err e) go = Err e

abbrev pub bind_all : AllFound → (List (Option Kind) → Found) → Found
bind_all (Ok ks) go = go ks
bind_all (Err e) go = Err e

abbrev pub and_more : Found → AllFound → AllFound
and_more (Err e) rest = Err e
and_more (Ok k) (Err e) = Err e
and_more (Ok k) (Ok ks) = Ok (k ∷ ks)

abbrev pub all_bool : List (Option Kind) → Bool
all_bool [] = true
all_bool (k ∷ ks) = may_be kind.Bool k && all_bool ks

-- the kind of a field by what the mapping has
abbrev pub field_kind : Option Kind → Bool → List ℕ → Found
field_kind (Some k) optional name = Ok (Some k)
field_kind None true name = Ok None
field_kind None false name = Err (broken.UnknownField name)

module _ (item : ℕ) where
  -- this kind where the operands have kinds that fit
  abbrev pub kind_if : Bool → Kind → Found
  kind_if b k = if b then Ok (Some k) else Err (broken.KindMismatch item)

  -- no comparison has a field on both sides
  abbrev pub unless_fields : Bool → Found → Found
  unless_fields both (Err e) = Err e
  unless_fields both (Ok k) = if both then Err (broken.FieldToField item) else Ok k

  -- the kind of `and` and `or`
  abbrev pub connective : AllFound → Found
  connective all = bind_all all (λ ks. kind_if (all_bool ks) kind.Bool)

  -- the kind of a comparison of two sides of kinds j and k
  abbrev pub comparison : CmpOp → Option Kind → Option Kind → Tree → Tree → Found
  comparison op j k a b = unless_fields (holds_field a && holds_field b) (kind_if (can_compare op j k a b) kind.Bool)

  -- the kind of an operator on two whole numbers
  abbrev pub calculation : Option Kind → Option Kind → Found
  calculation j k = kind_if (may_be kind.Long j && may_be kind.Long k) kind.Long

  -- a call's kind where its blocks are in form
  abbrev pub in_form : Option (List ℕ) → Bool → Kind → Found
  in_form (Some s) b k = Err (broken.Cidr s)
  in_form None b k = kind_if b k

  -- what a call gives, by the kinds of its arguments
  abbrev pub call_kind : Option Function → (shown : List ℕ) → Trees → List (Option Kind) → Found
  call_kind None name args ks = Err (broken.UnknownFunction name)
  call_kind (Some f) name args ks =
      if takes_count f (length ks) then in_form (bad_block_of f args) (takes_kinds f args ks) (given_by f) else Err (broken.Arity name)

module _ (item : ℕ) (mapping : List ℕ → Option Kind) where
  abbrev mutual
    pub kind_of : Tree → Found
    kind_of t.null = Ok None
    kind_of (t.bool b) = Ok (Some kind.Bool)
    kind_of (t.long n) = Ok (Some kind.Long)
    kind_of (t.str s) = Ok (Some kind.Text)
    kind_of (t.field name optional) = field_kind (mapping name) optional name
    kind_of (t.not a) = bind (kind_of a) (λ k. kind_if item (may_be kind.Bool k) kind.Bool)
    kind_of (t.and es) = connective item (kinds_of es)
    kind_of (t.or es) = connective item (kinds_of es)
    kind_of (t.cmp op a b) =
        bind (kind_of a) (λ j. bind (kind_of b) (λ k. comparison item op j k a b))
    kind_of (t.pattern op a patterns) = bind (kind_of a) (λ k. kind_if item (may_be kind.Text k) kind.Bool)
    kind_of (t.member fold negated a list) = bind (kind_of a) (λ k. kind_if item (can_be_among fold k list) kind.Bool)
    kind_of (t.neg a) = bind (kind_of a) (λ k. kind_if item (may_be kind.Long k) kind.Long)
    kind_of (t.math op a b) =
        bind (kind_of a) (λ j. bind (kind_of b) (λ k. calculation item j k))
    kind_of (t.call name fold args) =
        bind_all (kinds_of args) (λ ks. call_kind item (function_of name fold) (shown_function name fold) args ks)

    pub kinds_of : Trees → AllFound
    kinds_of none = Ok []
    kinds_of (more a es) = and_more (kind_of a) (kinds_of es)

  -- the kinds of the forms with operands, by name
  abbrev pub operator : Tree → (asked gives : Kind) → Found
  operator a asked gives = bind (kind_of a) (λ k. kind_if item (may_be asked k) gives)

  abbrev pub member : (fold : Bool) → Tree → List Value → Found
  member fold a list = bind (kind_of a) (λ k. kind_if item (can_be_among fold k list) kind.Bool)

  abbrev pub call : List ℕ → Bool → Trees → Found
  call name fold args = bind_all (kinds_of args) (λ ks. call_kind item (function_of name fold) (shown_function name fold) args ks)
