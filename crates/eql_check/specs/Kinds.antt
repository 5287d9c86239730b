-- Kinds, and which may stand where. An expression that is always null has none: the literal null, and an optional field
-- that the mapping doesn't have.
use Rattle.std.specs.Prelude.{ℕ, List, [], ◌∷◌, Bool, true, false, ◌&&◌, ◌||◌, Option, Some, None, if◌then◌else◌, is_some}
use Rattle.std.specs.List.{list_all}
use Rattle.eql_values.specs.declared.value.Kind.{Kind}
use Rattle.eql_values.specs.declared.value.Kind.TheVariants as kind
use Rattle.eql_values.specs.declared.value.Value.{Value}
use Rattle.eql_values.specs.declared.value.Value.TheVariants as value
use Rattle.eql_values.specs.Fitting.{may_be, kind_of_value, is_of}
use Rattle.eql_values.specs.Orders.{text_eq}
use Rattle.eql_text.specs.Addresses.{parse_ip4}
use Rattle.eql_query.specs.Tree.{Tree, Trees, none, more}
use Rattle.eql_query.specs.Tree as t
use Rattle.eql_query.specs.declared.expr.CmpOp.{CmpOp}
use Rattle.eql_query.specs.declared.expr.CmpOp.TheVariants.{Eq, Ne}

-- the kind that a list of names with kinds gives to a name
abbrev pub kind_at : List (List ℕ × Kind) → List ℕ → Option Kind
kind_at [] name = None
kind_at (field ∷ fields) name = if text_eq field.0 name then Some field.1 else kind_at fields name

abbrev pub alike : Option Kind → Option Kind → Bool
alike None k = true
alike (Some j) k = may_be j k

-- a text in quotes that is an IPv4 address
abbrev pub is_address : Tree → Bool
is_address (t.str s) = is_some (parse_ip4 s)
is_address _ = false

-- an address beside a text in quotes that is one
abbrev pub are_addresses : Option Kind → Tree → Bool
are_addresses (Some kind.Ip) other = is_address other
are_addresses _ other = false

-- longs and texts are compared by order
abbrev pub is_ordered : Option Kind → Bool
is_ordered k = may_be kind.Long k || may_be kind.Text k

-- `==` and `!=` ask for no order
abbrev pub needs_order : CmpOp → Bool
needs_order Eq = false
needs_order Ne = false
needs_order _ = true

-- two sides, of kinds j and k, that a comparison takes
abbrev pub can_compare : CmpOp → Option Kind → Option Kind → Tree → Tree → Bool
can_compare op j k a b =
    if needs_order op
    then alike j k && is_ordered j && is_ordered k
    else alike j k || are_addresses j b || are_addresses k a

-- a literal that a value of this kind may equal: one of its kind, and beside an address a text that is one
abbrev pub can_equal : Option Kind → Value → Bool
can_equal None literal = true
can_equal (Some kind.Ip) (value.Text s) = is_some (parse_ip4 s)
can_equal (Some k) literal = may_be k (kind_of_value literal)

-- a literal that is a text or null
abbrev pub is_text : Value → Bool
is_text literal = is_of (Some kind.Text) literal

-- a list of literals that a value of this kind may be looked for in; with folding all are texts
abbrev pub can_be_among : (fold : Bool) → Option Kind → List Value → Bool
can_be_among true k list = may_be kind.Text k && list_all is_text list
can_be_among false k list = list_all (λ literal. can_equal k literal) list

-- whether a field stands in an expression
abbrev mutual
  pub holds_field : Tree → Bool
  holds_field (t.field name optional) = true
  holds_field (t.not a) = holds_field a
  holds_field (t.and es) = hold_field es
  holds_field (t.or es) = hold_field es
  holds_field (t.cmp op a b) = holds_field a || holds_field b
  holds_field (t.pattern op a patterns) = holds_field a
  holds_field (t.member fold negated a list) = holds_field a
  holds_field (t.neg a) = holds_field a
  holds_field (t.math op a b) = holds_field a || holds_field b
  holds_field (t.call name fold args) = hold_field args
  holds_field _ = false

  pub hold_field : Trees → Bool
  hold_field none = false
  hold_field (more a es) = holds_field a || hold_field es
