-- The fields that a query uses: those that it names and the mapping has, in the order of first use.
use Rattle.std.specs.Prelude.{ℕ, List, [], ◌∷◌, ◌++◌, map, not, Option, option_map}
use Rattle.std.specs.List.{filter, filter_map, IsDistinct}
use Rattle.std.specs.Map.{keys_of}
use Rattle.eql_values.specs.declared.value.Kind.{Kind}
use Rattle.eql_values.specs.Orders.{text_eq}
use Rattle.eql_query.specs.Tree.{Tree, Trees, none, more}
use Rattle.eql_query.specs.Tree as t
use Rattle.eql_query.specs.declared.expr.FieldRef.{FieldRef}
use Rattle.eql_query.specs.QueryTree.{TermTree, QueryTree}
use Rattle.eql_check.specs.Conditions.{all_items, shared_keys}

-- the fields that an expression names, in the order of the text
abbrev mutual
  pub fields_in : Tree → List (List ℕ)
  fields_in (t.field name optional) = name ∷ []
  fields_in (t.not a) = fields_in a
  fields_in (t.and es) = fields_among es
  fields_in (t.or es) = fields_among es
  fields_in (t.cmp op a b) = fields_in a ++ fields_in b
  fields_in (t.pattern op a patterns) = fields_in a
  fields_in (t.member fold negated a list) = fields_in a
  fields_in (t.neg a) = fields_in a
  fields_in (t.math op a b) = fields_in a ++ fields_in b
  fields_in (t.call name fold args) = fields_among args
  fields_in _ = []

  pub fields_among : Trees → List (List ℕ)
  fields_among none = []
  fields_among (more a es) = fields_in a ++ fields_among es

abbrev pub key_names : List FieldRef → List (List ℕ)
key_names keys = map (λ key. key.name) keys

-- those of items: of each its condition's, and then its own keys
abbrev pub item_fields : List TermTree → List (List ℕ)
item_fields [] = []
item_fields (term ∷ terms) = (fields_in term.cond ++ key_names term.by) ++ item_fields terms

-- those of a query: the shared keys come first
abbrev pub query_fields : QueryTree → List (List ℕ)
query_fields query = key_names (shared_keys query.body) ++ item_fields (all_items query.body)

-- a name that the mapping has, with its kind
abbrev pub use_of : (List ℕ → Option Kind) → List ℕ → Option (List ℕ × Kind)
use_of mapping name = option_map (λ k. (name, k)) (mapping name)

-- the fields without those of this name
abbrev pub without : List ℕ → List (List ℕ × Kind) → List (List ℕ × Kind)
without name fields = filter (λ field. not (text_eq name field.0)) fields

-- of each name the first place only
abbrev pub first_uses : List (List ℕ × Kind) → List (List ℕ × Kind)
first_uses [] = []
first_uses (field ∷ fields) = field ∷ without field.0 (first_uses fields)

module _ (mapping : List ℕ → Option Kind) where
  -- the uses of fields by a query: the names that the mapping has, with their kinds, in the order of the text
  abbrev pub uses : List (List ℕ) → List (List ℕ × Kind)
  uses names = filter_map (use_of mapping) names

  -- the fields that a query uses: of its uses the first of each name
  abbrev pub used_fields : QueryTree → List (List ℕ × Kind)
  used_fields query = first_uses (uses (query_fields query))

-- no name stands twice
abbrev pub AreOnce : List (List ℕ × Kind) → Type 0
AreOnce fields = IsDistinct text_eq (keys_of fields)
