-- The stages of a query, and what an event says to them.
use Rattle.std.specs.Prelude.{ℕ, replicate, ℤ, pos, negsuc, ◌*ℤ◌, Bool, true, not, ◌&&◌, if◌then◌else◌, List, [], ◌∷◌, ◌++◌, map, Option, Some, None, option_and_then}
use Rattle.std.specs.List.{flat_map, list_any}
use Rattle.std.specs.Option.{option_map}
use Rattle.eql_values.specs.declared.value.Value.{Value}
use Rattle.eql_values.specs.declared.value.Kind.{Kind}
use Rattle.eql_values.specs.declared.item.Route.{Route}
use Rattle.eql_values.specs.declared.cut.Pipe.{Pipe}
use Rattle.eql_values.specs.declared.cut.Pipe.TheVariants as kept
use Rattle.eql_values.specs.Orders.{text_eq}
use Rattle.eql_query.specs.declared.expr.FieldRef.{FieldRef}
use Rattle.eql_query.specs.declared.query.Span.{Span}
use Rattle.eql_query.specs.declared.query.Unit.{Unit as SpanUnit}
use Rattle.eql_query.specs.declared.query.Unit.TheVariants as unit
use Rattle.eql_query.specs.declared.query.PipeText.{PipeText}
use Rattle.eql_query.specs.declared.query.PipeText.TheVariants as written
use Rattle.eql_query.specs.QueryTree.{TermTree, BodyTree, event, sequence}
use Rattle.eql_check.specs.Comparisons.{is_null}
use Rattle.eql_check.specs.Truth.{value_at, holds}
use Rattle.eql_stages.specs.Given.{Given, routes_by}

-- a stage, or the item that ends sequences: its category, its condition, and its key fields, the shared ones first
pub record Stage : Type 0 where
  pub term : TermTree
  pub keys : List FieldRef

-- a count that isn't below zero
abbrev pub count_of : ℤ → ℕ
count_of (pos n) = n
count_of (negsuc n) = 0

abbrev pub stage_of : List FieldRef → TermTree → Stage
stage_of shared term = record { term = term; keys = shared ++ term.by }

-- the stages of an item: one for each of its runs
abbrev pub item_stages : List FieldRef → TermTree → List Stage
item_stages shared term = replicate (count_of term.runs) (stage_of shared term)

-- the stages of a query; single events are one stage without keys
abbrev pub stages_in : BodyTree → List Stage
stages_in (event term) = record { term = term; keys = [] } ∷ []
stages_in (sequence by span items until) = flat_map (item_stages by) items

-- the item that ends sequences
abbrev pub until_in : BodyTree → Option Stage
until_in (event term) = None
until_in (sequence by span items until) = option_map (stage_of by) until

-- a unit in nanoseconds
abbrev pub nanos_of : SpanUnit → ℤ
nanos_of unit.Ms = pos 1000000
nanos_of unit.S = pos 1000000000
nanos_of unit.M = pos 60000000000
nanos_of unit.H = pos 3600000000000
nanos_of unit.D = pos 86400000000000

-- the greatest time from the first event of a sequence to the last, in nanoseconds
abbrev pub span_in : BodyTree → Option ℤ
span_in (event term) = None
span_in (sequence by span items until) = option_map (λ (s : Span). s.count *ℤ nanos_of s.unit) span

abbrev pub pipe_of : PipeText → Pipe
pipe_of (written.Head n) = kept.Head (count_of n)
pipe_of (written.Tail n) = kept.Tail (count_of n)

-- an item of any category, or one of the event's categories is the item's
abbrev pub has_category : List (List ℕ) → Option (List ℕ) → Bool
has_category categories None = true
has_category categories (Some wanted) = list_any (λ (category : List ℕ). text_eq category wanted) categories

module _ (fields : List (List ℕ × Kind)) (categories : List (List ℕ)) (slots : List Value) where
  -- the event fits the item: one of its categories is the item's, and the item's condition is true
  abbrev pub fits_item : TermTree → Bool
  fits_item term = has_category categories term.category && holds (value_at fields slots) term.cond

  -- the values of key fields, where none is null but those that are marked as optional
  abbrev pub key_of : List FieldRef → Given
  key_of [] = Some []
  key_of (field ∷ keys) =
      if is_null (value_at fields slots field.name) && not field.optional
      then None
      else option_map (λ (key : List Value). value_at fields slots field.name ∷ key) (key_of keys)

  -- the key that the event gives to a stage: that of its key fields, where the event fits the stage
  abbrev pub key_at : Stage → Given
  key_at stage = if fits_item stage.term then key_of stage.keys else None

  -- what the event says, key by key
  abbrev pub routes_of : List Stage → Option Stage → List Route
  routes_of stages until = routes_by (map key_at stages) (option_and_then key_at until)
