-- The items of a reader that stand for those of a query.
use Rattle.std.specs.Prelude.{◌≡◌, ℕ, List, map, length, Option, option_and_then}
use Rattle.eql_values.specs.declared.value.Value.{Value}
use Rattle.eql_values.specs.declared.value.Kind.{Kind}
use Rattle.eql_query.specs.declared.expr.FieldRef.{FieldRef}
use Rattle.eql_check.specs.Truth.{slot_of}
use Rattle.eql_stages.specs.Stages.{Stage, key_at}
use Rattle.eql_stages.specs.Matching.{matched_key, given_by, until_by, stages_of}
use Rattle.eql_stages.specs.declared.keys.KeyField.{KeyField}
use Rattle.eql_stages.specs.declared.matcher.ItemMatcher.{ItemMatcher}

abbrev pub key_field : List (List ℕ × Kind) → FieldRef → KeyField
key_field fields key = record { slot = slot_of fields key.name; optional = key.optional }

-- the item judges as the stage does
pub record MatchesStage (fields : List (List ℕ × Kind)) (stage : Stage) (matcher : ItemMatcher) : Type 0 where
  pub same : (categories : List (List ℕ)) (slots : List Value) → matched_key categories slots matcher ≡ key_at fields categories slots stage

-- the items judge as the stages do
pub record MatchStages (fields : List (List ℕ × Kind)) (stages : List Stage) (matchers : List ItemMatcher) : Type 0 where
  pub same : (categories : List (List ℕ)) (slots : List Value) → given_by categories slots matchers ≡ map (key_at fields categories slots) stages
  pub count : stages_of matchers ≡ length stages

-- and the item that ends sequences as that of the query
pub record MatchesUntil (fields : List (List ℕ × Kind)) (stage : Option Stage) (until : Option ItemMatcher) : Type 0 where
  pub same : (categories : List (List ℕ)) (slots : List Value)
      → until_by categories slots until ≡ option_and_then (key_at fields categories slots) stage
