-- The items of a query as a reader has them, and what it reads by them.
use Rattle.std.specs.Prelude.{◌≡◌, ◌≤◌, ℕ, nat_le, replicate, Bool, true, ◌&&◌, if◌then◌else◌, List, ◌++◌, sum_by, Option, Some, None, option_and_then}
use Rattle.std.specs.List.{flat_map, list_all}
use Rattle.eql_values.specs.declared.value.Value.{Value}
use Rattle.eql_values.specs.declared.item.Mask.{Mask}
use Rattle.eql_values.specs.declared.item.Route.{Route}
use Rattle.eql_values.specs.Accepted.{Reads}
use Rattle.eql_check.specs.Conditions.{as_list}
use Rattle.eql_check.specs.ThreeValued.{is_true}
use Rattle.eql_code.specs.Stack.{gives}
use Rattle.eql_lines.specs.declared.wanted.Wanted.{Wanted}
use Rattle.eql_lines.specs.declared.wanted.Fields.{Fields}
use Rattle.eql_lines.specs.Reading.{line_read}
use Rattle.eql_stages.specs.Given.{Given, routes_by}
use Rattle.eql_stages.specs.Stages.{has_category}
use Rattle.eql_stages.specs.Planned.{got_of}
use Rattle.eql_stages.specs.Keys.{key_by}
use Rattle.eql_stages.specs.Gathering.{said_routes}
use Rattle.eql_stages.specs.declared.matcher.ItemMatcher.{ItemMatcher}

module _ (categories : List (List ℕ)) (slots : List Value) where
  -- whether the event fits the item
  abbrev pub fits : ItemMatcher → Bool
  fits matcher = has_category categories matcher.category && is_true (gives matcher.code slots)

  -- the key that the event gives to each stage of the item
  abbrev pub matched_key : ItemMatcher → Given
  matched_key matcher = if fits matcher then key_by slots matcher.keys else None

  -- what the stages of items are given, runs written out
  abbrev pub given_by : List ItemMatcher → List Given
  given_by matchers = flat_map (λ (matcher : ItemMatcher). replicate matcher.runs (matched_key matcher)) matchers

  abbrev pub until_by : Option ItemMatcher → Given
  until_by until = option_and_then matched_key until

-- routes to which an item's stages are added, where it is given a key
abbrev pub said_to : Given → Mask → Bool → List Route → List Route
said_to None mask until routes = routes
said_to (Some key) mask until routes = said_routes key mask until routes

-- how many stages the items are
abbrev pub stages_of : List ItemMatcher → ℕ
stages_of matchers = sum_by (λ (matcher : ItemMatcher). matcher.runs) matchers

abbrev pub has_stage : ItemMatcher → Bool
has_stage matcher = nat_le 1 matcher.runs

abbrev pub is_within : ℕ → ItemMatcher → Bool
is_within depth matcher = nat_le matcher.code.1 depth

-- each item has a stage, all have at most 256, and a stack of the depth serves each condition
pub record AreSound (matchers : List ItemMatcher) (until : Option ItemMatcher) (depth : ℕ) : Type 0 where
  pub each : list_all has_stage matchers ≡ true
  pub few : stages_of matchers ≤ 256
  pub deep : list_all (is_within depth) (matchers ++ as_list until) ≡ true

-- what a reader has: what is read of each line, the items, and the item that ends sequences
pub record Reader : Type 0 where
  pub wanted : Wanted
  pub matchers : List ItemMatcher
  pub until : Option ItemMatcher

abbrev pub routes_for : List ItemMatcher → Option ItemMatcher → Fields → List Route
routes_for matchers until f = routes_by (given_by f.categories f.slots matchers) (until_by f.categories f.slots until)

-- what lines give to a reader
abbrev pub reads_by : Reader → Reads
reads_by reader shard line bytes = got_of (routes_for reader.matchers reader.until) shard line (line_read reader.wanted bytes)
