-- The events that have routes: the others are in no sequence.
use Rattle.std.specs.Prelude.{◌≡◌, ℕ, ℤ, Bool, true, false, List, [], ◌∷◌, Option, length, filter}
use Rattle.eql_values.specs.declared.item.Item.{Item}
use Rattle.eql_values.specs.declared.item.Route.{Route}
use Rattle.eql_values.specs.declared.order.Mark.{Mark}
use Rattle.eql_values.specs.Accepted.{Reads}
use Rattle.eql_laws.specs.Belows.{between}
use Rattle.eql_parts.specs.PartSteps.{CanDeliver}
use Rattle.eql_conductor.specs.Benches.{Known}
use Rattle.eql_conductor.specs.Handed.{AllHandOut}
use Rattle.eql_conductor.specs.Rounds.{BenchIsOfTexts}

-- whether there is a route
abbrev pub any_route : List Route → Bool
any_route [] = false
any_route (route ∷ routes) = true

-- whether an event has a route
abbrev pub has_routes : Item → Bool
has_routes item = any_route item.routes

-- the events that have routes
abbrev pub fitting : List Item → List Item
fitting items = filter has_routes items

-- events were taken from the lanes, from one mark on and below another, of which these are those that have routes
pub record TakesFitting (last mark : Mark) (old new : Known) (items : List Item) : Type 0 where
  pub all : List Item
  pub items_are : items ≡ fitting all
  pub can : CanDeliver last all mark
  pub told : (reads : Reads) (slack : Option ℤ) (texts : List (List ℕ)) → BenchIsOfTexts reads slack texts last old → all ≡ between reads slack texts last mark
  pub handed : AllHandOut (length all) old new
