-- What the routes of an event need and do, route by route.
use Rattle.std.specs.Prelude.{◌≡◌, ℕ, ℤ, List, [], ◌∷◌, ◌++◌, Option, Some, None, if◌then◌else◌, is_some}
use Rattle.std.specs.List.{filter_map}
use Rattle.std.specs.Option.{option_map}
use Rattle.eql_values.specs.declared.order.OrderKey.{OrderKey}
use Rattle.eql_values.specs.declared.item.Route.{Route}
use Rattle.eql_values.specs.declared.found.Match.{Match}
use Rattle.eql_values.specs.declared.value.Value.{Value}
use Rattle.eql_values.specs.Masks.{has_after, has_stage}
use Rattle.eql_values.specs.Matching.{key_event_by}
use Rattle.eql_laws.specs.Slots.{Slots, chain_coming}
use Rattle.eql_span_list.specs.declared.node.Ticket.{Ticket}
use Rattle.eql_part.specs.declared.prepared.Prepared.{Prepared}
use Rattle.eql_part.specs.Links.{Listed, begun_by}

-- what is taken for a route suits it: a ticket where it begins a sequence, and a copy of the key where it fits the last stage
pub record IsPrepared (m : ℕ) (route : Route) (ready : Prepared) : Type 0 where
  pub tagged : is_some ready.begun ≡ has_after 0 route.mask
  pub keyed : ready.key ≡ (if has_stage route.mask m then Some route.key else None)

-- what is taken for each route suits it
abbrev pub ArePrepared : ℕ → List Route → List Prepared → Type 0
ArePrepared m [] [] = Unit {0}
ArePrepared m [] (ready ∷ more) = ⊥
ArePrepared m (route ∷ routes) [] = ⊥
ArePrepared m (route ∷ routes) (ready ∷ more) = IsPrepared m route ready × ArePrepared m routes more

-- what an event puts on the list for its routes
abbrev pub all_begun : OrderKey → List Route → List Prepared → List Listed
all_begun order [] more = []
all_begun order (route ∷ routes) [] = []
all_begun order (route ∷ routes) (ready ∷ more) = begun_by order route ready.begun ++ all_begun order routes more

-- the tickets that were taken
abbrev pub tickets_in : List Prepared → List Ticket
tickets_in = filter_map (λ ready. ready.begun)

-- the match that comes to the last stage of a route's key
abbrev pub match_there : ℕ → Option ℤ → (List Value → Slots) → OrderKey → Route → Option Match
match_there m span slots order route = option_map (λ c. record { key = route.key; chain = c }) (chain_coming span (slots route.key) (key_event_by order route) m)
