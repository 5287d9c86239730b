-- The chains of a stage at all places of a list, and the matches that they make.
use Rattle.std.specs.Prelude.{ℕ, ℤ, List, [], ◌∷◌, Option, None, IfSome}
use Rattle.std.specs.List.{cons_option}
use Rattle.std.specs.Option.{option_map}
use Rattle.eql_values.specs.declared.order.OrderKey.{OrderKey}
use Rattle.eql_values.specs.declared.found.Match.{Match}
use Rattle.eql_values.specs.Chains.{chain}
use Rattle.eql_values.specs.OrderKeys.{EventsAscend}
use Rattle.eql_lookback.specs.declared.routed_event.RoutedEvent.{RoutedEvent}
use Rattle.eql_lookback.specs.RoutedEvents.{to_key}

-- no opening chain
abbrev pub no_opening : ℕ → Option (List OrderKey)
no_opening stage = None

-- the chain of the stage at each place of the list, after a past
abbrev pub chains_at : Option ℤ → ℕ → List RoutedEvent → List RoutedEvent → List (Option (List OrderKey))
chains_at span stage past [] = []
chains_at span stage past (one ∷ rest) = chain span no_opening stage (one.key_event ∷ to_key one.key past) ∷ chains_at span stage (one ∷ past) rest

-- where there is a chain, its events ascend
abbrev pub ChainAscends : Option (List OrderKey) → Type 0
ChainAscends found = IfSome found EventsAscend

-- the match of a chain with its key, where there is one
abbrev pub match_at : RoutedEvent → Option (List OrderKey) → Option Match
match_at one found = option_map (λ c. record { key = one.key; chain = c }) found

-- the chains that are there, with their keys
abbrev pub matches_at : List RoutedEvent → List (Option (List OrderKey)) → List Match
matches_at [] chains = []
matches_at (one ∷ all) [] = []
matches_at (one ∷ all) (found ∷ chains) = cons_option (match_at one found) (matches_at all chains)
