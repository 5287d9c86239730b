-- The matches by two lists, one after the other.
use Rattle.std.proofs.Common.{◌≡◌, ℕ, suc, ◌<◌, ℤ, List, [], ◌∷◌, ◌++◌, Option, refl, sym, ap, ◌∙◌}
use Rattle.std.proofs.lemmas.List.{append_assoc}
use Rattle.std.proofs.lemmas.List.Elements.{filter_map-append}
use Rattle.std.specs.List.{filter_map}
use Rattle.std.specs.Option.{option_map}
use Rattle.eql_values.specs.declared.order.OrderKey.{OrderKey}
use Rattle.eql_values.specs.declared.value.Value.{Value}
use Rattle.eql_values.specs.declared.item.Route.{Route}
use Rattle.eql_values.specs.declared.item.Item.{Item}
use Rattle.eql_values.specs.declared.found.Match.{Match}
use Rattle.eql_values.specs.declared.item.KeyEvent.{KeyEvent}
use Rattle.eql_values.specs.Chains.{chain, holder}
use Rattle.eql_values.specs.Matching.{Openings, key_event_by, key_events_of, onto, match_by, matches_after}
use Rattle.eql_laws.proofs.Halves.{chain_append, chain_alike}

module _ (m : ℕ) (span : Option ℤ) where
  -- what is held after a past, the latest first
  abbrev pub held_from : Openings → List Item → Openings
  held_from openings past key stage = holder span (openings key) stage (key_events_of key past)

  pub key_events_append : (key : List Value) (new old : List Item) → key_events_of key (new ++ old) ≡ key_events_of key new ++ key_events_of key old
  key_events_append key new old = filter_map-append _ new old

  match_moved : (openings : Openings) (new old : List Item) (order : OrderKey) (route : Route)
      → match_by m span openings (new ++ old) order route ≡ match_by m span (held_from openings old) new order route
  match_moved openings new old order route =
      ap (λ (c : Option (List OrderKey)). option_map (λ c. record { key = route.key; chain = c }) c)
      (ap (λ (key_events : List KeyEvent). chain span (openings route.key) m (key_event_by order route ∷ key_events)) (key_events_append route.key new old)
      ∙ chain_append span (openings route.key) m (key_event_by order route) (key_events_of route.key new) (key_events_of route.key old))

  -- the matches go on from what is held
  pub matches_moved : (openings : Openings) (new old items : List Item)
      → matches_after m span openings (new ++ old) items ≡ matches_after m span (held_from openings old) new items
  matches_moved openings new old [] = refl
  matches_moved openings new old (item ∷ items) = λ i.
      filter_map (λ (r : Route). match_moved openings new old item.order r i) item.routes
      ++ matches_moved openings (item ∷ new) old items i

  pub matches_append : (openings : Openings) (past a b : List Item)
      → matches_after m span openings past (a ++ b) ≡ matches_after m span openings past a ++ matches_after m span openings (onto a past) b
  matches_append openings past [] b = refl
  matches_append openings past (item ∷ a) b =
      ap (λ (rest : List Match). filter_map (match_by m span openings past item.order) item.routes ++ rest) (matches_append openings (item ∷ past) a b)
      ∙ sym (append_assoc (filter_map (match_by m span openings past item.order) item.routes) (matches_after m span openings (item ∷ past) a) (matches_after m span openings (onto a (item ∷ past)) b))

  -- openings that agree on the stages below the last give the same matches
  pub matches_alike : (a b : Openings) (past items : List Item) → ((key : List Value) (j : ℕ) → suc j < m → a key (suc j) ≡ b key (suc j))
      → matches_after m span a past items ≡ matches_after m span b past items
  matches_alike a b past [] same = refl
  matches_alike a b past (item ∷ items) same = λ i.
      filter_map (λ (r : Route). option_map (λ c. record { key = r.key; chain = c })
      (chain_alike span (a r.key) (b r.key) m (key_event_by item.order r) (key_events_of r.key past) (same r.key) i)) item.routes
      ++ matches_alike a b (item ∷ past) items same i

  pub split_openings : (openings : Openings) (a b : List Item)
      → matches_after m span openings [] (a ++ b)
      ≡ matches_after m span openings [] a ++ matches_after m span (held_from openings (onto a [])) [] b
  split_openings openings a b =
      matches_append openings [] a b
      ∙ ap (λ (rest : List Match). matches_after m span openings [] a ++ rest) (matches_moved openings [] (onto a []) b)
