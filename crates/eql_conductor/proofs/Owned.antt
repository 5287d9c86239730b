-- The events of one part.
use Rattle.std.proofs.Common.{◌≡◌, ℕ, Bool, true, List, map, refl, sym, subst, T}
use Rattle.std.specs.Prelude.{◌==◌, filter}
use Rattle.std.specs.FinMap.Entries.{is_sorted, is_sorted-where_key}
use Rattle.std.proofs.lemmas.List.Elements.{All-filter}
use Rattle.std.proofs.lemmas.List.Sums.{AllPass-from_list_all, list_all-from_AllPass}
use Rattle.eql_values.specs.declared.item.Route.{Route}
use Rattle.eql_values.specs.declared.value.Value.{Value}
use Rattle.eql_values.specs.Orders.{key_cmp}
use Rattle.eql_values.specs.Routes.{RoutesStand, says_something}
use Rattle.eql_laws.proofs.Facts.{holds_true}
use Rattle.eql_laws.proofs.Lists.{map_filter}
use Rattle.eql_parts.specs.Spreading.{part_number}

abbrev pub of_part : ℕ → Route → Bool
of_part p route = part_number route.key == p

-- a part's routes stand in order, and each says something
pub routes_of_part : (p : ℕ) (routes : List Route) → RoutesStand routes → RoutesStand (filter (of_part p) routes)
routes_of_part p routes h = (
  holds_true _ (subst (λ (es : List (List Value × Route)). T (is_sorted key_cmp es)) (sym (map_filter (λ (r : Route). (r.key, r)) (of_part p) (λ e. part_number e.0 == p) (λ r. refl) routes))
      (is_sorted-where_key key_cmp (λ k. part_number k == p) (map (λ (r : Route). (r.key, r)) routes) (subst T (sym h.0) tt))),
  list_all-from_AllPass says_something (filter (of_part p) routes)
      (All-filter (of_part p) (λ (r : Route). says_something r ≡ true) routes (AllPass-from_list_all says_something routes h.1)),
)
