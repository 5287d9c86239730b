use Rattle.std.proofs.Common.{◌≡◌, ◌<◌, ◌≤◌, ◌+◌, ◌++◌, ℕ, suc, List, drop, length, vec_len, vec_capacity}
use Rattle.std.specs.Prelude.{All, find}
use Rattle.std.specs.List.{filter_map}
use Rattle.std.specs.Vec.Iter.{into_iter_items, into_iter_len}
use Rattle.eql_values.specs.declared.item.Route.{Route}
use Rattle.eql_values.specs.declared.value.Value.{Value}
use Rattle.eql_values.specs.Orders.{key_eq}
use Rattle.eql_values.specs.Routes.{RoutesAreInOrder}
use Rattle.eql_laws.specs.OneEvent.{slots_after_event}
use Rattle.eql_part.specs.Rooms.{IsTable, entries_of}
use Rattle.eql_part.specs.KeyTables.{AreBusyBut, AreOf, machine_of, probes_of_all, sequences_in, slots_in}
use Rattle.eql_part.specs.Links.{IsLinked}
use Rattle.eql_part.specs.Routed.{ArePrepared, all_begun, match_there}
use Rattle.eql_part.proofs.routes.turn_all.Given as goal

abbrev pub invariant-loop-route : goal.invariant-loop-route
invariant-loop-route g l = record {
  of : AreOf l.shape.stages l.shape.span (entries_of l.machines);
  table : IsTable l.shape.stages l.shape.span l.machines;
  order : RoutesAreInOrder (drop l.route-index l.routes.items);
  same : All (λ (route : Route). machine_of (entries_of l.machines) route.key ≡ machine_of (entries_of l.fn.machines) route.key) (drop l.route-index l.routes.items);
  slots : (key : List Value) (k : ℕ) → suc k < l.shape.stages
      → slots_after_event l.shape.span l.order (find (λ (route : Route). key_eq key route.key) (drop l.route-index l.routes.items)) (slots_in (entries_of l.machines) key) (suc k)
      ≡ slots_after_event l.shape.span l.order (find (λ (route : Route). key_eq key route.key) l.routes.items) (slots_in (entries_of l.fn.machines) key) (suc k);
  found : l.found.items ++ filter_map (match_there l.shape.stages l.shape.span (slots_in (entries_of l.fn.machines)) l.order) (drop l.route-index l.routes.items)
      ≡ l.fn.found.items ++ filter_map (match_there l.shape.stages l.shape.span (slots_in (entries_of l.fn.machines)) l.order) l.routes.items;
  busy : AreBusyBut (drop l.route-index l.routes.items) (entries_of l.machines);
  prepared : ArePrepared l.shape.stages (drop l.route-index l.routes.items) (into_iter_items l.prepared);
  linked : IsLinked (all_begun l.order (drop l.route-index l.routes.items) (into_iter_items l.prepared)) (sequences_in (entries_of l.machines)) l.list;
  left : into_iter_len l.prepared + l.route-index ≡ length l.routes.items;
  count : vec_len l.found ≤ vec_len l.fn.found + l.route-index;
  room : vec_capacity l.fn.found ≤ vec_capacity l.found;
  probes : l.steps + probes_of_all l.shape.stages (drop l.route-index l.routes.items) ≤ l.fn.steps + probes_of_all l.shape.stages l.routes.items;
}
