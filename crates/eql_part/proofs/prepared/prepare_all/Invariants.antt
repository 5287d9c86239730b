use Rattle.std.proofs.Common.{◌≡◌, ◌≤◌, ◌++◌, take, length, vec_len, vec_capacity}
use Rattle.eql_part.specs.Rooms.{IsTable, entries_of}
use Rattle.eql_part.specs.KeyTables.{AreOf, AreReadyFor, KeepsOtherRoutes, KeepsSequences}
use Rattle.eql_part.specs.Routed.{ArePrepared, all_begun}
use Rattle.eql_part.proofs.prepared.prepare_all.Given as goal

abbrev pub invariant-loop-route : goal.invariant-loop-route
invariant-loop-route g l = record {
  of : AreOf l.shape.stages l.shape.span (entries_of l.machines);
  table : IsTable l.shape.stages l.shape.span l.machines;
  sequences : KeepsSequences (entries_of l.fn.machines) (entries_of l.machines);
  ready : AreReadyFor (take l.route-index l.routes.items) (entries_of l.machines);
  others : KeepsOtherRoutes l.routes.items (entries_of l.fn.machines) (entries_of l.machines);
  prepared : ArePrepared l.shape.stages (take l.route-index l.routes.items) l.prepared.items;
  list : l.list ≡ l.fn.list ++ all_begun l.order (take l.route-index l.routes.items) l.prepared.items;
  count : vec_len l.prepared ≡ l.route-index;
  room : length l.routes.items ≤ vec_capacity l.prepared;
}
