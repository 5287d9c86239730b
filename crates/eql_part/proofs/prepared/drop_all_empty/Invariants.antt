use Rattle.std.proofs.Common.{drop}
use Rattle.eql_part.specs.Rooms.{IsTable, entries_of}
use Rattle.eql_part.specs.KeyTables.{AreBusyBut, AreOf, KeepsSequences}
use Rattle.eql_part.proofs.prepared.drop_all_empty.Given as goal

abbrev pub invariant-loop-route : goal.invariant-loop-route
invariant-loop-route g l = record {
  of : AreOf l.shape.stages l.shape.span (entries_of l.machines);
  table : IsTable l.shape.stages l.shape.span l.machines;
  sequences : KeepsSequences (entries_of l.fn.machines) (entries_of l.machines);
  busy : AreBusyBut (drop l.route-index l.routes.items) (entries_of l.machines);
}
