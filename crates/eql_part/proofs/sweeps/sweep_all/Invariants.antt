use Rattle.std.proofs.Common.{◌≡◌, ◌≤◌, ◌+◌, ◌-◌, ◌*◌, ℕ, [], List, length}
use Rattle.eql_values.specs.declared.value.Value.{Value}
use Rattle.eql_laws.specs.Alive.{alive_at}
use Rattle.eql_part.specs.Rooms.{IsTable, entries_of}
use Rattle.eql_part.specs.KeyTables.{AreBusy, AreOf, holders_in, sequences_in, slots_in}
use Rattle.eql_part.specs.Links.{IsLinked}
use Rattle.eql_part.proofs.sweeps.sweep_all.Given as goal

abbrev pub invariant-loop-shape : goal.invariant-loop-shape
invariant-loop-shape g l = record {
  of : AreOf l.shape.stages l.shape.span (entries_of l.machines);
  table : IsTable l.shape.stages l.shape.span l.machines;
  busy : AreBusy (entries_of l.machines);
  linked : IsLinked [] (sequences_in (entries_of l.machines)) l.list;
  alive : (key : List Value) (k : ℕ) → alive_at l.shape.span l.reach (slots_in (entries_of l.machines) key k) ≡ alive_at l.shape.span l.reach (slots_in (entries_of l.fn.machines) key k);
  fewer : length (holders_in (entries_of l.machines)) ≤ length (holders_in (entries_of l.fn.machines));
  probes : l.steps + (l.shape.stages - 1) * length (holders_in (entries_of l.machines)) ≤ l.fn.steps + (l.shape.stages - 1) * length (holders_in (entries_of l.fn.machines));
}

abbrev pub decreases-loop-shape : goal.decreases-loop-shape
decreases-loop-shape g l = length (holders_in (entries_of l.machines))
