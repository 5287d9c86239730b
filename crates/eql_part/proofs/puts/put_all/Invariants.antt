use Rattle.std.proofs.Common.{◌≡◌, ◌++◌, ◌≤ℤ◌, ℕ, [], List, Some, length}
use Rattle.std.specs.Prelude.{All}
use Rattle.std.specs.List.{Contains}
use Rattle.std.specs.Vec.Iter.{into_iter_items, into_iter_len}
use Rattle.eql_values.specs.declared.found.Holder.{Holder}
use Rattle.eql_values.specs.declared.order.OrderKey.{OrderKey}
use Rattle.eql_values.specs.declared.value.Value.{Value}
use Rattle.eql_part.specs.Rooms.{IsTable, entries_of}
use Rattle.eql_part.specs.KeyTables.{AreBusy, AreOf, sequences_in, slots_in}
use Rattle.eql_part.specs.Links.{IsLinked, Listed, StartsRise, first_time}
use Rattle.eql_part.proofs.puts.put_all.Given as goal

abbrev pub invariant-loop-holder : goal.invariant-loop-holder
invariant-loop-holder g l = record {
  of : AreOf l.shape.stages l.shape.span (entries_of l.machines);
  table : IsTable l.shape.stages l.shape.span l.machines;
  busy : AreBusy (entries_of l.machines);
  linked : IsLinked [] (sequences_in (entries_of l.machines)) l.list;
  parts : l.fn.holders.items ≡ l.yielded ++ into_iter_items l.holder-iterator;
  many : into_iter_len l.holder-iterator ≡ length (into_iter_items l.holder-iterator);
  there : All (λ (h : Holder). slots_in (entries_of l.machines) h.key h.stage ≡ Some h.chain) l.yielded;
  no_other : (q : List Value) (k : ℕ) (c : List OrderKey) → slots_in (entries_of l.machines) q k ≡ Some c → Contains l.yielded (record { key = q; stage = k; chain = c });
  late : All (λ (h : Holder). All (λ (e : Listed). e.1.time ≤ℤ first_time h.chain) l.list) (into_iter_items l.holder-iterator);
  rise : StartsRise (into_iter_items l.holder-iterator);
}
