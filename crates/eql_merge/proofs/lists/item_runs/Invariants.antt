use Rattle.std.proofs.Common.{◌≡◌, ◌++◌, length}
use Rattle.std.specs.Vec.Iter.{into_iter_items, into_iter_len}
use Rattle.eql_merge.proofs.lists.item_runs.Given as goal

abbrev pub invariant-loop-items : goal.invariant-loop-items
invariant-loop-items l = record {
  parts : l.fn.lists ≡ l.runs.items ++ into_iter_items l.items-iterator;
  many : into_iter_len l.items-iterator ≡ length (into_iter_items l.items-iterator);
}
