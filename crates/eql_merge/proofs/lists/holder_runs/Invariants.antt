use Rattle.std.proofs.Common.{◌≡◌, ◌++◌, length}
use Rattle.std.specs.Vec.Iter.{into_iter_items, into_iter_len}
use Rattle.eql_merge.proofs.lists.holder_runs.Given as goal

abbrev pub invariant-loop-held : goal.invariant-loop-held
invariant-loop-held l = record {
  parts : l.fn.lists.items ≡ l.runs.items ++ into_iter_items l.held-iterator;
  many : into_iter_len l.held-iterator ≡ length (into_iter_items l.held-iterator);
}
