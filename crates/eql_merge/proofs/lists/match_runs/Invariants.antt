use Rattle.std.proofs.Common.{◌≡◌, ◌++◌, length}
use Rattle.std.specs.Vec.Iter.{into_iter_items, into_iter_len}
use Rattle.eql_merge.proofs.lists.match_runs.Given as goal

abbrev pub invariant-loop-found : goal.invariant-loop-found
invariant-loop-found l = record {
  parts : l.fn.lists.items ≡ l.runs.items ++ into_iter_items l.found-iterator;
  many : into_iter_len l.found-iterator ≡ length (into_iter_items l.found-iterator);
}
