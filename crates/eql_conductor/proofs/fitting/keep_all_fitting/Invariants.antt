use Rattle.std.proofs.Common.{◌≡◌, ◌++◌, length, map}
use Rattle.std.specs.Vec.Iter.{into_iter_items, into_iter_len}
use Rattle.eql_conductor.specs.Fitting.{fitting}
use Rattle.eql_conductor.proofs.fitting.keep_all_fitting.Given as goal

abbrev pub invariant-loop-items : goal.invariant-loop-items
invariant-loop-items l = record {
  parts : map fitting l.fn.lists ≡ l.kept.items ++ map fitting (into_iter_items l.items-iterator);
  many : into_iter_len l.items-iterator ≡ length (into_iter_items l.items-iterator);
}
