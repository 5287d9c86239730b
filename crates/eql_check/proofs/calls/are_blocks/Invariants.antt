use Rattle.std.proofs.Common.{◌≡◌, map}
use Rattle.std.specs.Iterator.Adapters.{zip_first, zip_second}
use Rattle.std.specs.Slice.Iter.{iter_rest}
use Rattle.eql_query.specs.View.{tree, trees_of}
use Rattle.eql_check.specs.Calls.{are_blocks}
use Rattle.eql_check.proofs.calls.are_blocks.Given as goal

abbrev pub invariant-loop-arg : goal.invariant-loop-arg
invariant-loop-arg l =
    are_blocks (trees_of (map tree (iter_rest (zip_first l.arg-iterator)))) (iter_rest (zip_second l.arg-iterator))
    ≡ are_blocks (trees_of (map tree l.args)) l.kinds
