use Rattle.std.proofs.Common.{◌≡◌, map, drop}
use Rattle.eql_query.specs.View.{tree, trees_of}
use Rattle.eql_check.specs.Calls.{bad_block}
use Rattle.eql_check.proofs.calls.bad_block.Given as goal

abbrev pub invariant-loop-arg : goal.invariant-loop-arg
invariant-loop-arg l = bad_block (trees_of (map tree (drop l.arg-index l.args))) ≡ bad_block (trees_of (map tree l.args))
