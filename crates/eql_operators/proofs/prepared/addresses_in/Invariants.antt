use Rattle.std.proofs.Common.{◌≡◌, ◌++◌, drop}
use Rattle.eql_operators.specs.Prepared.{addresses_in}
use Rattle.eql_operators.proofs.prepared.addresses_in.Given as goal

abbrev pub invariant-loop-literal : goal.invariant-loop-literal
invariant-loop-literal l = l.items.items ++ addresses_in (drop l.literal-index l.literal-items) ≡ addresses_in l.literal-items
