use Rattle.std.proofs.Common.{◌≡◌, take}
use Rattle.eql_book.specs.Gates.{seen_of}
use Rattle.eql_book.proofs.gate.states_of.Given as goal

abbrev pub invariant-loop-gate : goal.invariant-loop-gate
invariant-loop-gate l = l.states.items ≡ seen_of (take l.gate-index l.gates.items)
