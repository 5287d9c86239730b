use Rattle.eql_outside.proofs.Writing.{WroteUpTo}
use Rattle.eql_outside.proofs.sink.stream.write_on.Given as goal

abbrev pub invariant-loop : goal.invariant-loop
invariant-loop g l = WroteUpTo l.at l.bytes (g.W.Write.contents l.fn.to) (g.W.Write.contents l.to)
