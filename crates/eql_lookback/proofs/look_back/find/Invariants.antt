use Rattle.std.proofs.Common.{◌≡◌, []}
use Rattle.eql_lookback.specs.Places.{chains_at}
use Rattle.eql_lookback.proofs.look_back.find.Given as goal

abbrev pub invariant-loop-stage : goal.invariant-loop-stage
invariant-loop-stage l = l.chains.items ≡ chains_at l.span l.stage [] l.all.items
