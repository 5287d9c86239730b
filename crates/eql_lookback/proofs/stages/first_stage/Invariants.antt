use Rattle.std.proofs.Common.{◌≡◌, take, [], None}
use Rattle.eql_lookback.specs.Places.{chains_at}
use Rattle.eql_lookback.proofs.stages.first_stage.Given as goal

abbrev pub invariant-loop-one : goal.invariant-loop-one
invariant-loop-one l = l.chains.items ≡ chains_at None 1 [] (take l.one-index l.all)
