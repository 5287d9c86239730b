use Rattle.std.proofs.Common.{◌≡◌, take}
use Rattle.eql_lookback.specs.Places.{matches_at}
use Rattle.eql_lookback.proofs.look_back.matches_of.Given as goal

abbrev pub invariant-loop-i : goal.invariant-loop-i
invariant-loop-i l = l.found.items ≡ matches_at (take l.i l.all) (take l.i l.chains)
