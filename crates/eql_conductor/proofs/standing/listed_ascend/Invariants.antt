use Rattle.std.specs.Prelude.{All, take}
use Rattle.eql_conductor.specs.Snaps.{ListedAscends}
use Rattle.eql_conductor.proofs.standing.listed_ascend.Given as goal

abbrev pub invariant-loop-numbered : goal.invariant-loop-numbered
invariant-loop-numbered l = All ListedAscends (take l.numbered-index l.listed)
