use Rattle.std.specs.Prelude.{All, take}
use Rattle.eql_conductor.specs.Snaps.{HolderAscends}
use Rattle.eql_conductor.proofs.standing.holders_ascend.Given as goal

abbrev pub invariant-loop-holder : goal.invariant-loop-holder
invariant-loop-holder l = All HolderAscends (take l.holder-index l.holders)
