use Rattle.std.specs.Prelude.{take}
use Rattle.eql_replay.specs.Pools.{ForeignsPlay}
use Rattle.eql_replay.proofs.pool.Pool.play_all.Given as goal

abbrev pub invariant-loop-foreign : goal.invariant-loop-foreign
invariant-loop-foreign g l =
    ForeignsPlay g.S.Source.left g.S.Source.lent_as g.S.Source.fault_plan g.L.LineReader.read_of (take l.foreign-index l.foreign-items) l.fn.self l.self
