use Rattle.std.proofs.Common.{ℕ, ◌<◌, get_or}
use Rattle.eql_replay.specs.declared.foreign.Foreign.{Foreign}
use Rattle.eql_replay.specs.Pools.{IsPlay}
use Rattle.eql_replay_tests.proofs.running.are_plays.Given as goal

abbrev pub invariant-loop-foreign : goal.invariant-loop-foreign
invariant-loop-foreign l = (k : ℕ) (d : Foreign) → k < l.foreign-index → IsPlay l.lanes 16 (get_or l.foreigns k d)
