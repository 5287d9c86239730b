use Rattle.std.proofs.Common.{ℕ, ◌<◌, List, get_or}
use Rattle.std.specs.Prelude.{All}
use Rattle.eql_replay.specs.declared.foreign.Foreign.{Foreign}
use Rattle.eql_replay.specs.Pools.{IsPlay}
use Rattle.eql_replay_tests.proofs.running.may_play.Given as goal

abbrev pub invariant-loop-foreigns : goal.invariant-loop-foreigns
invariant-loop-foreigns l = (k : ℕ) (d : List Foreign) → k < l.foreigns-index → All (IsPlay l.lanes 16) (get_or l.plays.items k d)
