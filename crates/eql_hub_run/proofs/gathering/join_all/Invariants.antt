use Rattle.std.proofs.Common.{vec_len}
use Rattle.eql_hub_run.proofs.Joins.{TakenSome}
use Rattle.eql_hub_run.proofs.gathering.join_all.Given as goal

abbrev pub invariant-loop-worker : goal.invariant-loop-worker
invariant-loop-worker g l = TakenSome l.hub l.initial.workers.items l.workers.items l.initial.hand l.hand

abbrev pub decreases-loop-worker : goal.decreases-loop-worker
decreases-loop-worker g l = vec_len l.workers
