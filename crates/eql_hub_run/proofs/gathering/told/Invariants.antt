use Rattle.std.specs.Prelude.{take}
use Rattle.eql_hub_run.specs.Gathers.{IsLeastOf}
use Rattle.eql_hub_run.proofs.gathering.told.Given as goal

abbrev pub invariant-loop-worker : goal.invariant-loop-worker
invariant-loop-worker g l = IsLeastOf l.fn.ended (take l.worker-index l.workers) l.answer
