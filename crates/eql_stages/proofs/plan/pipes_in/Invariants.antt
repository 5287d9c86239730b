use Rattle.std.proofs.Common.{◌≡◌, map, take}
use Rattle.eql_stages.specs.Stages.{pipe_of}
use Rattle.eql_stages.proofs.plan.pipes_in.Given as goal

abbrev pub invariant-loop-text : goal.invariant-loop-text
invariant-loop-text l = l.pipes.items ≡ map pipe_of (take l.text-index l.texts)
