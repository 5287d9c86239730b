use Rattle.std.proofs.Common.{arith}
use Rattle.eql_replay.proofs.run.replay.Goals as goal

pub returns-clause-ran : goal.returns-clause-ran
returns-clause-ran g c = c.run-ended.ensures.ran

pub returns-clause-not_worn : goal.returns-clause-not_worn
returns-clause-not_worn g c = λ e. let because = (rw e at c.run-ended.ensures.ran.cause) in let a = because.0 in omega (arith, a)

pub returns-clause-planned : goal.returns-clause-planned
returns-clause-planned g c =
    λ s lane there unfailing e.
    let because = (rw e at c.run-ended.ensures.ran.cause) in
    let a = because.2.failed in
    let b = c.fails_as_planned.ensures.each s lane there unfailing in
    omega (arith, a, b)
