use Rattle.std.proofs.Common.{arith}
use Rattle.eql_lines.proofs.Stepping.{below_all}
use Rattle.eql_lines.proofs.steps.Table.add_all.Goals as goal

pub returns-clause-steps : goal.returns-clause-steps
returns-clause-steps c = below_all c.loop-end.self c.args.from c.loop-end.end c.args.rest.now (grind (arith, c.loop-end-test.false)) c.loop-end.invariant.2
