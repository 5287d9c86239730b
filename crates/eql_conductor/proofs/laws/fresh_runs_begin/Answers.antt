use Rattle.eql_conductor.proofs.Opened as laws
use Rattle.eql_conductor.proofs.laws.fresh_runs_begin.Goals as goal

pub returns : goal.returns
returns g c = laws.fresh_runs_begin (g.B.Bench.known c.args.bench.now)
