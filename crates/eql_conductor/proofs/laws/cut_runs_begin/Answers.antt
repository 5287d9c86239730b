use Rattle.eql_conductor.proofs.OpenedCuts as laws
use Rattle.eql_conductor.proofs.laws.cut_runs_begin.Goals as goal

pub returns-clause-fitting : goal.returns-clause-fitting
returns-clause-fitting g c = laws.cut_runs_begin (g.B.Bench.known c.args.bench.now)

pub returns-clause-texts : goal.returns-clause-texts
returns-clause-texts g c = laws.cut_runs_have_texts (g.B.Bench.known c.args.bench.now)
