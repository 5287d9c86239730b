use Rattle.eql_book.proofs.Wholes.{fresh_is_of_none}
use Rattle.eql_conductor.proofs.Begun as laws
use Rattle.eql_conductor.proofs.laws.told_runs_begin.Goals as goal

pub returns-clause-fresh : goal.returns-clause-fresh
returns-clause-fresh g c = laws.fresh_runs_are_told fresh_is_of_none (g.B.Bench.known c.args.bench.now)

pub returns-clause-cut : goal.returns-clause-cut
returns-clause-cut g c = laws.cut_runs_are_told (g.B.Bench.known c.args.bench.now)
