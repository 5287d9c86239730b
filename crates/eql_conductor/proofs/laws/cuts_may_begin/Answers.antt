use Rattle.eql_conductor.proofs.MayBegin as laws
use Rattle.eql_conductor.proofs.laws.cuts_may_begin.Goals as goal

pub returns : goal.returns
returns c = laws.fit_may_begin
