use Rattle.eql_lane.proofs.Keeping as laws
use Rattle.eql_lane.proofs.Beginnings.{retraced_is, lifted_is}
use Rattle.eql_lane.proofs.laws.cuts_begin.Goals as goal

pub returns-clause-cuts : goal.returns-clause-cuts
returns-clause-cuts c = laws.cuts_begin

pub returns-clause-fresh : goal.returns-clause-fresh
returns-clause-fresh c = laws.fresh_is

pub returns-clause-retraced : goal.returns-clause-retraced
returns-clause-retraced c = retraced_is laws.cuts_begin

pub returns-clause-lifted : goal.returns-clause-lifted
returns-clause-lifted c = lifted_is laws.cuts_begin
