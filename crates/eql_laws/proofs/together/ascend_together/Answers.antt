use Rattle.eql_laws.proofs.Togethers as laws
use Rattle.eql_laws.proofs.together.ascend_together.Goals as goal

pub returns-clause-lists : goal.returns-clause-lists
returns-clause-lists c = laws.ascend_together

pub returns-clause-event : goal.returns-clause-event
returns-clause-event c = laws.stands_before

pub returns-clause-times : goal.returns-clause-times
returns-clause-times c = laws.none_below_from
