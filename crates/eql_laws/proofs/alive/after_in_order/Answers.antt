use Rattle.eql_laws.proofs.LeftOut as laws
use Rattle.eql_laws.proofs.alive.after_in_order.Goals as goal

pub returns-clause-after : goal.returns-clause-after
returns-clause-after c = laws.after_in_order

pub returns-clause-alive : goal.returns-clause-alive
returns-clause-alive c = laws.alive_in_order
