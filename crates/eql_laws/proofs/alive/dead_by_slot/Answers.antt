use Rattle.eql_laws.proofs.LeftOut as laws
use Rattle.eql_laws.proofs.alive.dead_by_slot.Goals as goal

pub returns-clause-look_up : goal.returns-clause-look_up
returns-clause-look_up c = laws.alive_looks_up

pub returns-clause-step : goal.returns-clause-step
returns-clause-step c = laws.slots_alive
