use Rattle.eql_laws.proofs.Shaping as laws
use Rattle.eql_laws.proofs.shapes.events_and_keys_stay.Goals as goal

pub returns-clause-events : goal.returns-clause-events
returns-clause-events c = laws.events_stay

pub returns-clause-keys : goal.returns-clause-keys
returns-clause-keys c = laws.keys_stay
