use Rattle.eql_turn_lock.proofs.Readings.{one_reading, found_is_not_loaded}
use Rattle.eql_turn_lock.proofs.laws.loads_are_told.Goals as goal

pub returns-clause-one : goal.returns-clause-one
returns-clause-one c = one_reading

pub returns-clause-apart : goal.returns-clause-apart
returns-clause-apart c = found_is_not_loaded
