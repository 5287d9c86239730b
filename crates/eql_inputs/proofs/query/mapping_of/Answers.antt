use Rattle.std.proofs.Common.{sym}
use Rattle.eql_inputs.proofs.ErrorLemmas.{stopped_mapping}
use Rattle.eql_inputs.proofs.query.mapping_of.Goals as goal

pub returns-in-Ok-clause-mapping : goal.returns-in-Ok-clause-mapping
returns-in-Ok-clause-mapping c = sym c.in-Ok.ensures

pub returns-in-Err-clause-cause : goal.returns-in-Err-clause-cause
returns-in-Err-clause-cause c = rw c.error_of_map.ensures (stopped_mapping _ _ c.in-Err.ensures)
