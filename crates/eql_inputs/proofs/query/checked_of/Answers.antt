use Rattle.eql_query.specs.QueryTree.{query_tree}
use Rattle.eql_inputs.proofs.ErrorLemmas.{stopped_checking}
use Rattle.eql_inputs.proofs.query.checked_of.Goals as goal

pub returns-in-Err-clause-cause : goal.returns-in-Err-clause-cause
returns-in-Err-clause-cause c = rw c.error_of_check.ensures (stopped_checking c.args.mapping.now (query_tree c.args.query.now) _ c.in-Err.ensures.refused)
