use Rattle.eql_runs.proofs.MadeQuery.{made_is_a_search}
use Rattle.eql_runs.proofs.MadeTexts.{made_is_within}
use Rattle.eql_runs.proofs.laws.made_is_searched.Goals as goal

pub returns-clause-search : goal.returns-clause-search
returns-clause-search c = made_is_a_search c.check_is_exact.ensures

pub returns-clause-within : goal.returns-clause-within
returns-clause-within c = made_is_within
