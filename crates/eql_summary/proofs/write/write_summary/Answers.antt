use Rattle.eql_summary.proofs.ListingLemmas.{made_nothing}
use Rattle.eql_summary.proofs.write.write_summary.Goals as goal

pub returns-in-Err-clause-front : goal.returns-in-Err-clause-front
returns-in-Err-clause-front g c = made_nothing c.made_is_searched.ensures.search c.args.events _
