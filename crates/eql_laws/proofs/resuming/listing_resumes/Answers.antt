use Rattle.eql_laws.proofs.Resumed as laws
use Rattle.eql_laws.proofs.resuming.listing_resumes.Goals as goal

pub returns-clause-before_the_end : goal.returns-clause-before_the_end
returns-clause-before_the_end c = laws.emitted_goes_on

pub returns-clause-at_the_end : goal.returns-clause-at_the_end
returns-clause-at_the_end c = laws.piped_goes_on

pub returns-clause-rest : goal.returns-clause-rest
returns-clause-rest c = laws.listing_resumes
