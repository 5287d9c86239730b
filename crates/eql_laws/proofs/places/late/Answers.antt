use Rattle.eql_laws.proofs.SafePlaces as safe
use Rattle.eql_laws.proofs.places.late.Goals as goal

pub returns-clause-of_shard : goal.returns-clause-of_shard
returns-clause-of_shard c = safe.late_of_shard

pub returns-clause-of_all : goal.returns-clause-of_all
returns-clause-of_all c = safe.late
