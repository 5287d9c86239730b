use Rattle.eql_laws.proofs.Handing.{between_by_shard as the_law}
use Rattle.eql_laws.proofs.taking.between_by_shard.Goals as goal

pub returns : goal.returns
returns c = the_law
