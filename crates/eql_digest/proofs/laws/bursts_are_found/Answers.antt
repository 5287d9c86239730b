use Rattle.eql_digest.proofs.Bursts.{bursts}
use Rattle.eql_digest.proofs.laws.bursts_are_found.Goals as goal

pub returns : goal.returns
returns c = bursts
