use Rattle.eql_digest.proofs.Changes.{changed_bytes}
use Rattle.eql_digest.proofs.laws.changed_bytes_are_found.Goals as goal

pub returns : goal.returns
returns c = changed_bytes
