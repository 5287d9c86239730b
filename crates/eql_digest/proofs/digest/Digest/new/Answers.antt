use Rattle.std.proofs.Common.{refl}
use Rattle.eql_digest.specs.Digests.{with_bytes}
use Rattle.eql_digest.proofs.digest.Digest.new.Goals as goal

pub returns : goal.returns
unfolding with_bytes
returns c = refl
