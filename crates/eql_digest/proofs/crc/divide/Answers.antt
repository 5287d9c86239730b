use Rattle.std.proofs.Common.{rules}
use Rattle.eql_digest.proofs.crc.divide.Goals as goal

pub returns : goal.returns
returns c = search rules
