use Rattle.std.proofs.Common.{rules}
use Rattle.eql_code.proofs.emit.beside_address.Goals as goal

pub returns : goal.returns
returns c = search rules
