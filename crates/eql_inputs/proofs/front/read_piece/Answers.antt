use Rattle.std.proofs.Common.{rules}
use Rattle.eql_inputs.proofs.front.read_piece.Goals as goal

pub returns-in_default-clause-end : goal.returns-in_default-clause-end
returns-in_default-clause-end g c = search rules
