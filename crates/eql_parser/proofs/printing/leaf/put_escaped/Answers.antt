use Rattle.std.proofs.Common.{rules}
use Rattle.eql_parser.proofs.printing.leaf.put_escaped.Goals as goal

pub returns-in-92 : goal.returns-in-92
returns-in-92 c = search rules
