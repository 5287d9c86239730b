use Rattle.std.proofs.Common.{rules}
use Rattle.eql_cut.proofs.lists.read_list.Goals as goal

pub returns : goal.returns
returns g c = search rules
