use Rattle.std.proofs.Common.{rules}
use Rattle.eql_cut.proofs.numbers.BoolCoded.read.Goals as goal

pub returns-in-Some-eq0 : goal.returns-in-Some-eq0
returns-in-Some-eq0 c = search rules
