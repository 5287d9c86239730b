use Rattle.eql_parser.proofs.OneRefusal.{one_refusal as law}
use Rattle.eql_parser.proofs.laws.one_refusal.Goals as goal

pub returns : goal.returns
returns c = law
