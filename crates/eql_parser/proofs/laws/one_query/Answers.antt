use Rattle.eql_parser.specs.Kinds.{kinds}
use Rattle.eql_parser.proofs.Complete.{reads_one}
use Rattle.eql_parser.proofs.laws.one_query.Goals as goal

pub returns : goal.returns
returns c = λ tokens p q h k. reads_one (kinds tokens) p q h k
