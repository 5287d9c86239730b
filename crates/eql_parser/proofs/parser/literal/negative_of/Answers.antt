use Rattle.eql_parser.proofs.Defaults.{no_number}
use Rattle.eql_parser.proofs.parser.literal.negative_of.Goals as goal

pub returns-in_default-first : goal.returns-in_default-first
returns-in_default-first c = no_number _ _ _ c.in-Some.ensures c.in_default-first.not-Number
