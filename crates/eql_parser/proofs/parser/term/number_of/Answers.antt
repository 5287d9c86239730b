use Rattle.eql_parser.proofs.Queries.{no_count}
use Rattle.eql_parser.proofs.parser.term.number_of.Goals as goal

pub returns-in_default-first : goal.returns-in_default-first
returns-in_default-first c = no_count c.args.tokens.now _ _ c.in-Some.ensures c.in_default-first.not-Number
