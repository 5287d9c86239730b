use Rattle.eql_parser.proofs.Names.{no_first_part}
use Rattle.eql_parser.proofs.parser.field.named_of.Goals as goal

pub returns-in_default-first_part_of : goal.returns-in_default-first_part_of
returns-in_default-first_part_of c = no_first_part _ c.args.tokens.now _ _ c.in-Some.ensures c.in_default-first_part_of.ensures
