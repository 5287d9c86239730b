use Rattle.eql_parser.proofs.Defaults.{no_text}
use Rattle.eql_parser.proofs.parser.literal.text_of.Goals as goal

pub returns-in_default-first : goal.returns-in_default-first
returns-in_default-first c = no_text _ _ _ c.in-Some.ensures c.in_default-first.not-Str
