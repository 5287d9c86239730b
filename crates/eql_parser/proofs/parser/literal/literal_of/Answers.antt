use Rattle.eql_parser.proofs.Defaults.{no_literal}
use Rattle.eql_parser.proofs.parser.literal.literal_of.Goals as goal

pub returns-in_default-first : goal.returns-in_default-first
returns-in_default-first c = no_literal _ _ _ c.in-Some-split.ensures c.in_default.ensures c.in_default-first.not-Number c.in_default-first.not-Str c.in_default-first.not-True c.in_default-first.not-False
