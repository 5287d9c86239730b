use Rattle.std.proofs.Common.{sym}
use Rattle.eql_parser.proofs.Descent.{place_is}
use Rattle.eql_parser.proofs.Queries.{no_pipe}
use Rattle.eql_parser.proofs.parser.whole.pipe_of.Goals as goal

pub named_pipe-requires : goal.named_pipe-requires
named_pipe-requires c = sym (place_is c.args.tokens.now _ _ c.in-Some.ensures)

pub returns-in_default-first : goal.returns-in_default-first
returns-in_default-first c = no_pipe c.args.tokens.now _ _ c.in-Some.ensures c.in_default-first.not-Name
