use Rattle.std.proofs.Common.{rules}
use Rattle.eql_lexer.proofs.message.name_of.Goals as goal

pub returns-in-OpenComment : goal.returns-in-OpenComment
returns-in-OpenComment c = search rules
