use Rattle.std.proofs.Common.{arith}
use Rattle.eql_lexer.proofs.Places.{more_utf8}
use Rattle.eql_lexer.proofs.scan.line.Goals as goal

pub line_string-requires : goal.line_string-requires
line_string-requires c = more_utf8 _ _ _ c.requires.cons (omega (arith, c.requires.quote)) c.requires.utf8
