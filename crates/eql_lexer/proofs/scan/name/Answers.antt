use Rattle.std.proofs.Common.{arith}
use Rattle.eql_lexer.proofs.Places.{more_utf8}
use Rattle.eql_lexer.proofs.scan.name.Goals as goal

pub back_name-requires : goal.back_name-requires
back_name-requires c = more_utf8 _ _ _ c.requires.cons (omega (arith, c.requires.tick)) c.requires.utf8
