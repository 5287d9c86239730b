use Rattle.eql_lexer.proofs.Places.{from_utf8}
use Rattle.eql_lexer.proofs.scan.tokens_of.Goals as goal

pub lexeme-requires-clause-utf8 : goal.lexeme-requires-clause-utf8
lexeme-requires-clause-utf8 c =
    from_utf8 c.args.text.now c.loop-first.rest.now c.after_gap-from.result.now c.in-Some.more.now c.loop-first.tokens.items c.in-Some.first
    c.loop-first.invariant.0 c.after_gap-from.ensures.value c.in-Some.ensures c.requires.utf8
