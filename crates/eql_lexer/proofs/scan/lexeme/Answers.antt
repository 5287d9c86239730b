use Rattle.eql_lexer.proofs.Places.{found_shorter, refused_within}
use Rattle.eql_lexer.proofs.scan.lexeme.Goals as goal

pub returns-then-begins_triple-clause-shorter : goal.returns-then-begins_triple-clause-shorter
returns-then-begins_triple-clause-shorter c = found_shorter _ _ c.raw.ensures.found

pub returns-else-begins_triple-clause-shorter : goal.returns-else-begins_triple-clause-shorter
returns-else-begins_triple-clause-shorter c = found_shorter _ _ c.line.ensures.found

pub returns-else-begins_triple-clause-within : goal.returns-else-begins_triple-clause-within
returns-else-begins_triple-clause-within c = refused_within _ _ c.line.ensures.refused

pub returns-then-first-eq96-clause-shorter : goal.returns-then-first-eq96-clause-shorter
returns-then-first-eq96-clause-shorter c = found_shorter _ _ c.name.ensures.found
