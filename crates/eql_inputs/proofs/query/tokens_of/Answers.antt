use Rattle.eql_inputs.proofs.TokenLemmas.{has_tokens, stopped_spelling}
use Rattle.eql_inputs.proofs.query.tokens_of.Goals as goal

pub returns-in-Ok-clause-tokens : goal.returns-in-Ok-clause-tokens
returns-in-Ok-clause-tokens c = has_tokens _ _ c.in-Ok.ensures.found c.in-Ok.ensures.too_long c.in-Ok.ensures.not_utf8

pub returns-in-Err-clause-cause : goal.returns-in-Err-clause-cause
returns-in-Err-clause-cause c = rw c.error_of_lex.ensures (stopped_spelling _ _ c.in-Err.ensures.refused c.in-Err.ensures.too_long c.in-Err.ensures.not_utf8)
