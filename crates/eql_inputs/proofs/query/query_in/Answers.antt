use Rattle.std.proofs.lemmas.Result.{err_from_is_err_and, IfOk-weaker, IfErr-weaker}
use Rattle.eql_inputs.proofs.ErrorLemmas.{spelling_stops, parsing_stops}
use Rattle.eql_inputs.proofs.query.query_in.Goals as goal

pub returns-in_err-tokens-clause-cause : goal.returns-in_err-tokens-clause-cause
returns-in_err-tokens-clause-cause c =
    let p = err_from_is_err_and c.from_residual.result c.from_residual.ensures.1 in
    rw (p.1, p.2) (spelling_stops _ _ c.in_err-tokens.ensures.cause)

pub returns-clause-query : goal.returns-clause-query
returns-clause-query c =
    IfOk-weaker c.query_of.result _ _
    (λ query read. record { tokens = c.in_ok-tokens.tokens; spelled = c.in_ok-tokens.ensures.tokens; read = read })
    c.query_of.ensures.query

pub returns-clause-cause : goal.returns-clause-cause
returns-clause-cause c =
    IfErr-weaker c.query_of.result _ _ (λ error stop. parsing_stops _ _ error c.in_ok-tokens.ensures.tokens stop)
    c.query_of.ensures.cause
