use Rattle.std.proofs.Common.{subst, List, ℕ}
use Rattle.std.proofs.lemmas.Result.{err_from_is_err_and, IfOk-weaker, IfErr-weaker}
use Rattle.eql_query.specs.QueryTree.{query_tree}
use Rattle.eql_inputs.specs.Steps.{IsQueryText, StopsQuery}
use Rattle.eql_inputs.proofs.ErrorLemmas.{query_unread, query_got, query_stopped, query_calm}
use Rattle.eql_inputs.proofs.ShelfLemmas.{refused_alike, reads_text}
use Rattle.eql_inputs.proofs.checked.read_query.Goals as goal

pub returns-in_err-text-clause-cause : goal.returns-in_err-text-clause-cause
returns-in_err-text-clause-cause g c =
    let p = err_from_is_err_and c.from_residual.result c.from_residual.ensures.1 in
    rw (p.1, p.2) (query_unread _ _ _ c.in_err-text.ensures.cause)

pub returns-clause-query : goal.returns-clause-query
returns-clause-query g c =
    IfOk-weaker c.query_in.result _ _ (λ query is. query_got _ _ _ _ c.in_ok-text.ensures.front
    (subst (λ (x : List ℕ). IsQueryText x (query_tree query)) c.as_slice.ensures.value is)) c.query_in.ensures.query

pub returns-clause-cause : goal.returns-clause-cause
returns-clause-cause g c =
    IfErr-weaker c.query_in.result _ _
    (λ error stop. query_stopped _ _ _ error c.in_ok-text.ensures.front
    (subst (λ (x : List ℕ). StopsQuery x error) c.as_slice.ensures.value stop)) c.query_in.ensures.cause

pub returns-in_err-text-clause-shelf : goal.returns-in_err-text-clause-shelf
returns-in_err-text-clause-shelf g c =
    let p = err_from_is_err_and c.from_residual.result c.from_residual.ensures.1 in
    rw (p.1, p.2) (refused_alike g.H.Shelf _ _ _ c.in_err-text.ensures.shelf)

pub returns-clause-shelf : goal.returns-clause-shelf
returns-clause-shelf g c =
    reads_text g.H.Shelf c.in_ok-text.text c.query_in.result _ _
    (IfErr-weaker c.query_in.result _ _ (λ error stop. query_calm _ error stop) c.query_in.ensures.cause) c.in_ok-text.ensures.shelf
