use Rattle.std.proofs.Common.{◌≡◌, subst, List, ℕ, Ok}
use Rattle.std.proofs.lemmas.Result.{err_from_is_err_and, IfOk-weaker, IfErr-weaker}
use Rattle.eql_check.specs.Mappings.{mapping_of}
use Rattle.eql_inputs.specs.Steps.{StopsMapping}
use Rattle.eql_inputs.proofs.ErrorLemmas.{mapping_unread, mapping_got, mapping_stopped, mapping_calm}
use Rattle.eql_inputs.proofs.ShelfLemmas.{refused_alike, reads_text}
use Rattle.eql_inputs.proofs.checked.read_mapping.Goals as goal

pub returns-in_err-text-clause-cause : goal.returns-in_err-text-clause-cause
returns-in_err-text-clause-cause g c =
    let p = err_from_is_err_and c.from_residual.result c.from_residual.ensures.1 in
    rw (p.1, p.2) (mapping_unread _ _ _ c.in_err-text.ensures.cause)

pub returns-clause-mapping : goal.returns-clause-mapping
returns-clause-mapping g c =
    IfOk-weaker c.mapping_of.result _ _ (λ mapping is. mapping_got _ _ _ mapping c.in_ok-text.ensures.front
    (subst (λ (x : List ℕ). mapping_of x ≡ Ok mapping) c.as_slice.ensures.value is)) c.mapping_of.ensures.mapping

pub returns-clause-cause : goal.returns-clause-cause
returns-clause-cause g c =
    IfErr-weaker c.mapping_of.result _ _
    (λ error stop. mapping_stopped _ _ _ error c.in_ok-text.ensures.front
    (subst (λ (x : List ℕ). StopsMapping x error) c.as_slice.ensures.value stop)) c.mapping_of.ensures.cause

pub returns-in_err-text-clause-shelf : goal.returns-in_err-text-clause-shelf
returns-in_err-text-clause-shelf g c =
    let p = err_from_is_err_and c.from_residual.result c.from_residual.ensures.1 in
    rw (p.1, p.2) (refused_alike g.H.Shelf _ _ _ c.in_err-text.ensures.shelf)

pub returns-clause-shelf : goal.returns-clause-shelf
returns-clause-shelf g c =
    reads_text g.H.Shelf c.in_ok-text.text c.mapping_of.result _ _
    (IfErr-weaker c.mapping_of.result _ _ (λ error stop. mapping_calm _ error stop) c.mapping_of.ensures.cause) c.in_ok-text.ensures.shelf
