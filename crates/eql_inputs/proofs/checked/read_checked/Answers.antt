use Rattle.std.proofs.lemmas.Result.{err_from_is_err_and, IfOk-weaker, IfErr-weaker}
use Rattle.eql_query.specs.QueryTree.{query_tree}
use Rattle.eql_inputs.proofs.ErrorLemmas.{mapping_then, checked_got, check_stopped, check_calm}
use Rattle.eql_inputs.proofs.ShelfLemmas.{refused_alike, reads_later, reads_text}
use Rattle.eql_inputs.proofs.checked.read_checked.Goals as goal

pub returns-in_err-tree-clause-cause : goal.returns-in_err-tree-clause-cause
returns-in_err-tree-clause-cause g c =
    let p = err_from_is_err_and c.from_residual.result c.from_residual.ensures.1 in
    rw (p.1, p.2) (λ shards. c.in_err-tree.ensures.cause c.args.fields.now shards)

pub returns-in_err-mapping-clause-cause : goal.returns-in_err-mapping-clause-cause
returns-in_err-mapping-clause-cause g c =
    let p = err_from_is_err_and c.from_residual-in_err-mapping.result c.from_residual-in_err-mapping.ensures.1 in
    rw (p.1, p.2)
    (mapping_then _ _ _ _ _ _ c.in_ok-tree.ensures.shelf.kept.files_are c.in_ok-tree.ensures.query c.in_err-mapping.ensures.cause)

pub returns-in_err-tree-clause-shelf : goal.returns-in_err-tree-clause-shelf
returns-in_err-tree-clause-shelf g c =
    let p = err_from_is_err_and c.from_residual.result c.from_residual.ensures.1 in
    rw (p.1, p.2) (refused_alike g.H.Shelf _ _ _ c.in_err-tree.ensures.shelf)

pub returns-in_err-mapping-clause-shelf : goal.returns-in_err-mapping-clause-shelf
returns-in_err-mapping-clause-shelf g c =
    let p = err_from_is_err_and c.from_residual-in_err-mapping.result c.from_residual-in_err-mapping.ensures.1 in
    rw (p.1, p.2)
    (reads_later g.H.Shelf c.in_ok-tree.tree _ _ _ _ c.in_ok-tree.ensures.shelf (refused_alike g.H.Shelf _ _ _ c.in_err-mapping.ensures.shelf))

pub returns-clause-checked : goal.returns-clause-checked
returns-clause-checked g c =
    IfOk-weaker c.checked_with.result _ _
    (λ inputs is. checked_got _ _ _ _ _ _ _ _ c.in_ok-tree.ensures.shelf.kept.files_are c.in_ok-tree.ensures.query
    c.in_ok-mapping.ensures.mapping is.0 is.1 is.2) c.checked_with.ensures.checked

pub returns-clause-cause : goal.returns-clause-cause
returns-clause-cause g c =
    IfErr-weaker c.checked_with.result _ _
    (λ error stop. check_stopped _ _ _ _ _ _ error c.in_ok-tree.ensures.shelf.kept.files_are c.in_ok-tree.ensures.query
    c.in_ok-mapping.ensures.mapping stop) c.checked_with.ensures.cause

pub returns-clause-shelf : goal.returns-clause-shelf
returns-clause-shelf g c =
    reads_text g.H.Shelf c.in_ok-mapping.mapping c.checked_with.result _ _
    (IfErr-weaker c.checked_with.result _ _ (λ error stop. check_calm c.in_ok-mapping.mapping (query_tree c.in_ok-tree.tree) error stop) c.checked_with.ensures.cause)
    (reads_later g.H.Shelf c.in_ok-tree.tree _ _ _ _ c.in_ok-tree.ensures.shelf c.in_ok-mapping.ensures.shelf)
