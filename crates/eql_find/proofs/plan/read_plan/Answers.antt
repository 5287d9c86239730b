use Rattle.std.proofs.lemmas.Result.{err_from_is_err_and}
use Rattle.eql_inputs.proofs.ShelfLemmas.{refused_alike, reads_text}
use Rattle.eql_find.proofs.TextLemmas.{planning_is}
use Rattle.eql_find.proofs.plan.read_plan.Goals as goal

pub returns-in_err-inputs-clause-shelf : goal.returns-in_err-inputs-clause-shelf
returns-in_err-inputs-clause-shelf g c =
    let p = err_from_is_err_and c.from_residual.result c.from_residual.ensures.1 in
    rw (p.1, p.2) (refused_alike g.H.Shelf _ _ _ c.in_err-inputs.ensures.shelf)

pub returns-in-Ok-clause-plan : goal.returns-in-Ok-clause-plan
returns-in-Ok-clause-plan g c =
    planning_is c.args.find.now _ c.in_ok-inputs.inputs.checked c.in_ok-inputs.inputs.mapping c.in-Ok.plan
    c.in_ok-inputs.ensures.checked c.in_ok-inputs.ensures.fields c.in-Ok.ensures

pub returns-in-Ok-clause-shelf : goal.returns-in-Ok-clause-shelf
returns-in-Ok-clause-shelf g c = reads_text g.H.Shelf c.in_ok-inputs.inputs _ _ _ tt c.in_ok-inputs.ensures.shelf

pub returns-in-Err-clause-shelf : goal.returns-in-Err-clause-shelf
returns-in-Err-clause-shelf g c = reads_text g.H.Shelf c.in_ok-inputs.inputs _ _ _ tt c.in_ok-inputs.ensures.shelf
