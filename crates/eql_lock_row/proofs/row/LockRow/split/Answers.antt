use Rattle.std.proofs.Common.{sym, subst}
use Rattle.eql_lock_row.specs.Rows.{AllKnow, RowView}
use Rattle.eql_lock_row.proofs.row.LockRow.split.Goals as goal

pub returns-clause-knows : goal.returns-clause-knows
returns-clause-knows g c know =
    c.split_all.ensures.knows (subst (λ (r : RowView _ _ _). AllKnow g.T.Turned.step_of g.T.Turned.is_open r.views) (sym c.passes.view_is) know)
