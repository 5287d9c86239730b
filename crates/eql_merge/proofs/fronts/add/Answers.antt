use Rattle.std.proofs.Common.{◌∙◌, ◌-◌, List, length, sym, subst, ap}
use Rattle.std.specs.Prelude.{slice_get}
use Rattle.eql_merge.specs.Ranks.{Ascends}
use Rattle.eql_merge.proofs.Gathered.{behind_last, first_of_all}
use Rattle.eql_merge.proofs.fronts.add.Goals as goal
use Rattle.eql_merge.proofs.fronts.add.Goals.{in-None, in-Some}

pub returns-clause-order : goal.returns-clause-order
returns-clause-order g c =
    λ follows up.
    let R = g.T.Ranked.rank in
    let m = c.args.merged.now.items in
    let at_last = ap (λ (l : List g.row.T.Denot). slice_get l (length l - 1)) c.deref.ensures.value in
    subst (Ascends R) (sym (c.in_ok-push.ensures {u = tt}).items)
    (elim c.match-last.branch [
      | in-None w ↦ first_of_all R g.met.T.Ranked.total m c.args.value (sym at_last ∙ sym (w.in-None.ensures {u = tt}).value)
      | in-Some w ↦ behind_last R g.met.T.Ranked.total m w.in-Some.last.now c.args.value (sym at_last ∙ sym (w.in-Some.ensures {u = tt}).value)
          (sym w.is_before-follows.ensures ∙ sym w.follows-is ∙ follows) up
    ])
