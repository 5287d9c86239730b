use Rattle.std.proofs.Common.{◌∙◌, subst}
use Rattle.eql_lines.specs.Steps.{Leads}
use Rattle.eql_lines.proofs.Stepping.{grown_then, opened_more, same_rest}
use Rattle.eql_lines.proofs.steps.Table.open.Goals as goal

pub loop-place-preserved : goal.loop-place-preserved
loop-place-preserved c =
    let paths = c.args.paths.now.paths.items in
    let l = c.loop-place in
    let f = c.in-Some.ensures.first in
    let done = c.in_ok-add_all.ensures in
    let new = c.add_all.new.self in (
      done.table,
      grown_then c.args.self.now l.self new l.invariant.1 done.grown,
      opened_more paths c.active-active.result c.args.from l.self new l.left c.take_first.new.self c.in-Some.place l.invariant.2 (record { was = f.1; gone = f.2; others = f.3 }) done.grown
          (λ rest e. subst (Leads new c.args.from) (same_rest c.in-Some-rest.rest.now rest (c.in-Some-rest.ensures ∙ e)) done.steps),
    )
