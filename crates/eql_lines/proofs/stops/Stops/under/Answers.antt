use Rattle.std.proofs.Common.{◌≡◌, sym, ap, ◌∙◌, refl}
use Rattle.eql_lines.specs.Steps.{step_by, rest_on}
use Rattle.eql_lines.proofs.Stepping.{no_step, some_goes}
use Rattle.eql_lines.proofs.stops.Stops.under.Goals as goal

pub returns-clause-none : goal.returns-clause-none
returns-clause-none c =
    let t = c.args.self.now in
    let is : c.step.result ≡ step_by t.table c.args.stop c.args.name.now = c.step.ensures ∙ ap (step_by t.table c.args.stop) c.as_bytes.ensures.value in
    λ e i. no_step t.paths.paths.items t.table c.args.stop c.args.name.now (t.opened c.args.stop) (sym is ∙ e) i (rest_on t.paths.paths.items t.table c.args.stop i) refl

pub returns-clause-some : goal.returns-clause-some
returns-clause-some c =
    let t = c.args.self.now in
    some_goes t.paths.paths.items t.table c.args.stop c.args.name.now t.steps c.step.result (c.step.ensures ∙ ap (step_by t.table c.args.stop) c.as_bytes.ensures.value)
