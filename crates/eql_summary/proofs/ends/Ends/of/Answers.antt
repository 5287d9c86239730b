use Rattle.std.proofs.Common.{◌+◌, ap, refl}
use Rattle.eql_summary.proofs.LineLemmas.{first_gone, next_gone}
use Rattle.eql_summary.proofs.ends.Ends.of.Goals.{then-ends-eq0, else-ends-eq0}
use Rattle.eql_summary.proofs.ends.Ends.of.Goals as goal

pub loop-line-preserved : goal.loop-line-preserved
loop-line-preserved c = elim c.if-ends-eq0.branch [
  | then-ends-eq0 w ↦ first_gone c.args.text.now c.loop-line.rest.now c.in-Some.line.now c.in-Some.others.now c.loop-line.ends c.loop-line.invariant
      c.in-Some.ensures.lines c.in-Some.ensures.shorter _ w.if-ends-eq0.true (ap (λ e. e.count + 1) w.ends-is) (ap (λ e. e.first.now) w.ends-is) refl
  | else-ends-eq0 w ↦ next_gone c.args.text.now c.loop-line.rest.now c.in-Some.line.now c.in-Some.others.now c.loop-line.ends c.loop-line.invariant
      c.in-Some.ensures.lines c.in-Some.ensures.shorter _ w.if-ends-eq0.false (ap (λ e. e.count + 1) w.ends-is) (ap (λ e. e.first.now) w.ends-is) refl
]
