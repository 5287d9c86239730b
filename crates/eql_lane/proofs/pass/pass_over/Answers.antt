use Rattle.std.proofs.Common.{ℕ, Ok, refl, ap, ◌∙◌, subst, arith}
use Rattle.eql_outside.specs.Outside.{Rose}
use Rattle.eql_lane.proofs.Starting.{passed_start, passed_join, passed_none, end_on}
use Rattle.eql_lane.proofs.Seeking.{read_start, read_join, read_none}
use Rattle.eql_lane.proofs.pass.pass_over.Goals as goal

pub loop-passed-init : goal.loop-passed-init
loop-passed-init g c = record {
  few = omega arith;
  read = read_start (g.S.Source.left c.args.source.now) c.args.trace.now;
  over = passed_start g.S.Source.left g.S.Source.lent_as c.args.source.now;
  unfailing = λ never. never;
  steady = refl;
}

pub loop-passed-preserved : goal.loop-passed-preserved
loop-passed-preserved g c =
    let inv = c.loop-passed.invariant in
    record {
      few = omega (arith, inv.few, c.in-Ok.ensures.few, c.loop-passed-test.true);
      read = read_join g.S.Source.left g.S.Source.lent_as c.loop-passed.passed c.in-Ok.n c.args.source.now c.loop-passed.source c.args.trace.now c.loop-passed.trace c.pass_some.new.trace inv.over inv.read c.in-Ok.ensures.read;
      over = passed_join g.S.Source.left g.S.Source.lent_as c.loop-passed.passed c.in-Ok.n c.args.source.now c.loop-passed.source c.pass_some.new.source inv.over c.in-Ok.ensures.passed;
      unfailing = λ never. (c.in-Ok.ensures.unfailing (inv.unfailing never)).1;
      steady = c.in-Ok.ensures.steady refl ∙ inv.steady;
    }

pub returns-in-Err-clause-kept : goal.returns-in-Err-clause-kept
returns-in-Err-clause-kept g c =
    let inv = c.loop-passed.invariant in
    λ e. (c.loop-passed.passed, inv.few, passed_none g.S.Source.left g.S.Source.lent_as c.loop-passed.passed 0 c.args.source.now c.loop-passed.source c.pass_some.new.source refl inv.over (c.in-Err.ensures.kept refl))

pub returns-in-Err-clause-cause : goal.returns-in-Err-clause-cause
returns-in-Err-clause-cause g c = λ e. subst (λ (n : ℕ). Rose n (g.S.Source.fault_count c.pass_some.new.source)) c.loop-passed.invariant.steady (c.in-Err.ensures.cause refl)

pub returns-in-Ok-eq0-clause-passed : goal.returns-in-Ok-eq0-clause-passed
returns-in-Ok-eq0-clause-passed g c =
    let inv = c.loop-passed.invariant in
    passed_none g.S.Source.left g.S.Source.lent_as c.loop-passed.passed c.in-Ok-eq0.field-0 c.args.source.now c.loop-passed.source c.pass_some.new.source c.in-Ok-eq0.field-0-test inv.over c.in-Ok-eq0.ensures.passed

pub returns-in-Ok-eq0-clause-end : goal.returns-in-Ok-eq0-clause-end
returns-in-Ok-eq0-clause-end g c = λ _. end_on g.S.Source.left g.S.Source.lent_as c.loop-passed.source c.pass_some.new.source c.in-Ok-eq0.field-0 c.in-Ok-eq0.field-0-test c.in-Ok-eq0.ensures.passed
    (c.in-Ok-eq0.ensures.end (ap (λ (n : ℕ). Ok n) c.in-Ok-eq0.field-0-test))

pub returns-in-Err-clause-unfailing : goal.returns-in-Err-clause-unfailing
returns-in-Err-clause-unfailing g c = λ never. let taken = c.in-Err.ensures.unfailing (c.loop-passed.invariant.unfailing never) in (cc taken.0, taken.1)

pub returns-in-Ok-eq0-clause-unfailing : goal.returns-in-Ok-eq0-clause-unfailing
returns-in-Ok-eq0-clause-unfailing g c = λ never. (refl, (c.in-Ok-eq0.ensures.unfailing (c.loop-passed.invariant.unfailing never)).1)

pub returns-clause-unfailing : goal.returns-clause-unfailing
returns-clause-unfailing g c = λ never. (refl, c.loop-passed.invariant.unfailing never)

pub pass_some-requires-clause-far : goal.pass_some-requires-clause-far
pass_some-requires-clause-far g c =
    let inv = c.loop-passed.invariant in
    let a = inv.read.passed in
    let b = c.requires.far in omega (arith, a, b, inv.few)

pub returns-in-Ok-eq0-clause-read : goal.returns-in-Ok-eq0-clause-read
returns-in-Ok-eq0-clause-read g c =
    let inv = c.loop-passed.invariant in
    read_none g.S.Source.left g.S.Source.lent_as c.loop-passed.passed c.in-Ok-eq0.field-0 c.args.source.now c.loop-passed.source c.args.trace.now c.loop-passed.trace c.pass_some.new.trace c.in-Ok-eq0.field-0-test inv.over inv.read c.in-Ok-eq0.ensures.read

pub returns-clause-read : goal.returns-clause-read
returns-clause-read g c = c.loop-passed.invariant.read
