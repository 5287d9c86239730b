use Rattle.std.proofs.Common.{◌+◌, ◌^◌, refl}
use Rattle.eql_hub.specs.declared.step.Did.TheVariants as did
use Rattle.eql_hands.proofs.Running.{going_on, ran_fault, ran_idle}
use Rattle.eql_hands.proofs.run.play_steps.Goals as goal
use Rattle.eql_hands.proofs.run.play_steps.Goals.{in-Nothing+else-not-is_on, in-Fed, in-Turned}

pub returns-in-Fault-clause-ran : goal.returns-in-Fault-clause-ran
returns-in-Fault-clause-ran g c =
    ran_fault g.S.Source.left g.S.Source.lent_as g.S.Source.fault_plan g.L.LineReader.read_of c.args.batch c.args.hub.now.alone (2 ^ 40) c.loop-step._step
    c.args.hand.now c.loop-step.hand c.step_through.new.hand c.loop-step.invariant.going c.loop-step-test.true c.in-Fault.fault c.in-Fault.ensures.steps

pub returns-then-not-is_on-clause-ran : goal.returns-then-not-is_on-clause-ran
returns-then-not-is_on-clause-ran g c =
    ran_idle g.S.Source.left g.S.Source.lent_as g.S.Source.fault_plan g.L.LineReader.read_of c.args.batch c.args.hub.now.alone (2 ^ 40) c.loop-step._step
    c.args.hand.now c.loop-step.hand c.step_through.new.hand c.loop-step.invariant.going c.loop-step-test.true c.in-Nothing.ensures.steps

pub loop-step-preserved : goal.loop-step-preserved
loop-step-preserved g c =
    record {
      own = c.step_through.ensures.own;
      knows = λ know. c.step_through.ensures.knows (c.loop-step.invariant.knows know);
      going = elim c.match-step_through.branch [
        | in-Nothing+else-not-is_on w ↦
            going_on g.S.Source.left g.S.Source.lent_as g.S.Source.fault_plan g.L.LineReader.read_of c.args.batch c.args.hub.now.alone (2 ^ 40) c.loop-step._step
            c.args.hand.now c.loop-step.hand c.step_through.new.hand c.loop-step.invariant.going c.loop-step-test.true did.Nothing refl w.in-Nothing.ensures.steps
        | in-Fed w ↦
            going_on g.S.Source.left g.S.Source.lent_as g.S.Source.fault_plan g.L.LineReader.read_of c.args.batch c.args.hub.now.alone (2 ^ 40) c.loop-step._step
            c.args.hand.now c.loop-step.hand c.step_through.new.hand c.loop-step.invariant.going c.loop-step-test.true (did.Fed w.in-Fed.lane) refl w.in-Fed.ensures.steps
        | in-Turned w ↦
            going_on g.S.Source.left g.S.Source.lent_as g.S.Source.fault_plan g.L.LineReader.read_of c.args.batch c.args.hub.now.alone (2 ^ 40) c.loop-step._step
            c.args.hand.now c.loop-step.hand c.step_through.new.hand c.loop-step.invariant.going c.loop-step-test.true (did.Turned w.in-Turned.part) refl w.in-Turned.ensures.steps
      ];
    }
