use Rattle.std.proofs.Common.{◌^◌}
use Rattle.eql_hands.proofs.Running.{ran_later, ran_meets, ran_rests, ran_within}
use Rattle.eql_hands.proofs.run.run_hand.Goals as goal

pub returns-clause-same : goal.returns-clause-same
returns-clause-same g c =
    ran_later g.S.Source.left g.S.Source.lent_as g.S.Source.fault_plan g.L.LineReader.read_of c.args.batch c.args.hub.now.alone (2 ^ 40) c.play_steps-fault.result c.args.hand
    c.play_steps-fault.new.hand c.play_steps-fault.ensures.ran

pub returns-clause-fault : goal.returns-clause-fault
returns-clause-fault g c =
    ran_meets g.S.Source.left g.S.Source.lent_as g.S.Source.fault_plan g.L.LineReader.read_of c.args.batch c.args.hub.now.alone (2 ^ 40) c.play_steps-fault.result c.args.hand
    c.play_steps-fault.new.hand c.play_steps-fault.ensures.ran

pub returns-clause-rest : goal.returns-clause-rest
returns-clause-rest g c =
    ran_rests g.S.Source.left g.S.Source.lent_as g.S.Source.fault_plan g.L.LineReader.read_of c.args.batch c.args.hub.now.alone (2 ^ 40) c.play_steps-fault.result c.args.hand
    c.play_steps-fault.new.hand c.play_steps-fault.ensures.ran

pub returns-clause-bound : goal.returns-clause-bound
returns-clause-bound g c =
    ran_within g.S.Source.left g.S.Source.lent_as g.S.Source.fault_plan g.L.LineReader.read_of c.args.batch c.args.hub.now.alone (2 ^ 40) c.play_steps-fault.result c.args.hand
    c.play_steps-fault.new.hand c.play_steps-fault.ensures.ran
