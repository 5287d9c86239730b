use Rattle.std.proofs.Common.{length}
use Rattle.eql_hub.proofs.Sweeping.{swept_first, swept_knowing, swept_second}
use Rattle.std.specs.Prelude.{Some}
use Rattle.eql_hub.proofs.hub.Hub.go_round.Goals as goal

pub returns-in-Some-clause-knows : goal.returns-in-Some-clause-knows
returns-in-Some-clause-knows g c know =
    swept_knowing g.S.Source.left g.S.Source.lent_as g.S.Source.fault_plan g.L.LineReader.read_of c.args.batch c.args.self.now.alone (length c.args.self.now.lanes)
    c.args.start c.args.count (Some c.in-Some.found) c.args.hand.now c.sweep.new.hand c.in-Some.ensures.swept know

pub returns-in-Some-clause-steps : goal.returns-in-Some-clause-steps
returns-in-Some-clause-steps g c =
    swept_first g.S.Source.left g.S.Source.lent_as g.S.Source.fault_plan g.L.LineReader.read_of c.args.batch c.args.self.now.alone (length c.args.self.now.lanes)
    c.args.start c.args.count c.in-Some.found c.args.hand.now c.sweep.new.hand c.requires.lanes c.in-Some.ensures.swept

pub returns-clause-knows : goal.returns-clause-knows
returns-clause-knows g c know =
    swept_knowing g.S.Source.left g.S.Source.lent_as g.S.Source.fault_plan g.L.LineReader.read_of c.args.batch c.args.self.now.alone (length c.args.self.now.lanes)
    0 c.args.start c.sweep-2.result c.sweep.new.hand c.sweep-2.new.hand c.sweep-2.ensures.swept (c.in_default.ensures.swept.knows know)

pub returns-clause-steps : goal.returns-clause-steps
returns-clause-steps g c =
    swept_second g.S.Source.left g.S.Source.lent_as g.S.Source.fault_plan g.L.LineReader.read_of c.args.batch c.args.self.now.alone (length c.args.self.now.lanes)
    c.args.start c.args.count (length c.args.self.now.parts) c.sweep-2.result c.args.hand.now c.sweep.new.hand c.sweep-2.new.hand
    c.requires.lanes c.requires.parts c.requires.count c.in_default.ensures.swept c.sweep-2.ensures.swept
