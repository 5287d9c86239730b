use Rattle.std.proofs.Common.{length}
use Rattle.eql_hub.proofs.Sweeping.{passed_none}
use Rattle.eql_hub.proofs.hub.Hub.sweep.Goals as goal

pub loop-place-init : goal.loop-place-init
loop-place-init g c = (c.requires.own, passed_none g.S.Source.left g.S.Source.lent_as g.S.Source.fault_plan g.L.LineReader.read_of c.args.batch c.args.self.now.alone (length c.args.self.now.lanes) c.args.from c.args.hand.now)
