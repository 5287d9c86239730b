use Rattle.eql_find.proofs.StartLemmas.{begins_on}
use Rattle.eql_find.proofs.checkpoint.start_on.Goals as goal

pub returns-clause-begins : goal.returns-clause-begins
returns-clause-begins g c =
    begins_on c.args.find.now c.args.planned.now (g.D.Disk.history c.args.disk) c.args.head
    (record { disk = c.find_start.new.disk; state = c.in-Ok.found.state }) c.stages-stages.result c.keys-values.result c.pipes-pipes.result.now
    c.in-Ok.found.format c.in-Ok.found.cut c.in-Ok-begin.beginning.lanes.items c.in-Ok-begin.beginning.rest
    c.requires.asked c.requires.head c.requires.names c.stages-stages.ensures.same c.keys-values.ensures.same c.pipes-pipes.ensures
    c.in-Ok.ensures.holds c.in-Ok.ensures.suits c.in-Ok.ensures.unplaced c.in-Ok-begin.ensures.lanes c.in-Ok-begin.ensures.rest
