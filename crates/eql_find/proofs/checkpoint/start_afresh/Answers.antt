use Rattle.std.proofs.Common.{None}
use Rattle.eql_find.proofs.StartLemmas.{begins_afresh}
use Rattle.eql_find.proofs.checkpoint.start_afresh.Goals as goal

pub returns-in-Ok-clause-begins : goal.returns-in-Ok-clause-begins
returns-in-Ok-clause-begins g c =
    begins_afresh c.args.find.now c.args.planned.now None c.args.head c.pipes-pipes.result.now c.in-Ok.beginning.lanes.items c.in-Ok.beginning.rest
    c.requires.none c.requires.head c.requires.names c.pipes-pipes.ensures c.in-Ok.ensures.lanes c.in-Ok.ensures.rest
