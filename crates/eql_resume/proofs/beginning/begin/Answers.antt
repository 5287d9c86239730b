use Rattle.eql_resume.proofs.Taken.{taken_fresh, taken_kept, taken_lifted}
use Rattle.eql_resume.proofs.beginning.begin.Goals as goal

pub returns-in-None-clause-lanes : goal.returns-in-None-clause-lanes
returns-in-None-clause-lanes c = taken_fresh c.args.cut c.args.format c.args.shards c.begin_fresh.result c.in-None.is c.begin_fresh.ensures.lanes

pub returns-then-format-eq1-clause-lanes : goal.returns-then-format-eq1-clause-lanes
returns-then-format-eq1-clause-lanes c =
    taken_lifted c.cuts_may_begin.ensures c.events_are_named.ensures c.args.stages c.args.values c.args.pipes.now c.args.cut c.in-Some.cut c.args.format c.args.shards
    c.begin_lifted.result c.in-Some.is c.if-format-eq1.true c.requires.suits c.requires.unplaced c.begin_lifted.ensures.lanes

pub returns-else-format-eq1-clause-lanes : goal.returns-else-format-eq1-clause-lanes
returns-else-format-eq1-clause-lanes c =
    taken_kept c.cuts_may_begin.ensures c.args.stages c.args.values c.args.pipes.now c.args.cut c.in-Some.cut c.args.format c.args.shards c.begin_kept.result
    c.in-Some.is c.if-format-eq1.false c.requires.suits c.begin_kept.ensures.lanes
