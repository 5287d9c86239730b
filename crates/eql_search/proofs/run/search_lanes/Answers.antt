use Rattle.eql_search.specs.Beginnings.{cuts_of}
use Rattle.eql_search.specs.Searches.{reads_by, rules_of, slack_by}
use Rattle.eql_search.proofs.Kept.{may_keep}
use Rattle.eql_search.proofs.Opened.{begins, part_may_begin}
use Rattle.eql_search.proofs.run.search_lanes.Goals as goal

pub make_parts-requires-clause-may : goal.make_parts-requires-clause-may
make_parts-requires-clause-may g c =
    let lanes = c.args.lanes.items in
    let run = c.args.run.now in
    part_may_begin (rules_of g.L.LineReader.read_of c.args.rules lanes) run.book.pipes run.plan.mark (cuts_of lanes) c.args.holders run.book.kept c.requires.begins

pub make_parts-requires-clause-stages_from : goal.make_parts-requires-clause-stages_from
make_parts-requires-clause-stages_from g c = c.requires.bounds.stages_from

pub make_parts-requires-clause-stages_to : goal.make_parts-requires-clause-stages_to
make_parts-requires-clause-stages_to g c = c.requires.bounds.stages_to

pub run_hub-end-requires-clause-hands : goal.run_hub-end-requires-clause-hands
run_hub-end-requires-clause-hands g c = λ κs lives. c.requires.bounds.hands_to

pub run_hub-end-requires-clause-keeps : goal.run_hub-end-requires-clause-keeps
run_hub-end-requires-clause-keeps g c =
    λ κs lives.
    may_keep g.D.Disk.history g.D.Disk.fault_count g.L.LineReader.read_of g.T.HubOpening.text c.args.lanes.items c.in-Ok.parts.items c.args.run.now.plan c.args.run.now.keep c.requires.keeps

pub run_hub-end-requires-clause-may : goal.run_hub-end-requires-clause-may
run_hub-end-requires-clause-may g c =
    let lanes = c.args.lanes.items in
    let read_of = g.L.LineReader.read_of in
    let is = c.requires in
    let run = c.args.run.now in
    λ κs lives.
    (begins g.S.Source.left read_of (reads_by read_of lanes) (slack_by read_of lanes) c.args.rules.stages c.args.rules.span g.T.HubOpening.text lanes c.args.holders c.in-Ok.parts.items run.plan run.book
    (g.met.L.LineReader g.world.𝓛 g.world.𝓜 g.world.𝓡 ((λ s x. x), (λ x. x), (λ x. x), λ x. x)).reads_at is.lanes (c.in-Ok.ensures {u = tt}) is.bounds.is_span is.bounds.batch_from is.bounds.batch_to is.some is.whole is.begins).may_run
