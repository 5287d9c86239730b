use denote.Param.Send.{sendable}
use Rattle.std.proofs.Common.{◌≤◌, ◌∙◌, rules, arith, length}
use Rattle.eql_find.proofs.Sends.{reader_send, reader_sync}
use Rattle.eql_hands_tests.proofs.Searched.{are_begun, are_two, may_begin}
use Rattle.eql_hands_tests.proofs.beside.search_two.Goals as goal

pub search-requires : goal.search-requires
search-requires g c κs lives =
    let many = are_two _ c.args.lanes.now.items c.requires.two in
    let some : 1 ≤ length c.args.lanes.now.items = omega (arith, many) in
    let few : length c.args.lanes.now.items ≤ 256 = omega (arith, many) in
    let batch = c.run_plan-plan.ensures.batch in
    let from : 1 ≤ c.run_plan-plan.result.batch = omega (arith, batch) in
    let to : c.run_plan-plan.result.batch ≤ 4096 = omega (arith, batch) in
    (lives.0, (lives.1, (search rules, (search rules, (search rules, (search rules, (search (sendable, c.type_bounds.send-S), (search (sendable, reader_send), (search (sendable, c.type_bounds.sync-R), (search (sendable, c.type_bounds.sync-S), (search (sendable, reader_sync), (search sendable, (record { batch_from = from; batch_to = to; stages_from = omega arith; stages_to = omega arith; is_span = search rules; hands_to = omega arith }, record { some = some; few = few; begun = are_begun _ c.args.lanes.now.items c.requires.two; texts_are = tt; whole = c.in-Ok.ensures.whole; begins = may_begin _ c.args.lanes.now.items c.requires.two _ _ _ _ _ c.run_plan-plan.ensures.mark (c.of-none.ensures ∙ c.new.ensures.items) c.in-Ok.ensures.kept; keeps = c.run_plan-plan.ensures.every })))))))))))))
