use Rattle.std.proofs.lemmas.Result.{err_from_is_err_and}
use Rattle.eql_conductor.proofs.Resting.{lanes_on, same_on}
use Rattle.eql_conductor.proofs.Onward.{rest_goes, stops_on, went_on}
use Rattle.eql_conductor.proofs.Merged.{found_is, lists_apart, lists_in_order}
use Rattle.eql_conductor.proofs.PartNotes.{played_one, played_three, played_two}
use Rattle.eql_conductor.proofs.round.play_parts.Goals as goal

pub turn_all-requires-clause-some : goal.turn_all-requires-clause-some
turn_all-requires-clause-some g c =
    let some = c.requires.some in
    record { rules = some.rules; all = some.all; is = c.in_ok-deliver_all.ensures.parts some.rules some.all some.is }

pub returns-in_err-turn_all-clause-lanes : goal.returns-in_err-turn_all-clause-lanes
returns-in_err-turn_all-clause-lanes g c = (lanes_on (g.B.Bench.known c.args.bench.now) (g.B.Bench.known c.deliver_all.new.bench) (g.B.Bench.known c.turn_all.new.bench) c.deliver_all.ensures.same c.deliver_all.ensures.lanes c.turn_all.ensures.lanes)

pub returns-in_err-turn_all-clause-stops : goal.returns-in_err-turn_all-clause-stops
returns-in_err-turn_all-clause-stops g c =
    let p = err_from_is_err_and c.from_residual-in_err-turn_all.result c.from_residual-in_err-turn_all.ensures.1 in
    rw (p.1, p.2)
    (stops_on c.in_err-turn_all.field-0.0 (g.B.Bench.known c.args.bench.now) (g.B.Bench.known c.deliver_all.new.bench) (g.B.Bench.known c.turn_all.new.bench)
    (rest_goes (g.B.Bench.known c.args.bench.now) (g.B.Bench.known c.deliver_all.new.bench) c.deliver_all.ensures.same c.deliver_all.ensures.lanes) c.in_ok-deliver_all.ensures.went c.in_err-turn_all.ensures.stops)

pub collect_all-requires : goal.collect_all-requires
collect_all-requires g c =
    let some = c.requires.some in
    record { some = record { rules = some.rules; all = some.all; is = c.in_ok-turn_all.ensures.parts some.rules some.all (c.in_ok-deliver_all.ensures.parts some.rules some.all some.is) } }

pub returns-in_err-lists-clause-lanes : goal.returns-in_err-lists-clause-lanes
returns-in_err-lists-clause-lanes g c = lanes_on (g.B.Bench.known c.args.bench.now) (g.B.Bench.known c.turn_all.new.bench) (g.B.Bench.known c.collect_all.new.bench) (same_on (g.B.Bench.known c.args.bench.now) (g.B.Bench.known c.deliver_all.new.bench) (g.B.Bench.known c.turn_all.new.bench) c.deliver_all.ensures.same c.turn_all.ensures.same) (lanes_on (g.B.Bench.known c.args.bench.now) (g.B.Bench.known c.deliver_all.new.bench) (g.B.Bench.known c.turn_all.new.bench) c.deliver_all.ensures.same c.deliver_all.ensures.lanes c.turn_all.ensures.lanes) c.collect_all.ensures.lanes

pub returns-in_err-lists-clause-stops : goal.returns-in_err-lists-clause-stops
returns-in_err-lists-clause-stops g c =
    let p = err_from_is_err_and c.from_residual-in_err-lists.result c.from_residual-in_err-lists.ensures.1 in
    rw (p.1, p.2)
    (stops_on c.in_err-lists.field-0.0 (g.B.Bench.known c.args.bench.now) (g.B.Bench.known c.turn_all.new.bench) (g.B.Bench.known c.collect_all.new.bench)
    (rest_goes (g.B.Bench.known c.args.bench.now) (g.B.Bench.known c.turn_all.new.bench) (same_on (g.B.Bench.known c.args.bench.now) (g.B.Bench.known c.deliver_all.new.bench) (g.B.Bench.known c.turn_all.new.bench) c.deliver_all.ensures.same c.turn_all.ensures.same) (lanes_on (g.B.Bench.known c.args.bench.now) (g.B.Bench.known c.deliver_all.new.bench) (g.B.Bench.known c.turn_all.new.bench) c.deliver_all.ensures.same c.deliver_all.ensures.lanes c.turn_all.ensures.lanes)) (went_on (g.B.Bench.known c.args.bench.now) (g.B.Bench.known c.deliver_all.new.bench) (g.B.Bench.known c.turn_all.new.bench) c.in_ok-deliver_all.ensures.went c.in_ok-turn_all.ensures.went) c.in_err-lists.ensures.stops)

pub merge_matches-requires-clause-in_order : goal.merge_matches-requires-clause-in_order
merge_matches-requires-clause-in_order g c =
    let some = c.requires.some in
    lists_in_order some.rules some.all c.args.items.now c.in_ok-lists.lists.items c.requires.can.ascends
    (c.in_ok-lists.ensures.found some.rules some.all (c.in_ok-turn_all.ensures.parts some.rules some.all (c.in_ok-deliver_all.ensures.parts some.rules some.all some.is)))

pub merge_matches-requires-clause-apart : goal.merge_matches-requires-clause-apart
merge_matches-requires-clause-apart g c =
    let some = c.requires.some in
    lists_apart some.rules some.all c.args.items.now c.in_ok-lists.lists.items c.requires.can.ascends
    (c.in_ok-lists.ensures.found some.rules some.all (c.in_ok-turn_all.ensures.parts some.rules some.all (c.in_ok-deliver_all.ensures.parts some.rules some.all some.is)))

pub returns-in-Ok-clause-found : goal.returns-in-Ok-clause-found
returns-in-Ok-clause-found g c =
    λ rules all was. found_is rules all c.args.items.now c.in_ok-lists.lists.items c.in-Ok.found c.requires.can.ascends
    (c.in_ok-lists.ensures.found rules all (c.in_ok-turn_all.ensures.parts rules all (c.in_ok-deliver_all.ensures.parts rules all was))) c.in-Ok.ensures.sorted

pub returns-in-Ok-clause-parts : goal.returns-in-Ok-clause-parts
returns-in-Ok-clause-parts g c = λ rules all was. c.in_ok-lists.ensures.parts rules all (c.in_ok-turn_all.ensures.parts rules all (c.in_ok-deliver_all.ensures.parts rules all was))

pub returns-in-Ok-clause-lanes : goal.returns-in-Ok-clause-lanes
returns-in-Ok-clause-lanes g c = lanes_on (g.B.Bench.known c.args.bench.now) (g.B.Bench.known c.turn_all.new.bench) (g.B.Bench.known c.collect_all.new.bench) (same_on (g.B.Bench.known c.args.bench.now) (g.B.Bench.known c.deliver_all.new.bench) (g.B.Bench.known c.turn_all.new.bench) c.deliver_all.ensures.same c.turn_all.ensures.same) (lanes_on (g.B.Bench.known c.args.bench.now) (g.B.Bench.known c.deliver_all.new.bench) (g.B.Bench.known c.turn_all.new.bench) c.deliver_all.ensures.same c.deliver_all.ensures.lanes c.turn_all.ensures.lanes) c.collect_all.ensures.lanes

pub returns-in-Err-clause-lanes : goal.returns-in-Err-clause-lanes
returns-in-Err-clause-lanes g c = lanes_on (g.B.Bench.known c.args.bench.now) (g.B.Bench.known c.turn_all.new.bench) (g.B.Bench.known c.collect_all.new.bench) (same_on (g.B.Bench.known c.args.bench.now) (g.B.Bench.known c.deliver_all.new.bench) (g.B.Bench.known c.turn_all.new.bench) c.deliver_all.ensures.same c.turn_all.ensures.same) (lanes_on (g.B.Bench.known c.args.bench.now) (g.B.Bench.known c.deliver_all.new.bench) (g.B.Bench.known c.turn_all.new.bench) c.deliver_all.ensures.same c.deliver_all.ensures.lanes c.turn_all.ensures.lanes) c.collect_all.ensures.lanes

pub returns-in_err-deliver_all-clause-notes : goal.returns-in_err-deliver_all-clause-notes
returns-in_err-deliver_all-clause-notes g c = played_one c.args.items.now (g.B.Bench.known c.args.bench.now) (g.B.Bench.known c.deliver_all.new.bench) (g.B.Bench.known c.deliver_all.new.bench) (g.B.Bench.known c.deliver_all.new.bench) c.deliver_all.ensures.notes

pub returns-in_err-turn_all-clause-notes : goal.returns-in_err-turn_all-clause-notes
returns-in_err-turn_all-clause-notes g c = played_two c.args.items.now (g.B.Bench.known c.args.bench.now) (g.B.Bench.known c.deliver_all.new.bench) (g.B.Bench.known c.turn_all.new.bench) (g.B.Bench.known c.turn_all.new.bench) c.deliver_all.ensures.same c.deliver_all.ensures.notes c.turn_all.ensures.notes

pub returns-in_err-lists-clause-notes : goal.returns-in_err-lists-clause-notes
returns-in_err-lists-clause-notes g c = played_three c.args.items.now (g.B.Bench.known c.args.bench.now) (g.B.Bench.known c.deliver_all.new.bench) (g.B.Bench.known c.turn_all.new.bench) (g.B.Bench.known c.collect_all.new.bench) c.deliver_all.ensures.same (same_on (g.B.Bench.known c.args.bench.now) (g.B.Bench.known c.deliver_all.new.bench) (g.B.Bench.known c.turn_all.new.bench) c.deliver_all.ensures.same c.turn_all.ensures.same) c.deliver_all.ensures.notes c.turn_all.ensures.notes c.collect_all.ensures.notes

pub returns-in-Ok-clause-notes : goal.returns-in-Ok-clause-notes
returns-in-Ok-clause-notes g c = played_three c.args.items.now (g.B.Bench.known c.args.bench.now) (g.B.Bench.known c.deliver_all.new.bench) (g.B.Bench.known c.turn_all.new.bench) (g.B.Bench.known c.collect_all.new.bench) c.deliver_all.ensures.same (same_on (g.B.Bench.known c.args.bench.now) (g.B.Bench.known c.deliver_all.new.bench) (g.B.Bench.known c.turn_all.new.bench) c.deliver_all.ensures.same c.turn_all.ensures.same) c.deliver_all.ensures.notes c.turn_all.ensures.notes c.collect_all.ensures.notes

pub returns-in-Err-clause-notes : goal.returns-in-Err-clause-notes
returns-in-Err-clause-notes g c = played_three c.args.items.now (g.B.Bench.known c.args.bench.now) (g.B.Bench.known c.deliver_all.new.bench) (g.B.Bench.known c.turn_all.new.bench) (g.B.Bench.known c.collect_all.new.bench) c.deliver_all.ensures.same (same_on (g.B.Bench.known c.args.bench.now) (g.B.Bench.known c.deliver_all.new.bench) (g.B.Bench.known c.turn_all.new.bench) c.deliver_all.ensures.same c.turn_all.ensures.same) c.deliver_all.ensures.notes c.turn_all.ensures.notes c.collect_all.ensures.notes

pub returns-in_err-lists-clause-same : goal.returns-in_err-lists-clause-same
returns-in_err-lists-clause-same g c =
    same_on (g.B.Bench.known c.args.bench.now) (g.B.Bench.known c.turn_all.new.bench) (g.B.Bench.known c.collect_all.new.bench)
    (same_on (g.B.Bench.known c.args.bench.now) (g.B.Bench.known c.deliver_all.new.bench) (g.B.Bench.known c.turn_all.new.bench) c.deliver_all.ensures.same c.turn_all.ensures.same) c.collect_all.ensures.same

pub returns-in-Ok-clause-same : goal.returns-in-Ok-clause-same
returns-in-Ok-clause-same g c =
    same_on (g.B.Bench.known c.args.bench.now) (g.B.Bench.known c.turn_all.new.bench) (g.B.Bench.known c.collect_all.new.bench)
    (same_on (g.B.Bench.known c.args.bench.now) (g.B.Bench.known c.deliver_all.new.bench) (g.B.Bench.known c.turn_all.new.bench) c.deliver_all.ensures.same c.turn_all.ensures.same) c.collect_all.ensures.same

pub returns-in-Err-clause-same : goal.returns-in-Err-clause-same
returns-in-Err-clause-same g c =
    same_on (g.B.Bench.known c.args.bench.now) (g.B.Bench.known c.turn_all.new.bench) (g.B.Bench.known c.collect_all.new.bench)
    (same_on (g.B.Bench.known c.args.bench.now) (g.B.Bench.known c.deliver_all.new.bench) (g.B.Bench.known c.turn_all.new.bench) c.deliver_all.ensures.same c.turn_all.ensures.same) c.collect_all.ensures.same
