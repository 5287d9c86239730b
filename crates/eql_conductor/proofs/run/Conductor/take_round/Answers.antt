use Rattle.std.proofs.Common.{rules}
use Rattle.std.proofs.lemmas.Result.{err_from_is_err_and}
use Rattle.eql_conductor.proofs.Broken.{on_err}
use Rattle.eql_conductor.proofs.MarkOrder.{at_most_other}
use Rattle.eql_conductor.proofs.Onward.{lanes_go_on, rest_goes, stops_on, went_on}
use Rattle.eql_conductor.proofs.TakenRounds.{feeding_stops, looked_at, looked_goes, looking_stops, takes_below, takes_none, taking_stops}
use Rattle.eql_conductor.proofs.run.Conductor.take_round.Goals as goal

pub returns-in_err-feed_all-clause-broken : goal.returns-in_err-feed_all-clause-broken
returns-in_err-feed_all-clause-broken g c =
    on_err c.from_residual.result (feeding_stops c.args.last c.args.batch (g.B.Bench.known c.args.bench.now) (g.B.Bench.known c.feed_all.new.bench) c.feed_all.ensures.rests c.in_err-feed_all.ensures.broken_notes)

pub returns-in_err-feed_all-clause-goes : goal.returns-in_err-feed_all-clause-goes
returns-in_err-feed_all-clause-goes g c =
    rest_goes (g.B.Bench.known c.args.bench.now) (g.B.Bench.known c.feed_all.new.bench) c.feed_all.ensures.rests.same c.feed_all.ensures.rests.lanes

pub returns-in_err-mark-clause-broken : goal.returns-in_err-mark-clause-broken
returns-in_err-mark-clause-broken g c =
    on_err c.from_residual-in_err-mark.result (looking_stops c.args.last c.args.batch (g.B.Bench.known c.args.bench.now) (g.B.Bench.known c.feed_all.new.bench) (g.B.Bench.known c.look_all.new.bench) c.feed_all.ensures.rests c.look_all.ensures.rests c.in_ok-feed_all.ensures.notes c.in_err-mark.ensures.broken_notes)

pub returns-in_err-mark-clause-goes : goal.returns-in_err-mark-clause-goes
returns-in_err-mark-clause-goes g c =
    looked_goes c.args.last c.args.batch (g.B.Bench.known c.args.bench.now) (g.B.Bench.known c.feed_all.new.bench) (g.B.Bench.known c.look_all.new.bench) c.feed_all.ensures.rests c.look_all.ensures.rests c.in_ok-feed_all.ensures.notes

pub returns-in_err-mark-clause-stops : goal.returns-in_err-mark-clause-stops
returns-in_err-mark-clause-stops g c =
    let p = err_from_is_err_and c.from_residual-in_err-mark.result c.from_residual-in_err-mark.ensures.1 in
    rw (p.1, p.2)
    (stops_on c.in_err-mark.field-0.0 (g.B.Bench.known c.args.bench.now) (g.B.Bench.known c.feed_all.new.bench) (g.B.Bench.known c.look_all.new.bench) (rest_goes (g.B.Bench.known c.args.bench.now) (g.B.Bench.known c.feed_all.new.bench) c.feed_all.ensures.rests.same c.feed_all.ensures.rests.lanes) c.in_ok-feed_all.ensures.went c.in_err-mark.ensures.stops)

pub returns-then-le-clause-round : goal.returns-then-le-clause-round
returns-then-le-clause-round g c =
    takes_none c.args.last c.args.batch (g.B.Bench.known c.args.bench.now) (g.B.Bench.known c.feed_all.new.bench) (g.B.Bench.known c.look_all.new.bench) c.feed_all.ensures.rests c.look_all.ensures.rests c.in_ok-feed_all.ensures.notes
    c.in_ok-mark.mark c.in_ok-mark.ensures.notes c.in_ok-feed_all.ensures.fed c.in_ok-mark.ensures.low c.in_ok-feed_all.ensures.went c.in_ok-mark.ensures.went
    c.requires.lanes (search rules)

pub returns-then-le-clause-goes : goal.returns-then-le-clause-goes
returns-then-le-clause-goes g c =
    looked_goes c.args.last c.args.batch (g.B.Bench.known c.args.bench.now) (g.B.Bench.known c.feed_all.new.bench) (g.B.Bench.known c.look_all.new.bench) c.feed_all.ensures.rests c.look_all.ensures.rests c.in_ok-feed_all.ensures.notes

pub take_in_order-requires-clause-lanes : goal.take_in_order-requires-clause-lanes
take_in_order-requires-clause-lanes g c =
    looked_at c.args.last c.args.batch (g.B.Bench.known c.args.bench.now) (g.B.Bench.known c.feed_all.new.bench) (g.B.Bench.known c.look_all.new.bench) c.feed_all.ensures.rests c.look_all.ensures.rests c.in_ok-feed_all.ensures.notes c.requires.lanes

pub take_in_order-requires-clause-later : goal.take_in_order-requires-clause-later
take_in_order-requires-clause-later g c =
    at_most_other c.in_ok-mark.mark c.args.last (search rules)

pub returns-in_err-items-clause-broken : goal.returns-in_err-items-clause-broken
returns-in_err-items-clause-broken g c =
    on_err c.from_residual-in_err-items.result
    (taking_stops c.args.last c.args.batch (g.B.Bench.known c.args.bench.now) (g.B.Bench.known c.feed_all.new.bench) (g.B.Bench.known c.look_all.new.bench) c.feed_all.ensures.rests c.look_all.ensures.rests c.in_ok-feed_all.ensures.notes
    c.in_ok-mark.mark c.in_ok-mark.ensures.notes c.in_ok-feed_all.ensures.fed c.in_ok-mark.ensures.low c.in_ok-feed_all.ensures.went c.in_ok-mark.ensures.went
    (g.B.Bench.known c.take_in_order.new.bench) (search rules) c.take_in_order.ensures.goes c.take_in_order.ensures.parts c.in_err-items.ensures.none_handed c.in_err-items.ensures.broken_notes)

pub returns-in_err-items-clause-goes : goal.returns-in_err-items-clause-goes
returns-in_err-items-clause-goes g c =
    lanes_go_on (g.B.Bench.known c.args.bench.now) (g.B.Bench.known c.look_all.new.bench) (g.B.Bench.known c.take_in_order.new.bench) (looked_goes c.args.last c.args.batch (g.B.Bench.known c.args.bench.now) (g.B.Bench.known c.feed_all.new.bench) (g.B.Bench.known c.look_all.new.bench) c.feed_all.ensures.rests c.look_all.ensures.rests c.in_ok-feed_all.ensures.notes) c.take_in_order.ensures.goes

pub returns-in_err-items-clause-stops : goal.returns-in_err-items-clause-stops
returns-in_err-items-clause-stops g c =
    let p = err_from_is_err_and c.from_residual-in_err-items.result c.from_residual-in_err-items.ensures.1 in
    rw (p.1, p.2)
    (stops_on c.in_err-items.field-0.0 (g.B.Bench.known c.args.bench.now) (g.B.Bench.known c.look_all.new.bench) (g.B.Bench.known c.take_in_order.new.bench) (looked_goes c.args.last c.args.batch (g.B.Bench.known c.args.bench.now) (g.B.Bench.known c.feed_all.new.bench) (g.B.Bench.known c.look_all.new.bench) c.feed_all.ensures.rests c.look_all.ensures.rests c.in_ok-feed_all.ensures.notes)
    (went_on (g.B.Bench.known c.args.bench.now) (g.B.Bench.known c.feed_all.new.bench) (g.B.Bench.known c.look_all.new.bench) c.in_ok-feed_all.ensures.went c.in_ok-mark.ensures.went) c.in_err-items.ensures.stops)

pub returns-clause-round : goal.returns-clause-round
returns-clause-round g c =
    takes_below c.args.last c.args.batch (g.B.Bench.known c.args.bench.now) (g.B.Bench.known c.feed_all.new.bench) (g.B.Bench.known c.look_all.new.bench) c.feed_all.ensures.rests c.look_all.ensures.rests c.in_ok-feed_all.ensures.notes
    c.in_ok-mark.mark c.in_ok-mark.ensures.notes c.in_ok-feed_all.ensures.fed c.in_ok-mark.ensures.low c.in_ok-feed_all.ensures.went c.in_ok-mark.ensures.went
    (g.B.Bench.known c.take_in_order.new.bench) (search rules) c.take_in_order.ensures.goes c.take_in_order.ensures.parts c.in_ok-items.items c.in_ok-items.ensures.taken c.in_ok-items.ensures.lanes
    c.in_ok-items.ensures.went c.in_ok-items.ensures.gave c.in_ok-items.ensures.notes

pub returns-clause-goes : goal.returns-clause-goes
returns-clause-goes g c =
    lanes_go_on (g.B.Bench.known c.args.bench.now) (g.B.Bench.known c.look_all.new.bench) (g.B.Bench.known c.take_in_order.new.bench) (looked_goes c.args.last c.args.batch (g.B.Bench.known c.args.bench.now) (g.B.Bench.known c.feed_all.new.bench) (g.B.Bench.known c.look_all.new.bench) c.feed_all.ensures.rests c.look_all.ensures.rests c.in_ok-feed_all.ensures.notes) c.take_in_order.ensures.goes
