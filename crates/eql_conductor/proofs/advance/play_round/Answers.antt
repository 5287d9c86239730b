use Rattle.std.proofs.Common.{inl, None, Some}
use Rattle.std.proofs.lemmas.Result.{err_from_is_err_and}
use Rattle.eql_conductor.specs.Reading.{TakesBelow, TakesNone}
use Rattle.eql_conductor.proofs.Onward.{lanes_go_on, rest_goes, went_on}
use Rattle.eql_conductor.proofs.Stays.{some_stay}
use Rattle.eql_conductor.proofs.Broken.{on_err, round_rests, sink_goes, sink_passes, sink_still, sink_stops, stops_at_on, stops_before}
use Rattle.eql_conductor.proofs.BoundsSpent.{round_stays}
use Rattle.eql_conductor.proofs.FittingRounds.{can_fitting, notes_all}
use Rattle.eql_conductor.proofs.NotedRounds.{reading_broken, round_broken, round_noted, round_passes}
use Rattle.eql_conductor.proofs.TakenRounds.{taken_breaks, taken_goes}
use Rattle.eql_conductor.proofs.advance.play_round.Goals as goal

pub returns-in_err-take_round-clause-broken : goal.returns-in_err-take_round-clause-broken
returns-in_err-take_round-clause-broken g c =
    on_err c.from_residual.result (stops_before c.args.last (g.B.Bench.known c.args.bench.now) c.args.book.now (g.K.Sink.written c.args.sink.now))

pub returns-in_err-take_round-clause-stops : goal.returns-in_err-take_round-clause-stops
returns-in_err-take_round-clause-stops g c =
    let p = err_from_is_err_and c.from_residual.result c.from_residual.ensures.1 in
    rw (p.1, p.2) (inl c.in_err-take_round.ensures.stops)

pub returns-in_err-take_round-clause-faults : goal.returns-in_err-take_round-clause-faults
returns-in_err-take_round-clause-faults g c =
    let p = err_from_is_err_and c.from_residual.result c.from_residual.ensures.1 in
    rw (p.1, p.2)
    (sink_still g.K.Sink c.args.sink.now c.in_err-take_round.field-0.0 (g.B.Bench.known c.args.bench.now) (g.B.Bench.known c.take_round.new.bench) c.in_err-take_round.ensures.stops)

pub returns-in_err-take_round-clause-broken_notes : goal.returns-in_err-take_round-clause-broken_notes
returns-in_err-take_round-clause-broken_notes g c =
    let broken = c.in_err-take_round.ensures.broken in
    on_err c.from_residual.result (reading_broken c.args.last c.args.batch (g.B.Bench.known c.args.bench.now) (g.B.Bench.known c.take_round.new.bench) broken.handed broken.notes)

pub returns-in-None-clause-round : goal.returns-in-None-clause-round
returns-in-None-clause-round g c =
    let none : TakesNone c.args.last c.args.batch (g.B.Bench.known c.args.bench.now) (g.B.Bench.known c.take_round.new.bench) = rw c.in-None.is at c.in_ok-take_round.ensures.round in
    round_rests c.args.last (g.B.Bench.known c.args.bench.now) (g.B.Bench.known c.take_round.new.bench) c.args.book.now (g.K.Sink.written c.args.sink.now) none.rests

pub returns-in-None-clause-went : goal.returns-in-None-clause-went
returns-in-None-clause-went g c =
    let none : TakesNone c.args.last c.args.batch (g.B.Bench.known c.args.bench.now) (g.B.Bench.known c.take_round.new.bench) = rw c.in-None.is at c.in_ok-take_round.ensures.round in
    none.reads.went

pub returns-in-None-clause-spends : goal.returns-in-None-clause-spends
returns-in-None-clause-spends g c =
    let none : TakesNone c.args.last c.args.batch (g.B.Bench.known c.args.bench.now) (g.B.Bench.known c.take_round.new.bench) = rw c.in-None.is at c.in_ok-take_round.ensures.round in
    none.reads.spends

pub returns-in-None-clause-notes : goal.returns-in-None-clause-notes
returns-in-None-clause-notes g c =
    let none : TakesNone c.args.last c.args.batch (g.B.Bench.known c.args.bench.now) (g.B.Bench.known c.take_round.new.bench) = rw c.in-None.is at c.in_ok-take_round.ensures.round in
    round_passes c.args.last c.args.batch (g.B.Bench.known c.args.bench.now) (g.B.Bench.known c.take_round.new.bench) none.rests none.reads.notes

pub advance-requires-clause-can : goal.advance-requires-clause-can
advance-requires-clause-can g c =
    let took : TakesBelow c.args.last c.args.batch (g.B.Bench.known c.args.bench.now) (g.B.Bench.known c.take_round.new.bench) c.in-Some.taken = rw c.in-Some.is at c.in_ok-take_round.ensures.round in
    can_fitting c.in-Some.taken.items took.fitting.all took.fitting.items_are c.args.last c.in-Some.taken.mark took.fitting.can

pub advance-requires-clause-some : goal.advance-requires-clause-some
advance-requires-clause-some g c =
    let took : TakesBelow c.args.last c.args.batch (g.B.Bench.known c.args.bench.now) (g.B.Bench.known c.take_round.new.bench) c.in-Some.taken = rw c.in-Some.is at c.in_ok-take_round.ensures.round in
    some_stay c.args.last (g.B.Bench.known c.args.bench.now) (g.B.Bench.known c.take_round.new.bench) c.take_round.ensures.goes.same took.reads.parts c.requires.some

pub returns-in_err-advance-in-Some-clause-broken : goal.returns-in_err-advance-in-Some-clause-broken
returns-in_err-advance-in-Some-clause-broken g c =
    let took : TakesBelow c.args.last c.args.batch (g.B.Bench.known c.args.bench.now) (g.B.Bench.known c.take_round.new.bench) c.in-Some.taken = rw c.in-Some.is at c.in_ok-take_round.ensures.round in
    on_err c.from_residual-in_err-advance-in-Some.result (taken_breaks c.args.last c.args.batch (g.B.Bench.known c.args.bench.now) (g.B.Bench.known c.take_round.new.bench) (g.B.Bench.known c.advance.new.bench) c.in-Some.taken took c.take_round.ensures.goes.same c.args.book.now c.advance.new.book (g.K.Sink.written c.args.sink.now) (g.K.Sink.written c.advance.new.sink) c.in_err-advance-in-Some.ensures.kept c.in_err-advance-in-Some.ensures.front)

pub returns-in_err-advance-in-Some-clause-goes : goal.returns-in_err-advance-in-Some-clause-goes
returns-in_err-advance-in-Some-clause-goes g c =
    lanes_go_on (g.B.Bench.known c.args.bench.now) (g.B.Bench.known c.take_round.new.bench) (g.B.Bench.known c.advance.new.bench) c.take_round.ensures.goes (rest_goes (g.B.Bench.known c.take_round.new.bench) (g.B.Bench.known c.advance.new.bench) c.advance.ensures.same c.advance.ensures.lanes)

pub returns-in_err-advance-in-Some-clause-stops : goal.returns-in_err-advance-in-Some-clause-stops
returns-in_err-advance-in-Some-clause-stops g c =
    let took : TakesBelow c.args.last c.args.batch (g.B.Bench.known c.args.bench.now) (g.B.Bench.known c.take_round.new.bench) c.in-Some.taken = rw c.in-Some.is at c.in_ok-take_round.ensures.round in
    let p = err_from_is_err_and c.from_residual-in_err-advance-in-Some.result c.from_residual-in_err-advance-in-Some.ensures.1 in
    rw (p.1, p.2) (stops_at_on c.in_err-advance-in-Some.field-0.0 (g.B.Bench.known c.args.bench.now) (g.B.Bench.known c.take_round.new.bench) (g.B.Bench.known c.advance.new.bench) c.take_round.ensures.goes took.reads.went c.in_err-advance-in-Some.ensures.stops)

pub returns-in_err-advance-in-Some-clause-broken_notes : goal.returns-in_err-advance-in-Some-clause-broken_notes
returns-in_err-advance-in-Some-clause-broken_notes g c =
    let took : TakesBelow c.args.last c.args.batch (g.B.Bench.known c.args.bench.now) (g.B.Bench.known c.take_round.new.bench) c.in-Some.taken = rw c.in-Some.is at c.in_ok-take_round.ensures.round in
    on_err c.from_residual-in_err-advance-in-Some.result (round_broken c.args.last c.args.batch took.fitting.all (g.B.Bench.known c.args.bench.now) (g.B.Bench.known c.take_round.new.bench) (g.B.Bench.known c.advance.new.bench) (Some c.in-Some.taken.mark) c.take_round.ensures.goes.same took.fitting.handed took.reads.notes c.advance.ensures.lanes (notes_all c.in-Some.taken.items took.fitting.all took.fitting.items_are (g.B.Bench.known c.take_round.new.bench) (g.B.Bench.known c.advance.new.bench) c.advance.ensures.notes))

pub returns-in_ok-advance-in-Some-clause-round : goal.returns-in_ok-advance-in-Some-clause-round
returns-in_ok-advance-in-Some-clause-round g c =
    let took : TakesBelow c.args.last c.args.batch (g.B.Bench.known c.args.bench.now) (g.B.Bench.known c.take_round.new.bench) c.in-Some.taken = rw c.in-Some.is at c.in_ok-take_round.ensures.round in
    taken_goes c.args.last c.args.batch (g.B.Bench.known c.args.bench.now) (g.B.Bench.known c.take_round.new.bench) (g.B.Bench.known c.advance.new.bench) c.in-Some.taken took c.take_round.ensures.goes.same c.args.book.now c.advance.new.book (g.K.Sink.written c.args.sink.now) (g.K.Sink.written c.advance.new.sink) c.advance.ensures.same c.advance.ensures.lanes c.in_ok-advance-in-Some.ensures.played

pub returns-in_ok-advance-in-Some-clause-goes : goal.returns-in_ok-advance-in-Some-clause-goes
returns-in_ok-advance-in-Some-clause-goes g c =
    lanes_go_on (g.B.Bench.known c.args.bench.now) (g.B.Bench.known c.take_round.new.bench) (g.B.Bench.known c.advance.new.bench) c.take_round.ensures.goes (rest_goes (g.B.Bench.known c.take_round.new.bench) (g.B.Bench.known c.advance.new.bench) c.advance.ensures.same c.advance.ensures.lanes)

pub returns-in_ok-advance-in-Some-clause-went : goal.returns-in_ok-advance-in-Some-clause-went
returns-in_ok-advance-in-Some-clause-went g c =
    let took : TakesBelow c.args.last c.args.batch (g.B.Bench.known c.args.bench.now) (g.B.Bench.known c.take_round.new.bench) c.in-Some.taken = rw c.in-Some.is at c.in_ok-take_round.ensures.round in
    went_on (g.B.Bench.known c.args.bench.now) (g.B.Bench.known c.take_round.new.bench) (g.B.Bench.known c.advance.new.bench) took.reads.went c.in_ok-advance-in-Some.ensures.went

pub returns-in_ok-advance-in-Some-clause-spends : goal.returns-in_ok-advance-in-Some-clause-spends
returns-in_ok-advance-in-Some-clause-spends g c =
    let took : TakesBelow c.args.last c.args.batch (g.B.Bench.known c.args.bench.now) (g.B.Bench.known c.take_round.new.bench) c.in-Some.taken = rw c.in-Some.is at c.in_ok-take_round.ensures.round in
    round_stays c.args.last (Some c.in-Some.taken.mark) (g.B.Bench.known c.args.bench.now) (g.B.Bench.known c.take_round.new.bench) (g.B.Bench.known c.advance.new.bench) c.take_round.ensures.goes.same (rest_goes (g.B.Bench.known c.take_round.new.bench) (g.B.Bench.known c.advance.new.bench) c.advance.ensures.same c.advance.ensures.lanes) took.reads.spends

pub returns-in_ok-advance-in-Some-clause-in_range : goal.returns-in_ok-advance-in-Some-clause-in_range
returns-in_ok-advance-in-Some-clause-in_range g c =
    let took : TakesBelow c.args.last c.args.batch (g.B.Bench.known c.args.bench.now) (g.B.Bench.known c.take_round.new.bench) c.in-Some.taken = rw c.in-Some.is at c.in_ok-take_round.ensures.round in
    took.reads.in_range

pub returns-in_ok-advance-in-Some-clause-notes : goal.returns-in_ok-advance-in-Some-clause-notes
returns-in_ok-advance-in-Some-clause-notes g c =
    let took : TakesBelow c.args.last c.args.batch (g.B.Bench.known c.args.bench.now) (g.B.Bench.known c.take_round.new.bench) c.in-Some.taken = rw c.in-Some.is at c.in_ok-take_round.ensures.round in
    round_noted c.args.last c.args.batch took.fitting.all (g.B.Bench.known c.args.bench.now) (g.B.Bench.known c.take_round.new.bench) (g.B.Bench.known c.advance.new.bench) (Some c.in-Some.taken.mark) c.take_round.ensures.goes.same took.fitting.handed took.reads.notes c.advance.ensures.lanes (notes_all c.in-Some.taken.items took.fitting.all took.fitting.items_are (g.B.Bench.known c.take_round.new.bench) (g.B.Bench.known c.advance.new.bench) c.advance.ensures.notes)

pub returns-in-None-clause-faults : goal.returns-in-None-clause-faults
returns-in-None-clause-faults g c = sink_passes g.K.Sink c.args.sink.now None

pub returns-in_err-advance-in-Some-clause-faults : goal.returns-in_err-advance-in-Some-clause-faults
returns-in_err-advance-in-Some-clause-faults g c =
    let p = err_from_is_err_and c.from_residual-in_err-advance-in-Some.result c.from_residual-in_err-advance-in-Some.ensures.1 in
    rw (p.1, p.2) (sink_stops g.K.Sink c.args.sink.now c.advance.new.sink c.in_err-advance-in-Some.field-0.0 c.in_err-advance-in-Some.ensures.faults)

pub returns-in_ok-advance-in-Some-clause-faults : goal.returns-in_ok-advance-in-Some-clause-faults
returns-in_ok-advance-in-Some-clause-faults g c = sink_goes g.K.Sink c.args.sink.now c.advance.new.sink tt (Some c.in-Some.taken.mark) c.in_ok-advance-in-Some.ensures.faults
