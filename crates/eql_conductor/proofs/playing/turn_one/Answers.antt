use Rattle.std.proofs.Common.{arith}
use Rattle.std.proofs.lemmas.Result.{err_from_is_err_and}
use Rattle.eql_conductor.proofs.Resting.{lanes_on, same_on}
use Rattle.eql_conductor.proofs.Onward.{rest_goes, stops_on, went_on}
use Rattle.eql_conductor.specs.RoundNotes.{delivered_to}
use Rattle.eql_conductor.proofs.PartNotes.{turned_end, turned_more}
use Rattle.eql_conductor.proofs.playing.turn_one.Goals as goal

pub turn_once-requires-clause-some : goal.turn_once-requires-clause-some
turn_once-requires-clause-some g c =
    let some = c.requires.some in
    record { rules = some.rules; all = some.all; is = c.loop-less.invariant.parts some.rules some.all some.is }

pub returns-in_err-turn_once-clause-lanes : goal.returns-in_err-turn_once-clause-lanes
returns-in_err-turn_once-clause-lanes g c =
    lanes_on (g.B.Bench.known c.args.bench.now) (g.B.Bench.known c.loop-less.bench) (g.B.Bench.known c.turn_once.new.bench) c.loop-less.invariant.same c.loop-less.invariant.lanes c.turn_once.ensures.lanes

pub returns-in_err-turn_once-clause-stops : goal.returns-in_err-turn_once-clause-stops
returns-in_err-turn_once-clause-stops g c =
    let p = err_from_is_err_and c.from_residual.result c.from_residual.ensures.1 in
    rw (p.1, p.2)
    (stops_on c.in_err-turn_once.field-0.0 (g.B.Bench.known c.args.bench.now) (g.B.Bench.known c.loop-less.bench) (g.B.Bench.known c.turn_once.new.bench)
    (rest_goes (g.B.Bench.known c.args.bench.now) (g.B.Bench.known c.loop-less.bench) c.loop-less.invariant.same c.loop-less.invariant.lanes) c.loop-less.invariant.went c.in_err-turn_once.ensures.stops)

pub returns-in-None-clause-parts : goal.returns-in-None-clause-parts
returns-in-None-clause-parts g c = λ rules all was. rw c.in-None.is at (c.in_ok-turn_once.ensures.parts rules all (c.loop-less.invariant.parts rules all was))

pub returns-in-None-clause-lanes : goal.returns-in-None-clause-lanes
returns-in-None-clause-lanes g c =
    lanes_on (g.B.Bench.known c.args.bench.now) (g.B.Bench.known c.loop-less.bench) (g.B.Bench.known c.turn_once.new.bench) c.loop-less.invariant.same c.loop-less.invariant.lanes c.turn_once.ensures.lanes

pub loop-less-preserved : goal.loop-less-preserved
loop-less-preserved g c = record {
  few = (rw c.in-Some.is at c.in_ok-turn_once.ensures.fewer).1;
  parts = λ rules all was. rw c.in-Some.is at (c.in_ok-turn_once.ensures.parts rules all (c.loop-less.invariant.parts rules all was));
  same = same_on (g.B.Bench.known c.args.bench.now) (g.B.Bench.known c.loop-less.bench) (g.B.Bench.known c.turn_once.new.bench) c.loop-less.invariant.same c.turn_once.ensures.same;
  lanes = lanes_on (g.B.Bench.known c.args.bench.now) (g.B.Bench.known c.loop-less.bench) (g.B.Bench.known c.turn_once.new.bench) c.loop-less.invariant.same c.loop-less.invariant.lanes c.turn_once.ensures.lanes;
  went = went_on (g.B.Bench.known c.args.bench.now) (g.B.Bench.known c.loop-less.bench) (g.B.Bench.known c.turn_once.new.bench) c.loop-less.invariant.went c.in_ok-turn_once.ensures.went;
  turned = turned_more (delivered_to c.args.items.now c.args.p) c.args.p (g.B.Bench.known c.args.bench.now) (g.B.Bench.known c.loop-less.bench) (g.B.Bench.known c.turn_once.new.bench) c.loop-less.invariant.same c.loop-less.invariant.turned
      (rw c.in-Some.is at (c.in_ok-turn_once.ensures.notes c.loop-less.invariant.turned.wait c.loop-less.invariant.turned.waits));
}

pub returns-in_err-turn_once-clause-notes : goal.returns-in_err-turn_once-clause-notes
returns-in_err-turn_once-clause-notes g c =
    let turned = c.loop-less.invariant.turned in
    turned_end (delivered_to c.args.items.now c.args.p) c.args.p (g.B.Bench.known c.args.bench.now) (g.B.Bench.known c.loop-less.bench) (g.B.Bench.known c.turn_once.new.bench) c.loop-less.invariant.same turned turned.wait (omega arith) (c.in_err-turn_once.ensures.broken_notes turned.wait turned.waits)

pub returns-in-None-clause-notes : goal.returns-in-None-clause-notes
returns-in-None-clause-notes g c =
    let turned = c.loop-less.invariant.turned in
    turned_end (delivered_to c.args.items.now c.args.p) c.args.p (g.B.Bench.known c.args.bench.now) (g.B.Bench.known c.loop-less.bench) (g.B.Bench.known c.turn_once.new.bench) c.loop-less.invariant.same turned 0 (omega arith) (rw c.in-None.is at (c.in_ok-turn_once.ensures.notes turned.wait turned.waits))
