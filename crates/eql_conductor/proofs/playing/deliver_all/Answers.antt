use Rattle.std.proofs.Common.{arith}
use Rattle.std.specs.Vec.Iter.{into_iter_items}
use Rattle.std.proofs.lemmas.Result.{err_from_is_err_and}
use Rattle.eql_conductor.proofs.Resting.{lanes_on, same_on}
use Rattle.eql_conductor.proofs.Onward.{rest_goes, stops_on, went_on}
use Rattle.eql_conductor.specs.PartRounds.{IsAtRest, IsDelivered, IsPlayed}
use Rattle.eql_conductor.proofs.Parted.{next_phase}
use Rattle.eql_conductor.proofs.PartNotes.{parts_any, parts_end, parts_more}
use Rattle.eql_conductor.proofs.Spread.{next_list}
use Rattle.eql_conductor.proofs.playing.deliver_all.Goals as goal

pub deliver_one-requires-clause-some : goal.deliver_one-requires-clause-some
deliver_one-requires-clause-some g c =
    let some = c.requires.some in
    record { rules = some.rules; all = some.all; is = c.loop-p.invariant.parts some.rules some.all some.is }

pub deliver_one-requires-clause-own : goal.deliver_one-requires-clause-own
deliver_one-requires-clause-own g c =
    let popped = (c.in-Some.ensures {u = tt}).items in
    let test = c.loop-p-test.true in let e = c.parts-count.ensures in let sixteen = c.requires.some.is.are.count in
    (next_list c.args.items.now c.loop-p.p (into_iter_items c.loop-p.lists) (into_iter_items c.next.new.self) c.in-Some.own (omega (arith, test, e, sixteen)) c.loop-p.invariant.left popped).0

pub returns-in_err-deliver_one-clause-lanes : goal.returns-in_err-deliver_one-clause-lanes
returns-in_err-deliver_one-clause-lanes g c =
    lanes_on (g.B.Bench.known c.args.bench.now) (g.B.Bench.known c.loop-p.bench) (g.B.Bench.known c.deliver_one.new.bench) c.loop-p.invariant.same c.loop-p.invariant.lanes c.deliver_one.ensures.lanes

pub returns-in_err-deliver_one-clause-stops : goal.returns-in_err-deliver_one-clause-stops
returns-in_err-deliver_one-clause-stops g c =
    let p = err_from_is_err_and c.from_residual.result c.from_residual.ensures.1 in
    rw (p.1, p.2)
    (stops_on c.in_err-deliver_one.field-0.0 (g.B.Bench.known c.args.bench.now) (g.B.Bench.known c.loop-p.bench) (g.B.Bench.known c.deliver_one.new.bench)
    (rest_goes (g.B.Bench.known c.args.bench.now) (g.B.Bench.known c.loop-p.bench) c.loop-p.invariant.same c.loop-p.invariant.lanes) c.loop-p.invariant.went c.in_err-deliver_one.ensures.stops)

pub loop-p-preserved : goal.loop-p-preserved
loop-p-preserved g c = record {
  left =
      let popped = (c.in-Some.ensures {u = tt}).items in
      let test = c.loop-p-test.true in let e = c.parts-count.ensures in let sixteen = c.requires.some.is.are.count in
      (next_list c.args.items.now c.loop-p.p (into_iter_items c.loop-p.lists) (into_iter_items c.next.new.self) c.in-Some.own (omega (arith, test, e, sixteen)) c.loop-p.invariant.left popped).1;
  count = let fewer = (c.in-Some.ensures {u = tt}).cases.1 in let before = c.loop-p.invariant.count in omega (arith, fewer, before);
  parts = λ rules all was. c.in_ok-deliver_one.ensures.parts rules all (c.loop-p.invariant.parts rules all was);
  same = same_on (g.B.Bench.known c.args.bench.now) (g.B.Bench.known c.loop-p.bench) (g.B.Bench.known c.deliver_one.new.bench) c.loop-p.invariant.same c.deliver_one.ensures.same;
  lanes = lanes_on (g.B.Bench.known c.args.bench.now) (g.B.Bench.known c.loop-p.bench) (g.B.Bench.known c.deliver_one.new.bench) c.loop-p.invariant.same c.loop-p.invariant.lanes c.deliver_one.ensures.lanes;
  went = went_on (g.B.Bench.known c.args.bench.now) (g.B.Bench.known c.loop-p.bench) (g.B.Bench.known c.deliver_one.new.bench) c.loop-p.invariant.went c.in_ok-deliver_one.ensures.went;
  noted = parts_more c.loop-p.p (λ p. 0) 1 (g.B.Bench.known c.args.bench.now) (g.B.Bench.known c.loop-p.bench) (g.B.Bench.known c.deliver_one.new.bench) c.loop-p.invariant.same c.loop-p.invariant.noted c.deliver_one.ensures.notes;
}

pub returns-clause-parts : goal.returns-clause-parts
returns-clause-parts g c =
    λ rules all was. next_phase rules c.loop-p.p (IsPlayed rules all c.args.items.now c.args.mark) (IsDelivered rules all c.args.items.now c.args.mark) (IsAtRest rules all c.args.last) (g.B.Bench.known c.loop-p.bench)
    (let e = c.parts-count.ensures in let f = c.loop-p.invariant.same.parts in omega (arith, e, f)) (c.loop-p.invariant.parts rules all was)

pub returns-in_err-deliver_one-clause-notes : goal.returns-in_err-deliver_one-clause-notes
returns-in_err-deliver_one-clause-notes g c = parts_end c.loop-p.p (λ p. 0) 1 (g.B.Bench.known c.args.bench.now) (g.B.Bench.known c.loop-p.bench) (g.B.Bench.known c.deliver_one.new.bench) c.loop-p.invariant.same c.loop-p.invariant.noted c.deliver_one.ensures.notes

pub returns-clause-notes : goal.returns-clause-notes
returns-clause-notes g c = parts_any c.loop-p.p (λ p. 0) 1 (g.B.Bench.known c.args.bench.now) (g.B.Bench.known c.loop-p.bench) c.loop-p.invariant.noted
