use Rattle.std.proofs.Common.{arith}
use Rattle.std.proofs.lemmas.Result.{err_from_is_err_and}
use Rattle.eql_conductor.proofs.Resting.{lanes_on, same_on}
use Rattle.eql_conductor.proofs.Onward.{rest_goes, stops_on, went_on}
use Rattle.eql_conductor.specs.Finding.{found_of}
use Rattle.eql_conductor.proofs.Parted.{collected_all, found_more, sixteen_found}
use Rattle.eql_conductor.proofs.PartNotes.{parts_any, parts_end, parts_more}
use Rattle.eql_conductor.proofs.playing.collect_all.Goals as goal

pub collect_one-requires-clause-some : goal.collect_one-requires-clause-some
collect_one-requires-clause-some g c =
    let some = c.requires.some in
    record { rules = some.rules; all = some.all; is = c.loop-p.invariant.parts some.rules some.all some.is }

pub returns-in_err-matches-clause-lanes : goal.returns-in_err-matches-clause-lanes
returns-in_err-matches-clause-lanes g c =
    lanes_on (g.B.Bench.known c.args.bench.now) (g.B.Bench.known c.loop-p.bench) (g.B.Bench.known c.collect_one.new.bench) c.loop-p.invariant.same c.loop-p.invariant.lanes c.collect_one.ensures.lanes

pub returns-in_err-matches-clause-stops : goal.returns-in_err-matches-clause-stops
returns-in_err-matches-clause-stops g c =
    let p = err_from_is_err_and c.from_residual.result c.from_residual.ensures.1 in
    rw (p.1, p.2)
    (stops_on c.in_err-matches.field-0.0 (g.B.Bench.known c.args.bench.now) (g.B.Bench.known c.loop-p.bench) (g.B.Bench.known c.collect_one.new.bench)
    (rest_goes (g.B.Bench.known c.args.bench.now) (g.B.Bench.known c.loop-p.bench) c.loop-p.invariant.same c.loop-p.invariant.lanes) c.loop-p.invariant.went c.in_err-matches.ensures.stops)

pub loop-p-preserved : goal.loop-p-preserved
loop-p-preserved g c = record {
  parts = λ rules all was. c.in_ok-matches.ensures.parts rules all (c.loop-p.invariant.parts rules all was);
  found = λ rules all was. found_more (found_of rules all c.args.items.now) c.loop-p.p c.loop-p.lists.items c.add_matches.new.lists.items c.in_ok-matches.matches
      (c.loop-p.invariant.found rules all was) c.in_ok-add_matches.ensures.ok (c.in_ok-matches.ensures.found rules all (c.loop-p.invariant.parts rules all was));
  same = same_on (g.B.Bench.known c.args.bench.now) (g.B.Bench.known c.loop-p.bench) (g.B.Bench.known c.collect_one.new.bench) c.loop-p.invariant.same c.collect_one.ensures.same;
  lanes = lanes_on (g.B.Bench.known c.args.bench.now) (g.B.Bench.known c.loop-p.bench) (g.B.Bench.known c.collect_one.new.bench) c.loop-p.invariant.same c.loop-p.invariant.lanes c.collect_one.ensures.lanes;
  went = went_on (g.B.Bench.known c.args.bench.now) (g.B.Bench.known c.loop-p.bench) (g.B.Bench.known c.collect_one.new.bench) c.loop-p.invariant.went c.in_ok-matches.ensures.went;
  noted = parts_more c.loop-p.p (λ p. 0) 1 (g.B.Bench.known c.args.bench.now) (g.B.Bench.known c.loop-p.bench) (g.B.Bench.known c.collect_one.new.bench) c.loop-p.invariant.same c.loop-p.invariant.noted c.collect_one.ensures.notes;
}

pub returns-in_err-add_matches-clause-lanes : goal.returns-in_err-add_matches-clause-lanes
returns-in_err-add_matches-clause-lanes g c =
    lanes_on (g.B.Bench.known c.args.bench.now) (g.B.Bench.known c.loop-p.bench) (g.B.Bench.known c.collect_one.new.bench) c.loop-p.invariant.same c.loop-p.invariant.lanes c.collect_one.ensures.lanes

pub returns-clause-found : goal.returns-clause-found
returns-clause-found g c =
    λ rules all was.
    let parts = c.loop-p.invariant.parts rules all was in
    let sixteen = parts.are.count in
    sixteen_found (found_of rules all c.args.items.now) c.loop-p.p c.loop-p.lists.items
    (let e = c.parts-count.ensures in let f = c.loop-p.invariant.same.parts in omega (arith, e, f, sixteen)) (c.loop-p.invariant.found rules all was)

pub returns-clause-parts : goal.returns-clause-parts
returns-clause-parts g c =
    λ rules all was. collected_all rules all c.args.items.now c.args.mark c.loop-p.p (g.B.Bench.known c.loop-p.bench) (let e = c.parts-count.ensures in let f = c.loop-p.invariant.same.parts in omega (arith, e, f)) (c.loop-p.invariant.parts rules all was)

pub returns-in_err-matches-clause-notes : goal.returns-in_err-matches-clause-notes
returns-in_err-matches-clause-notes g c = parts_end c.loop-p.p (λ p. 0) 1 (g.B.Bench.known c.args.bench.now) (g.B.Bench.known c.loop-p.bench) (g.B.Bench.known c.collect_one.new.bench) c.loop-p.invariant.same c.loop-p.invariant.noted c.collect_one.ensures.notes

pub returns-in_err-add_matches-clause-notes : goal.returns-in_err-add_matches-clause-notes
returns-in_err-add_matches-clause-notes g c = parts_end c.loop-p.p (λ p. 0) 1 (g.B.Bench.known c.args.bench.now) (g.B.Bench.known c.loop-p.bench) (g.B.Bench.known c.collect_one.new.bench) c.loop-p.invariant.same c.loop-p.invariant.noted c.collect_one.ensures.notes

pub returns-clause-notes : goal.returns-clause-notes
returns-clause-notes g c = parts_any c.loop-p.p (λ p. 0) 1 (g.B.Bench.known c.args.bench.now) (g.B.Bench.known c.loop-p.bench) c.loop-p.invariant.noted
