use Rattle.std.proofs.Common.{◌∷◌, [], None, arith, length}
use Rattle.std.proofs.lemmas.Result.{err_from_is_err_and}
use Rattle.eql_conductor.proofs.Resting.{parts_on}
use Rattle.eql_conductor.proofs.Onward.{lanes_go_on, stops_on, went_on}
use Rattle.eql_conductor.proofs.Looks.{safe_on}
use Rattle.eql_conductor.proofs.Takes.{taken_all, took_more, pushed_count}
use Rattle.eql_conductor.proofs.BoundsRounds.{gave_out_all, gave_out_more}
use Rattle.eql_conductor.specs.declared.note.Note.TheVariants.{Took}
use Rattle.eql_conductor.proofs.Broken.{on_err}
use Rattle.eql_conductor.proofs.Handing.{lane_hands_less, sizes_lacked, sizes_more}
use Rattle.eql_conductor.proofs.LaneNotes.{loop_broken, noted_all, noted_broken, noted_more}
use Rattle.eql_conductor.proofs.taking.take_all.Goals as goal

pub take_one-requires-clause-lanes : goal.take_one-requires-clause-lanes
take_one-requires-clause-lanes g c = (c.loop-s.invariant.took None c.requires.lanes).lanes

pub take_one-requires-clause-safe : goal.take_one-requires-clause-safe
take_one-requires-clause-safe g c =
    safe_on c.args.mark (g.B.Bench.known c.args.bench.now) (g.B.Bench.known c.loop-s.bench) c.loop-s.invariant.goes c.requires.safe

pub returns-in_err-items-clause-goes : goal.returns-in_err-items-clause-goes
returns-in_err-items-clause-goes g c =
    lanes_go_on (g.B.Bench.known c.args.bench.now) (g.B.Bench.known c.loop-s.bench) (g.B.Bench.known c.take_one.new.bench) c.loop-s.invariant.goes c.take_one.ensures.goes

pub returns-in_err-items-clause-parts : goal.returns-in_err-items-clause-parts
returns-in_err-items-clause-parts g c =
    parts_on (g.B.Bench.known c.args.bench.now) (g.B.Bench.known c.loop-s.bench) (g.B.Bench.known c.take_one.new.bench) c.loop-s.invariant.goes.same c.loop-s.invariant.parts c.take_one.ensures.parts

pub returns-in_err-items-clause-stops : goal.returns-in_err-items-clause-stops
returns-in_err-items-clause-stops g c =
    let p = err_from_is_err_and c.from_residual.result c.from_residual.ensures.1 in
    rw (p.1, p.2)
    (stops_on c.in_err-items.field-0.0 (g.B.Bench.known c.args.bench.now) (g.B.Bench.known c.loop-s.bench) (g.B.Bench.known c.take_one.new.bench)
    c.loop-s.invariant.goes c.loop-s.invariant.went c.in_err-items.ensures.stops)

pub returns-in_err-add_items-clause-goes : goal.returns-in_err-add_items-clause-goes
returns-in_err-add_items-clause-goes g c =
    lanes_go_on (g.B.Bench.known c.args.bench.now) (g.B.Bench.known c.loop-s.bench) (g.B.Bench.known c.take_one.new.bench) c.loop-s.invariant.goes c.take_one.ensures.goes

pub returns-in_err-add_items-clause-parts : goal.returns-in_err-add_items-clause-parts
returns-in_err-add_items-clause-parts g c =
    parts_on (g.B.Bench.known c.args.bench.now) (g.B.Bench.known c.loop-s.bench) (g.B.Bench.known c.take_one.new.bench) c.loop-s.invariant.goes.same c.loop-s.invariant.parts c.take_one.ensures.parts

pub loop-s-preserved : goal.loop-s-preserved
loop-s-preserved g c =
    let same = c.loop-s.invariant.goes.same in
    record {
      took = λ texts at.
          let was = c.loop-s.invariant.took texts at in
          took_more texts c.loop-s.s c.args.last c.args.mark (g.B.Bench.known c.args.bench.now) (g.B.Bench.known c.loop-s.bench) (g.B.Bench.known c.take_one.new.bench)
          c.loop-s.lists.items c.add_items.new.lists.items c.in_ok-items.items c.loop-s.invariant.count (omega (arith, c.lanes-count.ensures)) same c.in_ok-add_items.ensures.ok was
          (c.in_ok-items.ensures.hands texts was.lanes) (c.in_ok-items.ensures.lanes texts was.lanes);
      count = pushed_count c.loop-s.lists.items c.in_ok-items.items c.add_items.new.lists.items c.loop-s.s c.in_ok-add_items.ensures.ok c.loop-s.invariant.count;
      goes = lanes_go_on (g.B.Bench.known c.args.bench.now) (g.B.Bench.known c.loop-s.bench) (g.B.Bench.known c.take_one.new.bench) c.loop-s.invariant.goes c.take_one.ensures.goes;
      parts = parts_on (g.B.Bench.known c.args.bench.now) (g.B.Bench.known c.loop-s.bench) (g.B.Bench.known c.take_one.new.bench) same c.loop-s.invariant.parts c.take_one.ensures.parts;
      went = went_on (g.B.Bench.known c.args.bench.now) (g.B.Bench.known c.loop-s.bench) (g.B.Bench.known c.take_one.new.bench) c.loop-s.invariant.went c.in_ok-items.ensures.went;
      gave = gave_out_more c.loop-s.s c.args.mark (g.B.Bench.known c.args.bench.now) (g.B.Bench.known c.loop-s.bench) (g.B.Bench.known c.take_one.new.bench) same c.loop-s.invariant.gave c.in_ok-items.ensures.gave;
      handed = sizes_more c.loop-s.s c.loop-s.lists.items c.add_items.new.lists.items c.in_ok-items.items (g.B.Bench.known c.args.bench.now) (g.B.Bench.known c.loop-s.bench) (g.B.Bench.known c.take_one.new.bench) c.loop-s.invariant.count c.in_ok-add_items.ensures.ok same c.loop-s.invariant.handed c.in_ok-items.ensures.handed;
      noted = noted_more c.loop-s.s (λ s. Took c.args.mark ∷ []) (g.B.Bench.known c.args.bench.now) (g.B.Bench.known c.loop-s.bench) (g.B.Bench.known c.take_one.new.bench) same c.loop-s.invariant.noted c.in_ok-items.ensures.notes;
    }

pub returns-clause-lanes : goal.returns-clause-lanes
returns-clause-lanes g c =
    λ texts at. taken_all texts c.loop-s.s c.args.last c.args.mark (g.B.Bench.known c.loop-s.bench) (let e = c.lanes-count.ensures in let f = c.loop-s.invariant.goes.same.lanes in omega (arith, e, f)) (c.loop-s.invariant.took texts at).lanes

pub returns-clause-gave : goal.returns-clause-gave
returns-clause-gave g c =
    gave_out_all c.loop-s.s c.args.mark (g.B.Bench.known c.args.bench.now) (g.B.Bench.known c.loop-s.bench) (let e = c.lanes-count.ensures in let f = c.loop-s.invariant.goes.same.lanes in omega (arith, e, f)) c.loop-s.invariant.gave

pub returns-in_err-items-clause-none_handed : goal.returns-in_err-items-clause-none_handed
returns-in_err-items-clause-none_handed g c =
    on_err c.from_residual.result (sizes_lacked c.loop-s.lists.items (g.B.Bench.known c.args.bench.now) (g.B.Bench.known c.loop-s.bench) (g.B.Bench.known c.take_one.new.bench) c.loop-s.invariant.goes.same c.loop-s.invariant.handed c.in_err-items.ensures.none_handed)

pub returns-in_err-items-clause-broken_notes : goal.returns-in_err-items-clause-broken_notes
returns-in_err-items-clause-broken_notes g c =
    on_err c.from_residual.result (loop_broken c.loop-s.s (λ s. Took c.args.mark ∷ []) (g.B.Bench.known c.args.bench.now) (g.B.Bench.known c.loop-s.bench) (g.B.Bench.known c.take_one.new.bench) c.loop-s.invariant.goes.same c.loop-s.invariant.noted c.in_err-items.ensures.broken_notes)

pub returns-in_err-add_items-clause-none_handed : goal.returns-in_err-add_items-clause-none_handed
returns-in_err-add_items-clause-none_handed g c =
    on_err c.from_residual-in_err-add_items.result (sizes_lacked c.loop-s.lists.items (g.B.Bench.known c.args.bench.now) (g.B.Bench.known c.loop-s.bench) (g.B.Bench.known c.take_one.new.bench) c.loop-s.invariant.goes.same c.loop-s.invariant.handed
    (lane_hands_less c.loop-s.s (length c.in_ok-items.items) (g.B.Bench.known c.loop-s.bench) (g.B.Bench.known c.take_one.new.bench) c.in_ok-items.ensures.handed))

pub returns-in_err-add_items-clause-broken_notes : goal.returns-in_err-add_items-clause-broken_notes
returns-in_err-add_items-clause-broken_notes g c =
    on_err c.from_residual-in_err-add_items.result (loop_broken c.loop-s.s (λ s. Took c.args.mark ∷ []) (g.B.Bench.known c.args.bench.now) (g.B.Bench.known c.loop-s.bench) (g.B.Bench.known c.take_one.new.bench) c.loop-s.invariant.goes.same c.loop-s.invariant.noted
    (noted_broken c.loop-s.s (Took c.args.mark ∷ []) (g.B.Bench.known c.loop-s.bench) (g.B.Bench.known c.take_one.new.bench) c.in_ok-items.ensures.notes))

pub returns-clause-notes : goal.returns-clause-notes
returns-clause-notes g c =
    noted_all c.loop-s.s (λ s. Took c.args.mark ∷ []) (g.B.Bench.known c.args.bench.now) (g.B.Bench.known c.loop-s.bench) (let e = c.lanes-count.ensures in omega (arith, e)) c.loop-s.invariant.noted
