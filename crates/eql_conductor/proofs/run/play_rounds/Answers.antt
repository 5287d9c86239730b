use Rattle.std.proofs.Common.{◌+◌, None, Some, suc, add-one, arith, refl, ◌∙◌}
use Rattle.std.proofs.lemmas.Result.{err_from_is_err_and}
use Rattle.eql_values.specs.declared.order.Mark.TheVariants.{End}
use Rattle.eql_book.proofs.Wholes.{book_is_kept, end_is_whole}
use Rattle.eql_conductor.specs.Outputs.{output_of}
use Rattle.eql_conductor.specs.Runs.{disk_faults}
use Rattle.eql_conductor.proofs.Onward.{lanes_go_on, lanes_go_self, went_on, went_self}
use Rattle.eql_conductor.proofs.Goings.{at_mark_goes}
use Rattle.eql_conductor.proofs.Causes.{stops_for_on}
use Rattle.eql_conductor.specs.RunNotes.{place}
use Rattle.eql_conductor.proofs.BoundsSpent.{rounds_more, rounds_none, rounds_stay}
use Rattle.eql_conductor.proofs.Cutting.{keep_stands_on}
use Rattle.eql_conductor.proofs.MarkOrder.{is_end, not_end}
use Rattle.eql_conductor.proofs.Ending.{may_keep, may_start, ran_counted, ran_none, ran_rests, ran_stops}
use Rattle.eql_conductor.proofs.run.play_rounds.Goals as goal
use Rattle.eql_conductor.proofs.run.play_rounds.Goals.{in_default, in-Some+else-eq}

pub loop-round-init : goal.loop-round-init
loop-round-init g c = record {
  ran = ran_none g.D.Disk.history g.D.Disk.fault_count c.args.plan.now (g.B.Bench.known c.args.bench.now) c.args.book.now (output_of g.K.Sink c.args.sink.now) c.args.keep.now
      c.fits.ensures (may_keep g.D.Disk.history g.D.Disk.fault_count c.args.plan.now (g.B.Bench.known c.args.bench.now) c.args.keep.now c.requires.keeps);
  spent = rounds_none (g.B.Bench.known c.args.bench.now) (lanes_go_self (g.B.Bench.known c.args.bench.now));
  before_end = c.requires.may.before_end;
  goes = lanes_go_self (g.B.Bench.known c.args.bench.now);
  went = went_self (g.B.Bench.known c.args.bench.now);
  sink = refl;
  disk = refl;
  silent = λ e. e;
  unfailing = λ e. e;
  unfailing_disk = λ e. e;
  count = omega arith;
}

pub play_and_keep-requires-clause-at : goal.play_and_keep-requires-clause-at
play_and_keep-requires-clause-at g c =
    at_mark_goes c.args.plan.now.mark c.loop-round.last (g.B.Bench.known c.args.bench.now) (g.B.Bench.known c.loop-round.bench) c.args.book.now c.loop-round.book
    (g.K.Sink.written c.args.sink.now) (g.K.Sink.written c.loop-round.sink)
    (may_start g.D.Disk.history g.D.Disk.fault_count c.args.plan.now (g.B.Bench.known c.args.bench.now) c.args.book.now c.requires.may) c.loop-round.invariant.ran.goes

pub play_and_keep-requires-clause-stands : goal.play_and_keep-requires-clause-stands
play_and_keep-requires-clause-stands g c =
    keep_stands_on g.D.Disk.history g.D.Disk.fault_count c.args.plan.now (g.B.Bench.known c.args.bench.now) (g.B.Bench.known c.loop-round.bench) c.loop-round.invariant.ran.cuts c.args.keep.now c.loop-round.keep c.loop-round.invariant.goes.same
    (may_keep g.D.Disk.history g.D.Disk.fault_count c.args.plan.now (g.B.Bench.known c.args.bench.now) c.args.keep.now c.requires.keeps) c.loop-round.invariant.ran.puts

pub returns-in_err-mark-clause-stopped : goal.returns-in_err-mark-clause-stopped
returns-in_err-mark-clause-stopped g c =
    let p = err_from_is_err_and c.from_residual.result c.from_residual.ensures.1 in
    rw (p.1, p.2)
    (ran_stops g.D.Disk.history g.D.Disk.fault_count c.args.plan.now (place c.loop-round.last c.loop-round.count) c.loop-round.round (g.B.Bench.known c.args.bench.now) (g.B.Bench.known c.loop-round.bench) (g.B.Bench.known c.play_and_keep.new.bench)
    c.args.book.now c.loop-round.book c.play_and_keep.new.book (output_of g.K.Sink c.args.sink.now) (output_of g.K.Sink c.loop-round.sink) (output_of g.K.Sink c.play_and_keep.new.sink)
    c.args.keep.now c.loop-round.keep c.play_and_keep.new.keep c.loop-round.invariant.goes.same c.loop-round.invariant.before_end c.loop-round.invariant.ran
    book_is_kept end_is_whole c.loop-round.invariant.spent c.requires.may.sized c.loop-round.invariant.goes c.play_and_keep.ensures.goes c.in_err-mark.field-0.0 c.in_err-mark.ensures.stopped)

pub returns-in_err-mark-clause-cause : goal.returns-in_err-mark-clause-cause
returns-in_err-mark-clause-cause g c =
    let p = err_from_is_err_and c.from_residual.result c.from_residual.ensures.1 in
    rw (p.1, p.2)
    (stops_for_on (g.B.Bench.known c.args.bench.now) (g.B.Bench.known c.loop-round.bench) (g.B.Bench.known c.play_and_keep.new.bench)
    (g.K.Sink.fault_count c.args.sink.now) (g.K.Sink.fault_count c.loop-round.sink) (g.K.Sink.fault_count c.play_and_keep.new.sink)
    (disk_faults g.D.Disk.history g.D.Disk.fault_count c.args.keep.now) (disk_faults g.D.Disk.history g.D.Disk.fault_count c.loop-round.keep) (disk_faults g.D.Disk.history g.D.Disk.fault_count c.play_and_keep.new.keep)
    c.loop-round.invariant.goes c.loop-round.invariant.went c.loop-round.invariant.sink c.loop-round.invariant.disk c.in_err-mark.field-0.0 c.in_err-mark.ensures.cause)

pub returns-in_err-mark-clause-goes : goal.returns-in_err-mark-clause-goes
returns-in_err-mark-clause-goes g c =
    lanes_go_on (g.B.Bench.known c.args.bench.now) (g.B.Bench.known c.loop-round.bench) (g.B.Bench.known c.play_and_keep.new.bench) c.loop-round.invariant.goes c.play_and_keep.ensures.goes

pub returns-then-eq-clause-ran : goal.returns-then-eq-clause-ran
returns-then-eq-clause-ran g c = record {
  n = c.loop-round.round;
  counts = suc c.loop-round.count;
  ran = ran_counted g.D.Disk.history g.D.Disk.fault_count c.args.plan.now (place c.loop-round.last c.loop-round.count) c.loop-round.round (g.B.Bench.known c.args.bench.now) (g.B.Bench.known c.loop-round.bench) (g.B.Bench.known c.play_and_keep.new.bench)
      c.args.book.now c.loop-round.book c.play_and_keep.new.book (output_of g.K.Sink c.args.sink.now) (output_of g.K.Sink c.loop-round.sink) (output_of g.K.Sink c.play_and_keep.new.sink)
      c.args.keep.now c.loop-round.keep c.play_and_keep.new.keep c.loop-round.invariant.goes.same c.loop-round.invariant.before_end c.loop-round.invariant.ran
      End (suc c.loop-round.count) refl (rw (is_end c.in-Some.mark c.if-eq.ensures) at (rw c.in-Some.is at c.in_ok-mark.ensures.step));
  spent = rounds_stay c.loop-round.round (g.B.Bench.known c.args.bench.now) (g.B.Bench.known c.loop-round.bench) (g.B.Bench.known c.play_and_keep.new.bench) c.loop-round.invariant.goes.same c.play_and_keep.ensures.goes c.loop-round.invariant.spent;
}

pub returns-then-eq-clause-goes : goal.returns-then-eq-clause-goes
returns-then-eq-clause-goes g c =
    lanes_go_on (g.B.Bench.known c.args.bench.now) (g.B.Bench.known c.loop-round.bench) (g.B.Bench.known c.play_and_keep.new.bench) c.loop-round.invariant.goes c.play_and_keep.ensures.goes

pub loop-round-preserved : goal.loop-round-preserved
loop-round-preserved g c =
    let cause = c.in_ok-mark.ensures.cause in record {
      ran = elim c.match-branch-2.branch [
        | in_default w ↦ rw (w.last-is, w.count-is)
            (ran_rests g.D.Disk.history g.D.Disk.fault_count c.args.plan.now (place c.loop-round.last c.loop-round.count) c.loop-round.round (g.B.Bench.known c.args.bench.now) (g.B.Bench.known c.loop-round.bench) (g.B.Bench.known c.play_and_keep.new.bench)
            c.args.book.now c.loop-round.book c.play_and_keep.new.book (output_of g.K.Sink c.args.sink.now) (output_of g.K.Sink c.loop-round.sink) (output_of g.K.Sink c.play_and_keep.new.sink)
            c.args.keep.now c.loop-round.keep c.play_and_keep.new.keep c.loop-round.invariant.goes.same c.loop-round.invariant.before_end c.loop-round.invariant.ran
            (rw w.in_default.is at c.in_ok-mark.ensures.step))
        | in-Some+else-eq w ↦ rw (w.last-is, w.count-is)
            (ran_counted g.D.Disk.history g.D.Disk.fault_count c.args.plan.now (place c.loop-round.last c.loop-round.count) c.loop-round.round (g.B.Bench.known c.args.bench.now) (g.B.Bench.known c.loop-round.bench) (g.B.Bench.known c.play_and_keep.new.bench)
            c.args.book.now c.loop-round.book c.play_and_keep.new.book (output_of g.K.Sink c.args.sink.now) (output_of g.K.Sink c.loop-round.sink) (output_of g.K.Sink c.play_and_keep.new.sink)
            c.args.keep.now c.loop-round.keep c.play_and_keep.new.keep c.loop-round.invariant.goes.same c.loop-round.invariant.before_end c.loop-round.invariant.ran
            w.in-Some.mark (c.loop-round.count + 1) (add-one c.loop-round.count) (rw w.in-Some.is at c.in_ok-mark.ensures.step))
      ];
      spent = elim c.match-branch-2.branch [
        | in_default w ↦ rounds_more c.loop-round.round c.loop-round.last None (g.B.Bench.known c.args.bench.now) (g.B.Bench.known c.loop-round.bench) (g.B.Bench.known c.play_and_keep.new.bench) c.loop-round.invariant.goes c.requires.may.sized c.loop-round.invariant.spent
            (rw w.in_default.is at c.in_ok-mark.ensures.spends) c.loop-round.invariant.before_end
        | in-Some+else-eq w ↦ rounds_more c.loop-round.round c.loop-round.last (Some w.in-Some.mark) (g.B.Bench.known c.args.bench.now) (g.B.Bench.known c.loop-round.bench) (g.B.Bench.known c.play_and_keep.new.bench) c.loop-round.invariant.goes c.requires.may.sized c.loop-round.invariant.spent
            (rw w.in-Some.is at c.in_ok-mark.ensures.spends) (not_end w.in-Some.mark w.if-eq.ensures)
      ];
      before_end = elim c.match-branch-2.branch [
        | in_default w ↦ rw w.last-is c.loop-round.invariant.before_end
        | in-Some+else-eq w ↦ rw w.last-is (not_end w.in-Some.mark w.if-eq.ensures)
      ];
      goes = lanes_go_on (g.B.Bench.known c.args.bench.now) (g.B.Bench.known c.loop-round.bench) (g.B.Bench.known c.play_and_keep.new.bench) c.loop-round.invariant.goes c.play_and_keep.ensures.goes;
      went = went_on (g.B.Bench.known c.args.bench.now) (g.B.Bench.known c.loop-round.bench) (g.B.Bench.known c.play_and_keep.new.bench) c.loop-round.invariant.went (record { failed = cause.0; worn = cause.1 });
      sink = cause.2 ∙ c.loop-round.invariant.sink;
      disk = cause.3 ∙ c.loop-round.invariant.disk;
      silent = λ e. c.play_and_keep.ensures.silent (c.loop-round.invariant.silent e);
      unfailing = λ e. (c.play_and_keep.ensures.unfailing (c.loop-round.invariant.unfailing e)).1;
      unfailing_disk = λ e. (c.play_and_keep.ensures.unfailing_disk (c.loop-round.invariant.unfailing_disk e)).1;
      count = elim c.match-branch-2.branch [
        | in_default w ↦ let e = w.count-is in let h = c.loop-round.invariant.count in omega (arith, e, h)
        | in-Some+else-eq w ↦ let e = w.count-is in let h = c.loop-round.invariant.count in omega (arith, e, h)
      ];
    }
