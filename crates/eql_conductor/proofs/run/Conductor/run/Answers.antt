use Rattle.std.proofs.Common.{refl}
use Rattle.std.proofs.lemmas.Result.{err_from_is_err_and}
use Rattle.eql_values.specs.declared.order.Mark.TheVariants.{End}
use Rattle.eql_book.proofs.Wholes.{book_is_kept, end_is_whole}
use Rattle.eql_conductor.specs.Outputs.{output_of}
use Rattle.eql_conductor.specs.Runs.{disk_faults}
use Rattle.eql_conductor.proofs.Causes.{book_ends, out_not_disk}
use Rattle.eql_conductor.proofs.Goings.{at_mark_goes}
use Rattle.eql_conductor.proofs.Ending.{book_ended, may_start}
use Rattle.eql_conductor.proofs.run.Conductor.run.Goals as goal

pub returns-in_err-play_rounds : goal.returns-in_err-play_rounds
returns-in_err-play_rounds g c =
    let p = err_from_is_err_and c.from_residual.result c.from_residual.ensures.1 in
    rw (p.1, p.2)
    (record {
      ran = record {
        ran = c.in_err-play_rounds.ensures.stopped;
        cause = c.in_err-play_rounds.ensures.cause;
        goes = c.play_rounds.ensures.goes;
        follows = record {
          silent = c.play_rounds.ensures.silent;
          unfailing = c.in_err-play_rounds.ensures.unfailing;
          unfailing_disk = c.in_err-play_rounds.ensures.unfailing_disk;
        };
        plan_is = refl;
      };
    })

pub end_book-requires : goal.end_book-requires
end_book-requires g c =
    let at = at_mark_goes c.args.plan.now.mark End (g.B.Bench.known c.args.bench.now) (g.B.Bench.known c.play_rounds.new.bench) c.args.book.now c.play_rounds.new.book
    (g.K.Sink.written c.args.sink.now) (g.K.Sink.written c.play_rounds.new.sink)
    (may_start g.D.Disk.history g.D.Disk.fault_count c.args.plan.now (g.B.Bench.known c.args.bench.now) c.args.book.now c.requires.may) c.in_ok-play_rounds.ensures.ran.ran.goes in
    record { whole = at.whole }

pub returns : goal.returns
returns g c =
    let start = may_start g.D.Disk.history g.D.Disk.fault_count c.args.plan.now (g.B.Bench.known c.args.bench.now) c.args.book.now c.requires.may in
    let at = at_mark_goes c.args.plan.now.mark End (g.B.Bench.known c.args.bench.now) (g.B.Bench.known c.play_rounds.new.bench) c.args.book.now c.play_rounds.new.book
    (g.K.Sink.written c.args.sink.now) (g.K.Sink.written c.play_rounds.new.sink) start c.in_ok-play_rounds.ensures.ran.ran.goes in
    record {
      ran = record {
        ran = book_ended g.D.Disk.history g.D.Disk.fault_count c.args.plan.now (g.B.Bench.known c.args.bench.now) (g.B.Bench.known c.play_rounds.new.bench)
            c.args.book.now c.play_rounds.new.book c.end_book.new.book (output_of g.K.Sink c.args.sink.now) (output_of g.K.Sink c.play_rounds.new.sink) (output_of g.K.Sink c.end_book.new.sink)
            c.args.keep.now c.play_rounds.new.keep c.end_book.ensures.keeps book_is_kept end_is_whole start c.requires.may.sized c.play_rounds.ensures.goes c.in_ok-play_rounds.ensures.ran c.end_book.result at.whole
            c.end_book.ensures.still c.end_book.ensures.lines c.end_book.ensures.spoilt c.end_book.ensures.front c.end_book.ensures.out;
        cause = book_ends (g.B.Bench.known c.args.bench.now) (g.B.Bench.known c.play_rounds.new.bench)
            (g.K.Sink.fault_count c.args.sink.now) (g.K.Sink.fault_count c.play_rounds.new.sink) (g.K.Sink.fault_count c.end_book.new.sink)
            (disk_faults g.D.Disk.history g.D.Disk.fault_count c.args.keep.now) (disk_faults g.D.Disk.history g.D.Disk.fault_count c.play_rounds.new.keep)
            c.in_ok-play_rounds.ensures.cause c.end_book.result c.end_book.ensures.out c.end_book.ensures.faults.cause c.end_book.ensures.faults.steady c.end_book.ensures.faults.counts;
        goes = c.play_rounds.ensures.goes;
        follows = record {
          silent = λ e. c.end_book.ensures.faults.silent (c.play_rounds.ensures.silent e);
          unfailing = λ u. c.end_book.ensures.faults.unfailing (c.play_rounds.ensures.unfailing u).1;
          unfailing_disk = λ u. ((λ e. out_not_disk c.end_book.result c.end_book.ensures.out e), (c.play_rounds.ensures.unfailing_disk u).1);
        };
        plan_is = refl;
      };
    }
