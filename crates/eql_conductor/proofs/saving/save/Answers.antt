use Rattle.std.proofs.Common.{[], arith, refl}
use Rattle.std.proofs.lemmas.List.Elements.{All-nil}
use Rattle.std.proofs.lemmas.Result.{err_from_is_err_and, on_ok_weaker}
use Rattle.eql_values.specs.declared.order.Mark.TheVariants.{At}
use Rattle.eql_ckdisk.specs.Putting.{last_cut}
use Rattle.eql_conductor.specs.Saving.{IsSavedAt}
use Rattle.eql_conductor.proofs.Broken.{disk_still, on_err}
use Rattle.eql_conductor.proofs.Cutting.{puts_none}
use Rattle.eql_conductor.proofs.NotedCuts.{save_breaks}
use Rattle.eql_conductor.proofs.Onward.{rest_goes}
use Rattle.eql_conductor.proofs.Stays.{lanes_stay, parts_stay}
use Rattle.eql_conductor.proofs.saving.save.Goals as goal

pub returns-in_err-cut-clause-goes : goal.returns-in_err-cut-clause-goes
returns-in_err-cut-clause-goes g c =
    let rests = c.take_cut.ensures.rests in rest_goes (g.B.Bench.known c.args.bench.now) (g.B.Bench.known c.take_cut.new.bench) rests.same rests.lanes

pub returns-in_err-keep_written-clause-not_saved : goal.returns-in_err-keep_written-clause-not_saved
returns-in_err-keep_written-clause-not_saved g c =
    on_err c.from_residual-in_err-keep_written.result
    (record {
      cuts = [];
      one = omega arith;
      are_saved = All-nil (IsSavedAt c.args.head.now c.args.time (g.B.Bench.known c.args.bench.now) c.args.book.now);
      lines_kept = c.in_err-keep_written.ensures.refused;
      puts = puts_none (last_cut c.args.keep.now.state) (g.D.Disk.history c.args.keep.now.disk);
      state_is = refl;
    })

pub returns-in_err-keep_written-clause-goes : goal.returns-in_err-keep_written-clause-goes
returns-in_err-keep_written-clause-goes g c =
    let rests = c.take_cut.ensures.rests in rest_goes (g.B.Bench.known c.args.bench.now) (g.B.Bench.known c.take_cut.new.bench) rests.same rests.lanes

pub returns-in_err-keep_written-clause-broken_notes : goal.returns-in_err-keep_written-clause-broken_notes
returns-in_err-keep_written-clause-broken_notes g c =
    on_err c.from_residual-in_err-keep_written.result (save_breaks (g.B.Bench.known c.args.bench.now) (g.B.Bench.known c.take_cut.new.bench) c.in_ok-cut.ensures.notes)

pub returns-clause-lanes : goal.returns-clause-lanes
returns-clause-lanes g c =
    λ texts at.
    let rests = c.take_cut.ensures.rests in
    on_ok_weaker c.put_cut.result (λ put. lanes_stay texts (At c.args.time) (g.B.Bench.known c.args.bench.now) (g.B.Bench.known c.take_cut.new.bench) rests.same rests.lanes at) c.put_cut.ensures.next

pub returns-clause-parts : goal.returns-clause-parts
returns-clause-parts g c =
    λ rules all rest.
    let rests = c.take_cut.ensures.rests in
    on_ok_weaker c.put_cut.result (λ put. parts_stay rules all (At c.args.time) (g.B.Bench.known c.args.bench.now) (g.B.Bench.known c.take_cut.new.bench) rests.same rests.parts rest) c.put_cut.ensures.next

pub returns-clause-goes : goal.returns-clause-goes
returns-clause-goes g c =
    let rests = c.take_cut.ensures.rests in rest_goes (g.B.Bench.known c.args.bench.now) (g.B.Bench.known c.take_cut.new.bench) rests.same rests.lanes

pub returns-clause-broken_notes : goal.returns-clause-broken_notes
returns-clause-broken_notes g c =
    on_err c.put_cut.result (save_breaks (g.B.Bench.known c.args.bench.now) (g.B.Bench.known c.take_cut.new.bench) c.in_ok-cut.ensures.notes)

pub returns-in_err-cut-clause-faults : goal.returns-in_err-cut-clause-faults
returns-in_err-cut-clause-faults g c =
    let p = err_from_is_err_and c.from_residual.result c.from_residual.ensures.1 in
    rw (p.1, p.2) (disk_still g.D.Disk c.args.keep.now.disk c.in_err-cut.field-0.0 (g.B.Bench.known c.args.bench.now) (g.B.Bench.known c.take_cut.new.bench) c.in_err-cut.ensures.stops)
