use Rattle.std.proofs.Common.{◌+◌, Err, Some, add-one, refl, ap}
use Rattle.std.proofs.lemmas.Result.{err_from_is_err_and}
use Rattle.eql_conductor.specs.Runs.{disk_faults}
use Rattle.eql_conductor.specs.declared.stop.Stop.TheVariants.{Disk, Write}
use Rattle.eql_conductor.proofs.Onward.{lanes_go_on}
use Rattle.eql_conductor.proofs.Goings.{at_mark_goes}
use Rattle.eql_conductor.proofs.Causes.{cut_ends, err_is, not_full, round_ends, round_not_disk, stops_for_on}
use Rattle.eql_conductor.specs.Outputs.{output_of}
use Rattle.eql_conductor.specs.RunNotes.{place}
use Rattle.eql_conductor.proofs.BoundsSpent.{round_stays}
use Rattle.eql_conductor.proofs.Cutting.{stands_on}
use Rattle.eql_conductor.proofs.Ending.{counted, cut_stopped, passed, round_stopped}
use Rattle.eql_conductor.proofs.stepping.play_and_keep.Goals as goal

pub returns-in_err-play_round-clause-stopped : goal.returns-in_err-play_round-clause-stopped
returns-in_err-play_round-clause-stopped g c =
    let p = err_from_is_err_and c.from_residual.result c.from_residual.ensures.1 in
    rw (p.1, p.2)
    (round_stopped g.D.Disk.history g.D.Disk.fault_count c.args.plan.now (place c.args.last c.args.count) (g.B.Bench.known c.args.bench.now) (g.B.Bench.known c.play_round.new.bench)
    c.args.book.now c.play_round.new.book (output_of g.K.Sink c.args.sink.now) (output_of g.K.Sink c.play_round.new.sink) c.args.keep.now c.play_round.ensures.goes c.play_round.ensures.keeps
    c.in_err-play_round.field-0.0
    c.requires.at c.fits.ensures c.in_err-play_round.ensures.broken c.in_err-play_round.ensures.broken_notes
    (not_full c.in_err-play_round.field-0.0 (g.B.Bench.known c.args.bench.now) (g.B.Bench.known c.play_round.new.bench) c.in_err-play_round.ensures.stops) c.requires.stands)

pub returns-in_err-play_round-clause-cause : goal.returns-in_err-play_round-clause-cause
returns-in_err-play_round-clause-cause g c =
    let p = err_from_is_err_and c.from_residual.result c.from_residual.ensures.1 in
    let by = c.in_err-play_round.field-0.0 in
    let disk = disk_faults g.D.Disk.history g.D.Disk.fault_count c.args.keep.now in
    rw (p.1, p.2)
    (round_ends (g.B.Bench.known c.args.bench.now) (g.B.Bench.known c.play_round.new.bench) (g.K.Sink.fault_count c.args.sink.now) (g.K.Sink.fault_count c.play_round.new.sink) disk disk
    by c.in_err-play_round.ensures.stops
    (λ e. c.in_err-play_round.ensures.faults.cause (ap Err e)) (λ apart. c.in_err-play_round.ensures.faults.steady (λ e. apart (err_is by Write e))) c.in_err-play_round.ensures.faults.counts refl)

pub returns-in_err-play_round-clause-unfailing_disk : goal.returns-in_err-play_round-clause-unfailing_disk
returns-in_err-play_round-clause-unfailing_disk g c =
    let p = err_from_is_err_and c.from_residual.result c.from_residual.ensures.1 in
    let by = c.in_err-play_round.field-0.0 in
    rw (p.1, p.2)
    (λ unfailing. ((λ e. round_not_disk by (g.B.Bench.known c.args.bench.now) (g.B.Bench.known c.play_round.new.bench) c.in_err-play_round.ensures.stops (err_is by Disk e)), unfailing))

pub returns-in-None-clause-step : goal.returns-in-None-clause-step
returns-in-None-clause-step g c =
    passed g.D.Disk.history g.D.Disk.fault_count c.args.plan.now (place c.args.last c.args.count) (g.B.Bench.known c.args.bench.now) (g.B.Bench.known c.play_round.new.bench)
    c.args.book.now c.play_round.new.book (output_of g.K.Sink c.args.sink.now) (output_of g.K.Sink c.play_round.new.sink) c.args.keep.now c.play_round.ensures.goes c.play_round.ensures.keeps
    (rw c.in-None.is at c.in_ok-play_round.ensures.round) (rw c.in-None.is at c.in_ok-play_round.ensures.notes)

pub keep_cut-requires-clause-stands : goal.keep_cut-requires-clause-stands
keep_cut-requires-clause-stands g c =
    stands_on g.D.Disk.history g.D.Disk.fault_count c.args.plan.now (g.B.Bench.known c.args.bench.now) (g.B.Bench.known c.play_round.new.bench) c.args.keep.now c.play_round.ensures.goes.same c.requires.stands

pub keep_cut-requires-clause-at : goal.keep_cut-requires-clause-at
keep_cut-requires-clause-at g c =
    at_mark_goes c.args.last c.in-Some.mark (g.B.Bench.known c.args.bench.now) (g.B.Bench.known c.play_round.new.bench) c.args.book.now c.play_round.new.book
    (g.K.Sink.written c.args.sink.now) (g.K.Sink.written c.play_round.new.sink) c.requires.at (rw c.in-Some.is at c.in_ok-play_round.ensures.round)

pub returns-in_err-keep_cut-in-Some-clause-stopped : goal.returns-in_err-keep_cut-in-Some-clause-stopped
returns-in_err-keep_cut-in-Some-clause-stopped g c =
    let p = err_from_is_err_and c.from_residual-in_err-keep_cut-in-Some.result c.from_residual-in_err-keep_cut-in-Some.ensures.1 in
    rw (p.1, p.2)
    (cut_stopped g.D.Disk.history g.D.Disk.fault_count c.args.plan.now (place c.args.last c.args.count) c.in-Some.mark (g.B.Bench.known c.args.bench.now) (g.B.Bench.known c.play_round.new.bench) (g.B.Bench.known c.keep_cut.new.bench)
    c.args.book.now c.play_round.new.book (output_of g.K.Sink c.args.sink.now) (output_of g.K.Sink c.play_round.new.sink) (output_of g.K.Sink c.keep_cut.new.sink) c.args.keep.now c.keep_cut.new.keep
    c.requires.at c.play_round.ensures.goes.same (rw c.in-Some.is at c.in_ok-play_round.ensures.round) (rw c.in-Some.is at c.in_ok-play_round.ensures.in_range) (rw c.in-Some.is at c.in_ok-play_round.ensures.notes)
    c.play_round.ensures.keeps c.keep_cut.ensures.same (c.args.count + 1) (add-one c.args.count)
    c.in_err-keep_cut-in-Some.field-0.0 c.keep_cut.ensures.goes c.in_err-keep_cut-in-Some.ensures.stopped)

pub returns-in_err-keep_cut-in-Some-clause-cause : goal.returns-in_err-keep_cut-in-Some-clause-cause
returns-in_err-keep_cut-in-Some-clause-cause g c =
    let p = err_from_is_err_and c.from_residual-in_err-keep_cut-in-Some.result c.from_residual-in_err-keep_cut-in-Some.ensures.1 in
    let by = c.in_err-keep_cut-in-Some.field-0.0 in
    let sink_before = g.K.Sink.fault_count c.args.sink.now in
    let sink_mid = g.K.Sink.fault_count c.play_round.new.sink in
    let sink_now = g.K.Sink.fault_count c.keep_cut.new.sink in
    let sink = c.in_err-keep_cut-in-Some.ensures.sink_faults in
    let disk_before = disk_faults g.D.Disk.history g.D.Disk.fault_count c.args.keep.now in
    let disk_now = disk_faults g.D.Disk.history g.D.Disk.fault_count c.keep_cut.new.keep in
    rw (p.1, p.2)
    (stops_for_on (g.B.Bench.known c.args.bench.now) (g.B.Bench.known c.play_round.new.bench) (g.B.Bench.known c.keep_cut.new.bench) sink_before sink_mid sink_now disk_before disk_before disk_now
    c.play_round.ensures.goes c.in_ok-play_round.ensures.went (c.in_ok-play_round.ensures.faults.steady (λ e. cc)) refl by
    (cut_ends (g.B.Bench.known c.play_round.new.bench) (g.B.Bench.known c.keep_cut.new.bench) sink_mid sink_now disk_before disk_now by c.in_err-keep_cut-in-Some.ensures.stops
    (λ e. sink.cause (ap Err e)) (λ apart. sink.steady (λ e. apart (err_is by Write e))) sink.counts
    (λ e. c.in_err-keep_cut-in-Some.ensures.cause (ap Err e)) (λ apart. c.in_err-keep_cut-in-Some.ensures.steady (λ e. apart (err_is by Disk e))) c.keep_cut.ensures.counts))

pub returns-in_err-keep_cut-in-Some-clause-goes : goal.returns-in_err-keep_cut-in-Some-clause-goes
returns-in_err-keep_cut-in-Some-clause-goes g c =
    lanes_go_on (g.B.Bench.known c.args.bench.now) (g.B.Bench.known c.play_round.new.bench) (g.B.Bench.known c.keep_cut.new.bench) c.play_round.ensures.goes c.keep_cut.ensures.goes

pub returns-in_ok-keep_cut-in-Some-clause-step : goal.returns-in_ok-keep_cut-in-Some-clause-step
returns-in_ok-keep_cut-in-Some-clause-step g c =
    counted g.D.Disk.history g.D.Disk.fault_count c.args.plan.now (place c.args.last c.args.count) c.in-Some.mark (g.B.Bench.known c.args.bench.now) (g.B.Bench.known c.play_round.new.bench) (g.B.Bench.known c.keep_cut.new.bench)
    c.args.book.now c.play_round.new.book (output_of g.K.Sink c.args.sink.now) (output_of g.K.Sink c.play_round.new.sink) (output_of g.K.Sink c.keep_cut.new.sink) c.args.keep.now c.keep_cut.new.keep
    c.requires.at c.play_round.ensures.goes.same (rw c.in-Some.is at c.in_ok-play_round.ensures.round) (rw c.in-Some.is at c.in_ok-play_round.ensures.in_range) (rw c.in-Some.is at c.in_ok-play_round.ensures.notes)
    c.play_round.ensures.keeps c.keep_cut.ensures.same (c.args.count + 1) (add-one c.args.count)
    c.in_ok-keep_cut-in-Some.ensures.goes_on

pub returns-in_ok-keep_cut-in-Some-clause-spends : goal.returns-in_ok-keep_cut-in-Some-clause-spends
returns-in_ok-keep_cut-in-Some-clause-spends g c =
    round_stays c.args.last (Some c.in-Some.mark) (g.B.Bench.known c.args.bench.now) (g.B.Bench.known c.play_round.new.bench) (g.B.Bench.known c.keep_cut.new.bench)
    c.play_round.ensures.goes.same c.keep_cut.ensures.goes (rw c.in-Some.is at c.in_ok-play_round.ensures.spends)

pub returns-in_ok-keep_cut-in-Some-clause-goes : goal.returns-in_ok-keep_cut-in-Some-clause-goes
returns-in_ok-keep_cut-in-Some-clause-goes g c =
    lanes_go_on (g.B.Bench.known c.args.bench.now) (g.B.Bench.known c.play_round.new.bench) (g.B.Bench.known c.keep_cut.new.bench) c.play_round.ensures.goes c.keep_cut.ensures.goes
