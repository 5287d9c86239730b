use Rattle.std.proofs.Common.{Some, rules}
use Rattle.std.proofs.lemmas.Int.{to_z-of_z}
use Rattle.std.specs.Int.{w128}
use Rattle.eql_conductor.specs.Outputs.{output_of}
use Rattle.eql_conductor.specs.Running.{time_in}
use Rattle.eql_conductor.proofs.Broken.{disk_passes, sink_passes}
use Rattle.eql_conductor.proofs.DueCuts.{no_time}
use Rattle.eql_conductor.proofs.Ending.{none_goes, saved_goes, saved_stops}
use Rattle.eql_conductor.proofs.keeping.keep_at.Goals as goal

pub returns-in-At-clause-goes_on : goal.returns-in-At-clause-goes_on
returns-in-At-clause-goes_on g c =
    rw c.in-At.is
    (saved_goes g.D.Disk.history g.D.Disk.fault_count c.save.result c.args.head.now c.in-At.time (g.B.Bench.known c.args.bench.now) (g.B.Bench.known c.save.new.bench) c.args.book.now
    (output_of g.K.Sink c.args.sink.now) (output_of g.K.Sink c.save.new.sink) c.args.keep.now c.save.new.keep
    (rw (to_z-of_z w128 c.in-At.time (search rules)) at c.save.ensures.lanes)
    (rw (to_z-of_z w128 c.in-At.time (search rules)) at c.save.ensures.parts)
    (rw (to_z-of_z w128 c.in-At.time (search rules)) at c.save.ensures.saved) c.save.ensures.notes)

pub returns-in-At-clause-stopped : goal.returns-in-At-clause-stopped
returns-in-At-clause-stopped g c =
    rw c.in-At.is
    (saved_stops g.D.Disk.history g.D.Disk.fault_count c.save.result c.args.head.now c.in-At.time (g.B.Bench.known c.args.bench.now) (g.B.Bench.known c.save.new.bench) c.args.book.now
    (output_of g.K.Sink c.args.sink.now) (output_of g.K.Sink c.save.new.sink) c.args.keep.now c.save.new.keep
    (rw (to_z-of_z w128 c.in-At.time (search rules)) at c.save.ensures.not_saved)
    c.save.ensures.full c.save.ensures.stands_yet c.save.ensures.broken_notes)

pub returns-in-Start-clause-goes_on : goal.returns-in-Start-clause-goes_on
returns-in-Start-clause-goes_on g c =
    none_goes g.D.Disk.history g.D.Disk.fault_count c.args.head.now c.args.mark (time_in c.args.mark) (g.B.Bench.known c.args.bench.now) c.args.book.now (output_of g.K.Sink c.args.sink.now) (Some c.args.keep.now) (no_time c.args.mark c.in-Start.is)

pub returns-in-Start-clause-faults : goal.returns-in-Start-clause-faults
returns-in-Start-clause-faults g c = disk_passes g.D.Disk c.args.keep.now.disk tt

pub returns-in-Start-clause-sink_faults : goal.returns-in-Start-clause-sink_faults
returns-in-Start-clause-sink_faults g c = sink_passes g.K.Sink c.args.sink.now tt
