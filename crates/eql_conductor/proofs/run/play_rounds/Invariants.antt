use Rattle.std.proofs.Common.{◌≡◌, ◌≢◌, ◌≤◌, ◌-◌, None}
use Rattle.eql_values.specs.declared.order.Mark.TheVariants.{End}
use Rattle.eql_outside.specs.Unfailing.{IsUnfailing}
use Rattle.eql_conductor.specs.Bounds.{RoundsSpend}
use Rattle.eql_conductor.specs.Going.{LanesGo, Went}
use Rattle.eql_conductor.specs.Outputs.{output_of}
use Rattle.eql_conductor.specs.RunNotes.{place}
use Rattle.eql_conductor.specs.Running.{RanTo}
use Rattle.eql_conductor.specs.Runs.{IsKeptUnfailing, disk_faults}
use Rattle.eql_conductor.proofs.run.play_rounds.Given as goal

abbrev pub invariant-loop-round : goal.invariant-loop-round
invariant-loop-round g l = record {
  ran : RanTo g.D.Disk.history g.D.Disk.fault_count l.plan (place l.last l.count) l.round (g.B.Bench.known l.fn.bench) (g.B.Bench.known l.bench) l.fn.book l.book
      (output_of g.K.Sink l.fn.sink) (output_of g.K.Sink l.sink) l.fn.keep l.keep;
  spent : RoundsSpend l.round (g.B.Bench.known l.fn.bench) (g.B.Bench.known l.bench);
  before_end : l.last ≢ End;
  goes : LanesGo (g.B.Bench.known l.fn.bench) (g.B.Bench.known l.bench);
  went : Went (g.B.Bench.known l.fn.bench) (g.B.Bench.known l.bench);
  sink : g.K.Sink.fault_count l.sink ≡ g.K.Sink.fault_count l.fn.sink;
  disk : disk_faults g.D.Disk.history g.D.Disk.fault_count l.keep ≡ disk_faults g.D.Disk.history g.D.Disk.fault_count l.fn.keep;
  silent : g.K.Sink.written l.fn.sink ≡ None → g.K.Sink.written l.sink ≡ None;
  unfailing : IsUnfailing (g.K.Sink.fault_plan l.fn.sink) → IsUnfailing (g.K.Sink.fault_plan l.sink);
  unfailing_disk : IsKeptUnfailing g.D.Disk.fault_plan l.fn.keep → IsKeptUnfailing g.D.Disk.fault_plan l.keep;
  count : l.count ≤ l.round;
}

abbrev pub decreases-loop-round : goal.decreases-loop-round
decreases-loop-round g l = 340282366920938463463374607431768211455 - l.round
