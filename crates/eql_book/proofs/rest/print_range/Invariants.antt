use Rattle.std.proofs.Common.{◌≡◌, ◌≤◌, ◌-◌, ◌++◌, None, take, drop}
use Rattle.std.specs.Prelude.{string_bytes}
use Rattle.eql_outside.specs.Unfailing.{IsUnfailing}
use Rattle.eql_outside.specs.Written.{WroteBut}
use Rattle.eql_book.specs.Listing.{listing}
use Rattle.eql_book.proofs.rest.print_range.Given as goal

abbrev pub invariant-loop-index : goal.invariant-loop-index
invariant-loop-index g l = record {
  places : l.page.places ≡ l.initial.page.places;
  printed : WroteBut (string_bytes l.page.waiting)
      (string_bytes l.initial.page.waiting ++ listing l.initial.page.places (take (l.index - l.from) (drop l.from l.kept.items)))
      (g.K.Sink.written l.initial.sink) (g.K.Sink.written l.sink);
  keeps : g.K.Sink.kept l.sink ≡ g.K.Sink.kept l.initial.sink;
  silent : g.K.Sink.written l.initial.sink ≡ None → g.K.Sink.written l.sink ≡ None;
  unfailing : IsUnfailing (g.K.Sink.fault_plan l.initial.sink) → IsUnfailing (g.K.Sink.fault_plan l.sink);
  steady : g.K.Sink.fault_count l.sink ≡ g.K.Sink.fault_count l.initial.sink;
  from : l.from ≤ l.index;
  to : l.index ≤ l.to;
}
