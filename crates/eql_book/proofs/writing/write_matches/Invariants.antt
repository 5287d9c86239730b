use Rattle.std.proofs.Common.{◌≡◌, ◌++◌, None, length}
use Rattle.std.specs.Prelude.{string_bytes}
use Rattle.std.specs.Vec.Iter.{into_iter_items, into_iter_len}
use Rattle.eql_outside.specs.Unfailing.{IsUnfailing}
use Rattle.eql_outside.specs.Written.{WroteBut}
use Rattle.eql_book.specs.Books.{kept_after, let_out}
use Rattle.eql_book.specs.Gates.{pipes_of}
use Rattle.eql_book.specs.Ledgers.{kept_of}
use Rattle.eql_book.specs.Listing.{listing}
use Rattle.eql_book.proofs.writing.write_matches.Given as goal

abbrev pub invariant-loop-found : goal.invariant-loop-found
invariant-loop-found g l = record {
  pipes : pipes_of l.ledger.gates.items ≡ pipes_of l.initial.ledger.gates.items;
  places : l.page.places ≡ l.initial.page.places;
  kept : kept_of l.ledger ≡ kept_after (pipes_of l.initial.ledger.gates.items) (kept_of l.initial.ledger) l.yielded;
  printed : WroteBut (string_bytes l.page.waiting)
      (string_bytes l.initial.page.waiting ++ listing l.initial.page.places (let_out (pipes_of l.initial.ledger.gates.items) (kept_of l.initial.ledger) l.yielded))
      (g.K.Sink.written l.initial.sink) (g.K.Sink.written l.sink);
  keeps : g.K.Sink.kept l.sink ≡ g.K.Sink.kept l.initial.sink;
  silent : g.K.Sink.written l.initial.sink ≡ None → g.K.Sink.written l.sink ≡ None;
  unfailing : IsUnfailing (g.K.Sink.fault_plan l.initial.sink) → IsUnfailing (g.K.Sink.fault_plan l.sink);
  steady : g.K.Sink.fault_count l.sink ≡ g.K.Sink.fault_count l.initial.sink;
  parts : l.fn.matches ≡ l.yielded ++ into_iter_items l.found-iterator;
  many : into_iter_len l.found-iterator ≡ length (into_iter_items l.found-iterator);
}
