use Rattle.std.proofs.Common.{◌≡◌, ◌++◌, take}
use Rattle.std.specs.Prelude.{string_bytes}
use Rattle.std.specs.List.{flat_map}
use Rattle.eql_book.specs.Listing.{event_text}
use Rattle.eql_book.proofs.line.print_events.Given as goal

abbrev pub invariant-loop-event : goal.invariant-loop-event
invariant-loop-event l =
    string_bytes l.waiting ≡ string_bytes l.initial.waiting ++ flat_map (event_text l.places) (take l.event-index l.events)
