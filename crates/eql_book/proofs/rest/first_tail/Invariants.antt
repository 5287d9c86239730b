use Rattle.std.proofs.Common.{◌≡◌, [], drop}
use Rattle.eql_laws.specs.Resuming.{piped_from}
use Rattle.eql_book.specs.Gates.{pipes_of, seen_of}
use Rattle.eql_book.proofs.rest.first_tail.Given as goal

abbrev pub invariant-loop-index : goal.invariant-loop-index
invariant-loop-index l =
    piped_from (pipes_of l.gates.items) (seen_of l.gates.items) [] ≡ piped_from (pipes_of (drop l.index l.gates.items)) (seen_of (drop l.index l.gates.items)) []
