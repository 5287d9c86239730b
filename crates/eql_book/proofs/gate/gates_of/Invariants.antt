use Rattle.std.proofs.Common.{◌≡◌, ◌++◌, length, take, drop}
use Rattle.std.specs.List.{AllZip}
use Rattle.std.specs.Vec.Iter.{into_iter_items, into_iter_len}
use Rattle.eql_book.specs.Books.{FitsPipe}
use Rattle.eql_book.specs.Gates.{pipes_of, seen_of}
use Rattle.eql_book.proofs.gate.gates_of.Given as goal

abbrev pub invariant-loop-state : goal.invariant-loop-state
invariant-loop-state l = record {
  parts : l.fn.states.items ≡ seen_of l.gates.items ++ into_iter_items l.state-iterator;
  many : into_iter_len l.state-iterator ≡ length (into_iter_items l.state-iterator);
  pipes : pipes_of l.gates.items ≡ take (length l.gates.items) l.pipes.items;
  fits : AllZip FitsPipe (drop (length l.gates.items) l.pipes.items) (into_iter_items l.state-iterator);
}
