use Rattle.std.proofs.Common.{◌≡◌, ◌++◌, length}
use Rattle.std.specs.Vec.Iter.{into_iter_items, into_iter_len}
use Rattle.eql_book.proofs.tail.filled.Given as goal

abbrev pub invariant-loop-found : goal.invariant-loop-found
invariant-loop-found l = record {
  parts : l.fn.items.items ≡ l.kept.items ++ into_iter_items l.found-iterator;
  many : into_iter_len l.found-iterator ≡ length (into_iter_items l.found-iterator);
  room : l.kept.capacity ≡ length l.fn.items.items;
}
