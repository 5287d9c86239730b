use Rattle.std.proofs.Common.{◌≡◌, ◌++◌}
use Rattle.eql_book.proofs.tail.Tail.copied.Given as goal

abbrev pub invariant-loop-found : goal.invariant-loop-found
invariant-loop-found l = l.self.kept.items ≡ l.list.items ++ l.found-iterator
