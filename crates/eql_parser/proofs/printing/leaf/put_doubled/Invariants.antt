use Rattle.std.proofs.Common.{◌≡◌, ℕ, List, ◌++◌, length, drop}
use Rattle.std.specs.Str.{chars}
use Rattle.eql_parser.specs.Printed.{name_shown}
use Rattle.eql_parser.proofs.printing.leaf.put_doubled.Given as goal

abbrev pub invariant-loop-c : goal.invariant-loop-c
invariant-loop-c l = (rest : List ℕ) → l.page ++ name_shown (drop (length l.yielded) (chars l.name)) rest ≡ l.fn.page ++ name_shown (chars l.name) rest
