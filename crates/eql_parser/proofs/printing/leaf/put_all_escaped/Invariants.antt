use Rattle.std.proofs.Common.{◌≡◌, ℕ, List, ◌++◌, length, drop}
use Rattle.std.specs.Str.{chars}
use Rattle.eql_parser.specs.Printed.{all_escaped}
use Rattle.eql_parser.proofs.printing.leaf.put_all_escaped.Given as goal

abbrev pub invariant-loop-c : goal.invariant-loop-c
invariant-loop-c l = (rest : List ℕ) → l.page ++ all_escaped (drop (length l.yielded) (chars l.text)) rest ≡ l.fn.page ++ all_escaped (chars l.text) rest
