use Rattle.std.proofs.Common.{◌≡◌, ℕ, List, ◌++◌, drop, IsTrue}
use denote.Text.{Utf8}
use denote.Shadow.{shadow}
use Rattle.eql_parser.specs.Adding.{all_ascii}
use Rattle.eql_parser.specs.Printed.{literals_shown}
use Rattle.eql_parser.proofs.Lists.{led}
use Rattle.eql_parser.proofs.printing.list.put_literals.Given as goal

abbrev pub invariant-loop-literal : goal.invariant-loop-literal
invariant-loop-literal l =
    shadow (Utf8 l.between) × IsTrue (all_ascii l.between)
    × ((rest : List ℕ) → l.page ++ led literals_shown l.between (drop l.literal-index l.literals) rest ≡ l.fn.page ++ literals_shown l.literals rest)
