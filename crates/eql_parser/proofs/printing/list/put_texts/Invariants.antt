use Rattle.std.proofs.Common.{◌≡◌, ℕ, List, ◌++◌, drop, IsTrue}
use denote.Text.{Utf8}
use denote.Shadow.{shadow}
use Rattle.eql_parser.specs.Adding.{all_ascii}
use Rattle.eql_parser.specs.Printed.{texts_shown}
use Rattle.eql_parser.proofs.Lists.{led}
use Rattle.eql_parser.proofs.printing.list.put_texts.Given as goal

abbrev pub invariant-loop-text : goal.invariant-loop-text
invariant-loop-text l =
    shadow (Utf8 l.between) × IsTrue (all_ascii l.between)
    × ((rest : List ℕ) → l.page ++ led texts_shown l.between (drop l.text-index l.texts) rest ≡ l.fn.page ++ texts_shown l.texts rest)
