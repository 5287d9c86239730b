use Rattle.std.proofs.Common.{◌≡◌, ℕ, List, ◌++◌, drop, map, IsTrue}
use denote.Text.{Utf8}
use denote.Shadow.{shadow}
use Rattle.eql_parser.specs.Adding.{all_ascii}
use Rattle.eql_parser.specs.Printed.{all_shown}
use Rattle.eql_query.specs.View.{tree, trees_of}
use Rattle.eql_parser.proofs.Lists.{led}
use Rattle.eql_parser.proofs.printing.expression.+put.Given as goal

abbrev pub invariant-put_all-loop-item : goal.invariant-put_all-loop-item
invariant-put_all-loop-item l =
    shadow (Utf8 l.separator) × IsTrue (all_ascii l.separator)
    × ((rest : List ℕ) → l.page ++ led (λ es. all_shown l.between (trees_of (map tree es))) l.separator (drop l.item-index l.item-items) rest
    ≡ l.fn.page ++ all_shown l.between (trees_of (map tree l.item-items)) rest)
