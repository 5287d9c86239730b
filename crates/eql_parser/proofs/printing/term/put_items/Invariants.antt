use Rattle.std.proofs.Common.{◌≡◌, ℕ, List, ◌++◌, drop, map}
use Rattle.eql_parser.specs.Printed.{items_shown}
use Rattle.eql_query.specs.QueryTree.{term_tree}
use Rattle.eql_parser.proofs.printing.term.put_items.Given as goal

abbrev pub invariant-loop-item : goal.invariant-loop-item
invariant-loop-item l = (rest : List ℕ) → l.page ++ items_shown (map term_tree (drop l.item-index l.items)) rest ≡ l.fn.page ++ items_shown (map term_tree l.items) rest
