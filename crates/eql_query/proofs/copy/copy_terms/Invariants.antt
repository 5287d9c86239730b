use Rattle.std.proofs.Common.{◌≡◌, map, take}
use Rattle.eql_query.specs.QueryTree.{term_tree}
use Rattle.eql_query.proofs.copy.copy_terms.Given as goal

abbrev pub invariant-loop-term : goal.invariant-loop-term
invariant-loop-term l = map term_tree l.items.items ≡ map term_tree (take l.term-index l.term-items)
