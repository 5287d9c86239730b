use Rattle.std.proofs.Common.{◌≡◌, ◌*◌, ◌≤ℤ◌, ◌+ℤ◌, pos, true, map, drop}
use Rattle.std.specs.List.{list_all}
use Rattle.eql_query.specs.QueryTree.{term_tree}
use Rattle.eql_check.specs.Rules.{stage_count, has_runs}
use Rattle.eql_check.proofs.limits.stage_count.Given as goal

abbrev pub invariant-loop-item : goal.invariant-loop-item
invariant-loop-item l = record {
  whole : l.count +ℤ stage_count (map term_tree (drop l.item-index l.items)) ≡ stage_count (map term_tree l.items);
  rest : list_all has_runs (map term_tree (drop l.item-index l.items)) ≡ true;
  low : pos 0 ≤ℤ l.count;
  high : l.count ≤ℤ pos (100 * l.item-index);
}
