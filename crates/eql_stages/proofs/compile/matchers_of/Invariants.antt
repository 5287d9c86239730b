use Rattle.std.proofs.Common.{◌≡◌, true, map, take}
use Rattle.std.specs.List.{list_all, flat_map}
use Rattle.eql_query.specs.QueryTree.{term_tree}
use Rattle.eql_stages.specs.Compiling.{MatchStages}
use Rattle.eql_stages.specs.Matching.{has_stage}
use Rattle.eql_stages.specs.Stages.{item_stages}
use Rattle.eql_stages.proofs.compile.matchers_of.Given as goal

-- the items so far
abbrev pub invariant-loop-term : goal.invariant-loop-term
invariant-loop-term l = record {
  matcher : MatchStages l.checked.fields (flat_map (item_stages l.shared) (map term_tree (take l.term-index l.items))) l.matchers.items;
  each : list_all has_stage l.matchers.items ≡ true;
}
