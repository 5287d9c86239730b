use Rattle.std.proofs.Common.{◌≡◌, true, take}
use Rattle.std.specs.List.{list_all}
use Rattle.eql_check.specs.Conditions.{as_list}
use Rattle.eql_stages.specs.Matching.{is_within}
use Rattle.eql_stages.proofs.compile.depth_of.Given as goal

abbrev pub invariant-loop-matcher : goal.invariant-loop-matcher
invariant-loop-matcher l = record {
  items : list_all (is_within l.depth) (take l.matcher-index l.items) ≡ true;
  until : list_all (is_within l.depth) (as_list l.until) ≡ true;
}
