use Rattle.std.proofs.Common.{◌≡◌, ◌≤◌, ◌+◌, length}
use Rattle.eql_hands_tests.proofs.opening.fresh_parts.Given as goal

abbrev pub invariant-loop-part : goal.invariant-loop-part
invariant-loop-part g l = record {
  count : length l.parts.items ≡ l._part;
  shares : 16 ≤ l.share.parts + l._part;
  nothing : l.share.amount ≡ 0;
}
