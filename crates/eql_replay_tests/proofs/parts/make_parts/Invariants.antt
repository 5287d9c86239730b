use Rattle.std.proofs.Common.{◌≡◌, length}
use Rattle.eql_replay_tests.specs.Opens.{PartsBegin}
use Rattle.eql_replay_tests.proofs.parts.make_parts.Given as goal

abbrev pub invariant-loop-p : goal.invariant-loop-p
invariant-loop-p g l = record {
  begin : PartsBegin (record { stages = l.sought.stages; span = l.sought.span }) l.mark l.holders l.parts.items;
  count : length l.parts.items ≡ l.p;
}
