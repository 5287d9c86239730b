use Rattle.std.proofs.Common.{◌≡◌, take}
use Rattle.eql_stages.specs.Matching.{stages_of}
use Rattle.eql_stages.proofs.plan.stage_count.Given as goal

abbrev pub invariant-loop-matcher : goal.invariant-loop-matcher
invariant-loop-matcher l = l.count ≡ stages_of (take l.matcher-index l.matchers.items.items)
