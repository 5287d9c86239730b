use Rattle.std.proofs.Common.{◌≡◌, length}
use Rattle.eql_resume.specs.Beginnings.{WantedAre}
use Rattle.eql_resume.proofs.beginning.wanted_lines.Given as goal

abbrev pub invariant-loop-shard : goal.invariant-loop-shard
invariant-loop-shard l = (length l.lists.items ≡ l.shard) × WantedAre l.cut 0 l.lists.items
