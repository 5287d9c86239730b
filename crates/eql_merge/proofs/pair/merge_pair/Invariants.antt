use Rattle.std.proofs.Common.{◌++◌, ◌+◌, length}
use Rattle.eql_merge.proofs.Pairs.{MergesOn}
use Rattle.eql_merge.proofs.pair.merge_pair.Given as goal

abbrev pub invariant-loop-value : goal.invariant-loop-value
invariant-loop-value g l = record { on : MergesOn g.T.Ranked.rank (l.fn.earlier ++ l.fn.later) l.merged.items l.earlier l.later }

abbrev pub decreases-loop-value : goal.decreases-loop-value
decreases-loop-value g l = length l.earlier + length l.later
