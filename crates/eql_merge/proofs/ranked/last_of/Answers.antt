use Rattle.std.proofs.Common.{arith}
use Rattle.eql_merge.proofs.Ends.{last_piece}
use Rattle.eql_merge.proofs.ranked.last_of.Goals as goal

pub returns : goal.returns
returns c = last_piece c.args.chain.now c.saturating_sub-start.result (omega (arith, c.saturating_sub-start.ensures))
