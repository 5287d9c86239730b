use Rattle.eql_auto.proofs.Bits.{cut_within}
use Rattle.eql_auto.proofs.movers.bits_below.Goals as goal

pub returns-then-place-lt128-clause-bits : goal.returns-then-place-lt128-clause-bits
returns-then-place-lt128-clause-bits c = λ j l. cut_within c.args.half c.args.place j c.if-place-lt128.true l
