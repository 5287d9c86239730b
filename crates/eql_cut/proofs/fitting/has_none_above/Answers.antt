use Rattle.eql_cut.proofs.MaskLaws.{above_high, above_low, some_above}
use Rattle.std.proofs.Common.{arith}
use Rattle.eql_cut.proofs.fitting.has_none_above.Goals as goal

pub returns-then-stage-ge128 : goal.returns-then-stage-ge128
returns-then-stage-ge128 c = above_high c.args.mask.now c.args.stage c.has_none_from.result (omega arith) c.has_none_from.ensures.0 c.has_none_from.ensures.1

pub returns-then-has_none_from : goal.returns-then-has_none_from
returns-then-has_none_from c =
    let high = c.has_none_from-else-stage-ge128 in
    let low = c.has_none_from-then-has_none_from in
    above_low c.args.mask.now c.args.stage low.result (omega arith) (high.ensures.0 c.if-has_none_from.true) low.ensures.0 low.ensures.1

pub returns-else-has_none_from : goal.returns-else-has_none_from
returns-else-has_none_from c =
    let high = c.has_none_from-else-stage-ge128 in
    some_above c.args.mask.now c.args.stage high.result (omega arith) high.ensures.1 c.if-has_none_from.false
