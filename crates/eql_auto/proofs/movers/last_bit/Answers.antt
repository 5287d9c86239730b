use Rattle.eql_auto.proofs.Bits.{last_bit_of}
use Rattle.eql_auto.proofs.movers.last_bit.Goals as goal

pub returns : goal.returns
returns c =
    let e = c.checked_ilog2.ensures in
    last_bit_of c.args.half c.bits_below.result c.args.below c.checked_ilog2.result c.bits_below.ensures.bits c.bits_below.ensures.small e.none e.power_le e.next_power_gt
