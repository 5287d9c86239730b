use Rattle.eql_lines.proofs.Bits.{in_common}
use Rattle.eql_lines.proofs.places.Places.common.Goals as goal

pub returns : goal.returns
returns c = λ i. in_common c.args.self.bits c.args.other.bits i
