use Rattle.eql_lines.proofs.Bits.{in_both}
use Rattle.eql_lines.proofs.places.Places.with.Goals as goal

pub returns : goal.returns
returns c = λ i. in_both c.args.self.bits c.args.other.bits i
