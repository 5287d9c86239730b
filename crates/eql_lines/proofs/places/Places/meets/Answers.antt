use Rattle.std.proofs.Common.{arith}
use Rattle.eql_lines.proofs.Bits.{apart}
use Rattle.eql_lines.proofs.places.Places.meets.Goals as goal

pub returns : goal.returns
returns c = λ e i h. apart c.args.self.bits c.args.other.bits i (grind (arith, e)) h
