use Rattle.std.proofs.Common.{arith}
use Rattle.eql_lines.proofs.Adding.{whole_rest}
use Rattle.eql_lines.proofs.paths.Paths.whole.Goals as goal

pub returns : goal.returns
returns c = λ i. whole_rest c.args.self.now.paths.items c.loop-place.places i (λ h. c.loop-place.invariant i (grind (arith, h)))
