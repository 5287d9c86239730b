use Rattle.std.proofs.Common.{ap, ◌==◌}
use Rattle.std.specs.Int.{w128}
use Rattle.std.proofs.lemmas.Nat.Bits.{bit_at_set_same, bit_at_set_other}
use Rattle.eql_lines.proofs.places.Places.add.Goals as goal

pub returns-clause-same : goal.returns-clause-same
returns-clause-same c = ap (λ n. n == 1) (bit_at_set_same w128 c.args.self.now.bits c.args.place c.requires)

pub returns-clause-others : goal.returns-clause-others
returns-clause-others c = λ i other. ap (λ n. n == 1) (bit_at_set_other w128 c.args.self.now.bits c.args.place c.requires i other)
