use Rattle.std.proofs.Common.{◌^◌, ◌/◌}
use Rattle.std.proofs.lemmas.Bool.{eqb-true, eq-eqb}
use Rattle.eql_cut.proofs.MaskLaws.{none_from, none_to}
use Rattle.eql_cut.proofs.fitting.has_none_from.Goals as goal

pub returns : goal.returns
returns c = (
  λ is. none_from c.args.bits c.args.bit (eqb-true (c.args.bits / 2 ^ c.args.bit) 0 is),
  λ none. eq-eqb (c.args.bits / 2 ^ c.args.bit) 0 (none_to c.args.bits c.args.bit c.ranges.bits.fits none),
)
