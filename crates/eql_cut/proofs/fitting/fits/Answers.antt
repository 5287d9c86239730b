use Rattle.std.proofs.Common.{◌∙◌, sym}
use Rattle.eql_cut.proofs.FitWhole.{fits_from, fits_to}
use Rattle.eql_cut.proofs.fitting.fits.Goals as goal

pub returns : goal.returns
returns c =
    let laws = c.orders_told_alike.ensures in
    let agree = c.orders_agree_with_equality.ensures in
    let finds = c.opening_finds.ensures in (
      λ is. fits_from laws.items laws.back agree.keys agree.slots finds c.args.m c.args.keys c.args.pipes.now c.args.cut.now (sym c.cut_fits.ensures ∙ is),
      λ fits. c.cut_fits.ensures ∙ fits_to laws.items laws.back agree.keys agree.slots finds c.args.m c.args.keys c.args.pipes.now c.args.cut.now fits,
    )
