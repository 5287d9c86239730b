use Rattle.std.proofs.Common.{◌∙◌, sym}
use Rattle.eql_cut.proofs.FitWhole.{fits_from, fits_to}
use Rattle.eql_cut.proofs.LiftKeeps.{fits_alike, stands_alike}
use Rattle.eql_cut.specs.Placing.{lifted_cut}
use Rattle.eql_cut.proofs.keeping.lifted_cuts_fit.Goals as goal

pub returns-clause-stand : goal.returns-clause-stand
returns-clause-stand c = λ place cut none is. stands_alike place cut none is

pub returns-clause-fit : goal.returns-clause-fit
returns-clause-fit c =
    λ place m values pipes cut none. (let laws = c.orders_told_alike.ensures in
    let agree = c.orders_agree_with_equality.ensures in
    let finds = c.opening_finds.ensures in
    let same = fits_alike place m values pipes cut none in (
      λ fits. fits_from laws.items laws.back agree.keys agree.slots finds m values pipes cut
          (sym same ∙ fits_to laws.items laws.back agree.keys agree.slots finds m values pipes (lifted_cut place cut) fits),
      λ fits. fits_from laws.items laws.back agree.keys agree.slots finds m values pipes (lifted_cut place cut)
          (same ∙ fits_to laws.items laws.back agree.keys agree.slots finds m values pipes cut fits),
    ))
