use Rattle.std.proofs.Common.{◌≡◌, ap, ◌∙◌}
use Rattle.eql_cut.specs.declared.cut.CutHead.{CutHead}
use Rattle.eql_cut.specs.Agreeing.{difference}
use Rattle.eql_runs.proofs.Heads.{SameLaws, no_difference, same_heads}
use Rattle.eql_runs.proofs.laws.heads_agree.Goals as goal

pub returns : goal.returns
returns c =
    let same : SameLaws = record { texts = c.orders_agree_with_equality.ensures.texts; names = c.orders_agree_with_equality.ensures.names } in
    λ cut now. (same_heads same cut now, λ (e : cut ≡ now). ap (λ (h : CutHead). difference h now) e ∙ no_difference now)
