use Rattle.std.proofs.Common.{arith, ◌∙◌, ◌++◌, ◌∷◌, [], None, sym}
use Rattle.eql_lookback.proofs.Along.{chains_at_more}
use Rattle.eql_lookback.proofs.stages.first_stage.Goals as goal

pub loop-one-preserved : goal.loop-one-preserved
loop-one-preserved c =
    c.in_ok-push.ensures.items
    ∙ (λ j. c.loop-one.invariant j ++ c.in_ok-chain.ensures j ∷ [])
    ∙ sym (chains_at_more None 1 c.args.all.now c.loop-one.one-index c.one-item.result (omega arith) c.one-item.is)
