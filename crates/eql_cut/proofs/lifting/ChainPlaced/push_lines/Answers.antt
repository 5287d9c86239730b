use Rattle.std.proofs.Common.{ℕ, List, [], ◌∷◌, ◌++◌, ap, ◌∙◌}
use Rattle.std.proofs.lemmas.Result.{on_ok_weaker}
use Rattle.eql_values.specs.declared.order.OrderKey.{OrderKey}
use Rattle.eql_cut.specs.Placing.{lines_at}
use Rattle.eql_cut.proofs.PlaceLaws.{flat_single, lines_each}
use Rattle.eql_cut.proofs.lifting.ChainPlaced.push_lines.Goals as goal

pub returns : goal.returns
returns c =
    on_ok_weaker c.push_each.result
    (λ pushed. pushed ∙ ap (λ (l : List ℕ). c.args.to.now.items ++ l)
    (lines_each c.args.shard (λ (o : OrderKey). o ∷ []) c.items.result.now ∙ ap (lines_at c.args.shard) (flat_single c.items.result.now ∙ c.items.ensures)))
    c.push_each.ensures
