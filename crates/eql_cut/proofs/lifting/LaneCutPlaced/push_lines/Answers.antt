use Rattle.std.proofs.Common.{ℕ, List, [], ◌∷◌, ◌++◌, map, ap, ◌∙◌}
use Rattle.std.proofs.lemmas.Result.{on_ok_weaker}
use Rattle.eql_values.specs.declared.item.Item.{Item}
use Rattle.eql_cut.specs.Placing.{lines_at}
use Rattle.eql_cut.proofs.PlaceLaws.{flat_items, lines_each}
use Rattle.eql_cut.proofs.lifting.LaneCutPlaced.push_lines.Goals as goal

pub returns : goal.returns
returns c =
    on_ok_weaker c.push_each.result
    (λ pushed. pushed ∙ ap (λ (l : List ℕ). c.args.to.now.items ++ l)
    (lines_each c.args.shard (λ (i : Item). i.order ∷ []) c.deref.result.now
    ∙ ap (lines_at c.args.shard) (flat_items c.deref.result.now ∙ ap (map (λ (i : Item). i.order)) (c.deref.ensures.value ∙ c.items.ensures))))
    c.push_each.ensures
