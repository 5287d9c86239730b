use Rattle.std.proofs.Common.{ℕ, List, ◌++◌, ap, ◌∙◌}
use Rattle.std.proofs.lemmas.Result.{on_ok_weaker}
use Rattle.std.specs.List.{flat_map}
use Rattle.eql_values.specs.declared.cut.PipeState.{PipeState}
use Rattle.eql_cut.specs.Placing.{lines_at, state_orders}
use Rattle.eql_cut.proofs.PlaceLaws.{lines_each}
use Rattle.eql_cut.proofs.lifting.BookCutPlaced.push_lines.Goals as goal

pub returns : goal.returns
returns c =
    on_ok_weaker c.push_each.result
    (λ pushed. pushed ∙ ap (λ (l : List ℕ). c.args.to.now.items ++ l)
    (lines_each c.args.shard state_orders c.deref.result.now
    ∙ ap (λ (states : List PipeState). lines_at c.args.shard (flat_map state_orders states)) (c.deref.ensures.value ∙ c.items.ensures)))
    c.push_each.ensures
