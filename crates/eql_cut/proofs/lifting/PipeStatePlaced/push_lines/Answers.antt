use Rattle.std.proofs.Common.{ℕ, List, ◌++◌, sym, ap, ◌∙◌}
use Rattle.std.proofs.lemmas.Result.{on_ok_weaker}
use Rattle.std.specs.List.{flat_map}
use Rattle.eql_values.specs.declared.found.Numbered.{Numbered}
use Rattle.eql_values.specs.declared.cut.PipeState.{PipeState}
use Rattle.eql_cut.specs.Placing.{lines_at, state_orders}
use Rattle.eql_cut.proofs.PlaceLaws.{lines_each}
use Rattle.eql_cut.proofs.lifting.PipeStatePlaced.push_lines.Goals as goal

pub returns-in-Tail : goal.returns-in-Tail
returns-in-Tail c =
    on_ok_weaker c.push_each.result
    (λ pushed. pushed ∙ ap (λ (l : List ℕ). c.args.to.now.items ++ l)
    (lines_each c.args.shard (λ (n : Numbered). n.found.chain) c.deref.result.now
    ∙ ap (λ (kept : List Numbered). lines_at c.args.shard (flat_map (λ (n : Numbered). n.found.chain) kept)) (c.deref.ensures.value ∙ c.items.ensures)
    ∙ ap (λ (s : PipeState). lines_at c.args.shard (state_orders s)) (sym c.in-Tail.is)))
    c.push_each.ensures
