use Rattle.std.proofs.Common.{ℕ, List, ◌++◌, ap, ◌∙◌}
use Rattle.std.proofs.lemmas.Result.{on_ok_weaker}
use Rattle.std.specs.List.{flat_map}
use Rattle.eql_values.specs.declared.found.Holder.{Holder}
use Rattle.eql_values.specs.declared.cut.LaneCut.{LaneCut}
use Rattle.eql_cut.specs.Placing.{lines_at, lane_orders, state_orders}
use Rattle.eql_cut.proofs.PlaceLaws.{lines_each, lines_three}
use Rattle.eql_cut.proofs.lifting.CutPlaced.push_lines.Goals as goal

pub returns : goal.returns
returns c =
    let cut = c.args.self.now in
    let shard = c.args.shard in
    let lanes = lines_each shard lane_orders c.deref.result.now ∙ ap (λ (l : List LaneCut). lines_at shard (flat_map lane_orders l)) (c.deref.ensures.value ∙ c.items.ensures) in
    let holders = lines_each shard (λ (h : Holder). h.chain) c.deref-2.result.now
    ∙ ap (λ (hs : List Holder). lines_at shard (flat_map (λ (h : Holder). h.chain) hs)) (c.deref-2.ensures.value ∙ c.items-2.ensures) in
    on_ok_weaker c.push_lines.result
    (λ pushed. lines_three shard c.args.to.now.items c.push_each.new.to.items c.push_each-2.new.to.items c.push_lines.new.to.items
    (flat_map lane_orders cut.lanes) (flat_map (λ (h : Holder). h.chain) cut.holders) (flat_map state_orders cut.book.pipes)
    (c.in_ok-push_each.ensures ∙ ap (λ (l : List ℕ). c.args.to.now.items ++ l) lanes)
    (c.in_ok-push_each-2.ensures ∙ ap (λ (l : List ℕ). c.push_each.new.to.items ++ l) holders) pushed)
    c.push_lines.ensures
