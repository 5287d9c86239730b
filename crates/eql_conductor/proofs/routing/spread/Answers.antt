use Rattle.std.proofs.Common.{◌≡◌, ◌≤◌, ◌+◌, ◌++◌, ◌∷◌, [], ℕ, List, length, map, take, sym, ap, ◌∙◌, subst}
use Rattle.std.proofs.lemmas.List.{take_all}
use Rattle.std.proofs.lemmas.List.{take_more}
use Rattle.std.proofs.lemmas.Result.{IfOk-weaker}
use Rattle.eql_values.specs.declared.item.Item.{Item}
use Rattle.eql_values.specs.Ordered.{numbers}
use Rattle.eql_values.specs.Routing.{routed_items}
use Rattle.eql_conductor.specs.PartLists.{AreSpread}
use Rattle.eql_parts.specs.Spreading.{part_number}
use Rattle.eql_conductor.proofs.Spread.{spread_all, spread_more}
use Rattle.eql_conductor.proofs.routing.spread.Goals as goal

pub loop-item-preserved : goal.loop-item-preserved
loop-item-preserved c =
    let items = c.args.items.now in
    let i = c.loop-item.item-index in
    let item = c.item-item.result in
    let read = c.deref-item-items.result.now in
    let same : read ≡ items = c.deref-item-items.ensures.value ∙ c.items.ensures in
    let more : take (i + 1) items ≡ take i items ++ item ∷ [] =
    sym (ap (take (i + 1)) same) ∙ take_more read i item c.loop-item-test.true ∙ ap (λ (x : Item). take i read ++ x ∷ []) (sym c.item-item.is) ∙ ap (λ (l : List Item). take i l ++ item ∷ []) same in
    subst (λ (l : List Item). AreSpread l c.add_item.new.lists.items) (sym more)
    (spread_more (take i items) item c.loop-item.lists.items c.add_item.new.lists.items c.loop-item.invariant (c.in_ok-add_item.ensures {u = tt}))

pub returns : goal.returns
returns c =
    let items = c.args.items.now in
    let i = c.loop-item.item-index in
    let past : length items ≤ i = subst (λ (l : List Item). length l ≤ i) (c.deref-item-items.ensures.value ∙ c.items.ensures) c.loop-item-test.false in
    let all = map (λ (p : ℕ). routed_items part_number p items) (numbers 16) in
    IfOk-weaker c.all_items.result _ (λ own. own.items ≡ all)
    (λ own is. is ∙ spread_all items c.loop-item.lists.items (subst (λ (l : List Item). AreSpread l c.loop-item.lists.items) (take_all i items past) c.loop-item.invariant))
    c.all_items.ensures
