use Rattle.std.proofs.Common.{◌≡◌, ◌∷◌, [], ◌∙◌, sym, subst}
use Rattle.std.proofs.lemmas.Result.{on_ok_weaker}
use Rattle.eql_values.specs.declared.item.Item.{Item}
use Rattle.eql_conductor.specs.PartLists.{Grows}
use Rattle.eql_conductor.proofs.Spread.{comes_whole}
use Rattle.eql_conductor.proofs.routing.add_item.Goals as goal

pub returns-in_ok-clone : goal.returns-in_ok-clone
returns-in_ok-clone c =
    let item = c.args.item.now in
    let p = c.part_of-p.result in
    let first = c.in-Some.first.now in
    let others = c.in-Some.others.now in
    let old = c.args.lists.now.items in
    let new = c.put.new.lists.items in
    let is : item.routes ≡ first ∷ others = sym (c.deref.ensures.value ∙ c.items.ensures) ∙ c.in-Some.ensures.cases.0 in
    let same : c.in_ok-clone.field-0 ≡ item = (c.in_ok-clone.ensures {u = tt}).cases in
    on_ok_weaker c.put.result
    (λ grows. comes_whole item p first others old new c.part_of-p.ensures.number (sym c.are_all_own.ensures ∙ c.if-are_all_own.true) is
    (subst (λ (own : Item). Grows p (own ∷ []) old new) same grows))
    c.put.ensures
