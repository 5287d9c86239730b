use Rattle.std.proofs.Common.{◌≡◌, Some, ◌+◌, ◌∷◌, drop, string_bytes, sym, ap, ◌∙◌, arith}
use Rattle.std.proofs.lemmas.List.{drop_more}
use Rattle.serde_json.specs.View.{view, items_view, members_view}
use Rattle.serde_json.proofs.Views.{Entry}
use Rattle.eql_lines.specs.Reach.{behind, over, reach, reach_items, reach_members}
use Rattle.eql_lines.specs.Found.{found_of, found_all}
use Rattle.eql_lines.proofs.Adding.{found_twice}
use Rattle.eql_lines.proofs.again.+again.Goals as goal

pub reach_all-loop-item-preserved : goal.reach_all-loop-item-preserved
reach_all-loop-item-preserved t c =
    let l = c.loop-item in
    let xs = c.deref-item-items.result.now in
    let x = c.item-item.result in
    let path = c.args.path.now in
    let rest = drop (l.item-index + 1) xs in
    let here : drop l.item-index xs ≡ x ∷ rest = drop_more xs l.item-index x (omega arith) ∙ ap (λ y. y ∷ rest) (sym c.item-item.is) in
    ap (λ f. found_all f (reach_items (items_view rest) path)) c.in_ok-reach_value.ensures ∙ found_twice (found_of l.slot) (reach (view x) path) (reach_items (items_view rest) path)
    ∙ ap (λ ys. found_all (found_of l.slot) (reach_items (items_view ys) path)) (sym here) ∙ l.invariant

pub reach_each-loop-key-preserved-in-Continue-1 : goal.reach_each-loop-key-preserved-in-Continue-1
reach_each-loop-key-preserved-in-Continue-1 t c =
    let l = c.loop-key in
    let path = c.args.path.now in
    let e : Entry = (c.in-Some.key.now, c.in-Some.member.now) in
    let k = string_bytes c.in-Some.key.now in
    let d = view c.in-Some.member.now in
    let left = c.next.new.self in
    let step : l.key-iterator ≡ e ∷ left = c.in-Some.ensures.steps in
    let led : behind k path ≡ Some c.in-Some-behind.rest.now = sym (c.in-Some-behind.ensures ∙ ap (λ n. behind n path) c.as_bytes.ensures.value) in
    ap (λ f. found_all f (reach_members (members_view left) path)) (c.in_ok-reach_value.ensures ∙ ap (λ o. found_all (found_of l.slot) (over (reach d) o)) (sym led))
    ∙ found_twice (found_of l.slot) (over (reach d) (behind k path)) (reach_members (members_view left) path)
    ∙ ap (λ es. found_all (found_of l.slot) (reach_members (members_view es) path)) (sym step) ∙ l.invariant
