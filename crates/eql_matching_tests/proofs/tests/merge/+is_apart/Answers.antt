use Rattle.std.proofs.Common.{◌≡◌, ◌-◌, ◌∙◌, Bool, true, false, List, ◌∷◌, drop, length, sym, ap, subst, refl, arith, length-drop}
use Rattle.std.specs.Prelude.{◌||◌}
use Rattle.std.proofs.lemmas.List.{take_all}
use Rattle.std.proofs.Math.Seq.{drop-cons}
use Rattle.eql_values.specs.declared.order.OrderKey.{OrderKey}
use Rattle.eql_values.specs.declared.item.Item.{Item}
use Rattle.eql_values.specs.OrderKeys.{order_cmp, order_eq}
use Rattle.eql_values.proofs.Same.{order_same}
use Rattle.eql_laws.proofs.Facts.{is_equal}
use Rattle.eql_laws.specs.Apart.{has_place, AreApart}
use Rattle.eql_matching_tests.proofs.tests.merge.+is_apart.Goals as goal

one_more : (x : Item) (rest b : List Item) (place : OrderKey) (here : Bool) → order_eq place x.order ≡ here → has_place x.order b ≡ false → AreApart rest b
    → (here || has_place place rest) ≡ true → has_place place b ≡ false
one_more x rest b place true is not h e = ap (λ (p : OrderKey). has_place p b) (order_same place x.order (is_equal (order_cmp place x.order) is)) ∙ not
one_more x rest b place false is not h e = h place e

apart_cons : (x : Item) (a rest b : List Item) → a ≡ x ∷ rest → has_place x.order b ≡ false → AreApart rest b → AreApart a b
apart_cons x a rest b e not h =
    subst (λ (l : List Item). AreApart l b) (sym e) (λ place there. one_more x rest b place (order_eq place x.order) refl not h there)

pub returns-then-not-is_among : goal.returns-then-not-is_among
returns-then-not-is_among t c = λ h.
    let a = c.args.a.now in
    let x = c.first-item.result in
    let whole : a ≡ x ∷ drop 1 a = drop-cons a 0 x (omega arith) ∙ ap (λ (y : Item). y ∷ drop 1 a) (sym c.first-item.is) in
    let rest : AreApart (drop 1 a) c.args.b.now = subst (λ (l : List Item). AreApart l c.args.b.now) (take_all (length a - 1) (drop 1 a) (omega (arith, length-drop {A = Item}))) (c.is_apart.ensures h) in
    let absent : has_place x.order c.args.b.now ≡ false = sym c.is_among.ensures ∙ c.if-not-is_among.true in
    apart_cons x a (drop 1 a) c.args.b.now whole absent rest
