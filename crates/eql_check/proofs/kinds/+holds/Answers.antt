use Rattle.std.proofs.Common.{◌≡◌, false, refl, sym, ap, ◌∙◌}
use Rattle.std.specs.Prelude.{◌||◌}
use Rattle.eql_query.specs.View.{tree, trees}
use Rattle.eql_check.specs.Kinds.{holds_field, hold_field}
use Rattle.eql_check.proofs.Variants as of
use Rattle.eql_check.proofs.kinds.+holds.Goals as goal

pub holds_field-returns-in-Field : goal.holds_field-returns-in-Field
holds_field-returns-in-Field t c =
    rw (c.in-Field.is, of.tree_field c.in-Field.field-0) refl

pub holds_field-returns-in-Null : goal.holds_field-returns-in-Null
holds_field-returns-in-Null t c =
    sym (of.of_leaf holds_field false refl (λ _. refl) (λ _. refl) (λ _. refl) c.args.expr.now c.in-Null.is)

pub holds_field-returns-in-Null-2 : goal.holds_field-returns-in-Null-2
holds_field-returns-in-Null-2 t c =
    sym (of.of_leaf holds_field false refl (λ _. refl) (λ _. refl) (λ _. refl) c.args.expr.now c.in-Null.is)

pub holds_field-returns-in-Null-3 : goal.holds_field-returns-in-Null-3
holds_field-returns-in-Null-3 t c =
    sym (of.of_leaf holds_field false refl (λ _. refl) (λ _. refl) (λ _. refl) c.args.expr.now c.in-Null.is)

pub holds_field-returns-in-Null-4 : goal.holds_field-returns-in-Null-4
holds_field-returns-in-Null-4 t c =
    sym (of.of_leaf holds_field false refl (λ _. refl) (λ _. refl) (λ _. refl) c.args.expr.now c.in-Null.is)

pub holds_field-returns-in-Not : goal.holds_field-returns-in-Not
holds_field-returns-in-Not t c =
    let inner : c.holds_field-in-Not.result ≡ holds_field (tree c.in-Not.a.value) = rw c.deref-in-Not.ensures at c.holds_field-in-Not.ensures in
    inner ∙ sym (of.of_one holds_field (holds_field (tree c.in-Not.a.value)) c.args.expr.now c.in-Not.a refl refl (λ _ _. refl) (λ _ _ _. refl) c.in-Not.is)

pub holds_field-returns-in-And : goal.holds_field-returns-in-And
holds_field-returns-in-And t c =
    c.hold_field.ensures ∙ sym (of.of_list holds_field (hold_field (trees c.in-And.es)) c.args.expr.now c.in-And.es refl refl (λ _ _. refl) c.in-And.is)

pub holds_field-returns-then-holds_field : goal.holds_field-returns-then-holds_field
holds_field-returns-then-holds_field t c =
    let a = holds_field (tree c.in-Cmp.a.value) in
    let b = holds_field (tree c.in-Cmp.b.value) in
    let first : c.holds_field.result ≡ a = rw c.deref.ensures at c.holds_field.ensures in
    c.if-holds_field.true ∙ sym (of.of_two holds_field (a || b) c.args.expr.now c.in-Cmp.a c.in-Cmp.b (λ _. refl) (λ _. refl) c.in-Cmp.is ∙ ap (λ x. x || b) (sym first ∙ c.if-holds_field.true))

pub holds_field-returns-else-holds_field : goal.holds_field-returns-else-holds_field
holds_field-returns-else-holds_field t c =
    let a = holds_field (tree c.in-Cmp.a.value) in
    let b = holds_field (tree c.in-Cmp.b.value) in
    let first : c.holds_field.result ≡ a = rw c.deref.ensures at c.holds_field.ensures in
    let second : c.holds_field-else-holds_field.result ≡ b = rw c.deref-else-holds_field.ensures at c.holds_field-else-holds_field.ensures in
    second ∙ sym (of.of_two holds_field (a || b) c.args.expr.now c.in-Cmp.a c.in-Cmp.b (λ _. refl) (λ _. refl) c.in-Cmp.is ∙ ap (λ x. x || b) (sym first ∙ c.if-holds_field.false))
