use Rattle.std.proofs.Common.{◌≡◌, ◌+◌, ◌∷◌, ◌++◌, [], List, ℕ, map, drop, refl, sym, ap, ◌∙◌, append_assoc, append-nil}
use Rattle.std.proofs.lemmas.List.{at_drop_more, map_push}
use Rattle.std.specs.Borrow.{Bor}
use Rattle.eql_query.specs.View.{tree, trees, trees_of}
use Rattle.eql_check.specs.Entries.{names_seen}
use Rattle.eql_check.specs.Used.{fields_in, fields_among}
use Rattle.eql_check.proofs.Variants as of
use Rattle.eql_check.proofs.used.+names.Goals as goal

pub add_names-returns-in-Null : goal.add_names-returns-in-Null
add_names-returns-in-Null t c =
    sym (ap (λ fields. names_seen c.args.names.now.items ++ fields) (of.of_leaf fields_in [] refl (λ _. refl) (λ _. refl) (λ _. refl) c.args.expr.now c.in-Null.is) ∙ append-nil (names_seen c.args.names.now.items))

pub add_names-returns-in-Null-2 : goal.add_names-returns-in-Null-2
add_names-returns-in-Null-2 t c =
    sym (ap (λ fields. names_seen c.args.names.now.items ++ fields) (of.of_leaf fields_in [] refl (λ _. refl) (λ _. refl) (λ _. refl) c.args.expr.now c.in-Null.is) ∙ append-nil (names_seen c.args.names.now.items))

pub add_names-returns-in-Null-3 : goal.add_names-returns-in-Null-3
add_names-returns-in-Null-3 t c =
    sym (ap (λ fields. names_seen c.args.names.now.items ++ fields) (of.of_leaf fields_in [] refl (λ _. refl) (λ _. refl) (λ _. refl) c.args.expr.now c.in-Null.is) ∙ append-nil (names_seen c.args.names.now.items))

pub add_names-returns-in-Null-4 : goal.add_names-returns-in-Null-4
add_names-returns-in-Null-4 t c =
    sym (ap (λ fields. names_seen c.args.names.now.items ++ fields) (of.of_leaf fields_in [] refl (λ _. refl) (λ _. refl) (λ _. refl) c.args.expr.now c.in-Null.is) ∙ append-nil (names_seen c.args.names.now.items))

pub add_names-returns-in_ok-push-in-Field : goal.add_names-returns-in_ok-push-in-Field
add_names-returns-in_ok-push-in-Field t c =
    rw (c.in-Field.is, of.tree_field c.in-Field.field)
    (ap names_seen c.in_ok-push-in-Field.ensures.items ∙ map_push (λ (name : Bor (List ℕ)). name.now) c.args.names.now.items _)

pub add_names_among-loop-item-preserved : goal.add_names_among-loop-item-preserved
add_names_among-loop-item-preserved t c =
    let read = c.deref-item-items.result.now in
    let was = names_seen c.loop-item.names.items in
    let rest = fields_among (trees_of (map tree (drop (c.loop-item.item-index + 1) read))) in
    ap (λ names. names ++ rest) c.in_ok-add_names.ensures ∙ append_assoc was (fields_in (tree c.item-item.result)) rest
    ∙ ap (λ item. was ++ fields_among (trees_of (map tree (item ∷ drop (c.loop-item.item-index + 1) read)))) c.item-item.is
    ∙ sym (at_drop_more (λ items. was ++ fields_among (trees_of (map tree items))) read c.loop-item.item-index c.item-item.result c.loop-item-test.true)
    ∙ c.loop-item.invariant

pub add_names-returns-in-Not : goal.add_names-returns-in-Not
add_names-returns-in-Not t c =
    rw (of.of_one fields_in (fields_in (tree c.in-Not.a.value)) c.args.expr.now c.in-Not.a refl refl (λ _ _. refl) (λ _ _ _. refl) c.in-Not.is)
    (rw c.deref-in-Not.ensures at c.add_names-in-Not.ensures)

pub add_names-returns-in-And : goal.add_names-returns-in-And
add_names-returns-in-And t c =
    rw (of.of_list fields_in (fields_among (trees c.in-And.es)) c.args.expr.now c.in-And.es refl refl (λ _ _. refl) c.in-And.is) c.add_names_among.ensures

pub add_names-returns-in_ok-add_names-in-Cmp : goal.add_names-returns-in_ok-add_names-in-Cmp
add_names-returns-in_ok-add_names-in-Cmp t c =
    let a = fields_in (tree c.in-Cmp.a.value) in
    let b = fields_in (tree c.in-Cmp.b.value) in
    let first : names_seen c.add_names.new.names.items ≡ names_seen c.args.names.now.items ++ a = rw c.deref.ensures at c.in_ok-add_names-in-Cmp.ensures in
    rw (of.of_two fields_in (a ++ b) c.args.expr.now c.in-Cmp.a c.in-Cmp.b (λ _. refl) (λ _. refl) c.in-Cmp.is)
    (rw (c.deref-in-Cmp.ensures, first, append_assoc (names_seen c.args.names.now.items) a b) at c.add_names-in-Cmp.ensures)
