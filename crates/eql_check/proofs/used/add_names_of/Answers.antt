use Rattle.std.proofs.Common.{◌+◌, ◌∷◌, ◌++◌, drop, sym, ap, ◌∙◌, append_assoc}
use Rattle.std.proofs.lemmas.List.{at_drop_more}
use Rattle.eql_query.specs.View.{tree}
use Rattle.eql_check.specs.Entries.{names_seen, terms_in}
use Rattle.eql_check.specs.Used.{fields_in, key_names, item_fields}
use Rattle.eql_check.proofs.used.add_names_of.Goals as goal

pub loop-item-preserved : goal.loop-item-preserved
loop-item-preserved c =
    let was = names_seen c.loop-item.names.items in
    let rest = item_fields (terms_in (drop (c.loop-item.item-index + 1) c.args.items.now)) in
    ap (λ names. names ++ rest) c.in_ok-add_item_names.ensures
    ∙ append_assoc was (fields_in (tree c.item-item.result.now.cond) ++ key_names c.item-item.result.now.by) rest
    ∙ ap (λ item. was ++ item_fields (terms_in (item ∷ drop (c.loop-item.item-index + 1) c.args.items.now))) c.item-item.is
    ∙ sym (at_drop_more (λ items. was ++ item_fields (terms_in items)) c.args.items.now c.loop-item.item-index c.item-item.result c.loop-item-test.true)
    ∙ c.loop-item.invariant
