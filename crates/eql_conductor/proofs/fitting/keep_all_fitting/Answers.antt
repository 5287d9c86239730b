use Rattle.std.proofs.Common.{◌++◌, ◌∷◌, [], List, length, map, sym, ap, ◌∙◌, arith}
use Rattle.std.specs.Vec.Iter.{into_iter_items}
use Rattle.std.proofs.lemmas.List.{append-nil, append_assoc, nil_from_length}
use Rattle.eql_values.specs.declared.item.Item.{Item}
use Rattle.eql_conductor.specs.Fitting.{fitting}
use Rattle.eql_conductor.proofs.fitting.keep_all_fitting.Goals as goal

pub loop-items-init : goal.loop-items-init
loop-items-init c =
    let gives = c.into_iter-items-iterator.ensures.into_iter_gives in
    let items = ap length gives.0 in
    record {
      parts = ap (map fitting) (sym c.into_items-items-items.ensures ∙ sym gives.0)
          ∙ ap (λ (l : List (List Item)). l ++ map fitting (into_iter_items c.into_iter-items-iterator.result)) (sym c.new-kept.ensures.items);
      many = omega (arith, gives.1);
    }

pub loop-items-preserved : goal.loop-items-preserved
loop-items-preserved c =
    let popped = (c.in-Some.ensures {u = tt}).steps in
    let left : List (List Item) = map fitting (into_iter_items c.next.new.self) in
    let many = c.loop-items.invariant.many in
    let items = ap length popped.0 in
    record {
      parts = c.loop-items.invariant.parts ∙ ap (λ (l : List (List Item)). c.loop-items.kept.items ++ map fitting l) popped.0
          ∙ sym (append_assoc c.loop-items.kept.items (fitting c.in-Some.items ∷ []) left)
          ∙ ap (λ (l : List (List Item)). l ++ left) (sym ((c.in_ok-push.ensures {u = tt}).items
          ∙ ap (λ (x : List Item). c.loop-items.kept.items ++ x ∷ []) c.keep_fitting.ensures));
      many = omega (arith, popped.1);
    }

pub returns : goal.returns
returns c =
    let none = (c.in-None.ensures {u = tt}).steps.0 in
    let many = c.loop-items.invariant.many in
    c.of.ensures ∙ sym (c.loop-items.invariant.parts
    ∙ ap (λ (l : List (List Item)). c.loop-items.kept.items ++ map fitting l) (nil_from_length (into_iter_items c.loop-items.items-iterator) (sym many ∙ none))
    ∙ append-nil c.loop-items.kept.items)
