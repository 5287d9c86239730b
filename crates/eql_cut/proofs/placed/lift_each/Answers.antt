use Rattle.std.proofs.Common.{◌++◌, ◌∷◌, [], All, map, length, sym, ap, subst, ◌∙◌, arith}
use Rattle.std.specs.Vec.Iter.{into_iter_items}
use Rattle.std.proofs.lemmas.List.{append-nil, append_assoc, nil_from_length}
use Rattle.std.proofs.lemmas.List.Elements.{All-head, All-tail}
use Rattle.eql_cut.specs.Placing.{IsUnplaced, listed_place}
use Rattle.eql_cut.proofs.PlaceLaws.{each_unplaced}
use Rattle.eql_cut.proofs.placed.lift_each.Goals as goal

pub loop-item-init : goal.loop-item-init
loop-item-init g c =
    let gives = c.into_iter-item-iterator.ensures.into_iter_gives in
    let lift = g.T.Placed.lifted (listed_place c.args.places.now) in
    let items = ap length gives.0 in
    record {
      parts = ap (map lift) (sym gives.0) ∙ ap (λ l. l ++ map lift (into_iter_items c.into_iter-item-iterator.result)) (sym c.new-lifted.ensures.items);
      left = subst (All (λ x. IsUnplaced (g.T.Placed.orders x))) (sym gives.0) (each_unplaced g.T.Placed.orders c.args.items.items c.requires.unplaced);
      many = omega (arith, gives.1);
    }

pub lift-requires-clause-unplaced : goal.lift-requires-clause-unplaced
lift-requires-clause-unplaced g c =
    let popped = c.in-Some.ensures.steps in
    All-head (λ x. IsUnplaced (g.T.Placed.orders x)) c.in-Some.item (into_iter_items c.next.new.self) (subst (All (λ x. IsUnplaced (g.T.Placed.orders x))) popped.0 c.loop-item.invariant.left)

pub loop-item-preserved : goal.loop-item-preserved
loop-item-preserved g c =
    let popped = c.in-Some.ensures.steps in
    let rest = into_iter_items c.next.new.self in
    let lift = g.T.Placed.lifted (listed_place c.args.places.now) in
    let done = c.loop-item.lifted.items in
    let many = c.loop-item.invariant.many in
    let items = ap length popped.0 in
    record {
      parts = c.loop-item.invariant.parts ∙ ap (λ l. done ++ map lift l) popped.0
          ∙ sym (append_assoc done (lift c.in-Some.item ∷ []) (map lift rest))
          ∙ ap (λ l. l ++ map lift rest) (sym (c.in_ok-push.ensures.items ∙ ap (λ x. done ++ x ∷ []) c.in_ok-lift.ensures));
      left = All-tail (λ x. IsUnplaced (g.T.Placed.orders x)) c.in-Some.item rest (subst (All (λ x. IsUnplaced (g.T.Placed.orders x))) popped.0 c.loop-item.invariant.left);
      many = omega (arith, popped.1);
    }

pub returns : goal.returns
returns g c =
    let none = c.in-None.ensures.steps.0 in
    let many = c.loop-item.invariant.many in
    let lift = g.T.Placed.lifted (listed_place c.args.places.now) in
    sym (c.loop-item.invariant.parts
    ∙ ap (λ l. c.loop-item.lifted.items ++ map lift l) (nil_from_length (into_iter_items c.loop-item.item-iterator) (sym many ∙ none))
    ∙ append-nil c.loop-item.lifted.items)
