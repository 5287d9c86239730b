use Rattle.std.proofs.Common.{◌++◌, ◌∷◌, [], List, length, sym, ap, ◌∙◌, arith}
use Rattle.std.specs.Vec.Iter.{into_iter_items}
use Rattle.std.proofs.lemmas.List.{append-nil, append_assoc, nil_from_length}
use Rattle.eql_values.specs.declared.found.Holder.{Holder}
use Rattle.eql_merge.proofs.lists.holder_runs.Goals as goal

pub loop-held-init : goal.loop-held-init
loop-held-init c =
    let gives = c.into_iter-held-iterator.ensures.into_iter_gives in
    let ok = c.args.lists.ok.0 in
    let items = ap length gives.0 in
    record {
      parts = sym gives.0 ∙ ap (λ (l : List (List Holder)). l ++ into_iter_items c.into_iter-held-iterator.result) (sym c.new-runs.ensures.items);
      many = omega (arith, gives.1);
    }

pub loop-held-preserved : goal.loop-held-preserved
loop-held-preserved c =
    let popped = (c.in-Some.ensures {u = tt}).steps in
    let left = into_iter_items c.next.new.self in
    let many = c.loop-held.invariant.many in
    let items = ap length popped.0 in
    record {
      parts = c.loop-held.invariant.parts ∙ ap (λ (l : List (List Holder)). c.loop-held.runs.items ++ l) popped.0
          ∙ sym (append_assoc c.loop-held.runs.items (c.in-Some.held ∷ []) left)
          ∙ ap (λ (l : List (List Holder)). l ++ left) (sym ((c.in_ok-push_back.ensures {u = tt}).items
          ∙ ap (λ (x : List Holder). c.loop-held.runs.items ++ x ∷ []) (c.of.ensures ∙ c.into_items.ensures)));
      many = omega (arith, popped.1);
    }

pub returns : goal.returns
returns c =
    let none = (c.in-None.ensures {u = tt}).steps.0 in
    let many = c.loop-held.invariant.many in
    sym (c.loop-held.invariant.parts
    ∙ ap (λ (l : List (List Holder)). c.loop-held.runs.items ++ l) (nil_from_length (into_iter_items c.loop-held.held-iterator) (sym many ∙ none))
    ∙ append-nil c.loop-held.runs.items)
