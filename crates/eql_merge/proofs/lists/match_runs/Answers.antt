use Rattle.std.proofs.Common.{◌++◌, ◌∷◌, [], List, length, sym, ap, ◌∙◌, arith}
use Rattle.std.specs.Vec.Iter.{into_iter_items}
use Rattle.std.proofs.lemmas.List.{append-nil, append_assoc, nil_from_length}
use Rattle.eql_values.specs.declared.found.Match.{Match}
use Rattle.eql_merge.proofs.lists.match_runs.Goals as goal

pub loop-found-init : goal.loop-found-init
loop-found-init c =
    let gives = c.into_iter-found-iterator.ensures.into_iter_gives in
    let ok = c.args.lists.ok.0 in
    let items = ap length gives.0 in
    record {
      parts = sym gives.0 ∙ ap (λ (l : List (List Match)). l ++ into_iter_items c.into_iter-found-iterator.result) (sym c.new-runs.ensures.items);
      many = omega (arith, gives.1);
    }

pub loop-found-preserved : goal.loop-found-preserved
loop-found-preserved c =
    let popped = (c.in-Some.ensures {u = tt}).steps in
    let left = into_iter_items c.next.new.self in
    let many = c.loop-found.invariant.many in
    let items = ap length popped.0 in
    record {
      parts = c.loop-found.invariant.parts ∙ ap (λ (l : List (List Match)). c.loop-found.runs.items ++ l) popped.0
          ∙ sym (append_assoc c.loop-found.runs.items (c.in-Some.found ∷ []) left)
          ∙ ap (λ (l : List (List Match)). l ++ left) (sym ((c.in_ok-push_back.ensures {u = tt}).items
          ∙ ap (λ (x : List Match). c.loop-found.runs.items ++ x ∷ []) (c.of.ensures ∙ c.into_items.ensures)));
      many = omega (arith, popped.1);
    }

pub returns : goal.returns
returns c =
    let none = (c.in-None.ensures {u = tt}).steps.0 in
    let many = c.loop-found.invariant.many in
    sym (c.loop-found.invariant.parts
    ∙ ap (λ (l : List (List Match)). c.loop-found.runs.items ++ l) (nil_from_length (into_iter_items c.loop-found.found-iterator) (sym many ∙ none))
    ∙ append-nil c.loop-found.runs.items)
