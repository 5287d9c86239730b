use Rattle.std.proofs.Common.{◌≡◌, ◌++◌, map, drop, Some, true, false}
use Rattle.eql_query.specs.View.{tree, trees_of}
use Rattle.eql_check.specs.Truth.{values, value_at}
use Rattle.eql_check.specs.ThreeValued.{all_from, any_from}
use Rattle.eql_truth.proofs.evaluate.+evaluate.Given as goal

abbrev pub invariant-evaluate_and-loop-item : goal.invariant-evaluate_and-loop-item
invariant-evaluate_and-loop-item l =
    all_from l.truth (values (value_at l.fields l.slots) (trees_of (map tree (drop l.item-index l.item-items))))
    ≡ all_from (Some true) (values (value_at l.fields l.slots) (trees_of (map tree l.item-items)))

abbrev pub invariant-evaluate_or-loop-item : goal.invariant-evaluate_or-loop-item
invariant-evaluate_or-loop-item l =
    any_from l.truth (values (value_at l.fields l.slots) (trees_of (map tree (drop l.item-index l.item-items))))
    ≡ any_from (Some false) (values (value_at l.fields l.slots) (trees_of (map tree l.item-items)))

abbrev pub invariant-evaluate_all-loop-item : goal.invariant-evaluate_all-loop-item
invariant-evaluate_all-loop-item l =
    l.all.items ++ values (value_at l.fields l.slots) (trees_of (map tree (drop l.item-index l.item-items)))
    ≡ values (value_at l.fields l.slots) (trees_of (map tree l.item-items))
