use Rattle.std.proofs.Common.{◌≡◌, ◌++◌, ◌+◌, ◌≤◌, map, drop, reverse, length}
use Rattle.eql_query.specs.View.{tree, trees_of}
use Rattle.eql_code.specs.Code.{code_each, code_all, depth_each, depth_all}
use Rattle.eql_code.specs.Folds.{fold_op}
use Rattle.eql_code.proofs.emit.+emit.Given as goal

abbrev pub invariant-emit_each-loop-at : goal.invariant-emit_each-loop-at
invariant-emit_each-loop-at l =
    (reverse l.ops.items ≡ code_each l.fields (fold_op l.fold) (trees_of (map tree (drop l.at l.items.items))) ++ reverse l.initial.ops.items)
    × (l.deepest ≡ depth_each (trees_of (map tree (drop l.at l.items.items))))
    × (length l.initial.ops.items + l.deepest ≤ length l.ops.items)

abbrev pub invariant-emit_all-loop-below : goal.invariant-emit_all-loop-below
invariant-emit_all-loop-below l =
    (reverse l.ops.items ≡ code_all l.fields (trees_of (map tree (drop l.below l.items.items))) ++ reverse l.initial.ops.items)
    × (l.deepest ≡ depth_all l.below (trees_of (map tree (drop l.below l.items.items))))
    × (length l.initial.ops.items + l.deepest ≤ length l.ops.items + l.below)
    × (length l.initial.ops.items ≤ length l.ops.items)
