use Rattle.std.proofs.Common.{◌≡◌, map, drop}
use Rattle.eql_query.specs.View.{tree, trees_of}
use Rattle.eql_check.specs.Kinds.{hold_field}
use Rattle.eql_check.proofs.kinds.+holds.Given as goal

abbrev pub invariant-hold_field-loop-item : goal.invariant-hold_field-loop-item
invariant-hold_field-loop-item l =
    hold_field (trees_of (map tree (drop l.item-index l.item-items))) ≡ hold_field (trees_of (map tree l.item-items))
