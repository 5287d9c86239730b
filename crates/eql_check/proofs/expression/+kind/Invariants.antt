use Rattle.std.proofs.Common.{◌≡◌, map, drop}
use Rattle.eql_query.specs.View.{tree, trees_of}
use Rattle.eql_check.specs.Kinds.{kind_at}
use Rattle.eql_check.specs.FirstBroken.{kinds_of}
use Rattle.eql_check.specs.Answers.{bools_of, with_bool, kinds_before}
use Rattle.eql_check.proofs.expression.+kind.Given as goal

abbrev pub invariant-are_bools-loop-operand : goal.invariant-are_bools-loop-operand
invariant-are_bools-loop-operand l =
    with_bool l.all (bools_of (kinds_of l.item (kind_at l.mapping) (trees_of (map tree (drop l.operand-index l.operand-items)))))
    ≡ bools_of (kinds_of l.item (kind_at l.mapping) (trees_of (map tree l.operand-items)))

abbrev pub invariant-kinds_of-loop-arg : goal.invariant-kinds_of-loop-arg
invariant-kinds_of-loop-arg l =
    kinds_before l.items.items (kinds_of l.item (kind_at l.mapping) (trees_of (map tree (drop l.arg-index l.arg-items))))
    ≡ kinds_of l.item (kind_at l.mapping) (trees_of (map tree l.arg-items))
