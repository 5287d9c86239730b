use Rattle.std.proofs.Common.{◌≡◌, ◌+◌, ◌*◌, ◌-◌, length}
use Rattle.eql_parser.specs.Kinds.{kinds}
use Rattle.eql_query.specs.View.{tree}
use Rattle.eql_parser.specs.Answering.{room, inner, onto, joint_test, operand, nodes_trees, IsNode, IsNodes}
use Rattle.eql_parser.specs.Reading.{separated, chain_from, adds_of, multiplies_of, unary, prod, sum}
use Rattle.eql_parser.proofs.parser.expression.«+descent».Given as goal

abbrev pub decreases-arguments_of : goal.decreases-arguments_of
decreases-arguments_of l = 12 * (l.parens + l.levels) + 11

abbrev pub decreases-operands_of : goal.decreases-operands_of
decreases-operands_of l = 12 * (l.parens + l.levels) + 10

abbrev pub decreases-operand_of : goal.decreases-operand_of
decreases-operand_of l = 12 * (l.parens + l.levels) + 9

abbrev pub decreases-expr_of : goal.decreases-expr_of
decreases-expr_of l = 12 * (l.parens + l.levels) + 8

abbrev pub decreases-conj_of : goal.decreases-conj_of
decreases-conj_of l = 12 * (l.parens + l.levels) + 7

abbrev pub decreases-neg_of : goal.decreases-neg_of
decreases-neg_of l = 12 * (l.parens + l.levels) + 6

abbrev pub decreases-pred_of : goal.decreases-pred_of
decreases-pred_of l = 12 * (l.parens + l.levels) + 5

abbrev pub decreases-sum_of : goal.decreases-sum_of
decreases-sum_of l = 12 * (l.parens + l.levels) + 4

abbrev pub decreases-prod_of : goal.decreases-prod_of
decreases-prod_of l = 12 * (l.parens + l.levels) + 3

abbrev pub decreases-unary_of : goal.decreases-unary_of
decreases-unary_of l = 12 * (l.parens + l.levels) + 2

abbrev pub decreases-prim_of : goal.decreases-prim_of
decreases-prim_of l = 12 * (l.parens + l.levels) + 1

abbrev pub decreases-call_of : goal.decreases-call_of
decreases-call_of l = 12 * (l.parens + l.levels)

-- what the turns that are left make of what is left is the whole
abbrev pub invariant-sum_of-loop : goal.invariant-sum_of-loop
invariant-sum_of-loop l =
    (chain_from adds_of (prod (room l.parens) (inner l.parens)) l.levels (l.end - l.counter) (tree l.left.expr) (kinds l.rest) ≡ sum (room l.parens) (inner l.parens) l.levels (kinds l.fn.tokens))
    × IsNode l.levels l.left

abbrev pub invariant-prod_of-loop : goal.invariant-prod_of-loop
invariant-prod_of-loop l =
    (chain_from multiplies_of (unary (room l.parens) (inner l.parens)) l.levels (l.end - l.counter) (tree l.left.expr) (kinds l.rest) ≡ prod (room l.parens) (inner l.parens) l.levels (kinds l.fn.tokens))
    × IsNode l.levels l.left

abbrev pub invariant-operands_of-loop : goal.invariant-operands_of-loop
invariant-operands_of-loop l =
    (onto (nodes_trees l.nodes) (separated (joint_test l.joint) (operand l.joint l.parens l.levels) (l.end - l.counter) (kinds l.rest))
    ≡ onto (nodes_trees l.fn.so_far) (separated (joint_test l.joint) (operand l.joint l.parens l.levels) (length (kinds l.fn.tokens)) (kinds l.fn.tokens)))
    × IsNodes l.levels l.nodes
