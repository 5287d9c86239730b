use Rattle.std.proofs.Common.{◌-◌, ◌+◌, ◌++◌, ◌∷◌, [], length, Ok, refl, sym, ap, ◌∙◌, subst, arith}
use Rattle.std.proofs.lemmas.Result.{err_from_is_err_and}
use Rattle.std.specs.Str.{chars}
use Rattle.eql_parser.specs.Kinds.{kinds, and_, or_, adds, multiplies}
use Rattle.eql_query.specs.Tree as tree
use Rattle.eql_query.specs.View.{trees_of}
use Rattle.eql_parser.specs.Marks.{Lacks, mark_kind}
use Rattle.eql_parser.specs.Answering.{node_tree, nodes_trees, onto, room, inner, operand, joint_test, joint_mark, call_read}
use Rattle.eql_parser.specs.Reading.{then_do, res_map, separated, joined_operands, closing, is_or, is_and, adds_of, multiplies_of, unary, prod, neg, conj}
use Rattle.eql_parser.proofs.Defaults.{length_kinds}
use Rattle.eql_parser.proofs.Lacking.{lacks_or, unclosed}
use Rattle.eql_parser.proofs.Separated.{stops_as, stops_then, stops_map, goes_on, ends_there, stops_there, runs_out}
use Rattle.eql_parser.proofs.Parts.{as_read}
use Rattle.eql_parser.proofs.Descent.{neg_plain, neg_deep, neg_turn, neg_done, unary_plain, unary_deep, unary_turn, unary_done, group_one, group_deep, group_turn, expr_level, pred_deep, chain_begins, chain_stops, chain_deep, chain_refused, chain_goes, chain_ends, lacks_joint, joint_is, prim_shut, prim_unclosed, call_deep, call_shut, call_turn, arguments_turn, math_node, more_nodes}
use Rattle.eql_parser.proofs.parser.expression.«+descent».Goals as goal

pub neg_of-returns-in_default-clause-answers : goal.neg_of-returns-in_default-clause-answers
neg_of-returns-in_default-clause-answers t c =
    as_read node_tree c.pred_of.result _ _ (sym (neg_plain c.args.parens c.args.levels (kinds c.args.tokens.now) c.in_default.ensures)) c.pred_of.ensures.answers

pub neg_of-returns-then-levels-eq0-clause-answers : goal.neg_of-returns-then-levels-eq0-clause-answers
neg_of-returns-then-levels-eq0-clause-answers t c =
    neg_deep c.args.parens c.args.levels c.args.tokens.now (kinds c.in-Some.more.now) c.if-levels-eq0.true c.in-Some.ensures

pub neg_of-returns-in_err-node-clause-answers : goal.neg_of-returns-in_err-node-clause-answers
neg_of-returns-in_err-node-clause-answers t c =
    let p = err_from_is_err_and c.from_residual.result c.from_residual.ensures.1 in rw (p.1, p.2) (stops_as _ _ _ (sym (neg_turn c.args.parens c.args.levels (kinds c.args.tokens.now) (kinds c.in-Some.more.now) c.if-levels-eq0.false c.in-Some.ensures)) (stops_map _ _ tree.not c.in_err-node.ensures.answers))

pub neg_of-returns-clause-answers : goal.neg_of-returns-clause-answers
neg_of-returns-clause-answers t c =
    neg_done c.args.parens c.args.levels (kinds c.args.tokens.now) (kinds c.in-Some.more.now) _ _ _ c.if-levels-eq0.false c.in-Some.ensures c.in_ok-node.ensures.answers c.in_ok-not_of.ensures.tree

pub unary_of-returns-in_default-clause-answers : goal.unary_of-returns-in_default-clause-answers
unary_of-returns-in_default-clause-answers t c =
    as_read node_tree c.prim_of.result _ _ (sym (unary_plain c.args.parens c.args.levels (kinds c.args.tokens.now) c.in_default.ensures)) c.prim_of.ensures.answers

pub unary_of-returns-then-levels-eq0-clause-answers : goal.unary_of-returns-then-levels-eq0-clause-answers
unary_of-returns-then-levels-eq0-clause-answers t c =
    unary_deep c.args.parens c.args.levels c.args.tokens.now (kinds c.in-Some.more.now) c.if-levels-eq0.true c.in-Some.ensures

pub unary_of-returns-in_err-node-clause-answers : goal.unary_of-returns-in_err-node-clause-answers
unary_of-returns-in_err-node-clause-answers t c =
    let p = err_from_is_err_and c.from_residual.result c.from_residual.ensures.1 in rw (p.1, p.2) (stops_as _ _ _ (sym (unary_turn c.args.parens c.args.levels (kinds c.args.tokens.now) (kinds c.in-Some.more.now) c.if-levels-eq0.false c.in-Some.ensures)) (stops_map _ _ tree.neg c.in_err-node.ensures.answers))

pub unary_of-returns-clause-answers : goal.unary_of-returns-clause-answers
unary_of-returns-clause-answers t c =
    unary_done c.args.parens c.args.levels (kinds c.args.tokens.now) (kinds c.in-Some.more.now) _ _ _ c.if-levels-eq0.false c.in-Some.ensures c.in_ok-node.ensures.answers c.in_ok-minus_of.ensures.tree

pub conj_of-returns-then-first-levels-clause-answers : goal.conj_of-returns-then-first-levels-clause-answers
conj_of-returns-then-first-levels-clause-answers t c =
    group_deep is_and tree.and (neg (room c.args.parens) (inner c.args.parens)) c.args.levels c.in_ok-first.first.depth (kinds c.args.tokens.now) _ c.in_ok-first.rest.now and_ (kinds c.in-Some.more.now) c.in_ok-first.ensures.answers c.in-Some.ensures refl c.in_ok-first.ensures.node.0 c.if-first-levels.true

pub conj_of-returns-in_err-nodes-2-clause-answers : goal.conj_of-returns-in_err-nodes-2-clause-answers
conj_of-returns-in_err-nodes-2-clause-answers t c =
    let p = err_from_is_err_and c.from_residual-in_err-nodes-2.result c.from_residual-in_err-nodes-2.ensures.1 in rw (p.1, p.2) (stops_as _ _ _ (sym (group_turn is_and tree.and (neg (room c.args.parens) (inner c.args.parens)) c.args.levels c.in_ok-first.first.depth (kinds c.args.tokens.now) _ (nodes_trees c.in_ok-nodes.nodes) (kinds c.in_ok-first.rest.now) and_ (kinds c.in-Some.more.now) c.in_ok-first.ensures.answers c.in-Some.ensures refl c.in_ok-first.ensures.node.0 c.if-first-levels.false (c.in_ok-nodes.ensures.items ∙ ap (λ l. l ++ node_tree c.in_ok-first.first ∷ []) c.none.ensures.items))) (stops_map _ _ (λ es. tree.and (trees_of es)) c.in_err-nodes-2.ensures.answers))

pub conj_of-returns-clause-answers : goal.conj_of-returns-clause-answers
conj_of-returns-clause-answers t c =
    group_turn is_and tree.and (neg (room c.args.parens) (inner c.args.parens)) c.args.levels c.in_ok-first.first.depth (kinds c.args.tokens.now) _ (nodes_trees c.in_ok-nodes.nodes) (kinds c.in_ok-first.rest.now) and_ (kinds c.in-Some.more.now) c.in_ok-first.ensures.answers c.in-Some.ensures refl c.in_ok-first.ensures.node.0 c.if-first-levels.false (c.in_ok-nodes.ensures.items ∙ ap (λ l. l ++ node_tree c.in_ok-first.first ∷ []) c.none.ensures.items) ∙ ap (res_map (λ es. tree.and (trees_of es))) c.in_ok-nodes-2.ensures.answers ∙ ap (λ e. Ok (e, kinds c.in_ok-nodes-2.behind.now)) (sym c.all_of.ensures.tree)

pub expr_of-returns-then-first-levels-clause-answers : goal.expr_of-returns-then-first-levels-clause-answers
expr_of-returns-then-first-levels-clause-answers t c =
    expr_level c.args.parens c.args.levels (kinds c.args.tokens.now) ∙ group_deep is_or tree.or (conj (room c.args.parens) (inner c.args.parens)) c.args.levels c.in_ok-first.first.depth (kinds c.args.tokens.now) _ c.in_ok-first.rest.now or_ (kinds c.in-Some.more.now) c.in_ok-first.ensures.answers c.in-Some.ensures refl c.in_ok-first.ensures.node.0 c.if-first-levels.true

pub expr_of-returns-in_err-nodes-2-clause-answers : goal.expr_of-returns-in_err-nodes-2-clause-answers
expr_of-returns-in_err-nodes-2-clause-answers t c =
    let p = err_from_is_err_and c.from_residual-in_err-nodes-2.result c.from_residual-in_err-nodes-2.ensures.1 in rw (p.1, p.2) (stops_as _ _ _ (sym (expr_level c.args.parens c.args.levels (kinds c.args.tokens.now) ∙ group_turn is_or tree.or (conj (room c.args.parens) (inner c.args.parens)) c.args.levels c.in_ok-first.first.depth (kinds c.args.tokens.now) _ (nodes_trees c.in_ok-nodes.nodes) (kinds c.in_ok-first.rest.now) or_ (kinds c.in-Some.more.now) c.in_ok-first.ensures.answers c.in-Some.ensures refl c.in_ok-first.ensures.node.0 c.if-first-levels.false (c.in_ok-nodes.ensures.items ∙ ap (λ l. l ++ node_tree c.in_ok-first.first ∷ []) c.none.ensures.items))) (stops_map _ _ (λ es. tree.or (trees_of es)) c.in_err-nodes-2.ensures.answers))

pub expr_of-returns-clause-answers : goal.expr_of-returns-clause-answers
expr_of-returns-clause-answers t c =
    expr_level c.args.parens c.args.levels (kinds c.args.tokens.now) ∙ group_turn is_or tree.or (conj (room c.args.parens) (inner c.args.parens)) c.args.levels c.in_ok-first.first.depth (kinds c.args.tokens.now) _ (nodes_trees c.in_ok-nodes.nodes) (kinds c.in_ok-first.rest.now) or_ (kinds c.in-Some.more.now) c.in_ok-first.ensures.answers c.in-Some.ensures refl c.in_ok-first.ensures.node.0 c.if-first-levels.false (c.in_ok-nodes.ensures.items ∙ ap (λ l. l ++ node_tree c.in_ok-first.first ∷ []) c.none.ensures.items) ∙ ap (res_map (λ es. tree.or (trees_of es))) c.in_ok-nodes-2.ensures.answers ∙ ap (λ e. Ok (e, kinds c.in_ok-nodes-2.behind.now)) (sym c.any_of.ensures.tree)

pub expr_of-returns-in_err-first-clause-answers : goal.expr_of-returns-in_err-first-clause-answers
expr_of-returns-in_err-first-clause-answers t c =
    let p = err_from_is_err_and c.from_residual.result c.from_residual.ensures.1 in rw (p.1, p.2) (stops_as _ _ _ (sym (expr_level c.args.parens c.args.levels (kinds c.args.tokens.now))) (stops_then _ _ (joined_operands is_or tree.or (conj (room c.args.parens) (inner c.args.parens)) c.args.levels) c.in_err-first.ensures.answers))

pub expr_of-returns-in_default-clause-answers : goal.expr_of-returns-in_default-clause-answers
expr_of-returns-in_default-clause-answers t c =
    expr_level c.args.parens c.args.levels (kinds c.args.tokens.now) ∙ group_one is_or tree.or (conj (room c.args.parens) (inner c.args.parens)) c.args.levels (kinds c.args.tokens.now) _ (kinds c.in_ok-first.rest.now) c.in_ok-first.ensures.answers (lacks_or _ c.in_default.ensures)

pub pred_of-returns-then-left-levels-clause-answers : goal.pred_of-returns-then-left-levels-clause-answers
pred_of-returns-then-left-levels-clause-answers t c =
    pred_deep c.args.parens c.args.levels c.in_ok-left.left.depth (kinds c.args.tokens.now) c.in_ok-left.rest.now _ c.in-Some.op (kinds c.in-Some.more.now) c.in_ok-left.ensures.answers c.in-Some.ensures c.in_ok-left.ensures.node.0 c.if-left-levels.true

pub sum_of-loop-init : goal.sum_of-loop-init
sum_of-loop-init t c =
    (chain_begins adds_of (prod (room c.args.parens) (inner c.args.parens)) c.args.levels _ (kinds c.args.tokens.now) _ c.in_ok-left.rest.now c.in_ok-left.ensures.answers (omega arith), c.in_ok-left.ensures.node)

pub sum_of-returns-in_default-clause-answers : goal.sum_of-returns-in_default-clause-answers
sum_of-returns-in_default-clause-answers t c =
    chain_stops adds_of (prod (room c.args.parens) (inner c.args.parens)) c.args.levels _ _ _ _ c.loop.invariant.0 c.in_default.ensures

pub sum_of-returns-then-left-levels-clause-answers : goal.sum_of-returns-then-left-levels-clause-answers
sum_of-returns-then-left-levels-clause-answers t c =
    chain_deep adds_of (prod (room c.args.parens) (inner c.args.parens)) c.args.levels (length c.in_ok-left.rest.now - c.loop.counter) c.loop.left.depth _ c.loop.rest.now c.in-Some.op (adds c.in-Some.op) (kinds c.in-Some.more.now) _ (omega arith) c.loop.invariant.0 c.in-Some.ensures refl c.loop.invariant.1.0 c.if-left-levels.true

pub sum_of-returns-in_err-right-clause-answers : goal.sum_of-returns-in_err-right-clause-answers
sum_of-returns-in_err-right-clause-answers t c =
    let p = err_from_is_err_and c.from_residual-in_err-right.result c.from_residual-in_err-right.ensures.1 in rw (p.1, p.2) (chain_refused adds_of (prod (room c.args.parens) (inner c.args.parens)) c.args.levels (length c.in_ok-left.rest.now - c.loop.counter) c.loop.left.depth _ (kinds c.loop.rest.now) c.in-Some.op (adds c.in-Some.op) (kinds c.in-Some.more.now) _ _ (omega arith) c.loop.invariant.0 c.in-Some.ensures refl c.loop.invariant.1.0 c.if-left-levels.false c.in_err-right.ensures.answers)

pub sum_of-loop-preserved : goal.sum_of-loop-preserved
sum_of-loop-preserved t c = (
  chain_goes adds_of (prod (room c.args.parens) (inner c.args.parens)) c.args.levels (length c.in_ok-left.rest.now - c.loop.counter) (length c.in_ok-left.rest.now - (c.loop.counter + 1)) c.loop.left.depth _ _ _ (kinds c.loop.rest.now) (kinds c.in_ok-right.behind.now) c.in-Some.op (adds c.in-Some.op) (kinds c.in-Some.more.now) _ (omega arith) c.loop.invariant.0 c.in-Some.ensures refl c.loop.invariant.1.0 c.if-left-levels.false c.in_ok-right.ensures.answers c.in_ok-left-2.ensures.tree,
  math_node _ _ _ _ _ c.loop.invariant.1 c.in_ok-right.ensures.node c.if-left-levels.false c.in_ok-left-2.ensures.tree c.in_ok-left-2.ensures.depth,
)

pub sum_of-returns-clause-answers : goal.sum_of-returns-clause-answers
sum_of-returns-clause-answers t c =
    chain_ends adds_of (prod (room c.args.parens) (inner c.args.parens)) c.args.levels _ _ _ _ (omega arith) c.loop.invariant.0

pub prod_of-loop-init : goal.prod_of-loop-init
prod_of-loop-init t c =
    (chain_begins multiplies_of (unary (room c.args.parens) (inner c.args.parens)) c.args.levels _ (kinds c.args.tokens.now) _ c.in_ok-left.rest.now c.in_ok-left.ensures.answers (omega arith), c.in_ok-left.ensures.node)

pub prod_of-returns-in_default-clause-answers : goal.prod_of-returns-in_default-clause-answers
prod_of-returns-in_default-clause-answers t c =
    chain_stops multiplies_of (unary (room c.args.parens) (inner c.args.parens)) c.args.levels _ _ _ _ c.loop.invariant.0 c.in_default.ensures

pub prod_of-returns-then-left-levels-clause-answers : goal.prod_of-returns-then-left-levels-clause-answers
prod_of-returns-then-left-levels-clause-answers t c =
    chain_deep multiplies_of (unary (room c.args.parens) (inner c.args.parens)) c.args.levels (length c.in_ok-left.rest.now - c.loop.counter) c.loop.left.depth _ c.loop.rest.now c.in-Some.op (multiplies c.in-Some.op) (kinds c.in-Some.more.now) _ (omega arith) c.loop.invariant.0 c.in-Some.ensures refl c.loop.invariant.1.0 c.if-left-levels.true

pub prod_of-returns-in_err-right-clause-answers : goal.prod_of-returns-in_err-right-clause-answers
prod_of-returns-in_err-right-clause-answers t c =
    let p = err_from_is_err_and c.from_residual-in_err-right.result c.from_residual-in_err-right.ensures.1 in rw (p.1, p.2) (chain_refused multiplies_of (unary (room c.args.parens) (inner c.args.parens)) c.args.levels (length c.in_ok-left.rest.now - c.loop.counter) c.loop.left.depth _ (kinds c.loop.rest.now) c.in-Some.op (multiplies c.in-Some.op) (kinds c.in-Some.more.now) _ _ (omega arith) c.loop.invariant.0 c.in-Some.ensures refl c.loop.invariant.1.0 c.if-left-levels.false c.in_err-right.ensures.answers)

pub prod_of-loop-preserved : goal.prod_of-loop-preserved
prod_of-loop-preserved t c = (
  chain_goes multiplies_of (unary (room c.args.parens) (inner c.args.parens)) c.args.levels (length c.in_ok-left.rest.now - c.loop.counter) (length c.in_ok-left.rest.now - (c.loop.counter + 1)) c.loop.left.depth _ _ _ (kinds c.loop.rest.now) (kinds c.in_ok-right.behind.now) c.in-Some.op (multiplies c.in-Some.op) (kinds c.in-Some.more.now) _ (omega arith) c.loop.invariant.0 c.in-Some.ensures refl c.loop.invariant.1.0 c.if-left-levels.false c.in_ok-right.ensures.answers c.in_ok-left-2.ensures.tree,
  math_node _ _ _ _ _ c.loop.invariant.1 c.in_ok-right.ensures.node c.if-left-levels.false c.in_ok-left-2.ensures.tree c.in_ok-left-2.ensures.depth,
)

pub prod_of-returns-clause-answers : goal.prod_of-returns-clause-answers
prod_of-returns-clause-answers t c =
    chain_ends multiplies_of (unary (room c.args.parens) (inner c.args.parens)) c.args.levels _ _ _ _ (omega arith) c.loop.invariant.0

pub operands_of-loop-init : goal.operands_of-loop-init
operands_of-loop-init t c =
    (ap (λ n. onto (nodes_trees c.args.so_far) (separated (joint_test c.args.joint) (operand c.args.joint c.args.parens c.args.levels) n (kinds c.args.tokens.now))) (omega (arith, length_kinds c.args.tokens.now)), c.requires)

pub operands_of-returns-in-Err-clause-answers : goal.operands_of-returns-in-Err-clause-answers
operands_of-returns-in-Err-clause-answers t c =
    stops_there (joint_test c.args.joint) (operand c.args.joint c.args.parens c.args.levels) (length c.args.tokens.now - c.loop.counter) (length c.args.tokens.now - (c.loop.counter + 1)) (nodes_trees c.loop.nodes) (kinds c.loop.rest.now) _ _ (omega arith) c.loop.invariant.0 c.in-Err.ensures.answers

pub operands_of-returns-in-None-clause-answers : goal.operands_of-returns-in-None-clause-answers
operands_of-returns-in-None-clause-answers t c =
    ends_there (joint_test c.args.joint) (operand c.args.joint c.args.parens c.args.levels) (length c.args.tokens.now - c.loop.counter) (length c.args.tokens.now - (c.loop.counter + 1)) (nodes_trees c.loop.nodes) _ (node_tree c.in-Ok.found.0) (kinds c.loop.rest.now) (kinds c.in-Ok.found.1.now) _ (omega arith) c.loop.invariant.0 c.in-Ok.ensures.answers
    (lacks_joint c.args.joint _ (subst (λ k. Lacks k (kinds c.in-Ok.found.1.now)) c.mark_between.ensures c.in-None.ensures)) c.in_ok-nodes.ensures.items

pub operands_of-returns-in-None-clause-node : goal.operands_of-returns-in-None-clause-node
operands_of-returns-in-None-clause-node t c =
    more_nodes c.args.levels c.loop.nodes c.in_ok-nodes.nodes c.in-Ok.found.0 c.loop.invariant.1 c.in-Ok.ensures.node c.in_ok-nodes.ensures.items c.in_ok-nodes.ensures.depth

pub operands_of-loop-preserved : goal.operands_of-loop-preserved
operands_of-loop-preserved t c = (
  goes_on (joint_test c.args.joint) (operand c.args.joint c.args.parens c.args.levels) (length c.args.tokens.now - c.loop.counter) (length c.args.tokens.now - (c.loop.counter + 1)) (nodes_trees c.loop.nodes) _ (node_tree c.in-Ok.found.0) (mark_kind (joint_mark c.args.joint)) (kinds c.loop.rest.now) (kinds c.in-Ok.found.1.now) (kinds c.in-Some.more.now) _ (omega arith) c.loop.invariant.0 c.in-Ok.ensures.answers
      (c.in-Some.ensures ∙ ap (λ k. mark_kind k ∷ kinds c.in-Some.more.now) c.mark_between.ensures) (joint_is c.args.joint) c.in_ok-nodes.ensures.items,
  more_nodes c.args.levels c.loop.nodes c.in_ok-nodes.nodes c.in-Ok.found.0 c.loop.invariant.1 c.in-Ok.ensures.node c.in_ok-nodes.ensures.items c.in_ok-nodes.ensures.depth,
)

pub operands_of-returns-clause-answers : goal.operands_of-returns-clause-answers
operands_of-returns-clause-answers t c =
    runs_out (joint_test c.args.joint) (operand c.args.joint c.args.parens c.args.levels) _ _ (nodes_trees c.loop.nodes) (kinds c.loop.rest.now) _ (omega arith) c.loop.invariant.0 (length_kinds c.loop.rest.now)

pub prim_of-returns-then-parens-eq0-clause-answers : goal.prim_of-returns-then-parens-eq0-clause-answers
prim_of-returns-then-parens-eq0-clause-answers t c =
    prim_shut c.args.parens c.args.levels c.args.tokens.now _ c.if-parens-eq0.true c.in-Some.ensures

pub prim_of-returns-in-None-clause-answers : goal.prim_of-returns-in-None-clause-answers
prim_of-returns-in-None-clause-answers t c =
    prim_unclosed c.args.parens c.args.levels _ _ _ c.in_ok-node.rest.now c.if-parens-eq0.false c.in-Some.ensures c.in_ok-node.ensures.answers c.in-None.ensures

pub call_of-returns-then-levels-eq0-clause-answers : goal.call_of-returns-then-levels-eq0-clause-answers
call_of-returns-then-levels-eq0-clause-answers t c =
    call_deep c.args.parens c.args.levels c.in-Some.fold (chars c.in-Some.name.now) c.args.tokens.now (kinds c.in-Some.inside.now) c.if-levels-eq0.true c.in-Some.ensures

pub call_of-returns-then-parens-eq0-clause-answers : goal.call_of-returns-then-parens-eq0-clause-answers
call_of-returns-then-parens-eq0-clause-answers t c =
    call_shut c.args.parens c.args.levels c.in-Some.fold (chars c.in-Some.name.now) c.args.tokens.now (kinds c.in-Some.inside.now) c.if-levels-eq0.false c.if-parens-eq0.true c.in-Some.ensures

pub call_of-returns-in_err-arguments-clause-answers : goal.call_of-returns-in_err-arguments-clause-answers
call_of-returns-in_err-arguments-clause-answers t c =
    let p = err_from_is_err_and c.from_residual.result c.from_residual.ensures.1 in rw (p.1, p.2) (stops_as _ _ _ (sym (call_turn c.args.parens c.args.levels c.in-Some.fold (chars c.in-Some.name.now) c.args.tokens.now (kinds c.in-Some.inside.now) c.if-levels-eq0.false c.if-parens-eq0.false c.in-Some.ensures)) (stops_then _ _ (call_read c.in-Some.fold (chars c.in-Some.name.now) (length c.args.tokens.now)) c.in_err-arguments.ensures.answers))

pub call_of-returns-clause-answers : goal.call_of-returns-clause-answers
call_of-returns-clause-answers t c =
    as_read node_tree c.called.result _ _ (sym (call_turn c.args.parens c.args.levels c.in-Some.fold (chars c.in-Some.name.now) c.args.tokens.now (kinds c.in-Some.inside.now) c.if-levels-eq0.false c.if-parens-eq0.false c.in-Some.ensures ∙ ap (λ q. then_do q (call_read c.in-Some.fold (chars c.in-Some.name.now) (length c.args.tokens.now))) c.in_ok-arguments.ensures.answers)) c.called.ensures.answers

pub arguments_of-returns-in_err-nodes-clause-answers : goal.arguments_of-returns-in_err-nodes-clause-answers
arguments_of-returns-in_err-nodes-clause-answers t c =
    let p = err_from_is_err_and c.from_residual.result c.from_residual.ensures.1 in rw (p.1, p.2) (stops_as _ _ _ (sym (arguments_turn c.args.parens c.args.levels (nodes_trees c.none-2.result) (kinds c.args.tokens.now) c.none-2.ensures.items c.in_default.ensures)) (stops_then _ _ closing c.in_err-nodes.ensures.answers))

pub arguments_of-returns-in-Some-after-clause-answers : goal.arguments_of-returns-in-Some-after-clause-answers
arguments_of-returns-in-Some-after-clause-answers t c =
    arguments_turn c.args.parens c.args.levels (nodes_trees c.none-2.result) (kinds c.args.tokens.now) c.none-2.ensures.items c.in_default.ensures ∙ ap (λ q. then_do q closing) c.in_ok-nodes.ensures.answers ∙ ap (closing _) c.in-Some-after.ensures

pub arguments_of-returns-in-None-clause-answers : goal.arguments_of-returns-in-None-clause-answers
arguments_of-returns-in-None-clause-answers t c =
    arguments_turn c.args.parens c.args.levels (nodes_trees c.none-2.result) (kinds c.args.tokens.now) c.none-2.ensures.items c.in_default.ensures ∙ ap (λ q. then_do q closing) c.in_ok-nodes.ensures.answers ∙ unclosed _ c.in_ok-nodes.rest.now c.in-None.ensures
