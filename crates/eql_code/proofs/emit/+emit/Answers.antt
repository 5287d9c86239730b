use Rattle.std.proofs.lemmas.Grind.{common_steps}
use Rattle.std.proofs.Common.{◌≡◌, ◌≤◌, ◌+◌, ◌-◌, ◌∷◌, ◌++◌, [], suc, true, false, max, map, drop, reverse, length, refl, ap, sym, ◌∙◌, rules, arith}
use Rattle.eql_values.specs.declared.value.Value.TheVariants as value
use Rattle.eql_query.specs.Tree as t
use Rattle.eql_check.specs.Kinds.{holds_field}
use Rattle.eql_check.proofs.Variants as of
use Rattle.eql_operators.specs.Prepared.{addresses_in}
use Rattle.eql_code.specs.declared.emit.Op.TheVariants as op
use Rattle.eql_check.specs.Names.{function_of}
use Rattle.eql_code.specs.Code.{code, code_all, code_each, code_first, call_code, cidr_op, plain_call, count_of, depth, depth_all, depth_each, depth_first, call_depth, plain_depth}
use Rattle.eql_code.proofs.Settled.{code_held, depth_held}
use Rattle.eql_query.specs.View.{tree, trees, trees_of}
use Rattle.eql_code.proofs.Emitting.{one_more, one_deeper, call_is}
use Rattle.eql_code.proofs.emit.+emit.Goals as goal

pub emit_plain_call-returns-clause-items : goal.emit_plain_call-returns-clause-items
emit_plain_call-returns-clause-items below c =
    let count : c.len-count.result ≡ length c.items.result.now.items = omega (arith, c.len-count.ensures) in
    call_is c.args.fields.now c.args.function c.args.fold c.in-Some.function (trees c.args.args.now) c.items.result.now.items c.len-count.result
    (reverse c.args.ops.now.items) (reverse c.put_op.new.ops.items) (reverse c.emit_all.new.ops.items) (sym c.in-Some.is) c.items.ensures.trees count
    c.in_ok-put_op.ensures.items c.in_ok-deep.ensures.items

pub emit_each-returns-clause-depth : goal.emit_each-returns-clause-depth
emit_each-returns-clause-depth below c =
    c.loop-at.invariant.1 ∙ ap (λ n. depth_each (trees_of (map tree (drop n c.items-items.result.now.items)))) {x = c.loop-at.at} {y = 0} (omega arith)
    ∙ ap depth_each (sym c.items-items.ensures.trees)

pub emit_all-returns-clause-depth : goal.emit_all-returns-clause-depth
emit_all-returns-clause-depth below c =
    c.loop-below.invariant.1 ∙ ap (λ n. depth_all n (trees_of (map tree (drop n c.items-items.result.now.items)))) {x = c.loop-below.below} {y = 0} (omega arith)
    ∙ ap (depth_all 0) (sym c.items-items.ensures.trees)

pub emit_all-loop-below-preserved : goal.emit_all-loop-below-preserved
emit_all-loop-below-preserved below c =
    let longer : length c.loop-below.ops.items + c.in_ok-deep.deep ≤ length c.emit.new.ops.items = omega (arith, c.in_ok-deep.ensures.len) in
    let most : c.max-deepest.result ≡ max c.loop-below.deepest (c.loop-below.below - 1 + c.in_ok-deep.deep) = search rules in (
      one_more c.args.fields.now c.items-items.result.now.items (c.loop-below.below - 1) c.loop-below.below c.index.result.now (reverse c.loop-below.ops.items) (reverse c.emit.new.ops.items) _
          (search rules) (search rules) (omega arith) c.in_ok-deep.ensures.items c.loop-below.invariant.0,
      one_deeper c.items-items.result.now.items (c.loop-below.below - 1) c.loop-below.below c.index.result.now c.loop-below.deepest c.in_ok-deep.deep c.max-deepest.result
          (search rules) (search rules) (omega arith) c.in_ok-deep.ensures.depth most c.loop-below.invariant.1,
      omega (arith, most, longer, c.in_ok-deep.ensures.some, c.loop-below.invariant.2, c.loop-below.invariant.3),
      omega (arith, longer, c.loop-below.invariant.3),
    )

pub emit_each-loop-at-preserved : goal.emit_each-loop-at-preserved
emit_each-loop-at-preserved c = grind (arith, common_steps)

pub emit_node-returns-in-Not : goal.emit_node-returns-in-Not
emit_node-returns-in-Not below c =
    let a = t.not (tree c.in-Not.a.value) in
    let held : holds_field a ≡ true = rw (c.in-Not.is, of.tree_not c.in-Not.a) at c.requires in
    rw (c.in-Not.is, of.tree_not c.in-Not.a)
    (record {
      items = code_held c.args.fields.now a (code c.args.fields.now (tree c.in-Not.a.value) ++ op.Not ∷ []) c.emit_after.result (reverse c.emit_after.new.ops.items) (reverse c.args.ops.now.items) held refl (rw c.deref.ensures at c.emit_after.ensures.items);
      depth = depth_held a (depth (tree c.in-Not.a.value)) c.emit_after.result held refl (rw c.deref.ensures at c.emit_after.ensures.depth);
      some = c.emit_after.ensures.some;
      len = c.emit_after.ensures.len;
    })

pub emit_node-returns-in-Neg : goal.emit_node-returns-in-Neg
emit_node-returns-in-Neg below c =
    let a = t.neg (tree c.in-Neg.a.value) in
    let held : holds_field a ≡ true = rw (c.in-Neg.is, of.tree_neg c.in-Neg.a) at c.requires in
    rw (c.in-Neg.is, of.tree_neg c.in-Neg.a)
    (record {
      items = code_held c.args.fields.now a (code c.args.fields.now (tree c.in-Neg.a.value) ++ op.Negate ∷ []) c.emit_after-in-Neg.result (reverse c.emit_after-in-Neg.new.ops.items) (reverse c.args.ops.now.items) held refl (rw c.deref-in-Neg.ensures at c.emit_after-in-Neg.ensures.items);
      depth = depth_held a (depth (tree c.in-Neg.a.value)) c.emit_after-in-Neg.result held refl (rw c.deref-in-Neg.ensures at c.emit_after-in-Neg.ensures.depth);
      some = c.emit_after-in-Neg.ensures.some;
      len = c.emit_after-in-Neg.ensures.len;
    })

pub emit_node-returns-in-And : goal.emit_node-returns-in-And
emit_node-returns-in-And below c =
    let a = t.and (trees c.in-And.es) in
    let held : holds_field a ≡ true = rw (c.in-And.is, of.tree_and c.in-And.es) at c.requires in
    rw (c.in-And.is, of.tree_and c.in-And.es)
    (record {
      items = code_held c.args.fields.now a (op.Push (value.Bool true) ∷ code_each c.args.fields.now op.And (trees c.in-And.es)) c.emit_list.result (reverse c.emit_list.new.ops.items) (reverse c.args.ops.now.items) held refl c.emit_list.ensures.items;
      depth = depth_held a (suc (depth_each (trees c.in-And.es))) c.emit_list.result held refl c.emit_list.ensures.depth;
      some = c.emit_list.ensures.some;
      len = c.emit_list.ensures.len;
    })

pub emit_node-returns-in-Or : goal.emit_node-returns-in-Or
emit_node-returns-in-Or below c =
    let a = t.or (trees c.in-Or.es) in
    let held : holds_field a ≡ true = rw (c.in-Or.is, of.tree_or c.in-Or.es) at c.requires in
    rw (c.in-Or.is, of.tree_or c.in-Or.es)
    (record {
      items = code_held c.args.fields.now a (op.Push (value.Bool false) ∷ code_each c.args.fields.now op.Or (trees c.in-Or.es)) c.emit_list-in-Or.result (reverse c.emit_list-in-Or.new.ops.items) (reverse c.args.ops.now.items) held refl c.emit_list-in-Or.ensures.items;
      depth = depth_held a (suc (depth_each (trees c.in-Or.es))) c.emit_list-in-Or.result held refl c.emit_list-in-Or.ensures.depth;
      some = c.emit_list-in-Or.ensures.some;
      len = c.emit_list-in-Or.ensures.len;
    })

pub emit_node-returns-in_ok-op-in-Pattern : goal.emit_node-returns-in_ok-op-in-Pattern
emit_node-returns-in_ok-op-in-Pattern below c =
    let a = t.pattern c.in-Pattern.how (tree c.in-Pattern.a.value) c.in-Pattern.patterns in
    let held : holds_field a ≡ true = rw (c.in-Pattern.is, of.tree_pattern c.in-Pattern.how c.in-Pattern.a c.in-Pattern.patterns) at c.requires in
    rw (c.in-Pattern.is, of.tree_pattern c.in-Pattern.how c.in-Pattern.a c.in-Pattern.patterns)
    (record {
      items = code_held c.args.fields.now a (code c.args.fields.now (tree c.in-Pattern.a.value) ++ op.Pattern c.in-Pattern.how c.in-Pattern.patterns ∷ []) c.emit_after-in-Pattern.result (reverse c.emit_after-in-Pattern.new.ops.items) (reverse c.args.ops.now.items) held refl (rw (c.deref-in-Pattern.ensures, c.in_ok-op-in-Pattern.ensures) at c.emit_after-in-Pattern.ensures.items);
      depth = depth_held a (depth (tree c.in-Pattern.a.value)) c.emit_after-in-Pattern.result held refl (rw c.deref-in-Pattern.ensures at c.emit_after-in-Pattern.ensures.depth);
      some = c.emit_after-in-Pattern.ensures.some;
      len = c.emit_after-in-Pattern.ensures.len;
    })

pub emit_node-returns-in_ok-op-in-Member : goal.emit_node-returns-in_ok-op-in-Member
emit_node-returns-in_ok-op-in-Member below c =
    let a = t.member c.in-Member.fold c.in-Member.negated (tree c.in-Member.left.value) c.in-Member.list in
    let held : holds_field a ≡ true = rw (c.in-Member.is, of.tree_member c.in-Member.fold c.in-Member.negated c.in-Member.left c.in-Member.list) at c.requires in
    rw (c.in-Member.is, of.tree_member c.in-Member.fold c.in-Member.negated c.in-Member.left c.in-Member.list)
    (record {
      items = code_held c.args.fields.now a (code c.args.fields.now (tree c.in-Member.left.value) ++ op.Member c.in-Member.fold c.in-Member.negated c.in-Member.list (addresses_in c.in-Member.list) ∷ []) c.emit_after-in-Member.result (reverse c.emit_after-in-Member.new.ops.items) (reverse c.args.ops.now.items) held refl (rw (c.deref-in-Member.ensures, c.in_ok-op-in-Member.ensures) at c.emit_after-in-Member.ensures.items);
      depth = depth_held a (depth (tree c.in-Member.left.value)) c.emit_after-in-Member.result held refl (rw c.deref-in-Member.ensures at c.emit_after-in-Member.ensures.depth);
      some = c.emit_after-in-Member.ensures.some;
      len = c.emit_after-in-Member.ensures.len;
    })

pub emit_node-returns-in-Field-clause-items : goal.emit_node-returns-in-Field-clause-items
emit_node-returns-in-Field-clause-items below c = rw (c.in-Field.is, of.tree_field c.in-Field.field) c.put_field.ensures.items

pub emit_node-returns-in-Field-clause-depth : goal.emit_node-returns-in-Field-clause-depth
emit_node-returns-in-Field-clause-depth below c = rw (c.in-Field.is, of.tree_field c.in-Field.field) c.put_field.ensures.depth

pub emit_node-returns-in-Cmp : goal.emit_node-returns-in-Cmp
emit_node-returns-in-Cmp below c = record {
  items = c.emit_compare.ensures.items;
  depth = c.emit_compare.ensures.depth;
  some = c.emit_compare.ensures.some;
  len = c.emit_compare.ensures.len;
}

pub emit_node-returns-in-Math : goal.emit_node-returns-in-Math
emit_node-returns-in-Math below c =
    let a = t.math c.in-Math.how (tree c.in-Math.field-1.value) (tree c.in-Math.field-2.value) in
    let held : holds_field a ≡ true = rw (c.in-Math.is, of.tree_math c.in-Math.how c.in-Math.field-1 c.in-Math.field-2) at c.requires in
    rw (c.in-Math.is, of.tree_math c.in-Math.how c.in-Math.field-1 c.in-Math.field-2)
    (record {
      items = code_held c.args.fields.now a (code c.args.fields.now (tree c.in-Math.field-1.value) ++ (code c.args.fields.now (tree c.in-Math.field-2.value) ++ op.Math c.in-Math.how ∷ [])) c.emit_two.result (reverse c.emit_two.new.ops.items) (reverse c.args.ops.now.items) held refl (rw (c.in-Math.is, of.tree_math c.in-Math.how c.in-Math.field-1 c.in-Math.field-2) at c.emit_two.ensures.items);
      depth = depth_held a (max (depth (tree c.in-Math.field-1.value)) (suc (depth (tree c.in-Math.field-2.value)))) c.emit_two.result held refl (rw (c.in-Math.is, of.tree_math c.in-Math.how c.in-Math.field-1 c.in-Math.field-2) at c.emit_two.ensures.depth);
      some = c.emit_two.ensures.some;
      len = c.emit_two.ensures.len;
    })

pub emit_node-returns-in-Call : goal.emit_node-returns-in-Call
emit_node-returns-in-Call below c =
    let es = trees c.in-Call.args in
    let function = function_of c.in-Call.name c.in-Call.fold in
    let a = t.call c.in-Call.name c.in-Call.fold es in
    let held : holds_field a ≡ true = rw (c.in-Call.is, of.tree_call c.in-Call.name c.in-Call.fold c.in-Call.args) at c.requires in
    rw (c.in-Call.is, of.tree_call c.in-Call.name c.in-Call.fold c.in-Call.args)
    (record {
      items = code_held c.args.fields.now a (call_code (cidr_op function es) (code_first c.args.fields.now es) (plain_call function c.in-Call.fold (count_of es) (code_all c.args.fields.now es))) c.emit_call.result (reverse c.emit_call.new.ops.items) (reverse c.args.ops.now.items) held refl c.emit_call.ensures.items;
      depth = depth_held a (call_depth (cidr_op function es) (depth_first es) (plain_depth function (depth_all 0 es))) c.emit_call.result held refl c.emit_call.ensures.depth;
      some = c.emit_call.ensures.some;
      len = c.emit_call.ensures.len;
    })
