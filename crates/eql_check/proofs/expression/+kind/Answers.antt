use Rattle.std.proofs.Common.{◌≡◌, ◌+◌, ◌∷◌, inl, inr, map, drop, refl, ap, sym, ◌∙◌, arith}
use Rattle.std.proofs.lemmas.List.{at_drop_more}
use Rattle.std.proofs.lemmas.Result.{err_from_is_err_and}
use Rattle.std.proofs.lemmas.Grind.{common_steps}
use Rattle.eql_query.specs.View.{tree, trees, trees_of}
use Rattle.eql_check.specs.Kinds.{kind_at}
use Rattle.eql_check.specs.FirstBroken.{and_more, kind_of, kinds_of}
use Rattle.eql_check.specs.Answers.{bools_of, kinds_before, with_bool}
use Rattle.eql_check.proofs.Answering.{by_same, refused_argument, refused_bind, refused_bool, refused_call, refused_operands}
use Rattle.eql_check.proofs.Listing.{one_more_kind}
use Rattle.eql_check.proofs.Variants as of
use Rattle.std.specs.declared.result.Result.TheVariants.{Ok}
use Rattle.eql_check.proofs.expression.+kind.Goals as goal

pub operator-returns-in_err-k : goal.operator-returns-in_err-k
operator-returns-in_err-k t c =
    let p = err_from_is_err_and c.from_residual.result c.from_residual.ensures.1 in
    rw (p.1, p.2) (refused_bind (kind_of c.args.item (kind_at c.args.mapping.now) (tree c.args.a.now)) _ _ c.in_err-k.field-0.0 refl c.in_err-k.ensures)

pub member-returns-in_err-k : goal.member-returns-in_err-k
member-returns-in_err-k t c =
    let p = err_from_is_err_and c.from_residual.result c.from_residual.ensures.1 in
    rw (p.1, p.2) (refused_bind (kind_of c.args.item (kind_at c.args.mapping.now) (tree c.args.left.now)) _ _ c.in_err-k.field-0.0 refl c.in_err-k.ensures)

pub called-returns-in_err-kinds : goal.called-returns-in_err-kinds
called-returns-in_err-kinds t c =
    let p = err_from_is_err_and c.from_residual.result c.from_residual.ensures.1 in
    rw (p.1, p.2) (refused_call (kinds_of c.args.item (kind_at c.args.mapping.now) (trees c.args.args.now)) _ c.in_err-kinds.field-0.0 c.in_err-kinds.ensures)

pub connective-returns-in_err-all : goal.connective-returns-in_err-all
connective-returns-in_err-all t c =
    let p = err_from_is_err_and c.from_residual.result c.from_residual.ensures.1 in
    rw (p.1, p.2) (refused_operands c.args.item (kinds_of c.args.item (kind_at c.args.mapping.now) (trees c.args.operands.now)) c.in_err-all.field-0.0 _ refl c.in_err-all.ensures)

pub are_bools-returns-in_err-kind : goal.are_bools-returns-in_err-kind
are_bools-returns-in_err-kind t c =
    let p = err_from_is_err_and c.from_residual.result c.from_residual.ensures.1 in
    let kinds = kinds_of c.args.item (kind_at c.args.mapping.now) in
    let read = c.deref-operand-items.result.now in
    let q = kind_of c.args.item (kind_at c.args.mapping.now) (tree c.operand-item.result) in
    let rest = kinds (trees_of (map tree (drop (c.loop-operand.operand-index + 1) read))) in
    let same : with_bool c.loop-operand.all (bools_of (and_more q rest)) ≡ bools_of (kinds (trees c.args.operands.now)) =
    ap (λ y. with_bool c.loop-operand.all (bools_of (kinds (trees_of (map tree (y ∷ drop (c.loop-operand.operand-index + 1) read)))))) c.operand-item.is ∙ sym (at_drop_more (λ xs. with_bool c.loop-operand.all (bools_of (kinds (trees_of (map tree xs))))) read c.loop-operand.operand-index c.operand-item.result c.loop-operand-test.true)
    ∙ c.loop-operand.invariant ∙ ap (λ xs. bools_of (kinds (trees_of (map tree xs)))) c.deref-operand-items.ensures.value ∙ ap (λ es. bools_of (kinds es)) (sym c.items.ensures.trees) in
    rw (p.1, p.2) (refused_bool c.loop-operand.all q rest _ c.in_err-kind.field-0.0 same c.in_err-kind.ensures)

pub kinds_of-returns-in_err-kind : goal.kinds_of-returns-in_err-kind
kinds_of-returns-in_err-kind t c =
    let p = err_from_is_err_and c.from_residual-in_err-kind.result c.from_residual-in_err-kind.ensures.1 in
    let kinds = kinds_of c.args.item (kind_at c.args.mapping.now) in
    let read = c.deref-arg-items.result.now in
    let q = kind_of c.args.item (kind_at c.args.mapping.now) (tree c.arg-item.result) in
    let rest = kinds (trees_of (map tree (drop (c.loop-arg.arg-index + 1) read))) in
    let same : kinds_before c.loop-arg.items.items (and_more q rest) ≡ kinds (trees c.args.args.now) =
    ap (λ y. kinds_before c.loop-arg.items.items (kinds (trees_of (map tree (y ∷ drop (c.loop-arg.arg-index + 1) read))))) c.arg-item.is ∙ sym (at_drop_more (λ xs. kinds_before c.loop-arg.items.items (kinds (trees_of (map tree xs)))) read c.loop-arg.arg-index c.arg-item.result c.loop-arg-test.true)
    ∙ c.loop-arg.invariant ∙ ap (λ xs. kinds (trees_of (map tree xs))) c.deref-arg-items.ensures.value ∙ ap (λ es. kinds es) (sym c.items-2.ensures.trees) in
    rw (p.1, p.2) (refused_argument c.loop-arg.items.items q rest _ c.in_err-kind.field-0.0 same c.in_err-kind.ensures)

pub are_bools-loop-operand-preserved : goal.are_bools-loop-operand-preserved
are_bools-loop-operand-preserved t c = grind (arith, common_steps)

pub are_bools-returns : goal.are_bools-returns
are_bools-returns t c = grind (arith, common_steps)

pub kinds_of-returns : goal.kinds_of-returns
kinds_of-returns t c = grind (arith, common_steps)

pub called-returns : goal.called-returns
called-returns t c = grind (arith, common_steps)

pub operator-returns : goal.operator-returns
operator-returns t c = grind (arith, common_steps)

pub kinds_of-loop-arg-preserved : goal.kinds_of-loop-arg-preserved
kinds_of-loop-arg-preserved t c =
    let kinds = kinds_of c.args.item (kind_at c.args.mapping.now) in
    let read = c.deref-arg-items.result.now in
    let rest = kinds (trees_of (map tree (drop (c.loop-arg.arg-index + 1) read))) in
    ap (λ ks. kinds_before ks rest) c.in_ok-push.ensures.items
    ∙ one_more_kind c.loop-arg.items.items c.in_ok-kind.kind rest
    ∙ ap (λ r. kinds_before c.loop-arg.items.items (and_more r rest)) c.in_ok-kind.ensures
    ∙ ap (λ y. kinds_before c.loop-arg.items.items (kinds (trees_of (map tree (y ∷ drop (c.loop-arg.arg-index + 1) read))))) c.arg-item.is
    ∙ sym (at_drop_more (λ xs. kinds_before c.loop-arg.items.items (kinds (trees_of (map tree xs)))) read c.loop-arg.arg-index c.arg-item.result c.loop-arg-test.true)
    ∙ c.loop-arg.invariant

pub kind_of-returns-in-Null : goal.kind_of-returns-in-Null
kind_of-returns-in-Null t c =
    rw (c.in-Null.is, of.tree_null) refl

pub kind_of-returns-in-Bool : goal.kind_of-returns-in-Bool
kind_of-returns-in-Bool t c =
    rw (c.in-Bool.is, of.tree_bool c.in-Bool.field-0) refl

pub kind_of-returns-in-Long : goal.kind_of-returns-in-Long
kind_of-returns-in-Long t c =
    rw (c.in-Long.is, of.tree_long c.in-Long.field-0) refl

pub kind_of-returns-in-Str : goal.kind_of-returns-in-Str
kind_of-returns-in-Str t c =
    rw (c.in-Str.is, of.tree_str c.in-Str.field-0) refl

pub kind_of-returns-in-Field : goal.kind_of-returns-in-Field
kind_of-returns-in-Field t c =
    rw (c.in-Field.is, of.tree_field c.in-Field.field) c.field_kind.ensures

pub kind_of-returns-in-Not : goal.kind_of-returns-in-Not
kind_of-returns-in-Not t c =
    rw (c.in-Not.is, of.tree_not c.in-Not.a) (rw c.deref.ensures at c.operator.ensures)

pub kind_of-returns-in-Neg : goal.kind_of-returns-in-Neg
kind_of-returns-in-Neg t c =
    rw (c.in-Neg.is, of.tree_neg c.in-Neg.a) (rw c.deref-in-Neg.ensures at c.operator-in-Neg.ensures)

pub kind_of-returns-in-Pattern : goal.kind_of-returns-in-Pattern
kind_of-returns-in-Pattern t c =
    rw (c.in-Pattern.is, of.tree_pattern c.in-Pattern.field-0 c.in-Pattern.a c.in-Pattern.field-2) (rw c.deref-in-Pattern.ensures at c.operator-in-Pattern.ensures)

pub kind_of-returns-in-Call : goal.kind_of-returns-in-Call
kind_of-returns-in-Call t c =
    rw (c.in-Call.is, of.tree_call c.in-Call.name c.in-Call.fold c.in-Call.args) c.called.ensures

pub kind_of-returns-in-Member : goal.kind_of-returns-in-Member
kind_of-returns-in-Member t c =
    rw (c.in-Member.is, of.tree_member c.in-Member.fold c.in-Member.negated c.in-Member.left c.in-Member.list)
    (rw (c.deref-in-Member.ensures, c.deref-in-Member-2.ensures.value, c.items.ensures) at c.member.ensures)

pub kind_of-returns-in_ok-k-in-Math : goal.kind_of-returns-in_ok-k-in-Math
kind_of-returns-in_ok-k-in-Math t c =
    let first : kind_of c.args.item (kind_at c.args.mapping.now) (tree c.in-Math.a.value) ≡ Ok c.in_ok-j-in-Math.j = sym (rw c.deref-in-Math.ensures at c.in_ok-j-in-Math.ensures) in
    let second : kind_of c.args.item (kind_at c.args.mapping.now) (tree c.in-Math.b.value) ≡ Ok c.in_ok-k-in-Math.k = sym (rw c.deref-in-Math-2.ensures at c.in_ok-k-in-Math.ensures) in
    rw (c.in-Math.is, of.tree_math c.in-Math.field-0 c.in-Math.a c.in-Math.b, first, second) (by_same c.calculation.result _ c.calculation.ensures)

pub kind_of-returns-in_err-j-in-Math : goal.kind_of-returns-in_err-j-in-Math
kind_of-returns-in_err-j-in-Math t c =
    let p = err_from_is_err_and c.from_residual.result c.from_residual.ensures.1 in
    rw (p.1, p.2, c.in-Math.is, of.tree_math c.in-Math.field-0 c.in-Math.a c.in-Math.b)
    (refused_bind (kind_of c.args.item (kind_at c.args.mapping.now) (tree c.in-Math.a.value)) _ _ c.in_err-j-in-Math.field-0.0 refl (rw c.deref-in-Math.ensures at c.in_err-j-in-Math.ensures))

pub kind_of-returns-in_err-k-in-Math : goal.kind_of-returns-in_err-k-in-Math
kind_of-returns-in_err-k-in-Math t c =
    let p = err_from_is_err_and c.from_residual-in_err-k-in-Math.result c.from_residual-in_err-k-in-Math.ensures.1 in
    let first : kind_of c.args.item (kind_at c.args.mapping.now) (tree c.in-Math.a.value) ≡ Ok c.in_ok-j-in-Math.j = sym (rw c.deref-in-Math.ensures at c.in_ok-j-in-Math.ensures) in
    rw (p.1, p.2, c.in-Math.is, of.tree_math c.in-Math.field-0 c.in-Math.a c.in-Math.b, first)
    (refused_bind (kind_of c.args.item (kind_at c.args.mapping.now) (tree c.in-Math.b.value)) _ _ c.in_err-k-in-Math.field-0.0 refl (rw c.deref-in-Math-2.ensures at c.in_err-k-in-Math.ensures))

pub kind_of-returns-in_ok-k-in-Cmp : goal.kind_of-returns-in_ok-k-in-Cmp
kind_of-returns-in_ok-k-in-Cmp t c =
    let first : kind_of c.args.item (kind_at c.args.mapping.now) (tree c.in-Cmp.a.value) ≡ Ok c.in_ok-j-in-Cmp.j = sym (rw c.deref-in-Cmp.ensures at c.in_ok-j-in-Cmp.ensures) in
    let second : kind_of c.args.item (kind_at c.args.mapping.now) (tree c.in-Cmp.b.value) ≡ Ok c.in_ok-k-in-Cmp.k = sym (rw c.deref-in-Cmp-2.ensures at c.in_ok-k-in-Cmp.ensures) in
    rw (c.in-Cmp.is, of.tree_cmp c.in-Cmp.op c.in-Cmp.a c.in-Cmp.b, first, second) (by_same c.comparison.result _ (rw (c.deref-in-Cmp-3.ensures, c.deref-in-Cmp-4.ensures) at c.comparison.ensures))

pub kind_of-returns-in_err-j-in-Cmp : goal.kind_of-returns-in_err-j-in-Cmp
kind_of-returns-in_err-j-in-Cmp t c =
    let p = err_from_is_err_and c.from_residual-in_err-j-in-Cmp.result c.from_residual-in_err-j-in-Cmp.ensures.1 in
    rw (p.1, p.2, c.in-Cmp.is, of.tree_cmp c.in-Cmp.op c.in-Cmp.a c.in-Cmp.b)
    (refused_bind (kind_of c.args.item (kind_at c.args.mapping.now) (tree c.in-Cmp.a.value)) _ _ c.in_err-j-in-Cmp.field-0.0 refl (rw c.deref-in-Cmp.ensures at c.in_err-j-in-Cmp.ensures))

pub kind_of-returns-in_err-k-in-Cmp : goal.kind_of-returns-in_err-k-in-Cmp
kind_of-returns-in_err-k-in-Cmp t c =
    let p = err_from_is_err_and c.from_residual-in_err-k-in-Cmp.result c.from_residual-in_err-k-in-Cmp.ensures.1 in
    let first : kind_of c.args.item (kind_at c.args.mapping.now) (tree c.in-Cmp.a.value) ≡ Ok c.in_ok-j-in-Cmp.j = sym (rw c.deref-in-Cmp.ensures at c.in_ok-j-in-Cmp.ensures) in
    rw (p.1, p.2, c.in-Cmp.is, of.tree_cmp c.in-Cmp.op c.in-Cmp.a c.in-Cmp.b, first)
    (refused_bind (kind_of c.args.item (kind_at c.args.mapping.now) (tree c.in-Cmp.b.value)) _ _ c.in_err-k-in-Cmp.field-0.0 refl (rw c.deref-in-Cmp-2.ensures at c.in_err-k-in-Cmp.ensures))

pub kind_of-returns-in-And : goal.kind_of-returns-in-And
kind_of-returns-in-And t c =
    elim c.in-And.is [
      | inl is ↦ rw (is, of.tree_and c.in-And.operands) c.connective.ensures
      | inr is ↦ rw (is, of.tree_or c.in-And.operands) c.connective.ensures
    ]
