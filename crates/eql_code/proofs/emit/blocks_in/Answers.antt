use Rattle.std.proofs.Common.{sym, ◌∙◌}
use Rattle.eql_code.proofs.Emitting.{no_blocks, one_block, no_block, all_blocks}
use Rattle.eql_code.proofs.emit.blocks_in.Goals as goal

pub loop-expr-init : goal.loop-expr-init
loop-expr-init c = no_blocks c.in_ok-items.items.items _ c.in_ok-items.ensures.items

pub loop-expr-preserved : goal.loop-expr-preserved
loop-expr-preserved c =
    one_block c.args.exprs.now c.loop-expr.expr-index c.expr-item.result c.in-Some.block c.loop-expr.items.items c.push.new.self.items _
    c.loop-expr-test.true c.expr-item.is (sym c.in-Some.is ∙ c.block_of.ensures) c.in_ok-push-in-Some.ensures.items c.loop-expr.invariant

pub returns-in-None : goal.returns-in-None
returns-in-None c =
    no_block c.args.exprs.now c.loop-expr.expr-index c.expr-item.result c.loop-expr.items.items _
    c.loop-expr-test.true c.expr-item.is (sym c.in-None.is ∙ c.block_of.ensures) c.loop-expr.invariant

pub returns : goal.returns
returns c = all_blocks c.args.exprs.now c.loop-expr.expr-index c.loop-expr.items.items c.of.result _ c.loop-expr-test.false c.of.ensures c.loop-expr.invariant
