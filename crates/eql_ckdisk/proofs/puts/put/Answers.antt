use Rattle.std.proofs.Common.{List, ℕ, drop, sym, subst}
use Rattle.eql_cut.specs.Whole.{IsText}
use Rattle.eql_ckdisk.specs.Putting.{last_cut}
use Rattle.eql_ckdisk.proofs.Answering.{told_put, told_holds, holds_stands}
use Rattle.eql_ckdisk.proofs.puts.put.Goals as goal

pub returns-in_err-put_block-clause-moments : goal.returns-in_err-put_block-clause-moments
returns-in_err-put_block-clause-moments g c =
    told_put (last_cut c.args.state.now) c.args.cut.now (drop 16 c.deref.result.now)
    (subst (λ (x : List ℕ). IsText 4 c.args.cut.now (drop 16 x)) (sym c.deref.ensures.value) c.in_ok-made.ensures.text)
    _ _ c.in_err-put_block.ensures.moments

pub returns-clause-moments : goal.returns-clause-moments
returns-clause-moments g c =
    told_put (last_cut c.args.state.now) c.args.cut.now (drop 16 c.deref.result.now)
    (subst (λ (x : List ℕ). IsText 4 c.args.cut.now (drop 16 x)) (sym c.deref.ensures.value) c.in_ok-made.ensures.text)
    _ _ c.in_ok-put_block.ensures.moments

pub returns-clause-stands : goal.returns-clause-stands
returns-clause-stands g c =
    holds_stands (last_cut c.next.result) c.args.cut.now _
    (told_holds (last_cut c.args.state.now) c.args.cut.now (drop 16 c.deref.result.now)
    (subst (λ (x : List ℕ). IsText 4 c.args.cut.now (drop 16 x)) (sym c.deref.ensures.value) c.in_ok-made.ensures.text)
    (last_cut c.next.result) _ _ c.next.ensures c.in_ok-put_block.ensures.done)

pub returns-clause-done : goal.returns-clause-done
returns-clause-done g c =
    told_holds (last_cut c.args.state.now) c.args.cut.now (drop 16 c.deref.result.now)
    (subst (λ (x : List ℕ). IsText 4 c.args.cut.now (drop 16 x)) (sym c.deref.ensures.value) c.in_ok-made.ensures.text)
    (last_cut c.next.result) _ _ c.next.ensures c.in_ok-put_block.ensures.done
