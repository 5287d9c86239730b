use Rattle.std.proofs.Common.{◌≡◌, suc, ◌+◌, ◌-◌, arith, sym, subst}
use Rattle.eql_cut.specs.Formats.{times}
use Rattle.eql_cut.proofs.Times.{with_front, front_more}
use Rattle.eql_cut.proofs.lists.read_times.Goals as goal

pub loop-i-preserved : goal.loop-i-preserved
loop-i-preserved g c =
    let read = (g.T.Coded.format c.args.of).read in
    let whole = times read c.args.count c.args.from.now.left.now in
    let n : c.args.count - c.loop-i.i ≡ suc (c.args.count - (c.loop-i.i + 1)) = omega arith in
    let inv : with_front c.loop-i.items.items (times read (suc (c.args.count - (c.loop-i.i + 1))) c.loop-i.from.left.now) ≡ whole =
    subst (λ k. with_front c.loop-i.items.items (times read k c.loop-i.from.left.now) ≡ whole) n c.loop-i.invariant in
    subst (λ xs. with_front xs (times read (c.args.count - (c.loop-i.i + 1)) c.read.new.from.left.now) ≡ whole) (sym c.in_ok-push.ensures.items)
    (front_more read c.loop-i.items.items (c.args.count - (c.loop-i.i + 1)) c.in_ok-read.field-0 c.loop-i.from.left.now c.read.new.from.left.now whole inv c.in_ok-read.ensures)
