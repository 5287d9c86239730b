use Rattle.std.proofs.Common.{rules, ◌≡◌, ◌+◌, ℕ, sym, subst, arith, length}
use Rattle.eql_resume.specs.Beginnings.{AreWanted, WantedAre}
use Rattle.eql_resume.proofs.Begun.{wanted_push}
use Rattle.eql_resume.proofs.beginning.wanted_lines.Goals as goal

pub loop-shard-preserved : goal.loop-shard-preserved
loop-shard-preserved c =
    let lists = c.loop-shard.lists.items in
    let x = c.in_ok-named.field-0 in
    let count = c.loop-shard.invariant.0 in
    let at : c.loop-shard.shard ≡ 0 + length lists = omega (arith, count) in
    let are : AreWanted c.args.cut.now c.loop-shard.shard x = record { ascend = c.in_ok-named.ensures.ascend; exact = c.in_ok-named.ensures.exact } in
    let more = wanted_push c.args.cut.now 0 lists x c.loop-shard.invariant.1 (subst (λ (n : ℕ). AreWanted c.args.cut.now n x) at are) in
    let items = c.in_ok-push.ensures.items in
    (search rules, subst (WantedAre c.args.cut.now 0) (sym items) more)
