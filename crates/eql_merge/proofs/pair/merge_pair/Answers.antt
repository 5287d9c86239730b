use Rattle.std.proofs.Common.{◌++◌, List, sym, subst}
use Rattle.eql_merge.proofs.Pairs.{MergesOn, one_more}
use Rattle.eql_merge.proofs.pair.merge_pair.Goals as goal

pub loop-value-preserved : goal.loop-value-preserved
loop-value-preserved g c =
    let R = g.T.Ranked.rank in
    let whole = c.args.earlier ++ c.args.later in
    let left = c.take_first.new.earlier in
    let right = c.take_first.new.later in
    record {
      on = subst (λ (m : List g.row.T.Denot). MergesOn R whole m left right) (sym (c.in_ok-push.ensures.items))
          (one_more R g.met.T.Ranked.total c.in-Some.value whole c.loop-value.merged.items c.loop-value.earlier c.loop-value.later left right
          c.in-Some.ensures.some c.loop-value.invariant.on);
    }
