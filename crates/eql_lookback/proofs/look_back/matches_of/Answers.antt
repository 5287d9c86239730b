use Rattle.std.proofs.Common.{◌<◌, ◌∙◌, length, arith, ap, sym}
use Rattle.eql_lookback.specs.Places.{match_at}
use Rattle.eql_lookback.proofs.Along.{matched_more, grown, grown_some, grown_none}
use Rattle.eql_lookback.proofs.look_back.matches_of.Goals as goal
use Rattle.eql_lookback.proofs.look_back.matches_of.Goals.{in-None, in-Some+in_ok-push-in-Some}

pub loop-i-preserved : goal.loop-i-preserved
loop-i-preserved c =
    let one = c.index-all-i.result in
    let found = c.index-chains-i.result in
    let lt : c.loop-i.i < length c.args.all.now = omega arith in
    let more = matched_more c.args.all.now c.args.chains.now c.loop-i.i one found lt (omega arith) c.index-all-i.is c.index-chains-i.is in
    let there = sym (c.in_ok-match_of.ensures {u = tt}) in
    grown _ _ _ _ (match_at one found) c.loop-i.invariant more (elim c.match-branch-2.branch [
      | in-Some+in_ok-push-in-Some w ↦ grown_some _ _ _ w.in-Some.one (there ∙ w.in-Some.is) (ap (λ v. v.items) w.found-is ∙ w.in_ok-push-in-Some.ensures.items)
      | in-None w ↦ grown_none _ _ _ (there ∙ w.in-None.is) (ap (λ v. v.items) w.found-is)
    ])
