use Rattle.std.proofs.Common.{◌≡◌, List, Some, length, arith, ap, refl, sym, ◌∙◌}
use Rattle.std.proofs.lemmas.Option.{slice_get_read}
use Rattle.eql_values.specs.declared.cut.LaneCut.{LaneCut}
use Rattle.std.specs.Prelude.{slice_get}
use Rattle.std.proofs.lemmas.Grind.{common_steps}
use Rattle.std.proofs.lemmas.List.{length_push}
use Rattle.eql_lane.specs.Slacks.{nanos_of}
use Rattle.eql_replay_tests.specs.Opens.{StandsAt}
use Rattle.eql_replay_tests.proofs.Begun.{begin_more, begins_as}
use Rattle.eql_replay_tests.proofs.opening.lanes_from.Goals as goal

pub loop-cut-preserved : goal.loop-cut-preserved
loop-cut-preserved c =
    let n = length c.loop-cut.lanes.items in
    let read = c.deref-cut-items.result.now in
    let at : c.in_ok-shard.shard ≡ n = grind (arith, common_steps, c.in_ok-shard.ensures, c.len-in-loop-cut.ensures) in
    let copied : c.in_ok-clone.field-0 ≡ c.cut-item.result = c.in_ok-clone.ensures.cases in
    let there : slice_get c.args.cuts.now n ≡ Some c.cut-item.result =
    ap (λ (xs : List LaneCut). slice_get xs n) (sym (c.deref-cut-items.ensures.value ∙ c.items.ensures)) ∙ ap (slice_get read) c.loop-cut.invariant.count
    ∙ slice_get_read read (length read) c.loop-cut.cut-index c.cut-item.result refl c.loop-cut-test.true c.cut-item.is in
    record {
      begin = begin_more (nanos_of (Some c.args.slack)) (StandsAt c.args.cuts.now) c.loop-cut.lanes.items c.push.new.self.items c.in_ok-lane.lane c.loop-cut.invariant.begin
          (begins_as (nanos_of (Some c.args.slack)) _ (StandsAt c.args.cuts.now n) _ _ c.in_ok-lane.lane c.in_ok-lane.ensures at
          (λ cut is. there ∙ ap Some (sym (is ∙ copied))))
          c.in_ok-push.ensures.items;
      count = ap length c.in_ok-push.ensures.items ∙ length_push c.loop-cut.lanes.items c.in_ok-lane.lane ∙ omega (arith, c.loop-cut.invariant.count);
    }
