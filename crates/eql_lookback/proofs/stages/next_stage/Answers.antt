use Rattle.std.proofs.Common.{arith, ◌∙◌, ◌++◌, ◌∷◌, [], take, suc, length, ◌<◌, ap, sym}
use Rattle.std.specs.BTreeMap.{get}
use Rattle.eql_values.specs.Orders.{key_cmp}
use Rattle.eql_lookback.specs.RoutedEvents.{back_over}
use Rattle.eql_lookback.proofs.Along.{chains_at_more, length-chains_at, chain_at_place, followed_at, passed}
use Rattle.eql_lookback.proofs.stages.next_stage.Goals as goal

pub bounds-chains-i : goal.bounds-chains-i
bounds-chains-i c =
    omega (arith, ap length c.requires.these, length-chains_at c.args.span c.args.stage [] c.args.all.now)

pub loop-i-preserved : goal.loop-i-preserved
loop-i-preserved c =
    let all = c.args.all.now in
    let i = c.loop-i.i in
    let one = c.index-all-i.result in
    let lt : i < length all = omega arith in
    record {
      next =
          c.in_ok-push.ensures.items
          ∙ (λ j. c.loop-i.invariant.next j
          ++ followed_at c.chain_step.ensures c.args.span c.args.stage (back_over (take i all) []) one (get key_cmp c.loop-i.pending one.key) c.in_ok-chain.chain c.requires.from (c.loop-i.invariant.pending one.key) c.in_ok-chain.ensures j
          ∷ [])
          ∙ sym (chains_at_more c.args.span (suc c.args.stage) all i one lt c.index-all-i.is);
      pending = λ key.
          passed c.args.span c.args.stage c.slot_step.ensures c.chain_step.ensures all i one c.index-chains-i.result key (get key_cmp c.loop-i.pending key) (get key_cmp c.pass.new.pending key) lt c.index-all-i.is
          (chain_at_place c.args.span c.args.stage all c.args.chains.now i one c.index-chains-i.result c.requires.these lt c.index-all-i.is c.index-chains-i.is)
          (c.loop-i.invariant.pending key) (c.in_ok-pass.ensures {u = tt} key);
    }
