use Rattle.std.proofs.Common.{◌≡◌, ◌∙◌, ap, subst, length, arith, ℕ, sym, IfOk, []}
use Rattle.std.specs.Prelude.{All}
use Rattle.eql_values.specs.Matching.{matches}
use Rattle.eql_lookback.specs.RoutedEvents.{routed_events}
use Rattle.eql_lookback.specs.Places.{ChainAscends, chains_at, matches_at}
use Rattle.eql_lookback.proofs.Along.{length-chains_at}
use Rattle.eql_lookback.proofs.Whole.{all_made, chains_ascend}
use Rattle.eql_lookback.proofs.look_back.find.Goals as goal

pub matches_of-requires-clause-each : goal.matches_of-requires-clause-each
matches_of-requires-clause-each c =
    ap length c.deref-4.ensures.value
    ∙ ap length c.loop-stage.invariant
    ∙ length-chains_at c.args.span c.loop-stage.stage [] c.in_ok-all.all.items
    ∙ sym (ap length c.deref-3.ensures.value)

pub matches_of-requires-clause-ascend : goal.matches_of-requires-clause-ascend
matches_of-requires-clause-ascend c =
    let a : c.in_ok-all.all.items ≡ routed_events c.args.items.now = cc (c.in_ok-all.ensures {u = tt}) in
    let e : c.deref-4.result.now ≡ chains_at c.args.span c.loop-stage.stage [] (routed_events c.args.items.now) =
    c.deref-4.ensures.value ∙ c.loop-stage.invariant ∙ ap (chains_at c.args.span c.loop-stage.stage []) a in
    subst (All ChainAscends) (sym e) (chains_ascend c.chains_ascend.ensures.matches c.loop-stage.stage c.args.span c.args.items.now c.requires.ascending)

pub returns : goal.returns
returns c =
    let a : c.in_ok-all.all.items ≡ routed_events c.args.items.now = cc (c.in_ok-all.ensures {u = tt}) in
    let m : c.loop-stage.stage ≡ c.args.stages = omega arith in
    let e : c.deref-4.result.now ≡ chains_at c.args.span c.loop-stage.stage [] (routed_events c.args.items.now) =
    c.deref-4.ensures.value ∙ c.loop-stage.invariant ∙ ap (chains_at c.args.span c.loop-stage.stage []) a in
    let whole : matches_at c.deref-3.result.now c.deref-4.result.now ≡ matches c.args.stages c.args.span [] c.args.items.now =
    (λ i. matches_at ((c.deref-3.ensures.value ∙ a) i) (e i))
    ∙ all_made c.loop-stage.stage c.args.span c.args.items.now c.requires.ascending
    ∙ ap (λ (n : ℕ). matches n c.args.span [] c.args.items.now) m in
    subst (λ x. IfOk c.matches_of.result (λ found. found ≡ x)) whole c.matches_of.ensures
