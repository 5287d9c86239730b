use Rattle.std.proofs.Common.{◌≡◌, None, Some, sym, ap, ◌∙◌, subst}
use Rattle.std.proofs.lemmas.Option.{same_Some}
use Rattle.eql_lock_row.specs.Rows.{joined_views}
use Rattle.eql_hub.specs.Hands.{HandView, IsHandOf}
use Rattle.eql_hub_run.specs.Workers.{WorkerView}
use Rattle.eql_hub_run.proofs.Joins.{did, taken_more, taken_none}
use Rattle.eql_hub_run.proofs.gathering.join_all.Goals as goal

pub loop-worker-init : goal.loop-worker-init
loop-worker-init g c = taken_none c.args.hub.now c.args.workers.items c.args.hand.now c.requires.own c.requires.first

pub unreachable-requires : goal.unreachable-requires
unreachable-requires g c =
    let one =
    did c.args.hub.now c.args.workers.items c.loop-worker.workers.items c.pop.new.self.items c.in-Some.worker c.args.hand.now c.loop-worker.hand
    c.loop-worker.invariant c.in-Some.ensures.items c.requires.played in
    let has : c.in-Some.worker.hand ≡ Some one.0 = one.1 in
    let none : c.in-Some.worker.hand ≡ None = sym (ap (λ (w : WorkerView _ _). w.hand) c.worker.view_is) ∙ c.in-None.is in
    absurd (let e = sym has ∙ none in cc)

pub join_hand-requires-clause-own : goal.join_hand-requires-clause-own
join_hand-requires-clause-own g c =
    let one =
    did c.args.hub.now c.args.workers.items c.loop-worker.workers.items c.pop.new.self.items c.in-Some.worker c.args.hand.now c.loop-worker.hand
    c.loop-worker.invariant c.in-Some.ensures.items c.requires.played in
    let has : c.in-Some.worker.hand ≡ Some c.in-Some-hand.other = sym (ap (λ (w : WorkerView _ _). w.hand) c.worker.view_is) ∙ c.in-Some-hand.is in
    let same : one.0 ≡ c.in-Some-hand.other = same_Some one.0 c.in-Some-hand.other (sym one.1 ∙ has) in (
      c.loop-worker.invariant.whole.own,
      subst (IsHandOf c.args.hub.now) (same ∙ sym c.in-Some-hand.other-is) one.2.own,
    )

pub loop-worker-preserved : goal.loop-worker-preserved
loop-worker-preserved g c =
    let has : c.in-Some.worker.hand ≡ Some c.in-Some-hand.other = sym (ap (λ (w : WorkerView _ _). w.hand) c.worker.view_is) ∙ c.in-Some-hand.is in
    taken_more c.args.hub.now c.args.workers.items c.loop-worker.workers.items c.pop.new.self.items c.in-Some.worker c.args.hand.now c.loop-worker.hand
    c.loop-worker.invariant c.in-Some.ensures.items c.requires.played c.in-Some-hand.other c.join_hand.new.hand has c.join_hand.ensures.own
    (c.join_hand.ensures.lanes ∙ ap (λ (h : HandView _ _). joined_views c.loop-worker.hand.lanes.views h.lanes.views) c.in-Some-hand.other-is)
    (c.join_hand.ensures.parts ∙ ap (λ (h : HandView _ _). joined_views c.loop-worker.hand.parts.views h.parts.views) c.in-Some-hand.other-is)
    c.join_hand.ensures.seen
