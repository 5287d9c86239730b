use Rattle.std.proofs.Common.{◌≡◌, ◌+◌, ◌++◌, ◌∷◌, [], List, take, sym, ap, ◌∙◌, subst, arith}
use Rattle.std.specs.Prelude.{Err}
use Rattle.std.proofs.lemmas.List.{take_more}
use Rattle.eql_conductor.specs.Going.{RunResult}
use Rattle.eql_hub_run.specs.Beside.{stop_rank}
use Rattle.eql_hub_run.specs.Gathers.{IsLeastOf, stop_of_fault}
use Rattle.eql_hub_run.specs.Workers.{WorkerView}
use Rattle.eql_hub_run.proofs.Least.{least_moves, least_stays, none_before, some_behind}
use Rattle.eql_hub_run.proofs.gathering.told.Goals as goal
use Rattle.eql_hub_run.proofs.gathering.told.Goals.{in-Some+then-order_of, in-Some+else-order_of, in_default}

pub loop-worker-preserved : goal.loop-worker-preserved
loop-worker-preserved g c =
    let some = take c.loop-worker.worker-index c.args.workers.now in
    let worker = c.worker-item.result in
    let was = c.loop-worker.invariant in
    let met_is : worker.met ≡ c.worker.inside.met = sym (ap (λ (w : WorkerView _ _). w.met) c.worker.view_is) in
    let more : take (c.loop-worker.worker-index + 1) c.args.workers.now ≡ some ++ worker ∷ [] =
    take_more c.args.workers.now c.loop-worker.worker-index worker c.loop-worker-test.true ∙ ap (λ (w : WorkerView _ _). some ++ w ∷ []) (sym c.worker-item.is) in
    subst (λ (l : List (WorkerView _ _)). IsLeastOf c.args.ended l c.match-worker.answer) (sym more)
    (elim c.match-worker.branch [
      | in-Some+then-order_of w ↦
          let rank_is : w.order_of.result ≡ stop_rank (stop_of_fault w.in-Some.met) = w.order_of.ensures ∙ ap stop_rank w.stop_of-by.ensures in
          subst (λ (answer : RunResult). IsLeastOf c.args.ended (some ++ worker ∷ []) answer) (sym (w.answer-is ∙ ap Err w.stop_of-by.ensures))
          (least_moves c.args.ended some worker c.loop-worker.answer w.in-Some.met was (met_is ∙ w.in-Some.is)
          (let a = w.order_of-in-Some.ensures in let b = w.if-order_of.true in omega (arith, rank_is, a, b)))
      | in-Some+else-order_of w ↦
          let rank_is : w.order_of.result ≡ stop_rank (stop_of_fault w.in-Some.met) = w.order_of.ensures ∙ ap stop_rank w.stop_of-by.ensures in
          subst (λ (answer : RunResult). IsLeastOf c.args.ended (some ++ worker ∷ []) answer) (sym w.answer-is)
          (least_stays c.args.ended some worker c.loop-worker.answer was
          (some_behind c.args.ended c.loop-worker.answer worker w.in-Some.met (met_is ∙ w.in-Some.is)
          (let a = w.order_of-in-Some.ensures in let b = w.if-order_of.false in omega (arith, rank_is, a, b))))
      | in_default w ↦
          subst (λ (answer : RunResult). IsLeastOf c.args.ended (some ++ worker ∷ []) answer) (sym w.answer-is)
          (least_stays c.args.ended some worker c.loop-worker.answer was
          (none_before c.args.ended c.loop-worker.answer worker (met_is ∙ w.in_default.is)))
    ])
