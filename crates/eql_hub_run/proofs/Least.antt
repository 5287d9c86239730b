-- Which of several ends is told, worker by worker.
use Rattle.std.proofs.Common.{◌≡◌, inl, inr, ◌≤◌, ◌<◌, List, [], ◌∷◌, ◌++◌, Option, None, Some, refl, sym, ap, ◌∙◌, subst, arith, append_assoc}
use Rattle.std.specs.Prelude.{IfSome, Err}
use Rattle.std.proofs.lemmas.List.Elements.{All-nil, All-push}
use Rattle.eql_conductor.specs.Going.{RunResult}
use Rattle.eql_hub.specs.declared.step.HandFault.{HandFault}
use Rattle.eql_hub_run.specs.Beside.{rank, stop_rank}
use Rattle.eql_hub_run.specs.Gathers.{IsLeastOf, stop_of_fault}
use Rattle.eql_hub_run.specs.Workers.{Has, WorkerView}
use Rattle.eql_hub_run.proofs.Hands.{has_last}

not_before : (lower answer : RunResult) (met : Option HandFault) → rank lower ≤ rank answer → IfSome met (λ (f : HandFault). rank answer ≤ stop_rank (stop_of_fault f)) → IfSome met (λ (f : HandFault). rank lower ≤ stop_rank (stop_of_fault f))
not_before lower answer None l h = tt
not_before lower answer (Some f) l h = omega (arith, l, h)

module _ {S L : Type 0} (ended : RunResult) where
  abbrev NotBefore : RunResult → WorkerView S L → Type 0
  NotBefore answer worker = IfSome worker.met (λ (met : HandFault). rank answer ≤ stop_rank (stop_of_fault met))

  abbrev Tells : RunResult → WorkerView S L → Type 0
  Tells answer worker = (met : HandFault) × (worker.met ≡ Some met) × (answer ≡ Err (stop_of_fault met))

  pub least_none : IsLeastOf {S = S} {L = L} ended [] ended
  least_none = record { least = omega arith; tie = λ e. refl; each = All-nil (NotBefore ended); from = inl refl }

  has_front : (P : WorkerView S L → Type 0) (workers : List (WorkerView S L)) (worker : WorkerView S L) → Has P workers → Has P (workers ++ worker ∷ [])
  has_front P workers worker has = record {
    front = has.front;
    one = has.one;
    back = has.back ++ worker ∷ [];
    is = ap (λ (l : List (WorkerView S L)). l ++ worker ∷ []) has.is ∙ append_assoc has.front (has.one ∷ has.back) (worker ∷ []);
    so = has.so;
  }

  -- it met nothing, or nothing that comes before
  pub least_stays : (workers : List (WorkerView S L)) (worker : WorkerView S L) (answer : RunResult) → IsLeastOf ended workers answer → NotBefore answer worker
      → IsLeastOf ended (workers ++ worker ∷ []) answer
  least_stays workers worker answer was not = record {
    least = was.least;
    tie = was.tie;
    each = All-push (NotBefore answer) workers worker was.each not;
    from = elim was.from [
      | inl e ↦ inl e
      | inr has ↦ inr (has_front (Tells answer) workers worker has)
    ];
  }

  -- it met what comes before
  pub least_moves : (workers : List (WorkerView S L)) (worker : WorkerView S L) (answer : RunResult) (met : HandFault) → IsLeastOf ended workers answer → worker.met ≡ Some met
      → stop_rank (stop_of_fault met) < rank answer → IsLeastOf ended (workers ++ worker ∷ []) (Err (stop_of_fault met))
  least_moves workers worker answer met was has below = record {
    least = let a = was.least in omega (arith, a, below);
    tie = λ e. let a = was.least in absurd (omega (arith, a, below, e));
    each = All-push (NotBefore (Err (stop_of_fault met))) workers worker
        (λ k d l. not_before (Err (stop_of_fault met)) answer _ (omega (arith, below)) (was.each k d l))
        (subst (λ (o : Option HandFault). IfSome o (λ (f : HandFault). stop_rank (stop_of_fault met) ≤ stop_rank (stop_of_fault f))) (sym has) (omega arith));
    from = inr (has_last (Tells (Err (stop_of_fault met))) workers worker (workers ++ worker ∷ []) refl (met, has, refl));
  }

  pub none_before : (answer : RunResult) (worker : WorkerView S L) → worker.met ≡ None → NotBefore answer worker
  none_before answer worker e = subst (λ (o : Option HandFault). IfSome o (λ (f : HandFault). rank answer ≤ stop_rank (stop_of_fault f))) (sym e) tt

  pub some_behind : (answer : RunResult) (worker : WorkerView S L) (met : HandFault) → worker.met ≡ Some met → rank answer ≤ stop_rank (stop_of_fault met) → NotBefore answer worker
  some_behind answer worker met e l = subst (λ (o : Option HandFault). IfSome o (λ (f : HandFault). rank answer ≤ stop_rank (stop_of_fault f))) (sym e) l
