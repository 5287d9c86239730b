-- Objects of which no call is planned to fail.
use Rattle.std.specs.Prelude.{◌≡◌, ℕ, List, [], All, Option, None, Some, IsSomeAnd, refl}
use Rattle.eql_outside.specs.Outside.{file_named}
use Rattle.eql_outside.specs.Plans.{FaultPlan, plan_after_call, FailsNext, fresh_plan}

-- a plan by which no call fails
pub record FailsNever (plan : FaultPlan) : Type 0 where
  pub none : plan.fails ≡ []
  pub no_stop : plan.stop ≡ None

-- an object tells its plan, and by it no call fails
abbrev pub IsUnfailing : Option FaultPlan → Type 0
IsUnfailing plan = IsSomeAnd plan FailsNever

-- a shelf tells the plans of its sources, and by none of them a take fails
abbrev pub AreUnfailing : Option (List (List ℕ × List ℕ)) → Type 0
AreUnfailing plans = IsSomeAnd plans (λ files. All (λ file. file.1 ≡ []) files)

-- by such a plan the next call doesn't fail, and the plan stays such; so the sources of such a shelf are unfailing
pub record StaysUnfailing : Type 0 where
  pub next : (plan : FaultPlan) → FailsNever plan → ¬ FailsNext plan
  pub goes_on : (plan : FaultPlan) → FailsNever plan → FailsNever (plan_after_call plan)
  pub sources :
      (plans : List (List ℕ × List ℕ)) (name fails : List ℕ) → All (λ file. file.1 ≡ []) plans
      → file_named name plans ≡ Some fails → FailsNever (fresh_plan fails)

-- a plan with no failures, after two calls
pub after_two : IsUnfailing (Some (plan_after_call (plan_after_call (fresh_plan []))))
after_two = record { none = refl; no_stop = refl }
