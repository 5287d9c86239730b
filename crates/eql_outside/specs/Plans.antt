-- Planned failures: which calls of an object in memory fail.
use Rattle.std.specs.Prelude.{ℕ, ◌+◌, ◌-◌, ◌^◌, ◌≤◌, ◌⊎◌, min, List, Contains, Option, None, IsSomeAnd}

-- how many calls that can fail were made, the numbers, from 1, of those that do, and the number from which on all do
pub record FaultPlan : Type 0 where
  pub calls : ℕ
  pub fails : List ℕ
  pub stop : Option ℕ

-- no call was made yet, and all fail from a number on, if one is given
abbrev pub unstarted_until : Option ℕ → List ℕ → FaultPlan
unstarted_until stop fails = record { calls = 0; fails = fails; stop = stop }

-- no call was made yet, and none but these fails
abbrev pub fresh_plan : List ℕ → FaultPlan
fresh_plan fails = unstarted_until None fails

-- the number of the next call, which stands still at the greatest number of 64 bits
abbrev pub next_call : FaultPlan → ℕ
next_call plan = min (plan.calls + 1) (2 ^ 64 - 1)

-- one more call was made
abbrev pub plan_after_call : FaultPlan → FaultPlan
plan_after_call plan = record { calls = next_call plan; fails = plan.fails; stop = plan.stop }

-- the next call is one that fails
abbrev pub FailsNext : FaultPlan → Type 0
FailsNext plan = IsSomeAnd plan.stop (λ stop. stop ≤ next_call plan) ⊎ Contains plan.fails (next_call plan)
