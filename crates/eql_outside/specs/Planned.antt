-- The plan that the code keeps.
use Rattle.eql_outside.specs.declared.plan.PlannedFaults.{PlannedFaults}
use Rattle.eql_outside.specs.Plans.{FaultPlan}

-- its calls, the numbers of those that fail, and the number from which on all do
abbrev pub plan_of : PlannedFaults → FaultPlan
plan_of planned = record { calls = planned.calls; fails = planned.fails.items; stop = planned.stop }
