-- Slacks.
use Rattle.std.specs.Prelude.{◌≡◌, ◌≤ℤ◌, ◌*◌, ℕ, ℤ, pos, refl, Option, Some, None, IfSome}
use Rattle.eql_laws.specs.Belows.{greatest_slack}

-- a slack in milliseconds, in nanoseconds
abbrev pub nanos_of : Option ℕ → Option ℤ
nanos_of None = None
nanos_of (Some ms) = Some (pos (ms * 1000000))

-- the greatest slack, 36,500 days in milliseconds
abbrev pub greatest_slack_ms : ℕ
greatest_slack_ms = 3153600000000

both_are_one : nanos_of (Some greatest_slack_ms) ≡ Some greatest_slack
both_are_one = refl

-- a slack in nanoseconds that runs may have
abbrev pub IsSlack : Option ℤ → Type 0
IsSlack slack = IfSome slack (λ s. (pos 0 ≤ℤ s) × (s ≤ℤ greatest_slack))
