use Rattle.std.proofs.Common.{◌≡◌, ◌<◌, ◌≤◌, ◌-◌, ℕ, length}
use Rattle.eql_lines.specs.Paths.{path_at}
use Rattle.eql_lines.specs.Steps.{IsTable, IsOpen, rest_on}
use Rattle.eql_lines.proofs.steps.Table.of.Given as goal

abbrev pub invariant-loop-from : goal.invariant-loop-from
invariant-loop-from l =
    IsTable l.paths.paths.items l.table × (l.from ≤ length l.table.stops.items) × ((n : ℕ) → n < l.from → IsOpen l.paths.paths.items l.table n) × (0 < length l.table.stops.items)
    × ((i : ℕ) → rest_on l.paths.paths.items l.table 0 i ≡ path_at l.paths.paths.items i)

abbrev pub decreases-loop-from : goal.decreases-loop-from
decreases-loop-from l = 4096 - l.from
