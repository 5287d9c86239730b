use Rattle.std.proofs.Common.{◌≡◌, ℕ, [], length}
use Rattle.eql_lines.specs.Steps.{row_at}
use Rattle.eql_lines.proofs.steps.empty_rows.Given as goal

abbrev pub invariant-loop-row : goal.invariant-loop-row
invariant-loop-row l = (length l.rows.items ≡ l._row) × ((j : ℕ) → row_at l.rows.items j ≡ [])
