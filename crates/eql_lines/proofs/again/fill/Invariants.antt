use Rattle.std.proofs.Common.{◌≡◌, ℕ, ◌<◌, length}
use Rattle.serde_json.specs.View.{view}
use Rattle.eql_lines.specs.Reach.{over, reach}
use Rattle.eql_lines.specs.Found.{nothing, found_at, found_all}
use Rattle.eql_lines.specs.Paths.{path_at}
use Rattle.eql_lines.proofs.again.fill.Given as goal

abbrev pub invariant-loop-i : goal.invariant-loop-i
invariant-loop-i l =
    (length l.slots.items ≡ length l.initial.slots.items)
    × ((k : ℕ) → k < l.i → found_at l.slots.items k ≡ found_all nothing (over (reach (view l.value)) (path_at l.paths.items k)))
