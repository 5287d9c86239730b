use Rattle.std.proofs.Common.{◌≡◌, ℕ, ◌<◌, length}
use Rattle.eql_lines.specs.Found.{nothing, found_at}
use Rattle.eql_lines.proofs.read.clear.Given as goal

abbrev pub invariant-loop-i : goal.invariant-loop-i
invariant-loop-i l = (length l.slots.items ≡ length l.initial.slots.items) × ((k : ℕ) → k < l.i → found_at l.slots.items k ≡ nothing)
