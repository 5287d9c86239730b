use Rattle.std.proofs.Common.{◌≡◌, length}
use Rattle.eql_lines.specs.Reach.{Scalar}
use Rattle.eql_lines.specs.Found.{one, found_by}
use Rattle.eql_lines.proofs.Adding.{Added}
use Rattle.eql_lines.proofs.paths.Paths.add.Given as goal

abbrev pub invariant-loop-place : goal.invariant-loop-place
invariant-loop-place l =
    (length l.slots.items ≡ length l.initial.slots.items)
    × ((s : Scalar) → found_by l.seen l.text ≡ one s → Added l.self.paths.items l.active s l.initial.slots.items l.slots.items l.left)

abbrev pub decreases-loop-place : goal.decreases-loop-place
decreases-loop-place l = l.left.bits
