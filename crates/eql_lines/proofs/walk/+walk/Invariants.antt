use Rattle.std.proofs.Common.{◌≡◌, ℕ, ◌+◌, ◌*◌, ◌≤◌, List, length, false}
use Rattle.json.specs.Json.{items, members, value, parse_map}
use Rattle.serde_json.specs.Data.{Data, Members, no_items, no_members}
use Rattle.serde_json.specs.Read.{of_items, of_members, converted}
use Rattle.eql_lines.specs.Reach.{reach_items, reach_members}
use Rattle.eql_lines.specs.Places.{in_set}
use Rattle.eql_lines.specs.Paths.{rest_at, Gains}
use Rattle.eql_lines.specs.Steps.{active_at}
use Rattle.eql_lines.proofs.Reading.{items_before}
use Rattle.eql_lines.proofs.Walking.{Untouched}
use Rattle.eql_lines.proofs.walk.+walk.Given as goal

abbrev pub decreases-walk_value : goal.decreases-walk_value
decreases-walk_value l = 3 * l.depth + 1

abbrev pub decreases-walk_member : goal.decreases-walk_member
decreases-walk_member l = 3 * l.depth + 1

abbrev pub decreases-walk_on : goal.decreases-walk_on
decreases-walk_on l = 3 * l.depth

abbrev pub decreases-walk_items : goal.decreases-walk_items
decreases-walk_items l = 3 * l.depth + 2

abbrev pub decreases-walk_members : goal.decreases-walk_members
decreases-walk_members l = 3 * l.depth + 2

abbrev pub invariant-walk_items-items : goal.invariant-walk_items-items
invariant-walk_items-items l =
    (n : ℕ) × (before : List Data) × (length l.reader ≤ n)
    × (converted of_items (items (value l.depth) (length l.initial.reader) l.initial.reader) ≡ parse_map (items_before before) (converted of_items (items (value l.depth) n l.reader)))
    × (length l.reader ≤ length l.initial.reader)
    × (length l.slots.items ≡ length l.initial.slots.items)
    × Gains l.stops.paths.paths.items (active_at l.stops.table.stops.items l.stop) (reach_items (items_before before no_items)) l.initial.slots.items l.slots.items

abbrev pub decreases-walk_items-items : goal.decreases-walk_items-items
decreases-walk_items-items l = length l.reader

abbrev pub invariant-walk_members-members : goal.invariant-walk_members-members
invariant-walk_members-members l =
    (n : ℕ) × (old : Members) × (length l.reader ≤ n)
    × (converted (λ ms. of_members ms no_members) (members (value l.depth) (length l.initial.reader) l.initial.reader) ≡ converted (λ ms. of_members ms old) (members (value l.depth) n l.reader))
    × (length l.reader ≤ length l.initial.reader)
    × (length l.slots.items ≡ length l.initial.slots.items)
    × Gains l.stops.paths.paths.items (active_at l.stops.table.stops.items l.stop) (reach_members old) l.initial.slots.items l.slots.items
    × ((i : ℕ) → in_set l.taken i ≡ false → Untouched (rest_at l.stops.paths.paths.items (active_at l.stops.table.stops.items l.stop) i) old)

abbrev pub decreases-walk_members-members : goal.decreases-walk_members-members
decreases-walk_members-members l = length l.reader
