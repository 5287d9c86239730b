use Rattle.std.proofs.Common.{◌≡◌, drop}
use Rattle.serde_json.specs.View.{items_view, members_view}
use Rattle.eql_lines.specs.Reach.{reach_items, reach_members}
use Rattle.eql_lines.specs.Found.{found_of, found_all}
use Rattle.eql_lines.proofs.again.+again.Given as goal

-- what is found with all that is left is what is found with all

abbrev pub invariant-reach_all-loop-item : goal.invariant-reach_all-loop-item
invariant-reach_all-loop-item l =
    found_all (found_of l.slot) (reach_items (items_view (drop l.item-index l.item-items)) l.path) ≡ found_all (found_of l.initial.slot) (reach_items (items_view l.item-items) l.path)

abbrev pub invariant-reach_each-loop-key : goal.invariant-reach_each-loop-key
invariant-reach_each-loop-key l =
    found_all (found_of l.slot) (reach_members (members_view l.key-iterator) l.path) ≡ found_all (found_of l.initial.slot) (reach_members (members_view l.members.entries) l.path)
