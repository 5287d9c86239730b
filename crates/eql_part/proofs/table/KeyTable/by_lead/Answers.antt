use Rattle.std.specs.BTreeMap.{get}
use Rattle.std.proofs.lemmas.List.Sorted.{IsPermutation-trans}
use Rattle.eql_values.specs.Orders.{key_cmp}
use Rattle.eql_part.specs.Indexed.{under_of}
use Rattle.eql_part.specs.Rooms.{lent_entry}
use Rattle.eql_part.proofs.Sorting.{sorted_rows_are}
use Rattle.eql_part.proofs.table.KeyTable.by_lead.Goals as goal

pub returns : goal.returns
returns g c =
    let t = c.args.self.now in
    let rows = c.in_ok-rows.rows.items in
    λ sorted moved order.
    sorted_rows_are lent_entry (under_of t.by_hash) (get key_cmp t.others) t.rooms.items c.requires.housed rows sorted (c.in_ok-rows.ensures {u = tt})
    (IsPermutation-trans rows c.sort_unstable_by.new.self.items sorted c.sort_unstable_by.ensures.permutation moved) (λ k d _ m. order k d m)
