use Rattle.std.proofs.Common.{◌≤◌, ℕ, length, sym, ◌∙◌, subst}
use Rattle.std.specs.BTreeMap.{get}
use Rattle.eql_values.specs.Orders.{key_cmp}
use Rattle.eql_part.specs.Indexed.{under_of}
use Rattle.eql_part.specs.KeyTables.{Pendings, holders_in}
use Rattle.eql_part.specs.Rooms.{entries_of}
use Rattle.eql_part.proofs.Busy.{machines_few}
use Rattle.eql_part.proofs.Looked.{entries_sorted, housed_count}
use Rattle.eql_part.proofs.keys.Keys.machines.Goals as goal

pub returns : goal.returns
returns g c =
    let t = c.self.inside.machines in let es = entries_of t in
    subst (λ (p : Pendings). c.len.result ≤ length p.holders) c.self.view_is
    (subst (λ (n : ℕ). n ≤ length (holders_in es))
    (sym (c.len.ensures ∙ sym (housed_count (under_of t.by_hash) (get key_cmp t.others) t.rooms.items c.self.invariant.table.housed)))
    (machines_few es (entries_sorted t.rooms.items) c.self.invariant.busy))
