use Rattle.std.proofs.Common.{◌≡◌, ◌∙◌, map, sym, ap, subst, rules, arith}
use Rattle.std.specs.Ordering.{is_lt}
use Rattle.std.proofs.lemmas.List.Sorted.{answers_always, ranks_by, IsPermutation-refl}
use Rattle.eql_values.specs.Orders.{key_cmp}
use Rattle.eql_values.specs.Totals.{key_cmp_total}
use Rattle.eql_laws.specs.Alive.{HoldersAreInOrder}
use Rattle.eql_part.specs.KeyTables.{Pendings, holders_in}
use Rattle.eql_part.specs.Rooms.{AreInKeyOrder, entries_of, lent_entry}
use Rattle.eql_part.proofs.Copied.{holders_are, if_some}
use Rattle.eql_part.proofs.Looked.{entries_sorted}
use Rattle.eql_part.proofs.Rows.{holders_in_order}
use Rattle.eql_part.proofs.keys.Keys.holders.Goals as goal

pub returns-in-Some-clause-holders : goal.returns-in-Some-clause-holders
returns-in-Some-clause-holders g c =
    let rows = c.in_ok-rows.rows.items in
    let copied = if_some c.in_ok-found.field-0 c.in-Some.found (λ found. found.items ≡ holders_in (map lent_entry rows)) c.in-Some.is c.in_ok-found.ensures.copies in
    let order = if_some c.in_ok-found.field-0 c.in-Some.found (λ found. AreInKeyOrder rows) c.in-Some.is c.in_ok-found.ensures.order in
    c.of.ensures
    ∙ holders_are (entries_of c.self.inside.machines) rows rows c.in-Some.found.items c.args.self.now.holders (c.in_ok-rows.ensures {u = tt}) (IsPermutation-refl rows) order copied
    (ap (λ (p : Pendings). p.holders) c.self.view_is)

pub returns-in-Some-clause-order : goal.returns-in-Some-clause-order
returns-in-Some-clause-order g c =
    subst HoldersAreInOrder (ap (λ (p : Pendings). p.holders) c.self.view_is ∙ sym (returns-in-Some-clause-holders g c))
    (holders_in_order (entries_of c.self.inside.machines) (entries_sorted c.self.inside.machines.rooms.items))

pub returns-clause-holders : goal.returns-clause-holders
returns-clause-holders g c =
    let rows = c.in_ok-rows.rows.items in
    let sorted = c.sort_by.new.self.items in
    let by_key = c.in_ok-sort_by.ensures.sorted (λ x y. is_lt (key_cmp (lent_entry x).0 (lent_entry y).0)) (ranks_by key_cmp_total (λ x. (lent_entry x).0)) (answers_always _ _ _ (λ f a r g h. search rules)) in
    c.of-2.ensures
    ∙ holders_are (entries_of c.self.inside.machines) rows sorted c.in_ok-found-2.found.items c.args.self.now.holders (c.in_ok-rows.ensures {u = tt}) c.sort_by.ensures.permutation
    (λ k d m. by_key k d (omega arith) m) (c.in_ok-found-2.ensures {u = tt}) (ap (λ (p : Pendings). p.holders) c.self.view_is)

pub returns-clause-order : goal.returns-clause-order
returns-clause-order g c =
    subst HoldersAreInOrder (ap (λ (p : Pendings). p.holders) c.self.view_is ∙ sym (returns-clause-holders g c))
    (holders_in_order (entries_of c.self.inside.machines) (entries_sorted c.self.inside.machines.rooms.items))
