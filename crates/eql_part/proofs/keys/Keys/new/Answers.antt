use Rattle.std.proofs.Common.{List, map, subst}
use Rattle.std.specs.List.Sorted.{IsPermutation}
use Rattle.std.proofs.lemmas.List.Sorted.{All-permutation, IsPermutation-map}
use Rattle.eql_values.specs.declared.found.Holder.{Holder}
use Rattle.eql_laws.specs.Shapes.{HasStageBefore, IsFull}
use Rattle.eql_part.specs.Rooms.{entries_of}
use Rattle.eql_part.specs.Links.{slot_of}
use Rattle.eql_part.proofs.Looked.{entries_sorted}
use Rattle.eql_part.proofs.Differing.{differ_permutation}
use Rattle.eql_part.proofs.Putting.{differ_in_order, put_is, rise_sorted}
use Rattle.eql_part.proofs.Rows.{holders_in_order, looks_up}
use Rattle.eql_part.proofs.keys.Keys.new.Goals as goal

pub put_all-requires-clause-table : goal.put_all-requires-clause-table
put_all-requires-clause-table g c = c.new-machines.ensures.table c.args.m c.args.span

pub put_all-requires-clause-stages : goal.put_all-requires-clause-stages
put_all-requires-clause-stages g c =
    All-permutation (HasStageBefore c.args.m) c.args.holders c.sort_by_start.new.holders.items
    (subst (λ (l : List Holder). IsPermutation l c.sort_by_start.new.holders.items) c.into_items-holders.ensures c.sort_by_start.ensures.same) c.requires.stages

pub put_all-requires-clause-full : goal.put_all-requires-clause-full
put_all-requires-clause-full g c =
    All-permutation IsFull c.args.holders c.sort_by_start.new.holders.items
    (subst (λ (l : List Holder). IsPermutation l c.sort_by_start.new.holders.items) c.into_items-holders.ensures c.sort_by_start.ensures.same) c.requires.full

pub put_all-requires-clause-differ : goal.put_all-requires-clause-differ
put_all-requires-clause-differ g c =
    differ_permutation (map slot_of c.args.holders) (map slot_of c.sort_by_start.new.holders.items)
    (IsPermutation-map slot_of c.args.holders c.sort_by_start.new.holders.items (subst (λ (l : List Holder). IsPermutation l c.sort_by_start.new.holders.items) c.into_items-holders.ensures c.sort_by_start.ensures.same))
    (differ_in_order c.args.holders c.requires.order)

pub put_all-requires-clause-rise : goal.put_all-requires-clause-rise
put_all-requires-clause-rise g c = rise_sorted c.sort_by_start.new.holders.items (c.in_ok-sort_by_start.ensures {u = tt}).sorted

pub invariant_of-result : goal.invariant_of-result
invariant_of-result g c = record {
  from = c.requires.from;
  to = c.requires.to;
  table = c.put_all.ensures.table;
  of = c.put_all.ensures.of;
  busy = (c.in_ok-put_all.ensures {u = tt}).busy;
  linked = (c.in_ok-put_all.ensures {u = tt}).linked;
}

pub returns : goal.returns
returns g c =
    let new = (entries_of c.put_all.new.machines) in let sorted = c.sort_by_start.new.holders.items in let ok = c.in_ok-put_all.ensures {u = tt} in
    let is = put_is c.same_holders.ensures c.opening_finds.ensures c.args.holders sorted new c.requires.order (holders_in_order new (entries_sorted c.put_all.new.machines.rooms.items)) (looks_up new (entries_sorted c.put_all.new.machines.rooms.items))
    (subst (λ (l : List Holder). IsPermutation l sorted) c.into_items-holders.ensures c.sort_by_start.ensures.same) ok.there ok.no_other in
    λ i. record { stages = c.args.m; span = c.args.span; holders = is i }
