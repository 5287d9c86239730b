use Rattle.std.proofs.Common.{◌≡◌, ◌++◌, [], suc, List, Option, Some, None, map, length, refl, sym, ap, ◌∙◌, subst, arith, inl}
use Rattle.std.specs.Int.{w128}
use Rattle.std.proofs.lemmas.Int.{to_z-of_z}
use Rattle.std.proofs.lemmas.List.{length-map}
use Rattle.std.proofs.lemmas.List.Elements.{All-nil}
use Rattle.std.proofs.lemmas.List.Sorted.{IsPermutation-sym}
use Rattle.eql_values.specs.declared.value.Value.{Value}
use Rattle.eql_auto.specs.Machine.{Machine, Sequence, alive_in, slot_at, tags_of}
use Rattle.eql_span_list.specs.declared.node.Ticket.{Ticket}
use Rattle.eql_part.specs.Rooms.{entries_of}
use Rattle.eql_part.specs.KeyTables.{IsOf, KeepsOtherKeys, machine_of, sequence_of, sequences_in}
use Rattle.eql_part.specs.Links.{Listed}
use Rattle.eql_part.proofs.Tables.{absent_at, found_by, with_machine, within_len, written_at, written_of}
use Rattle.eql_part.proofs.Differing.{differ_permutation, differ_right}
use Rattle.eql_part.proofs.Expiring.{alive_slot, alive_was, alive_same, fewer_tags, fewer_holders, front_pending, front_slot, one_key}
use Rattle.eql_part.proofs.Looked.{entries_sorted, written}
use Rattle.eql_part.proofs.Onward.{all_listed, linked_onward}
use Rattle.eql_part.proofs.Turned.{found_of}
use Rattle.eql_part.proofs.sweeps.expire_machine.Goals as goal

pub unreachable-requires-in-None-place : goal.unreachable-requires-in-None-place
unreachable-requires-in-None-place g c =
    let first = c.in-Some.first.now in let es = (entries_of c.args.machines.now) in
    let at = (c.in-Some.ensures {u = tt}).first in
    let none : machine_of es first.key ≡ None = absent_at c.args.shape.stages c.args.shape.span c.args.machines.now first.key c.requires.table (sym c.place.ensures ∙ c.in-None-place.is) in
    let p = front_pending (sequences_in es) c.args.list.now at.0 first at.1 c.requires.linked at.2 in
    let wrong : None ≡ Some p.1 = sym (ap (λ (o : Option (Machine Ticket)). sequence_of o p.0) none) ∙ p.2 in
    cc

pub expire-requires-clause-listed : goal.expire-requires-clause-listed
expire-requires-clause-listed g c =
    let first = c.in-Some.first.now in let machine = c.index_mut.result.now.machine in let es = (entries_of c.args.machines.now) in
    let at = (c.in-Some.ensures {u = tt}).first in
    let found = found_by c.args.shape.stages c.args.shape.span c.args.machines.now c.in-Some.first.now.key c.in-Some-place.place c.index_mut.result.now c.requires.table (sym c.place.ensures ∙ c.in-Some-place.is) c.index_mut.ensures.value in
    let of = found_of c.args.shape.stages c.args.shape.span es first.key machine c.requires.of found in
    all_listed es first.key machine found [] [] c.args.list.now c.requires.linked

pub unreachable-requires-in-None-dropped : goal.unreachable-requires-in-None-dropped
unreachable-requires-in-None-dropped g c =
    let first = c.in-Some.first.now in let machine = c.index_mut.result.now.machine in let es = (entries_of c.args.machines.now) in
    let at = (c.in-Some.ensures {u = tt}).first in
    let found = found_by c.args.shape.stages c.args.shape.span c.args.machines.now c.in-Some.first.now.key c.in-Some-place.place c.index_mut.result.now c.requires.table (sym c.place.ensures ∙ c.in-Some-place.is) c.index_mut.ensures.value in
    let of = found_of c.args.shape.stages c.args.shape.span es first.key machine c.requires.of found in
    let w = c.expire.new.self in
    let slots : w.slots ≡ map (alive_in c.args.shape.span c.args.reach) machine.slots = c.expire.ensures.slots ∙ (λ i. map (alive_in (of.span_is i) (to_z-of_z w128 c.args.reach c.ranges.reach i)) machine.slots) in
    let dead = front_slot c.args.shape.span c.args.reach es machine c.args.list.now at.0 first at.1 found of.filled c.requires.linked c.requires.stale at.2 in
    let fewer = fewer_tags c.args.shape.span c.args.reach machine.slots dead.0 dead.1 dead.2 dead.3 in
    let many = ap (λ (l : List (Option (Sequence Ticket))). length (tags_of l)) slots in
    let none = (c.in-None-dropped.ensures {u = tt}).answer in
    omega arith

pub returns-clause-of : goal.returns-clause-of
returns-clause-of g c =
    let first = c.in-Some.first.now in let machine = c.index_mut.result.now.machine in let es = (entries_of c.args.machines.now) in
    let at = (c.in-Some.ensures {u = tt}).first in
    let found = found_by c.args.shape.stages c.args.shape.span c.args.machines.now c.in-Some.first.now.key c.in-Some-place.place c.index_mut.result.now c.requires.table (sym c.place.ensures ∙ c.in-Some-place.is) c.index_mut.ensures.value in
    let of = found_of c.args.shape.stages c.args.shape.span es first.key machine c.requires.of found in
    let w = c.expire.new.self in
    let slots : w.slots ≡ map (alive_in c.args.shape.span c.args.reach) machine.slots = c.expire.ensures.slots ∙ (λ i. map (alive_in (of.span_is i) (to_z-of_z w128 c.args.reach c.ranges.reach i)) machine.slots) in
    let leave = c.expire.ensures.list in
    let now : IsOf c.args.shape.stages c.args.shape.span w = record {
      span_is = c.expire.ensures.span ∙ of.span_is;
      stages_are = ap (λ (l : List (Option (Sequence Ticket))). suc (length l)) slots ∙ ap suc (length-map machine.slots (alive_in c.args.shape.span c.args.reach)) ∙ of.stages_are;
      read = c.expire.ensures.read;
      differ = differ_right leave.0 (tags_of w.slots)
          (differ_permutation (tags_of machine.slots) (leave.0 ++ tags_of w.slots) (IsPermutation-sym (leave.0 ++ tags_of w.slots) (tags_of machine.slots) leave.1) of.differ);
      filled = λ k s is. of.filled k s
          (alive_was c.args.shape.span c.args.reach (slot_at machine.slots k) s
          (sym (alive_slot c.args.shape.span c.args.reach machine.slots k) ∙ sym (ap (λ (l : List (Option (Sequence Ticket))). slot_at l k) slots) ∙ is));
    } in
    written_of c.args.shape.stages c.args.shape.span c.args.machines.now c.in-Some.first.now.key c.in-Some-place.place c.index_mut.result.now w (written_at c.args.shape.stages c.args.shape.span c.args.machines.now c.in-Some.first.now.key c.in-Some-place.place c.index_mut.result.now w c.requires.table (sym c.place.ensures ∙ c.in-Some-place.is) c.index_mut.ensures.value) c.requires.of
    (now)

pub returns-clause-others : goal.returns-clause-others
returns-clause-others g c =
    let first = c.in-Some.first.now in let machine = c.index_mut.result.now.machine in let es = (entries_of c.args.machines.now) in
    let at = (c.in-Some.ensures {u = tt}).first in
    let found = found_by c.args.shape.stages c.args.shape.span c.args.machines.now c.in-Some.first.now.key c.in-Some-place.place c.index_mut.result.now c.requires.table (sym c.place.ensures ∙ c.in-Some-place.is) c.index_mut.ensures.value in
    let of = found_of c.args.shape.stages c.args.shape.span es first.key machine c.requires.of found in
    let w = c.expire.new.self in
    let slots : w.slots ≡ map (alive_in c.args.shape.span c.args.reach) machine.slots = c.expire.ensures.slots ∙ (λ i. map (alive_in (of.span_is i) (to_z-of_z w128 c.args.reach c.ranges.reach i)) machine.slots) in
    let updated = written_at c.args.shape.stages c.args.shape.span c.args.machines.now c.in-Some.first.now.key c.in-Some-place.place c.index_mut.result.now w c.requires.table (sym c.place.ensures ∙ c.in-Some-place.is) c.index_mut.ensures.value in
    let new = (entries_of (with_machine c.args.shape.stages c.args.shape.span c.args.machines.now c.in-Some-place.place c.index_mut.result.now w)) in
    let same = one_key es first.key machine c.args.list.now c.in-Some-dropped.start found c.requires.linked c.tickets_differ.ensures (c.in-Some-dropped.ensures {u = tt}).answer in
    subst (λ (key : List Value). KeepsOtherKeys key es new) (sym same) updated.others

pub returns-clause-alive : goal.returns-clause-alive
returns-clause-alive g c =
    let first = c.in-Some.first.now in let machine = c.index_mut.result.now.machine in let es = (entries_of c.args.machines.now) in
    let at = (c.in-Some.ensures {u = tt}).first in
    let found = found_by c.args.shape.stages c.args.shape.span c.args.machines.now c.in-Some.first.now.key c.in-Some-place.place c.index_mut.result.now c.requires.table (sym c.place.ensures ∙ c.in-Some-place.is) c.index_mut.ensures.value in
    let of = found_of c.args.shape.stages c.args.shape.span es first.key machine c.requires.of found in
    let w = c.expire.new.self in
    let slots : w.slots ≡ map (alive_in c.args.shape.span c.args.reach) machine.slots = c.expire.ensures.slots ∙ (λ i. map (alive_in (of.span_is i) (to_z-of_z w128 c.args.reach c.ranges.reach i)) machine.slots) in
    let updated = written_at c.args.shape.stages c.args.shape.span c.args.machines.now c.in-Some.first.now.key c.in-Some-place.place c.index_mut.result.now w c.requires.table (sym c.place.ensures ∙ c.in-Some-place.is) c.index_mut.ensures.value in
    let new = (entries_of (with_machine c.args.shape.stages c.args.shape.span c.args.machines.now c.in-Some-place.place c.index_mut.result.now w)) in
    alive_same c.args.shape.span c.args.reach es new first.key machine w found updated.own updated.others slots

pub returns-clause-linked : goal.returns-clause-linked
returns-clause-linked g c =
    let first = c.in-Some.first.now in let machine = c.index_mut.result.now.machine in let es = (entries_of c.args.machines.now) in
    let at = (c.in-Some.ensures {u = tt}).first in
    let found = found_by c.args.shape.stages c.args.shape.span c.args.machines.now c.in-Some.first.now.key c.in-Some-place.place c.index_mut.result.now c.requires.table (sym c.place.ensures ∙ c.in-Some-place.is) c.index_mut.ensures.value in
    let of = found_of c.args.shape.stages c.args.shape.span es first.key machine c.requires.of found in
    let w = c.expire.new.self in
    let slots : w.slots ≡ map (alive_in c.args.shape.span c.args.reach) machine.slots = c.expire.ensures.slots ∙ (λ i. map (alive_in (of.span_is i) (to_z-of_z w128 c.args.reach c.ranges.reach i)) machine.slots) in
    let updated = written_at c.args.shape.stages c.args.shape.span c.args.machines.now c.in-Some.first.now.key c.in-Some-place.place c.index_mut.result.now w c.requires.table (sym c.place.ensures ∙ c.in-Some-place.is) c.index_mut.ensures.value in
    let new = (entries_of (with_machine c.args.shape.stages c.args.shape.span c.args.machines.now c.in-Some-place.place c.index_mut.result.now w)) in
    linked_onward es new first.key machine w [] [] c.args.list.now c.expire.new.list found updated.own updated.others (All-nil (λ (e : Listed). e.1.key ≡ first.key))
    (λ k s is. inl (
      k,
      s,
      alive_was c.args.shape.span c.args.reach (slot_at machine.slots k) s
          (sym (alive_slot c.args.shape.span c.args.reach machine.slots k) ∙ sym (ap (λ (l : List (Option (Sequence Ticket))). slot_at l k) slots) ∙ is),
      refl,
      refl,
    ))
    c.expire.ensures.list of.differ c.tickets_differ.ensures c.requires.linked

pub returns-clause-fewer : goal.returns-clause-fewer
returns-clause-fewer g c =
    let first = c.in-Some.first.now in let machine = c.index_mut.result.now.machine in let es = (entries_of c.args.machines.now) in
    let at = (c.in-Some.ensures {u = tt}).first in
    let found = found_by c.args.shape.stages c.args.shape.span c.args.machines.now c.in-Some.first.now.key c.in-Some-place.place c.index_mut.result.now c.requires.table (sym c.place.ensures ∙ c.in-Some-place.is) c.index_mut.ensures.value in
    let of = found_of c.args.shape.stages c.args.shape.span es first.key machine c.requires.of found in
    let w = c.expire.new.self in
    let slots : w.slots ≡ map (alive_in c.args.shape.span c.args.reach) machine.slots = c.expire.ensures.slots ∙ (λ i. map (alive_in (of.span_is i) (to_z-of_z w128 c.args.reach c.ranges.reach i)) machine.slots) in
    let dead = front_slot c.args.shape.span c.args.reach es machine c.args.list.now at.0 first at.1 found of.filled c.requires.linked c.requires.stale at.2 in
    let fewer = fewer_tags c.args.shape.span c.args.reach machine.slots dead.0 dead.1 dead.2 dead.3 in
    let many = ap (λ (l : List (Option (Sequence Ticket))). length (tags_of l)) slots in
    let now = with_machine c.args.shape.stages c.args.shape.span c.args.machines.now c.in-Some-place.place c.index_mut.result.now w in
    fewer_holders es (entries_of now) first.key machine w found
    (written first.key w machine es (entries_of now) (entries_sorted c.args.machines.now.rooms.items) (entries_sorted now.rooms.items) found (written_at c.args.shape.stages c.args.shape.span c.args.machines.now first.key c.in-Some-place.place c.index_mut.result.now w c.requires.table (sym c.place.ensures ∙ c.in-Some-place.is) c.index_mut.ensures.value).change) (omega arith)

pub index_mut-requires : goal.index_mut-requires
index_mut-requires g c =
    within_len c.args.shape.stages c.args.shape.span c.args.machines.now c.in-Some.first.now.key c.in-Some-place.place c.requires.table (sym c.place.ensures ∙ c.in-Some-place.is)

pub expire-requires-clause-read : goal.expire-requires-clause-read
expire-requires-clause-read g c =
    let m = c.args.shape.stages in let span = c.args.shape.span in let t = c.args.machines.now in let key = c.in-Some.first.now.key in let machine = c.index_mut.result.now.machine in
    let found = found_by m span t key c.in-Some-place.place c.index_mut.result.now c.requires.table (sym c.place.ensures ∙ c.in-Some-place.is) c.index_mut.ensures.value in let of = found_of m span (entries_of t) key machine c.requires.of found in
    of.read

pub expire-requires-clause-few : goal.expire-requires-clause-few
expire-requires-clause-few g c =
    let m = c.args.shape.stages in let span = c.args.shape.span in let t = c.args.machines.now in let key = c.in-Some.first.now.key in let machine = c.index_mut.result.now.machine in
    let found = found_by m span t key c.in-Some-place.place c.index_mut.result.now c.requires.table (sym c.place.ensures ∙ c.in-Some-place.is) c.index_mut.ensures.value in let of = found_of m span (entries_of t) key machine c.requires.of found in
    let are = of.stages_are in let few = c.requires.to in omega (arith, are, few)

pub expire-requires-clause-apart : goal.expire-requires-clause-apart
expire-requires-clause-apart g c =
    let m = c.args.shape.stages in let span = c.args.shape.span in let t = c.args.machines.now in let key = c.in-Some.first.now.key in let machine = c.index_mut.result.now.machine in
    let found = found_by m span t key c.in-Some-place.place c.index_mut.result.now c.requires.table (sym c.place.ensures ∙ c.in-Some-place.is) c.index_mut.ensures.value in let of = found_of m span (entries_of t) key machine c.requires.of found in
    of.differ

pub returns-clause-table : goal.returns-clause-table
returns-clause-table g c =
    let m = c.args.shape.stages in let span = c.args.shape.span in let t = c.args.machines.now in let key = c.in-Some.first.now.key in let machine = c.index_mut.result.now.machine in
    let w = c.expire.new.self in
    (written_at m span t key c.in-Some-place.place c.index_mut.result.now w c.requires.table (sym c.place.ensures ∙ c.in-Some-place.is) c.index_mut.ensures.value).table

pub returns-clause-probes : goal.returns-clause-probes
returns-clause-probes g c =
    let m = c.args.shape.stages in let span = c.args.shape.span in let t = c.args.machines.now in let key = c.in-Some.first.now.key in let machine = c.index_mut.result.now.machine in
    let found = found_by m span t key c.in-Some-place.place c.index_mut.result.now c.requires.table (sym c.place.ensures ∙ c.in-Some-place.is) c.index_mut.ensures.value in let of = found_of m span (entries_of t) key machine c.requires.of found in
    let are = of.stages_are in let probes = c.expire.ensures.probes in omega (arith, are, probes)
