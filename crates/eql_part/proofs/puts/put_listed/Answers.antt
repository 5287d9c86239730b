use Rattle.std.proofs.Common.{◌≡◌, ◌<◌, ◌≤◌, ◌-◌, suc, true, false, List, [], ◌∷◌, length, Option, Some, refl, sym, ap, ◌∙◌, subst, arith, inl, inr}
use Rattle.std.specs.List.{Contains}
use Rattle.std.specs.Option.{option_map}
use Rattle.std.proofs.lemmas.Bool.{cases_Bool}
use Rattle.std.proofs.lemmas.List.{length-set}
use Rattle.std.proofs.lemmas.List.Elements.{All-cons, All-nil}
use Rattle.std.proofs.lemmas.List.Sorted.{IsPermutation-sym, length_permutation}
use Rattle.eql_values.specs.declared.value.Value.{Value}
use Rattle.eql_values.specs.Orders.{key_eq}
use Rattle.eql_auto.specs.Machine.{Machine, Sequence, chains_of, slot_at, tags_of}
use Rattle.eql_span_list.specs.declared.node.Ticket.{Ticket}
use Rattle.eql_part.specs.declared.listing.Start.{Start}
use Rattle.eql_part.specs.Rooms.{entries_of}
use Rattle.eql_part.specs.KeyTables.{IsOf, machine_of, slots_in, slots_of}
use Rattle.eql_part.specs.Links.{Listed, first_time, start_of}
use Rattle.eql_part.proofs.Tables.{absent_at, found_by, with_machine, within_len, written_at, written_of}
use Rattle.eql_part.proofs.Busy.{keeps_busy}
use Rattle.eql_part.proofs.Differing.{differ_permutation}
use Rattle.eql_part.proofs.Emptied.{none_ready}
use Rattle.eql_part.proofs.Leaving.{without_none}
use Rattle.eql_part.proofs.Linking.{same_key}
use Rattle.eql_part.proofs.Onward.{all_differ, linked_onward}
use Rattle.eql_part.proofs.Putting.{no_chain, put_cases, put_here, put_other}
use Rattle.eql_part.proofs.Turned.{found_of, ready_is}
use Rattle.eql_part.proofs.puts.put_listed.Goals as goal

zero_below : 0 < 1
zero_below = omega arith

pub returns-clause-of : goal.returns-clause-of
returns-clause-of g c =
    let w = c.put.new.self in let machine = c.index_mut.result.now.machine in let holder = c.args.holder in let es = (entries_of c.args.machines.now) in
    let found = found_by c.args.shape.stages c.args.shape.span c.args.machines.now c.args.holder.key c.in-Some.place c.index_mut.result.now c.requires.table (sym c.place.ensures ∙ c.in-Some.is) c.index_mut.ensures.value in
    let of = found_of c.args.shape.stages c.args.shape.span es holder.key machine c.requires.of found in
    let start : Start = record { time = first_time holder.chain; key = holder.key } in let news : List Listed = (c.args.ticket, start) ∷ [] in
    let slots = ap (λ (m : Machine Ticket). m.slots) c.put.ensures.holders in
    let stage = c.requires.stage in let stages_are = of.stages_are in
    let now : IsOf c.args.shape.stages c.args.shape.span w = record {
      span_is = ap (λ (m : Machine Ticket). m.span) c.put.ensures.holders ∙ of.span_is;
      stages_are = ap (λ (l : List (Option (Sequence Ticket))). suc (length l)) slots ∙ ap suc (length-set machine.slots (holder.stage - 1) (Some (holder.chain, c.args.ticket))) ∙ of.stages_are;
      read = ap (λ (m : Machine Ticket). m.gone) c.put.ensures.holders ∙ of.read;
      differ = differ_permutation (c.args.ticket ∷ tags_of machine.slots) (tags_of w.slots) (IsPermutation-sym (tags_of w.slots) (c.args.ticket ∷ tags_of machine.slots) c.put.ensures.tags)
          (all_differ es holder.key machine found news [] c.args.list.now c.requires.linked of.differ);
      filled = λ k s is. elim (put_cases machine.slots holder.stage k (holder.chain, c.args.ticket) s stage.0 (omega arith) (sym (ap (λ (l : List (Option (Sequence Ticket))). slot_at l k) slots) ∙ is)) [
        | inl new ↦ let full = c.requires.full in let low = stage.0 in subst (λ (x : Sequence Ticket). 1 ≤ length x.0) new (omega arith)
        | inr was ↦ of.filled k s was
      ];
    } in
    written_of c.args.shape.stages c.args.shape.span c.args.machines.now c.args.holder.key c.in-Some.place c.index_mut.result.now w (written_at c.args.shape.stages c.args.shape.span c.args.machines.now c.args.holder.key c.in-Some.place c.index_mut.result.now w c.requires.table (sym c.place.ensures ∙ c.in-Some.is) c.index_mut.ensures.value) c.requires.of
    (now)

pub returns-clause-others : goal.returns-clause-others
returns-clause-others g c = λ q k ne.
    let w = c.put.new.self in let machine = c.index_mut.result.now.machine in let holder = c.args.holder in let es = (entries_of c.args.machines.now) in
    let found = found_by c.args.shape.stages c.args.shape.span c.args.machines.now c.args.holder.key c.in-Some.place c.index_mut.result.now c.requires.table (sym c.place.ensures ∙ c.in-Some.is) c.index_mut.ensures.value in
    let of = found_of c.args.shape.stages c.args.shape.span es holder.key machine c.requires.of found in
    let start : Start = record { time = first_time holder.chain; key = holder.key } in let news : List Listed = (c.args.ticket, start) ∷ [] in
    let slots = ap (λ (m : Machine Ticket). m.slots) c.put.ensures.holders in
    let stage = c.requires.stage in let stages_are = of.stages_are in
    let updated = written_at c.args.shape.stages c.args.shape.span c.args.machines.now c.args.holder.key c.in-Some.place c.index_mut.result.now w c.requires.table (sym c.place.ensures ∙ c.in-Some.is) c.index_mut.ensures.value in
    let new = (entries_of (with_machine c.args.shape.stages c.args.shape.span c.args.machines.now c.in-Some.place c.index_mut.result.now w)) in
    let by_true = λ (e : key_eq holder.key q ≡ true).
    let same = sym (same_key holder.key q e) in
    ap (λ (p : List Value). slots_in new p k) same
    ∙ ap (λ (o : Option (Machine Ticket)). slots_of o k) updated.own
    ∙ ap (λ (l : List (Option (Sequence Ticket))). chains_of l k) slots
    ∙ ap (option_map (λ (s : Sequence Ticket). s.0)) (put_other machine.slots holder.stage k (Some (holder.chain, c.args.ticket)) stage.0 (ne same))
    ∙ sym (ap (λ (o : Option (Machine Ticket)). slots_of o k) found)
    ∙ sym (ap (λ (p : List Value). slots_in es p k) same) in
    let by_false = λ (e : key_eq holder.key q ≡ false). ap (λ (o : Option (Machine Ticket)). slots_of o k) (updated.others q e) in
    elim (cases_Bool (key_eq holder.key q)) [ inl e ↦ by_true e | inr e ↦ by_false e ]

pub returns-clause-linked : goal.returns-clause-linked
returns-clause-linked g c =
    let w = c.put.new.self in let machine = c.index_mut.result.now.machine in let holder = c.args.holder in let es = (entries_of c.args.machines.now) in
    let found = found_by c.args.shape.stages c.args.shape.span c.args.machines.now c.args.holder.key c.in-Some.place c.index_mut.result.now c.requires.table (sym c.place.ensures ∙ c.in-Some.is) c.index_mut.ensures.value in
    let of = found_of c.args.shape.stages c.args.shape.span es holder.key machine c.requires.of found in
    let start : Start = record { time = first_time holder.chain; key = holder.key } in let news : List Listed = (c.args.ticket, start) ∷ [] in
    let slots = ap (λ (m : Machine Ticket). m.slots) c.put.ensures.holders in
    let stage = c.requires.stage in let stages_are = of.stages_are in
    let updated = written_at c.args.shape.stages c.args.shape.span c.args.machines.now c.args.holder.key c.in-Some.place c.index_mut.result.now w c.requires.table (sym c.place.ensures ∙ c.in-Some.is) c.index_mut.ensures.value in
    let new = (entries_of (with_machine c.args.shape.stages c.args.shape.span c.args.machines.now c.in-Some.place c.index_mut.result.now w)) in
    linked_onward es new holder.key machine w news [] c.args.list.now c.args.list.now found updated.own updated.others
    (All-cons (λ (e : Listed). e.1.key ≡ holder.key) (c.args.ticket, start) [] refl (All-nil (λ (e : Listed). e.1.key ≡ holder.key)))
    (λ k s is. elim (put_cases machine.slots holder.stage k (holder.chain, c.args.ticket) s stage.0 (omega arith) (sym (ap (λ (l : List (Option (Sequence Ticket))). slot_at l k) slots) ∙ is)) [
      | inl fresh ↦ inr (subst (λ (x : Sequence Ticket). Contains news (x.1, start_of holder.key x)) fresh (0, zero_below, refl))
      | inr was ↦ inl (k, s, was, refl, refl)
    ])
    ([], c.put.ensures.tags, without_none c.args.list.now) of.differ c.tickets_differ.ensures c.requires.linked

pub returns-clause-busy : goal.returns-clause-busy
returns-clause-busy g c =
    let w = c.put.new.self in let machine = c.index_mut.result.now.machine in let holder = c.args.holder in let es = (entries_of c.args.machines.now) in
    let found = found_by c.args.shape.stages c.args.shape.span c.args.machines.now c.args.holder.key c.in-Some.place c.index_mut.result.now c.requires.table (sym c.place.ensures ∙ c.in-Some.is) c.index_mut.ensures.value in
    let updated = written_at c.args.shape.stages c.args.shape.span c.args.machines.now c.args.holder.key c.in-Some.place c.index_mut.result.now w c.requires.table (sym c.place.ensures ∙ c.in-Some.is) c.index_mut.ensures.value in
    let many = length_permutation (tags_of w.slots) (c.args.ticket ∷ tags_of machine.slots) c.put.ensures.tags in
    keeps_busy (Some w) (machine_of (entries_of (with_machine c.args.shape.stages c.args.shape.span c.args.machines.now c.in-Some.place c.index_mut.result.now w)) holder.key) updated.own (omega arith)

pub unreachable-requires : goal.unreachable-requires
unreachable-requires g c =
    let m = c.args.shape.stages in let span = c.args.shape.span in let t = c.args.machines.now in let key = c.args.holder.key in
    none_ready (entries_of t) key (absent_at m span t key c.requires.table (sym c.place.ensures ∙ c.in-None.is)) c.requires.ready

pub index_mut-requires : goal.index_mut-requires
index_mut-requires g c =
    within_len c.args.shape.stages c.args.shape.span c.args.machines.now c.args.holder.key c.in-Some.place c.requires.table (sym c.place.ensures ∙ c.in-Some.is)

pub put-requires-clause-ready : goal.put-requires-clause-ready
put-requires-clause-ready g c =
    let m = c.args.shape.stages in let span = c.args.shape.span in let t = c.args.machines.now in let key = c.args.holder.key in let machine = c.index_mut.result.now.machine in
    ready_is (machine_of (entries_of t) key) machine (found_by m span t key c.in-Some.place c.index_mut.result.now c.requires.table (sym c.place.ensures ∙ c.in-Some.is) c.index_mut.ensures.value) c.requires.ready

pub put-requires-clause-few : goal.put-requires-clause-few
put-requires-clause-few g c =
    let m = c.args.shape.stages in let span = c.args.shape.span in let t = c.args.machines.now in let key = c.args.holder.key in let machine = c.index_mut.result.now.machine in
    let found = found_by m span t key c.in-Some.place c.index_mut.result.now c.requires.table (sym c.place.ensures ∙ c.in-Some.is) c.index_mut.ensures.value in let of = found_of m span (entries_of t) key machine c.requires.of found in
    let are = of.stages_are in let few = c.requires.to in omega (arith, are, few)

pub put-requires-clause-to : goal.put-requires-clause-to
put-requires-clause-to g c =
    let m = c.args.shape.stages in let span = c.args.shape.span in let t = c.args.machines.now in let key = c.args.holder.key in let machine = c.index_mut.result.now.machine in
    let found = found_by m span t key c.in-Some.place c.index_mut.result.now c.requires.table (sym c.place.ensures ∙ c.in-Some.is) c.index_mut.ensures.value in let of = found_of m span (entries_of t) key machine c.requires.of found in
    let are = of.stages_are in let high = c.requires.stage.1 in omega (arith, are, high)

pub put-requires-clause-empty : goal.put-requires-clause-empty
put-requires-clause-empty g c =
    let m = c.args.shape.stages in let span = c.args.shape.span in let t = c.args.machines.now in let key = c.args.holder.key in let machine = c.index_mut.result.now.machine in
    let found = found_by m span t key c.in-Some.place c.index_mut.result.now c.requires.table (sym c.place.ensures ∙ c.in-Some.is) c.index_mut.ensures.value in
    no_chain (slot_at machine.slots c.args.holder.stage) (sym (ap (λ (o : Option (Machine Ticket)). slots_of o c.args.holder.stage) found) ∙ c.requires.empty)

pub returns-clause-table : goal.returns-clause-table
returns-clause-table g c =
    let m = c.args.shape.stages in let span = c.args.shape.span in let t = c.args.machines.now in let key = c.args.holder.key in let machine = c.index_mut.result.now.machine in
    let w = c.put.new.self in
    let written = written_at m span t key c.in-Some.place c.index_mut.result.now w c.requires.table (sym c.place.ensures ∙ c.in-Some.is) c.index_mut.ensures.value in
    written.table

pub returns-clause-rest : goal.returns-clause-rest
returns-clause-rest g c =
    let m = c.args.shape.stages in let span = c.args.shape.span in let t = c.args.machines.now in let key = c.args.holder.key in let machine = c.index_mut.result.now.machine in
    let w = c.put.new.self in
    let written = written_at m span t key c.in-Some.place c.index_mut.result.now w c.requires.table (sym c.place.ensures ∙ c.in-Some.is) c.index_mut.ensures.value in
    written.others

pub returns-clause-here : goal.returns-clause-here
returns-clause-here g c =
    let m = c.args.shape.stages in let span = c.args.shape.span in let t = c.args.machines.now in let key = c.args.holder.key in let machine = c.index_mut.result.now.machine in
    let w = c.put.new.self in
    let written = written_at m span t key c.in-Some.place c.index_mut.result.now w c.requires.table (sym c.place.ensures ∙ c.in-Some.is) c.index_mut.ensures.value in
    let of = found_of m span (entries_of t) key machine c.requires.of written.found in
    let stage = c.requires.stage in let are = of.stages_are in
    ap (λ (o : Option (Machine Ticket)). slots_of o c.args.holder.stage) written.own
    ∙ ap (λ (x : Machine Ticket). chains_of x.slots c.args.holder.stage) c.put.ensures.holders
    ∙ ap (option_map (λ (s : Sequence Ticket). s.0)) (put_here machine.slots c.args.holder.stage (Some (c.args.holder.chain, c.args.ticket)) stage.0 (omega arith))
