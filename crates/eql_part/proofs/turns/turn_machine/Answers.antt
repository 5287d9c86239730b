use Rattle.std.proofs.Common.{◌<◌, ◌≤◌, ◌+◌, ◌++◌, ℕ, suc, List, Option, refl, sym, ap, ◌∙◌, subst, arith}
use Rattle.std.specs.Prelude.{All, IfSome}
use Rattle.std.specs.Option.{option_to_list}
use Rattle.eql_values.specs.Matching.{key_event_by}
use Rattle.eql_laws.specs.Slots.{chain_coming, slots_after}
use Rattle.eql_auto.specs.Machine.{Machine, AllAreBefore, tags_of}
use Rattle.eql_span_list.specs.declared.node.Ticket.{Ticket}
use Rattle.eql_span_list.specs.Entries.{HasTicket}
use Rattle.eql_part.specs.Rooms.{entries_of}
use Rattle.eql_part.specs.KeyTables.{IsOf, machine_of, probes_of, slots_of}
use Rattle.eql_part.specs.Links.{Differ, LeaveList, begun_by}
use Rattle.eql_part.proofs.Tables.{absent_at, found_by, with_machine, within_len, written_at, written_of}
use Rattle.eql_part.proofs.Differing.{differ_permutation, differ_right}
use Rattle.eql_part.proofs.Emptied.{none_ready}
use Rattle.eql_part.proofs.Onward.{all_listed, all_differ, linked_onward}
use Rattle.eql_part.proofs.Stepped.{past_slots, after_comes, same_start, still_filled, begun_tickets, begun_here}
use Rattle.eql_part.proofs.Turned.{found_of, later_slots, ready_is}
use Rattle.eql_part.proofs.turns.turn_machine.Goals as goal
use Rattle.std.proofs.lemmas.List.Sorted.{IsPermutation-sym}

pub turn-requires-clause-later : goal.turn-requires-clause-later
turn-requires-clause-later g c =
    let found = found_by c.args.shape.stages c.args.shape.span c.args.machines.now c.args.route.now.key c.in-Some.place c.index_mut.result.now c.requires.table (sym c.place.ensures ∙ c.in-Some.is) c.index_mut.ensures.value in
    later_slots c.args.order c.index_mut.result.now.machine (subst (λ (o : Option (Machine Ticket)). (k : ℕ) → IfSome (slots_of o k) (AllAreBefore c.args.order)) found c.requires.later)

pub turn-requires-clause-listed : goal.turn-requires-clause-listed
turn-requires-clause-listed g c =
    let found = found_by c.args.shape.stages c.args.shape.span c.args.machines.now c.args.route.now.key c.in-Some.place c.index_mut.result.now c.requires.table (sym c.place.ensures ∙ c.in-Some.is) c.index_mut.ensures.value in
    subst (λ (l : List Ticket). All (HasTicket c.args.list.now) (l ++ tags_of c.index_mut.result.now.machine.slots)) (begun_tickets c.args.order c.args.route.now c.args.tag)
    (all_listed (entries_of c.args.machines.now) c.args.route.now.key c.index_mut.result.now.machine found (begun_by c.args.order c.args.route.now c.args.tag) c.requires.linked.0 c.args.list.now c.requires.linked.1)

pub turn-requires-clause-apart : goal.turn-requires-clause-apart
turn-requires-clause-apart g c =
    let found = found_by c.args.shape.stages c.args.shape.span c.args.machines.now c.args.route.now.key c.in-Some.place c.index_mut.result.now c.requires.table (sym c.place.ensures ∙ c.in-Some.is) c.index_mut.ensures.value in
    let of = found_of c.args.shape.stages c.args.shape.span (entries_of c.args.machines.now) c.args.route.now.key c.index_mut.result.now.machine c.requires.of found in
    subst (λ (l : List Ticket). Differ (l ++ tags_of c.index_mut.result.now.machine.slots)) (begun_tickets c.args.order c.args.route.now c.args.tag)
    (all_differ (entries_of c.args.machines.now) c.args.route.now.key c.index_mut.result.now.machine found (begun_by c.args.order c.args.route.now c.args.tag) c.requires.linked.0 c.args.list.now c.requires.linked.1 of.differ)

pub returns-clause-of : goal.returns-clause-of
returns-clause-of g c =
    let w = c.turn.new.self in let machine = c.index_mut.result.now.machine in
    let found = found_by c.args.shape.stages c.args.shape.span c.args.machines.now c.args.route.now.key c.in-Some.place c.index_mut.result.now c.requires.table (sym c.place.ensures ∙ c.in-Some.is) c.index_mut.ensures.value in
    let of = found_of c.args.shape.stages c.args.shape.span (entries_of c.args.machines.now) c.args.route.now.key machine c.requires.of found in
    let leave = c.turn.ensures.list in
    let now : IsOf c.args.shape.stages c.args.shape.span w = record {
      span_is = c.turn.ensures.span ∙ of.span_is;
      stages_are = ap suc c.turn.ensures.stages ∙ of.stages_are;
      read = c.turn.ensures.read;
      differ = differ_right leave.0 (tags_of w.slots)
          (differ_permutation (option_to_list c.args.tag ++ tags_of machine.slots) (leave.0 ++ tags_of w.slots) (IsPermutation-sym (leave.0 ++ tags_of w.slots) (option_to_list c.args.tag ++ tags_of machine.slots) leave.1)
          (subst (λ (l : List Ticket). Differ (l ++ tags_of machine.slots)) (begun_tickets c.args.order c.args.route.now c.args.tag)
          (all_differ (entries_of c.args.machines.now) c.args.route.now.key machine found (begun_by c.args.order c.args.route.now c.args.tag) c.requires.linked.0 c.args.list.now c.requires.linked.1 of.differ)));
      filled = λ k s is.
          let past = past_slots w.slots k s is in
          let len = c.turn.ensures.stages in
          still_filled c.args.route.now.key machine.slots of.filled c.args.order c.args.tag s
          (after_comes c.args.order c.args.tag machine.slots s machine.span (key_event_by c.args.order c.args.route.now) k refl (sym (c.turn.ensures.sequences k past.0 (omega arith)) ∙ is));
    } in
    written_of c.args.shape.stages c.args.shape.span c.args.machines.now c.args.route.now.key c.in-Some.place c.index_mut.result.now w (written_at c.args.shape.stages c.args.shape.span c.args.machines.now c.args.route.now.key c.in-Some.place c.index_mut.result.now w c.requires.table (sym c.place.ensures ∙ c.in-Some.is) c.index_mut.ensures.value) c.requires.of
    (now)

pub returns-clause-linked : goal.returns-clause-linked
returns-clause-linked g c = λ begun linked.
    let w = c.turn.new.self in let machine = c.index_mut.result.now.machine in
    let found = found_by c.args.shape.stages c.args.shape.span c.args.machines.now c.args.route.now.key c.in-Some.place c.index_mut.result.now c.requires.table (sym c.place.ensures ∙ c.in-Some.is) c.index_mut.ensures.value in
    let of = found_of c.args.shape.stages c.args.shape.span (entries_of c.args.machines.now) c.args.route.now.key machine c.requires.of found in
    let updated = written_at c.args.shape.stages c.args.shape.span c.args.machines.now c.args.route.now.key c.in-Some.place c.index_mut.result.now w c.requires.table (sym c.place.ensures ∙ c.in-Some.is) c.index_mut.ensures.value in
    let news = begun_by c.args.order c.args.route.now c.args.tag in
    linked_onward (entries_of c.args.machines.now) (entries_of (with_machine c.args.shape.stages c.args.shape.span c.args.machines.now c.in-Some.place c.index_mut.result.now w)) c.args.route.now.key machine w news begun c.args.list.now c.turn.new.list
    found updated.own updated.others (begun_here c.args.order c.args.route.now c.args.tag)
    (λ k s is.
    let past = past_slots w.slots k s is in
    let len = c.turn.ensures.stages in
    same_start c.args.route.now.key machine.slots of.filled c.args.order c.args.route.now c.args.tag s refl
    (after_comes c.args.order c.args.tag machine.slots s machine.span (key_event_by c.args.order c.args.route.now) k refl (sym (c.turn.ensures.sequences k past.0 (omega arith)) ∙ is)))
    (subst (λ (l : List Ticket). LeaveList (l ++ tags_of machine.slots) (tags_of w.slots) c.args.list.now c.turn.new.list) (sym (begun_tickets c.args.order c.args.route.now c.args.tag)) c.turn.ensures.list)
    of.differ c.tickets_differ.ensures linked

pub unreachable-requires : goal.unreachable-requires
unreachable-requires g c =
    let m = c.args.shape.stages in let span = c.args.shape.span in let t = c.args.machines.now in let key = c.args.route.now.key in
    none_ready (entries_of t) key (absent_at m span t key c.requires.table (sym c.place.ensures ∙ c.in-None.is)) c.requires.ready

pub index_mut-requires : goal.index_mut-requires
index_mut-requires g c =
    within_len c.args.shape.stages c.args.shape.span c.args.machines.now c.args.route.now.key c.in-Some.place c.requires.table (sym c.place.ensures ∙ c.in-Some.is)

pub turn-requires-clause-ready : goal.turn-requires-clause-ready
turn-requires-clause-ready g c =
    let m = c.args.shape.stages in let span = c.args.shape.span in let t = c.args.machines.now in let key = c.args.route.now.key in let machine = c.index_mut.result.now.machine in
    ready_is (machine_of (entries_of t) key) machine (found_by m span t key c.in-Some.place c.index_mut.result.now c.requires.table (sym c.place.ensures ∙ c.in-Some.is) c.index_mut.ensures.value) c.requires.ready

pub turn-requires-clause-read : goal.turn-requires-clause-read
turn-requires-clause-read g c =
    let m = c.args.shape.stages in let span = c.args.shape.span in let t = c.args.machines.now in let key = c.args.route.now.key in let machine = c.index_mut.result.now.machine in
    let found = found_by m span t key c.in-Some.place c.index_mut.result.now c.requires.table (sym c.place.ensures ∙ c.in-Some.is) c.index_mut.ensures.value in let of = found_of m span (entries_of t) key machine c.requires.of found in
    of.read

pub turn-requires-clause-few : goal.turn-requires-clause-few
turn-requires-clause-few g c =
    let m = c.args.shape.stages in let span = c.args.shape.span in let t = c.args.machines.now in let key = c.args.route.now.key in let machine = c.index_mut.result.now.machine in
    let found = found_by m span t key c.in-Some.place c.index_mut.result.now c.requires.table (sym c.place.ensures ∙ c.in-Some.is) c.index_mut.ensures.value in let of = found_of m span (entries_of t) key machine c.requires.of found in
    let are = of.stages_are in let few = c.requires.to in omega (arith, are, few)

pub returns-clause-table : goal.returns-clause-table
returns-clause-table g c =
    let m = c.args.shape.stages in let span = c.args.shape.span in let t = c.args.machines.now in let key = c.args.route.now.key in let machine = c.index_mut.result.now.machine in
    let w = c.turn.new.self in
    let written = written_at m span t key c.in-Some.place c.index_mut.result.now w c.requires.table (sym c.place.ensures ∙ c.in-Some.is) c.index_mut.ensures.value in
    written.table

pub returns-clause-others : goal.returns-clause-others
returns-clause-others g c =
    let m = c.args.shape.stages in let span = c.args.shape.span in let t = c.args.machines.now in let key = c.args.route.now.key in let machine = c.index_mut.result.now.machine in
    let w = c.turn.new.self in
    let written = written_at m span t key c.in-Some.place c.index_mut.result.now w c.requires.table (sym c.place.ensures ∙ c.in-Some.is) c.index_mut.ensures.value in
    written.others

pub returns-clause-slots : goal.returns-clause-slots
returns-clause-slots g c = λ k low high.
    let m = c.args.shape.stages in let span = c.args.shape.span in let t = c.args.machines.now in let key = c.args.route.now.key in let machine = c.index_mut.result.now.machine in
    let w = c.turn.new.self in
    let written = written_at m span t key c.in-Some.place c.index_mut.result.now w c.requires.table (sym c.place.ensures ∙ c.in-Some.is) c.index_mut.ensures.value in
    let found = written.found in let of = found_of m span (entries_of t) key machine c.requires.of found in
    ap (λ (o : Option (Machine Ticket)). slots_of o k) written.own
    ∙ c.turn.ensures.slots k low (subst (λ (n : ℕ). k < n) (sym of.stages_are) high)
    ∙ (λ i. slots_after (of.span_is i) (slots_of (sym found i)) (key_event_by c.args.order c.args.route.now) k)

pub returns-clause-answer : goal.returns-clause-answer
returns-clause-answer g c =
    let m = c.args.shape.stages in let span = c.args.shape.span in let t = c.args.machines.now in let key = c.args.route.now.key in let machine = c.index_mut.result.now.machine in
    let found = found_by m span t key c.in-Some.place c.index_mut.result.now c.requires.table (sym c.place.ensures ∙ c.in-Some.is) c.index_mut.ensures.value in let of = found_of m span (entries_of t) key machine c.requires.of found in
    c.turn.ensures.answer ∙ (λ i. chain_coming (of.span_is i) (slots_of (sym found i)) (key_event_by c.args.order c.args.route.now) (of.stages_are i))

pub returns-clause-probes : goal.returns-clause-probes
returns-clause-probes g c =
    let m = c.args.shape.stages in let span = c.args.shape.span in let t = c.args.machines.now in let key = c.args.route.now.key in let machine = c.index_mut.result.now.machine in
    let found = found_by m span t key c.in-Some.place c.index_mut.result.now c.requires.table (sym c.place.ensures ∙ c.in-Some.is) c.index_mut.ensures.value in let of = found_of m span (entries_of t) key machine c.requires.of found in
    subst (λ (n : ℕ). c.turn.new.steps ≤ c.args.steps.now + probes_of n c.args.route.now) of.stages_are c.turn.ensures.probes
