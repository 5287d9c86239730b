use Rattle.std.proofs.Common.{◌≡◌, ◌≤◌, [], ℕ, Bool, List, Option, length, sym, ap, ◌∙◌, subst}
use Rattle.std.specs.Prelude.{IfSome}
use Rattle.std.specs.Option.{option_map, option_to_list}
use Rattle.std.proofs.lemmas.Result.{IfOk-weaker, on_err_weaker, on_ok_weaker}
use Rattle.eql_values.specs.Matching.{key_event_by}
use Rattle.eql_laws.specs.Slots.{chain_coming, slots_after}
use Rattle.eql_auto.specs.Machine.{Machine, AllAreBefore, tags_of}
use Rattle.eql_span_list.specs.declared.node.Ticket.{Ticket}
use Rattle.eql_part.specs.KeyTables.{IsOf, sequences_in, slots_of}
use Rattle.eql_part.specs.Links.{IsLinked, Listed}
use Rattle.eql_part.specs.Played.{IsPlayed}
use Rattle.eql_part.specs.Rooms.{entries_of}
use Rattle.eql_part.proofs.Onward.{linked_alike}
use Rattle.eql_part.proofs.Alone.{joins, played_linked, played_of, room_is_of}
use Rattle.eql_part.proofs.Emptied.{either}
use Rattle.eql_part.proofs.Tables.{found_by, with_machine, within_len, written_at, written_of}
use Rattle.eql_part.proofs.Turned.{found_of, later_slots, replaced_keeps}
use Rattle.eql_part.proofs.single.play_there.Goals as goal

pub index_mut-room-requires : goal.index_mut-room-requires
index_mut-room-requires g c = within_len c.args.shape.stages c.args.shape.span c.args.machines.now c.args.route.now.key c.args.place c.requires.table c.requires.there

pub play_machine-requires-clause-of : goal.play_machine-requires-clause-of
play_machine-requires-clause-of g c =
    let m = c.args.shape.stages in let span = c.args.shape.span in let t = c.args.machines.now in let key = c.args.route.now.key in let room = c.index_mut-room.result.now in
    found_of m span (entries_of t) key room.machine c.requires.of (found_by m span t key c.args.place room c.requires.table c.requires.there c.index_mut-room.ensures.value)

pub play_machine-requires-clause-later : goal.play_machine-requires-clause-later
play_machine-requires-clause-later g c =
    let m = c.args.shape.stages in let span = c.args.shape.span in let t = c.args.machines.now in let key = c.args.route.now.key in let room = c.index_mut-room.result.now in
    let found = found_by m span t key c.args.place room c.requires.table c.requires.there c.index_mut-room.ensures.value in
    later_slots c.args.order room.machine (subst (λ (o : Option (Machine Ticket)). (k : ℕ) → IfSome (slots_of o k) (AllAreBefore c.args.order)) found (c.requires.later key))

pub play_machine-requires-clause-joins : goal.play_machine-requires-clause-joins
play_machine-requires-clause-joins g c =
    let m = c.args.shape.stages in let span = c.args.shape.span in let t = c.args.machines.now in let key = c.args.route.now.key in let room = c.index_mut-room.result.now in
    joins m span (entries_of t) c.args.order c.args.route.now c.args.list.now room.machine c.requires.of c.requires.later c.requires.linked
    (found_by m span t key c.args.place room c.requires.table c.requires.there c.index_mut-room.ensures.value)

pub returns : goal.returns
returns g c =
    let m = c.args.shape.stages in let span = c.args.shape.span in let t = c.args.machines.now in let key = c.args.route.now.key in let room = c.index_mut-room.result.now in
    let w = c.play_machine.new.machine in let machine = room.machine in let r = c.play_machine.result in let es = entries_of t in let now = with_machine m span t c.args.place room w in let new = entries_of now in
    let key_event = key_event_by c.args.order c.args.route.now in
    let written = written_at m span t key c.args.place room w c.requires.table c.requires.there c.index_mut-room.ensures.value in
    let found = written.found in let is_of = found_of m span es key machine c.requires.of found in
    let list = c.args.list.now in let after = c.play_machine.new.list in
    let Played : Type 0 = IsPlayed m c.args.order c.args.route.now machine w list after in
    let Same : Type 0 = (ready : Bool) × (w ≡ record machine { is_ready = ready }) × (after ≡ list) in
    let keeps = λ (same : Same). replaced_keeps es new key w machine (ap (λ (x : Machine Ticket). x.slots) same.1) found written.change in
    record {
      of = written_of m span t key c.args.place room w written c.requires.of
          (either r Played Same (IsOf m span w) c.play_machine.ensures.played c.play_machine.ensures.unchanged
          (λ played. played_of m span es c.args.order c.args.route.now list machine c.requires.of c.requires.later c.requires.linked found w after played)
          (λ same. room_is_of m span machine w same.0 same.1 is_of));
      table = written.table;
      there = written.placed;
      others = written.others;
      slots = on_ok_weaker r
          (λ slots k low high. ap (λ (o : Option (Machine Ticket)). slots_of o k) written.own ∙ slots k low high ∙ sym (ap (λ (o : Option (Machine Ticket)). slots_after span (slots_of o) key_event k) found))
          c.play_machine.ensures.slots;
      found = IfOk-weaker r _ _
          (λ played is. is
          ∙ sym (ap (λ (o : Option (Machine Ticket)). option_to_list (option_map (λ chain. record { key = key; chain = chain }) (chain_coming span (slots_of o) key_event m))) found))
          c.play_machine.ensures.found;
      empty = IfOk-weaker r _ _ (λ played is yes. subst (λ o. IfSome o (λ (x : Machine Ticket). tags_of x.slots ≡ [])) (sym written.own) (is yes)) c.play_machine.ensures.empty;
      busy = IfOk-weaker r _ _ (λ played is no. subst (λ o. IfSome o (λ (x : Machine Ticket). 1 ≤ length (tags_of x.slots))) (sym written.own) (is no)) c.play_machine.ensures.busy;
      unchanged = on_err_weaker r keeps c.play_machine.ensures.unchanged;
      linked = either r Played Same (IsLinked [] (sequences_in new) after) c.play_machine.ensures.played c.play_machine.ensures.unchanged
          (λ played. played_linked m span es c.args.order c.args.route.now list machine c.requires.of c.requires.later c.requires.linked found w after played new written.own written.others)
          (λ same. subst (λ (l : List Listed). IsLinked [] (sequences_in new) l) (sym same.2) (linked_alike es new [] list (keeps same) c.requires.linked));
      probes = c.play_machine.ensures.probes;
    }
