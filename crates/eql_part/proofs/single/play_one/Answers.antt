use Rattle.std.proofs.Common.{◌≡◌, ◌<◌, ◌≤◌, ◌∷◌, [], ℕ, suc, List, Option, refl, sym, ap, ◌∙◌, subst}
use Rattle.std.specs.Prelude.{IfSome}
use Rattle.std.specs.Option.{option_to_list}
use Rattle.std.proofs.lemmas.List.Elements.{All-cons, All-nil}
use Rattle.eql_values.specs.declared.order.OrderKey.{OrderKey}
use Rattle.eql_values.specs.Matching.{key_event_by}
use Rattle.eql_laws.specs.Slots.{slots_after}
use Rattle.eql_auto.specs.Machine.{AllAreBefore}
use Rattle.eql_span_list.specs.declared.node.Ticket.{Ticket}
use Rattle.eql_part.specs.Rooms.{entries_of}
use Rattle.eql_part.specs.KeyTables.{IsIdle, slots_in}
use Rattle.eql_part.specs.Routed.{match_there}
use Rattle.eql_part.proofs.Alone.{none_of}
use Rattle.eql_part.proofs.Busy.{busy_after}
use Rattle.eql_part.proofs.Idle.{slots_stay}
use Rattle.eql_part.proofs.Onward.{linked_alike}
use Rattle.eql_part.proofs.Playing.{one_on}
use Rattle.eql_part.proofs.Rows.{Row}
use Rattle.eql_part.proofs.Turned.{slots_alike}
use Rattle.eql_part.proofs.single.play_one.Goals as goal

pub play_there-requires-clause-later : goal.play_there-requires-clause-later
play_there-requires-clause-later g c = λ key k.
    let es = entries_of c.args.machines.now in let one = entries_of c.room_for.new.machines in
    subst (λ (o : Option (List OrderKey)). IfSome o (AllAreBefore c.args.order)) (sym (slots_alike es one key k c.room_for.ensures.sequences)) (c.requires.later key k)

pub play_there-requires-clause-linked : goal.play_there-requires-clause-linked
play_there-requires-clause-linked g c =
    linked_alike (entries_of c.args.machines.now) (entries_of c.room_for.new.machines) [] c.args.list.now c.room_for.ensures.sequences c.requires.linked

pub returns-in-None-clause-slots : goal.returns-in-None-clause-slots
returns-in-None-clause-slots g c = λ key k lt.
    let es = entries_of c.args.machines.now in let new = entries_of c.room_for.new.machines in let route = c.args.route.now in
    let none = none_of (IsIdle es route × (new ≡ es)) c.in_ok-room_for.field-0 c.in-None.is (c.in_ok-room_for.ensures {u = tt}).none in
    ap (λ (l : List (Row Ticket)). slots_in l key (suc k)) none.1
    ∙ slots_stay c.args.shape.span es c.args.order (route ∷ []) (All-cons (IsIdle es) route [] none.0 (All-nil (IsIdle es))) key (suc k)

pub returns-in-Ok-clause-busy : goal.returns-in-Ok-clause-busy
returns-in-Ok-clause-busy g c =
    busy_after (entries_of c.args.machines.now) (entries_of c.settle.new.machines) c.args.route.now.key
    (λ q ne. c.settle.ensures.others q ne ∙ c.play_there.ensures.others q ne ∙ c.room_for.ensures.others q ne) c.settle.ensures.busy (λ q ne. c.requires.busy q)

pub returns-in-Ok-clause-slots : goal.returns-in-Ok-clause-slots
returns-in-Ok-clause-slots g c = λ key k lt.
    let route = c.args.route.now in let es = entries_of c.args.machines.now in let one = entries_of c.room_for.new.machines in let two = entries_of c.play_there.new.machines in
    let m = c.args.shape.stages in let span = c.args.shape.span in let key_event = key_event_by c.args.order route in
    let moved = λ (j : ℕ) (low : 1 ≤ j) (high : j < m). c.in-Ok.ensures.slots j low high ∙ (λ i. slots_after span (λ n. slots_alike es one route.key n c.room_for.ensures.sequences i) key_event j) in
    slots_alike two (entries_of c.settle.new.machines) key (suc k) c.settle.ensures.sequences
    ∙ one_on m span c.args.order route [] es two refl (λ q ne. c.play_there.ensures.others q ne ∙ c.room_for.ensures.others q ne) moved key k lt

pub returns-in-Ok-clause-found : goal.returns-in-Ok-clause-found
returns-in-Ok-clause-found g c =
    let route = c.args.route.now in let es = entries_of c.args.machines.now in let one = entries_of c.room_for.new.machines in
    c.in-Ok.ensures.found
    ∙ (λ i. option_to_list (match_there c.args.shape.stages c.args.shape.span (λ q j. slots_alike es one q j c.room_for.ensures.sequences i) c.args.order route))

pub returns-in-Ok-clause-linked : goal.returns-in-Ok-clause-linked
returns-in-Ok-clause-linked g c =
    linked_alike (entries_of c.play_there.new.machines) (entries_of c.settle.new.machines) [] c.play_there.new.list c.settle.ensures.sequences c.play_there.ensures.linked

pub returns-in-Err-clause-busy : goal.returns-in-Err-clause-busy
returns-in-Err-clause-busy g c =
    busy_after (entries_of c.args.machines.now) (entries_of c.drop_empty_at.new.machines) c.args.route.now.key
    (λ q ne. c.drop_empty_at.ensures.others q ne ∙ c.play_there.ensures.others q ne ∙ c.room_for.ensures.others q ne) c.drop_empty_at.ensures.busy (λ q ne. c.requires.busy q)

pub returns-in-Err-clause-linked : goal.returns-in-Err-clause-linked
returns-in-Err-clause-linked g c =
    linked_alike (entries_of c.play_there.new.machines) (entries_of c.drop_empty_at.new.machines) [] c.play_there.new.list c.drop_empty_at.ensures.sequences c.play_there.ensures.linked

pub returns-in-Err-clause-unchanged : goal.returns-in-Err-clause-unchanged
returns-in-Err-clause-unchanged g c = λ q k.
    c.drop_empty_at.ensures.sequences q k ∙ c.in-Err.ensures.unchanged q k ∙ c.room_for.ensures.sequences q k
