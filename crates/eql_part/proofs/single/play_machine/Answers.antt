use Rattle.std.proofs.Common.{◌≡◌, ◌<◌, ◌++◌, ℕ, suc, List, Option, length, sym, ap, ◌∙◌, subst}
use Rattle.std.specs.Prelude.{All}
use Rattle.std.specs.Option.{option_map, option_to_list}
use Rattle.eql_values.specs.declared.order.OrderKey.{OrderKey}
use Rattle.eql_values.specs.declared.found.Match.{Match}
use Rattle.eql_values.specs.Masks.{has_stage}
use Rattle.eql_values.specs.Matching.{key_event_by}
use Rattle.eql_laws.specs.Slots.{chain_coming, slots_after}
use Rattle.eql_auto.specs.Machine.{Machine, Sequence, chains_of, slot_after, stages, tags_of}
use Rattle.eql_span_list.specs.declared.node.Ticket.{Ticket}
use Rattle.eql_span_list.specs.Entries.{HasDistinctTickets, HasTicket}
use Rattle.eql_part.specs.Links.{Differ, LeaveList, Listed, begun_by}
use Rattle.eql_part.proofs.Playing.{keyed_if_completed, if_keyed}
use Rattle.eql_part.proofs.single.play_machine.Goals as goal

pub turn-completed-requires-clause-listed : goal.turn-completed-requires-clause-listed
turn-completed-requires-clause-listed g c =
    let tag = c.in_ok-begun.begun in let put = c.args.list.now ++ begun_by c.args.order c.args.route.now tag in
    let same = ap (λ (x : Machine Ticket). x.slots) c.in_ok-ready.ensures.ok in
    let both = c.requires.joins tag (subst HasDistinctTickets c.in_ok-begun.ensures.list c.tickets_differ.ensures) in
    subst (λ (l : List Listed). All (HasTicket l) (option_to_list tag ++ tags_of c.ready.new.self.slots)) (sym c.in_ok-begun.ensures.list)
    (subst (λ (s : List (Option (Sequence Ticket))). All (HasTicket put) (option_to_list tag ++ tags_of s)) (sym same) both.0)

pub turn-completed-requires-clause-apart : goal.turn-completed-requires-clause-apart
turn-completed-requires-clause-apart g c =
    let tag = c.in_ok-begun.begun in
    let same = ap (λ (x : Machine Ticket). x.slots) c.in_ok-ready.ensures.ok in
    let both = c.requires.joins tag (subst HasDistinctTickets c.in_ok-begun.ensures.list c.tickets_differ.ensures) in
    subst (λ (s : List (Option (Sequence Ticket))). Differ (option_to_list tag ++ tags_of s)) (sym same) both.1

pub add_match-requires-clause-keyed : goal.add_match-requires-clause-keyed
add_match-requires-clause-keyed g c =
    let ok = c.in_ok-ready.ensures.ok in
    let are : stages c.ready.new.self ≡ c.args.shape.stages = ap (λ (x : Machine Ticket). suc (length x.slots)) ok ∙ c.requires.of.stages_are in
    keyed_if_completed c.args.shape.stages c.ready.new.self.span (chains_of c.ready.new.self.slots) (key_event_by c.args.order c.args.route.now) c.args.route.now.key c.in_ok-key.key c.turn-completed.result
    c.in_ok-key.ensures.key
    (c.turn-completed.ensures.answer ∙ ap (chain_coming c.ready.new.self.span (chains_of c.ready.new.self.slots) (key_event_by c.args.order c.args.route.now)) are)

pub returns-clause-found : goal.returns-clause-found
returns-clause-found g c =
    let ok = c.in_ok-ready.ensures.ok in let key_event = key_event_by c.args.order c.args.route.now in
    let key = c.args.route.now.key in let m = c.args.shape.stages in
    let same = ap (λ (x : Machine Ticket). x.slots) ok in
    let spans = ap (λ (x : Machine Ticket). x.span) ok ∙ c.requires.of.span_is in
    let are : stages c.ready.new.self ≡ m = ap (λ (x : Machine Ticket). suc (length x.slots)) ok ∙ c.requires.of.stages_are in
    let answer : c.turn-completed.result ≡ chain_coming c.args.shape.span (chains_of c.args.machine.now.slots) key_event m =
    c.turn-completed.ensures.answer ∙ (λ i. chain_coming (spans i) (chains_of (same i)) key_event (are i)) in
    let match_of = λ (o : Option (List OrderKey)). option_map (λ (x : List OrderKey). record { key = key; chain = x }) o in
    c.add_match.ensures.items key (if_keyed (has_stage c.args.route.now.mask m) key c.in_ok-key.key c.in_ok-key.ensures.key)
    ∙ ap (λ (l : List Match). l ++ option_to_list (match_of c.turn-completed.result)) c.in_ok-key.ensures.none
    ∙ ap (λ (o : Option (List OrderKey)). option_to_list (match_of o)) answer

pub returns-clause-slots : goal.returns-clause-slots
returns-clause-slots g c = λ k low high.
    let ok = c.in_ok-ready.ensures.ok in
    let are : stages c.ready.new.self ≡ c.args.shape.stages = ap (λ (x : Machine Ticket). suc (length x.slots)) ok ∙ c.requires.of.stages_are in
    let same = ap (λ (x : Machine Ticket). x.slots) ok in
    let spans = ap (λ (x : Machine Ticket). x.span) ok ∙ c.requires.of.span_is in
    c.turn-completed.ensures.slots k low (subst (λ (n : ℕ). k < n) (sym are) high) ∙ (λ i. slots_after (spans i) (chains_of (same i)) (key_event_by c.args.order c.args.route.now) k)

pub returns-clause-played : goal.returns-clause-played
returns-clause-played g c =
    let ok = c.in_ok-ready.ensures.ok in let old = c.args.machine.now in let new = c.turn-completed.new.self in
    let tag = c.in_ok-begun.begun in let put = c.args.list.now ++ begun_by c.args.order c.args.route.now tag in
    let are : stages c.ready.new.self ≡ c.args.shape.stages = ap (λ (x : Machine Ticket). suc (length x.slots)) ok ∙ c.requires.of.stages_are in
    let same = ap (λ (x : Machine Ticket). x.slots) ok in
    let span = ap (λ (x : Machine Ticket). x.span) ok in
    record {
      begun = tag;
      span = c.turn-completed.ensures.span ∙ span;
      stages = c.turn-completed.ensures.stages ∙ ap length same;
      read = c.turn-completed.ensures.read;
      sequences = λ k low high. c.turn-completed.ensures.sequences k low (subst (λ (n : ℕ). k < n) (sym are) high)
          ∙ (λ i. slot_after (span i) tag (key_event_by c.args.order c.args.route.now) (same i) k);
      distinct = subst HasDistinctTickets c.in_ok-begun.ensures.list c.tickets_differ.ensures;
      left = subst (λ (l : List Listed). LeaveList (option_to_list tag ++ tags_of old.slots) (tags_of new.slots) l c.turn-completed.new.list) c.in_ok-begun.ensures.list
          (subst (λ (s : List (Option (Sequence Ticket))). LeaveList (option_to_list tag ++ tags_of s) (tags_of new.slots) c.list_begun.new.list c.turn-completed.new.list) same c.turn-completed.ensures.list);
    }
