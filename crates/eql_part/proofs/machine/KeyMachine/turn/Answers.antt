use Rattle.std.proofs.Common.{◌≡◌, ◌+◌, ◌<◌, ◌≤◌, ℕ, ◌++◌, IsPermutation, if◌then◌else◌, length, sym, ap, ◌∙◌, subst, arith}
use Rattle.std.specs.Prelude.{All}
use Rattle.std.specs.Option.{option_to_list}
use Rattle.std.proofs.lemmas.List.{length-append}
use Rattle.eql_values.specs.Matching.{key_event_by}
use Rattle.eql_laws.specs.Slots.{chain_coming, slots_after}
use Rattle.eql_auto.specs.Machine.{Machine, chains_of, slot_after, slot_at, stages, stages_in, tags_of}
use Rattle.eql_span_list.specs.declared.node.Ticket.{Ticket}
use Rattle.eql_span_list.specs.Entries.{HasTicket}
use Rattle.eql_part.specs.Links.{Differ}
use Rattle.eql_part.proofs.Probed.{probes_by}
use Rattle.eql_part.proofs.Tagging.{tags_few, tag_byte, tag_most, gone_all, gone_differ, gone_count}
use mir.Val.{bool_byte}
use Rattle.eql_part.proofs.machine.KeyMachine.turn.Goals as goal

pub take_off-taken-requires-clause-listed : goal.take_off-taken-requires-clause-listed
take_off-taken-requires-clause-listed g c =
    let tag = option_to_list c.args.tag in
    gone_all c.turn-completed.new.self.gone (tags_of c.turn-completed.new.self.slots) (tag ++ tags_of c.self.inside.auto.slots) c.turn-completed.ensures.gone (HasTicket c.args.list.now)
    (subst (λ (m : Machine Ticket). All (HasTicket c.args.list.now) (tag ++ tags_of m.slots)) (sym c.self.view_is) c.requires.listed)

pub take_off-taken-requires-clause-apart : goal.take_off-taken-requires-clause-apart
take_off-taken-requires-clause-apart g c =
    let tag = option_to_list c.args.tag in
    gone_differ c.turn-completed.new.self.gone (tags_of c.turn-completed.new.self.slots) (tag ++ tags_of c.self.inside.auto.slots) c.turn-completed.ensures.gone
    (subst (λ (m : Machine Ticket). Differ (tag ++ tags_of m.slots)) (sym c.self.view_is) c.requires.apart)

pub take_off-taken-requires-clause-few : goal.take_off-taken-requires-clause-few
take_off-taken-requires-clause-few g c =
    let tag = option_to_list c.args.tag in
    let count = gone_count c.turn-completed.new.self.gone (tags_of c.turn-completed.new.self.slots) (tag ++ tags_of c.self.inside.auto.slots) c.turn-completed.ensures.gone in
    let both = length-append tag (tags_of c.self.inside.auto.slots) in
    let most = tag_most c.args.tag in
    let seen = ap (λ (m : Machine Ticket). length m.slots) c.self.view_is in
    let few = tags_few c.self.inside.auto.slots in
    let few_stages = c.requires.few in
    omega arith

pub overflow_add-self : goal.overflow_add-self
overflow_add-self g c =
    let more = tag_byte c.args.tag c.from.result (c.from.ensures ∙ ap bool_byte c.is_some.ensures) in
    let most = tag_most c.args.tag in
    let seen = ap (λ (m : Machine Ticket). length m.slots) c.self.view_is in
    let few = tags_few c.self.inside.auto.slots in
    let few_stages = c.requires.few in
    let pending = c.self.invariant in
    omega arith

pub overflow_sub-self : goal.overflow_sub-self
overflow_sub-self g c =
    let tag = option_to_list c.args.tag in
    let count = gone_count c.turn-completed.new.self.gone (tags_of c.turn-completed.new.self.slots) (tag ++ tags_of c.self.inside.auto.slots) c.turn-completed.ensures.gone in
    let both = length-append tag (tags_of c.self.inside.auto.slots) in
    let more = tag_byte c.args.tag c.from.result (c.from.ensures ∙ ap bool_byte c.is_some.ensures) in
    let taken = c.take_off-taken.ensures.count in
    let pending = c.self.invariant in
    omega arith

pub invariant_of-self : goal.invariant_of-self
invariant_of-self g c =
    let tag = option_to_list c.args.tag in
    let count = gone_count c.turn-completed.new.self.gone (tags_of c.turn-completed.new.self.slots) (tag ++ tags_of c.self.inside.auto.slots) c.turn-completed.ensures.gone in
    let both = length-append tag (tags_of c.self.inside.auto.slots) in
    let more = tag_byte c.args.tag c.from.result (c.from.ensures ∙ ap bool_byte c.is_some.ensures) in
    let taken = c.take_off-taken.ensures.count in
    let pending = c.self.invariant in
    let same = ap (λ (m : Machine Ticket). length (tags_of m.slots)) c.take_off-taken.ensures.machine in
    omega arith

pub returns-clause-sequences : goal.returns-clause-sequences
returns-clause-sequences g c = λ k low high.
    ap (λ (m : Machine Ticket). slot_at m.slots k) c.take_off-taken.ensures.machine
    ∙ subst (λ (m : Machine Ticket). (j : ℕ) → 1 ≤ j → j < stages m → slot_at c.turn-completed.new.self.slots j ≡ slot_after m.span c.args.tag (key_event_by c.args.order c.args.route.now) m.slots j)
    c.self.view_is c.turn-completed.ensures.sequences k low high

pub returns-clause-slots : goal.returns-clause-slots
returns-clause-slots g c = λ k low high.
    ap (λ (m : Machine Ticket). chains_of m.slots k) c.take_off-taken.ensures.machine
    ∙ subst (λ (m : Machine Ticket). (j : ℕ) → 1 ≤ j → j < stages m → chains_of c.turn-completed.new.self.slots j ≡ slots_after m.span (chains_of m.slots) (key_event_by c.args.order c.args.route.now) j)
    c.self.view_is c.turn-completed.ensures.slots k low high

pub returns-clause-answer : goal.returns-clause-answer
returns-clause-answer g c =
    subst (λ (m : Machine Ticket). c.turn-completed.result ≡ chain_coming m.span (chains_of m.slots) (key_event_by c.args.order c.args.route.now) (stages m)) c.self.view_is c.turn-completed.ensures.answer

pub returns-clause-list : goal.returns-clause-list
returns-clause-list g c =
    let turned = c.turn-completed.new.self in
    let tag = option_to_list c.args.tag in (
      turned.gone,
      subst (λ (m : Machine Ticket). IsPermutation (turned.gone ++ tags_of c.take_off-taken.new.machine.slots) (tag ++ tags_of m.slots)) c.self.view_is
          (subst (λ (m : Machine Ticket). IsPermutation (turned.gone ++ tags_of m.slots) (tag ++ tags_of c.self.inside.auto.slots)) (sym c.take_off-taken.ensures.machine) c.turn-completed.ensures.gone),
      c.take_off-taken.ensures.list,
    )

pub returns-clause-probes : goal.returns-clause-probes
returns-clause-probes g c =
    let route = c.args.route.now in
    let m = c.args.self.now in
    let steps = c.turn-completed.new.steps in
    let seen : steps ≤ c.args.steps.now + stages_in route.mask (stages m) + (if route.until then length m.slots else 0) =
    subst (λ (m : Machine Ticket). steps ≤ c.args.steps.now + stages_in route.mask (stages m) + (if route.until then length m.slots else 0)) c.self.view_is c.turn-completed.ensures.probes in
    probes_by steps c.args.steps.now (length m.slots) route seen
