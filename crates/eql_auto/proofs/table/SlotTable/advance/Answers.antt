use Rattle.std.proofs.Common.{None, ℕ, ◌<◌, ◌≤◌, ◌∙◌, refl, sym, subst, arith, ◌-◌, vec_capacity}
use Rattle.std.proofs.lemmas.List.Sorted.{IsPermutation-trans}
use Rattle.eql_auto.proofs.Written.{shown_length, taken_tags, dropped, carried, carried_out, goes_in_order, kept_at, kept_set, taken_length, tags_written, nothing, nothing_out, dropped_out}
use Rattle.eql_auto.proofs.table.SlotTable.advance.Goals as goal

pub returns-then-not-is_early-clause-slots : goal.returns-then-not-is_early-clause-slots
returns-then-not-is_early-clause-slots g c =
    let taken = sym c.in-Some.is ∙ c.take_slot.ensures.taken in
    let from = c.requires.from in
    dropped c.args.span c.args.event c.self.inside.slots.items c.take_slot.new.slots.items c.args.self.now (c.args.stage - 1) c.args.stage c.in-Some.held
    c.self.view_is c.take_slot.ensures.left taken (omega arith) (sym c.is_early.ensures ∙ c.if-not-is_early.true)

pub returns-then-not-is_early-clause-ceased : goal.returns-then-not-is_early-clause-ceased
returns-then-not-is_early-clause-ceased g c =
    let len = shown_length c.self.inside.slots.items c.args.self.now c.self.view_is in
    let from = c.requires.from in let to = c.requires.to in
    taken_tags c.self.inside.slots.items c.take_slot.new.slots.items c.args.self.now (c.args.stage - 1) c.in-Some.held
    c.self.view_is (omega arith) c.take_slot.ensures.left (sym c.in-Some.is ∙ c.take_slot.ensures.taken)

pub settle-requires-clause-ascends : goal.settle-requires-clause-ascends
settle-requires-clause-ascends g c =
    let taken = sym c.in-Some.is ∙ c.take_slot.ensures.taken in
    let from = c.requires.from in
    goes_in_order c.args.span c.args.event c.self.inside.slots.items c.take_slot.new.slots.items c.args.self.now (c.args.stage - 1) c.args.stage c.in-Some.held
    c.self.view_is c.take_slot.ensures.left taken (omega arith) c.push_reserved.new.self.items c.push_reserved.ensures.items
    (kept_at c.self.inside.slots.items (c.args.stage - 1) c.in-Some.held c.self.invariant taken).ascends c.requires.later

pub returns-else-not-is_early-clause-slots : goal.returns-else-not-is_early-clause-slots
returns-else-not-is_early-clause-slots g c =
    let taken = sym c.in-Some.is ∙ c.take_slot.ensures.taken in
    let from = c.requires.from in
    carried c.args.span c.args.event c.self.inside.slots.items c.take_slot.new.slots.items c.args.self.now (c.args.stage - 1) c.args.stage c.in-Some.held
    c.self.view_is c.take_slot.ensures.left taken (omega arith) c.push_reserved.new.self.items (sym c.is_early.ensures ∙ c.if-not-is_early.false) c.push_reserved.ensures.items
    c.settle.new.self c.settle.ensures.slots

pub returns-else-not-is_early-clause-completed : goal.returns-else-not-is_early-clause-completed
returns-else-not-is_early-clause-completed g c =
    let taken = sym c.in-Some.is ∙ c.take_slot.ensures.taken in
    let from = c.requires.from in
    carried_out c.args.span c.args.event c.self.inside.slots.items c.take_slot.new.slots.items c.args.self.now (c.args.stage - 1) c.args.stage c.in-Some.held
    c.self.view_is c.take_slot.ensures.left taken (omega arith) c.push_reserved.new.self.items (sym c.is_early.ensures ∙ c.if-not-is_early.false) c.push_reserved.ensures.items
    c.settle.result.completed c.settle.ensures.completed

pub returns-else-not-is_early-clause-ceased : goal.returns-else-not-is_early-clause-ceased
returns-else-not-is_early-clause-ceased g c =
    let len = shown_length c.self.inside.slots.items c.args.self.now c.self.view_is in
    let from = c.requires.from in let to = c.requires.to in
    IsPermutation-trans _ _ _ c.settle.ensures.ceased
    (taken_tags c.self.inside.slots.items c.take_slot.new.slots.items c.args.self.now (c.args.stage - 1) c.in-Some.held
    c.self.view_is (omega arith) c.take_slot.ensures.left (sym c.in-Some.is ∙ c.take_slot.ensures.taken))

pub invariant_of-self : goal.invariant_of-self
invariant_of-self g c =
    kept_set c.self.inside.slots.items c.take_slot.new.slots.items (c.args.stage - 1) None c.self.invariant c.take_slot.ensures.left tt

pub invariant_of-self-then-not-is_early : goal.invariant_of-self-then-not-is_early
invariant_of-self-then-not-is_early g c =
    kept_set c.self.inside.slots.items c.take_slot.new.slots.items (c.args.stage - 1) None c.self.invariant c.take_slot.ensures.left tt

pub invariant_of-self-in-Some : goal.invariant_of-self-in-Some
invariant_of-self-in-Some g c =
    kept_set c.self.inside.slots.items c.take_slot.new.slots.items (c.args.stage - 1) None c.self.invariant c.take_slot.ensures.left tt

pub settle-requires-clause-within : goal.settle-requires-clause-within
settle-requires-clause-within g c =
    subst (λ (n : ℕ). c.args.stage ≤ n) (sym (taken_length c.self.inside.slots.items c.take_slot.new.slots.items c.args.self.now (c.args.stage - 1) c.self.view_is c.take_slot.ensures.left)) c.requires.to

pub settle-requires-clause-full : goal.settle-requires-clause-full
settle-requires-clause-full g c =
    let from = c.requires.from in
    let kept = kept_at c.self.inside.slots.items (c.args.stage - 1) c.in-Some.held c.self.invariant (sym c.in-Some.is ∙ c.take_slot.ensures.taken) in
    omega (arith, kept.full, c.push_reserved.ensures.len)

pub settle-requires-clause-room : goal.settle-requires-clause-room
settle-requires-clause-room g c =
    let kept = kept_at c.self.inside.slots.items (c.args.stage - 1) c.in-Some.held c.self.invariant (sym c.in-Some.is ∙ c.take_slot.ensures.taken) in
    let len = shown_length c.self.inside.slots.items c.args.self.now c.self.view_is in
    subst (λ (n : ℕ). n < vec_capacity c.push_reserved.new.self) (sym (taken_length c.self.inside.slots.items c.take_slot.new.slots.items c.args.self.now (c.args.stage - 1) c.self.view_is c.take_slot.ensures.left ∙ sym len))
    (omega (arith, kept.room, c.push_reserved.ensures.capacity))

pub returns-in-None-clause-slots : goal.returns-in-None-clause-slots
returns-in-None-clause-slots g c =
    let from = c.requires.from in
    nothing c.args.span c.args.event c.self.inside.slots.items c.take_slot.new.slots.items c.args.self.now (c.args.stage - 1) c.args.stage
    c.self.view_is (sym c.in-None.is ∙ c.take_slot.ensures.taken) c.take_slot.ensures.left (omega arith)

pub returns-in-None-clause-completed : goal.returns-in-None-clause-completed
returns-in-None-clause-completed g c =
    nothing_out c.args.span c.args.event c.self.inside.slots.items c.take_slot.new.slots.items c.args.self.now (c.args.stage - 1) c.args.stage
    c.self.view_is (sym c.in-None.is ∙ c.take_slot.ensures.taken)

pub returns-in-None-clause-ceased : goal.returns-in-None-clause-ceased
returns-in-None-clause-ceased g c =
    let len = shown_length c.self.inside.slots.items c.args.self.now c.self.view_is in
    let from = c.requires.from in let to = c.requires.to in
    tags_written c.self.inside.slots.items c.take_slot.new.slots.items c.args.self.now (c.args.stage - 1) None None None
    c.self.view_is (omega arith) c.take_slot.ensures.left (sym c.in-None.is ∙ c.take_slot.ensures.taken) refl

pub returns-then-not-is_early-clause-completed : goal.returns-then-not-is_early-clause-completed
returns-then-not-is_early-clause-completed g c =
    let taken = sym c.in-Some.is ∙ c.take_slot.ensures.taken in
    let from = c.requires.from in
    dropped_out c.args.span c.args.event c.self.inside.slots.items c.take_slot.new.slots.items c.args.self.now (c.args.stage - 1) c.args.stage c.in-Some.held
    c.self.view_is c.take_slot.ensures.left taken (omega arith) (sym c.is_early.ensures ∙ c.if-not-is_early.true)

pub take_slot-requires : goal.take_slot-requires
take_slot-requires g c =
    let len = shown_length c.self.inside.slots.items c.args.self.now c.self.view_is in
    let ok = c.self.inside.slots.ok.0 in let from = c.requires.from in let to = c.requires.to in
    omega arith

pub push_reserved-requires : goal.push_reserved-requires
push_reserved-requires g c =
    let kept = kept_at c.self.inside.slots.items (c.args.stage - 1) c.in-Some.held c.self.invariant (sym c.in-Some.is ∙ c.take_slot.ensures.taken) in
    let len = shown_length c.self.inside.slots.items c.args.self.now c.self.view_is in
    let from = c.requires.from in let to = c.requires.to in
    omega (arith, kept.full, kept.room)
