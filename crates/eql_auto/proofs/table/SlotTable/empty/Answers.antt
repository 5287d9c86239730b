use Rattle.std.proofs.Common.{None, ◌∙◌, arith, ◌-◌}
use Rattle.eql_auto.proofs.Written.{shown_length, tags_written, kept_set, left_alone, emptied_out, get_or_any}
use Rattle.eql_auto.proofs.table.SlotTable.empty.Goals as goal

pub returns-clause-slots : goal.returns-clause-slots
returns-clause-slots g c =
    let from = c.requires.from in let to = c.requires.to in
    let len = shown_length c.self.inside.slots.items c.args.self.now c.self.view_is in
    emptied_out c.self.inside.slots.items c.take_slot.new.slots.items c.args.self.now (c.args.stage - 1) c.args.which c.index.result.now c.spares.result
    c.self.view_is c.take_slot.ensures.left (c.index.ensures ∙ get_or_any c.self.inside.slots.items (c.args.stage - 1) c.index.result.now None (omega arith)) c.spares.ensures c.if-spares.false

pub returns-clause-ceased : goal.returns-clause-ceased
returns-clause-ceased g c =
    let len = shown_length c.self.inside.slots.items c.args.self.now c.self.view_is in
    let from = c.requires.from in let to = c.requires.to in
    tags_written c.self.inside.slots.items c.take_slot.new.slots.items c.args.self.now (c.args.stage - 1) None c.take_slot.result c.tag_of.result
    c.self.view_is (omega arith) c.take_slot.ensures.left c.take_slot.ensures.taken c.tag_of.ensures

pub index-requires : goal.index-requires
index-requires g c =
    let len = shown_length c.self.inside.slots.items c.args.self.now c.self.view_is in
    let from = c.requires.from in let to = c.requires.to in
    let ok = c.self.inside.slots.ok in
    omega arith

pub take_slot-requires : goal.take_slot-requires
take_slot-requires g c =
    let len = shown_length c.self.inside.slots.items c.args.self.now c.self.view_is in
    let from = c.requires.from in let to = c.requires.to in
    let ok = c.self.inside.slots.ok in
    omega arith

pub returns-then-spares-clause-slots : goal.returns-then-spares-clause-slots
returns-then-spares-clause-slots g c =
    let from = c.requires.from in let to = c.requires.to in
    let len = shown_length c.self.inside.slots.items c.args.self.now c.self.view_is in
    left_alone c.self.inside.slots.items c.args.self.now (c.args.stage - 1) c.args.which c.index.result.now
    c.self.view_is (c.index.ensures ∙ get_or_any c.self.inside.slots.items (c.args.stage - 1) c.index.result.now None (omega arith)) (c.if-spares.ensures {u = tt})

pub invariant_of-self : goal.invariant_of-self
invariant_of-self g c =
    kept_set c.self.inside.slots.items c.take_slot.new.slots.items (c.args.stage - 1) None c.self.invariant c.take_slot.ensures.left tt
