use Rattle.std.proofs.Common.{◌∙◌, arith, ◌-◌, length, Some, sym, ap, subst}
use Rattle.eql_values.specs.OrderKeys.{EventsAscend}
use Rattle.eql_auto.proofs.Written.{kept_set, shown_length, wrote, wrote_tags}
use Rattle.eql_auto.proofs.table.SlotTable.put.Goals as goal

pub returns-clause-slots : goal.returns-clause-slots
returns-clause-slots g c =
    wrote c.self.inside.slots.items c.replace_slot.new.slots.items c.args.self.now (c.args.stage - 1) (record { events = c.copy_in_room.new.room; tag = c.args.tag })
    c.args.chain.now c.self.view_is c.replace_slot.ensures.left (c.copy_in_room.ensures.items ∙ c.items.ensures)

pub returns-clause-tags : goal.returns-clause-tags
returns-clause-tags g c =
    let len = shown_length c.self.inside.slots.items c.args.self.now c.self.view_is in
    let from = c.requires.from in let to = c.requires.to in
    wrote_tags c.self.inside.slots.items c.replace_slot.new.slots.items c.args.self.now (c.args.stage - 1) (record { events = c.copy_in_room.new.room; tag = c.args.tag })
    c.self.view_is (omega arith) c.replace_slot.ensures.left c.requires.open

pub copy_in_room-requires-clause-fits : goal.copy_in_room-requires-clause-fits
copy_in_room-requires-clause-fits g c =
    let same = ap length c.items.ensures in let full = c.requires.full in let to = c.requires.to in let room = c.requires.room in
    omega arith

pub replace_slot-requires : goal.replace_slot-requires
replace_slot-requires g c =
    let len = shown_length c.self.inside.slots.items c.args.self.now c.self.view_is in
    let ok = c.self.inside.slots.ok.0 in let from = c.requires.from in let to = c.requires.to in
    omega arith

pub invariant_of-self : goal.invariant_of-self
invariant_of-self g c =
    let len = shown_length c.self.inside.slots.items c.args.self.now c.self.view_is in
    let same = ap length c.items.ensures in let copied = c.copy_in_room.ensures.len in
    let from = c.requires.from in let full = c.requires.full in let room = c.requires.room in let grown = c.copy_in_room.ensures.room in
    kept_set c.self.inside.slots.items c.replace_slot.new.slots.items (c.args.stage - 1) (Some (record { events = c.copy_in_room.new.room; tag = c.args.tag }))
    c.self.invariant c.replace_slot.ensures.left (record {
      full = omega arith;
      room = omega arith;
      ascends = subst EventsAscend (sym (c.copy_in_room.ensures.items ∙ c.items.ensures)) c.ascends.ensures;
    })
