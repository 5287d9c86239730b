use Rattle.std.proofs.Common.{Some, ap, ◌∙◌, sym, arith}
use Rattle.std.proofs.lemmas.List.{set_past}
use Rattle.eql_auto.specs.Kept.{sequence_views}
use Rattle.eql_auto.proofs.Written.{shown_set, shown_length, tags_written, kept_set, comes_out, stays_in}
use Rattle.eql_auto.proofs.table.SlotTable.settle.Goals as goal

pub returns-clause-slots : goal.returns-clause-slots
returns-clause-slots g c =
    ap sequence_views c.replace_slot-older.ensures.left ∙ shown_set c.self.inside.slots.items c.args.self.now c.args.place (Some c.args.pending) c.self.view_is

pub returns-clause-ceased : goal.returns-clause-ceased
returns-clause-ceased g c =
    let len = shown_length c.self.inside.slots.items c.args.self.now c.self.view_is in
    let apart = c.if-place-len.false in
    let at_most = c.requires.within in
    let said = c.len.ensures in
    let ok = c.self.inside.slots.ok in
    tags_written c.self.inside.slots.items c.replace_slot-older.new.slots.items c.args.self.now c.args.place (Some c.args.pending) c.replace_slot-older.result c.tag_of.result
    c.self.view_is (omega arith) c.replace_slot-older.ensures.left c.replace_slot-older.ensures.taken c.tag_of.ensures

pub of-requires : goal.of-requires
of-requires g c = record { ascend = c.requires.ascends }

pub returns-then-place-len-clause-slots : goal.returns-then-place-len-clause-slots
returns-then-place-len-clause-slots g c =
    let len = shown_length c.self.inside.slots.items c.args.self.now c.self.view_is in
    let at = c.if-place-len.true in
    let said = c.len.ensures in
    let ok = c.self.inside.slots.ok in
    sym (set_past c.args.self.now c.args.place (Some (c.args.pending.events.items, c.args.pending.tag)) (omega arith))

pub returns-then-place-len-clause-completed : goal.returns-then-place-len-clause-completed
returns-then-place-len-clause-completed g c =
    let len = shown_length c.self.inside.slots.items c.args.self.now c.self.view_is in
    let at = c.if-place-len.true in
    let said = c.len.ensures in
    let ok = c.self.inside.slots.ok in
    comes_out c.args.place _ c.of.result c.args.pending.events.items (omega arith) c.of.ensures

pub replace_slot-older-requires : goal.replace_slot-older-requires
replace_slot-older-requires g c =
    let len = shown_length c.self.inside.slots.items c.args.self.now c.self.view_is in
    let apart = c.if-place-len.false in
    let at_most = c.requires.within in
    let said = c.len.ensures in
    let ok = c.self.inside.slots.ok in
    omega arith

pub invariant_of-self : goal.invariant_of-self
invariant_of-self g c =
    let len = shown_length c.self.inside.slots.items c.args.self.now c.self.view_is in
    let room = c.requires.room in
    kept_set c.self.inside.slots.items c.replace_slot-older.new.slots.items c.args.place (Some c.args.pending) c.self.invariant c.replace_slot-older.ensures.left
    (record { full = c.requires.full; room = omega arith; ascends = c.requires.ascends })

pub returns-clause-completed : goal.returns-clause-completed
returns-clause-completed g c =
    let len = shown_length c.self.inside.slots.items c.args.self.now c.self.view_is in
    let apart = c.if-place-len.false in
    let at_most = c.requires.within in
    let said = c.len.ensures in
    let ok = c.self.inside.slots.ok in
    stays_in c.args.place _ c.args.pending.events.items (omega arith)
