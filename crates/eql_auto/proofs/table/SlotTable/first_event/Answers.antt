use Rattle.std.proofs.Common.{sym, ◌∙◌}
use Rattle.eql_auto.proofs.Counting.{none_begins, none_begins_more, one_begins}
use Rattle.eql_auto.proofs.table.SlotTable.first_event.Goals as goal

pub loop-slot-preserved : goal.loop-slot-preserved
loop-slot-preserved g c =
    sym (none_begins c.deref-slot-items.result.now c.loop-slot.slot-index c.slot-item.result c.loop-slot-test.true c.slot-item.is c.in_default.is) ∙ c.loop-slot.invariant

pub returns-in-Some : goal.returns-in-Some
returns-in-Some g c =
    c.first_of.ensures
    ∙ sym (one_begins c.deref-slot-items.result.now c.loop-slot.slot-index c.slot-item.result c.in-Some.pending c.loop-slot-test.true c.slot-item.is c.in-Some.is)
    ∙ c.loop-slot.invariant

pub returns : goal.returns
returns g c = sym (none_begins_more c.deref-slot-items.result.now c.loop-slot.slot-index c.loop-slot-test.false) ∙ c.loop-slot.invariant
