use Rattle.std.proofs.Common.{ap, ◌∙◌}
use Rattle.eql_auto.specs.Kept.{sequence_views}
use Rattle.eql_auto.proofs.Written.{shown_empty, empty_kept}
use Rattle.eql_auto.proofs.table.SlotTable.new.Goals as goal

pub returns : goal.returns
returns g c = ap sequence_views c.in_ok-slots.ensures ∙ shown_empty c.args.count

pub invariant_of-result : goal.invariant_of-result
invariant_of-result g c = empty_kept c.in_ok-slots.slots.items c.args.count c.in_ok-slots.ensures
