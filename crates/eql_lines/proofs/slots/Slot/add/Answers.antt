use Rattle.std.proofs.Common.{rules}
use Rattle.eql_lines.proofs.slots.Slot.add.Goals as goal

pub returns-in_default-seen : goal.returns-in_default-seen
returns-in_default-seen c = search rules
