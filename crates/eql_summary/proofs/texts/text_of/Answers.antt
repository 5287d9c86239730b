use Rattle.std.proofs.Common.{rules}
use Rattle.eql_summary.proofs.texts.text_of.Goals as goal

pub loop-event-init : goal.loop-event-init
loop-event-init c = search rules
