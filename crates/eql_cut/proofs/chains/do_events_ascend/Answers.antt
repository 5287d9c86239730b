use Rattle.std.proofs.Common.{◌∙◌}
use Rattle.eql_cut.proofs.chains.do_events_ascend.Goals as goal

pub returns : goal.returns
returns c = c.ascends.ensures ∙ c.order_from_next.ensures.chains c.args.events.now
