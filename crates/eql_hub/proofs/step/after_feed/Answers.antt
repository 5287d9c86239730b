use Rattle.std.proofs.Common.{rules}
use Rattle.eql_hub.proofs.step.after_feed.Goals as goal

pub returns-after-reply : goal.returns-after-reply
returns-after-reply c = search rules
