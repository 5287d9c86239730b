use Rattle.std.proofs.Common.{None, sym}
use Rattle.eql_lane.proofs.Digesting.{none_added}
use Rattle.eql_lane.proofs.buffer.LineBuffer.new.Goals as goal

pub returns : goal.returns
returns c = λ i. record { long = None; unread = c.new.ensures.items i; digest = sym (none_added c.args.digest) i }
