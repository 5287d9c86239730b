use Rattle.eql_lane.proofs.BufferLemmas.{ended_long}
use Rattle.eql_lane.proofs.buffer.LineBuffer.end_long.Goals as goal

pub returns : goal.returns
returns c = ended_long c.self.inside.bytes.items c.self.inside.start c.self.inside.long c.in-Some.line c.self.inside.digest c.args.self.now c.in-Some.is c.self.invariant.long_is c.self.view_is
