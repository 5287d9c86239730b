use Rattle.std.proofs.Common.{◌∙◌}
use Rattle.eql_lane.specs.Buffers.{dropped_part}
use Rattle.eql_lane.proofs.BufferLemmas.{passed}
use Rattle.eql_lane.proofs.buffer.LineBuffer.pass.Goals as goal

pub returns : goal.returns
returns c = passed c.self.inside.bytes.items c.self.inside.start c.args.count c.self.inside.long c.self.inside.digest c.args.self.now.unread (dropped_part c.args.self.now).digest (c.self.view_is ∙ c.end_long.ensures)
