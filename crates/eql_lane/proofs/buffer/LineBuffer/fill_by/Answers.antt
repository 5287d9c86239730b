use Rattle.std.proofs.Common.{rules}
use Rattle.eql_lane.proofs.buffer.LineBuffer.fill_by.Goals as goal

pub returns-then-is_err-clause-kept : goal.returns-then-is_err-clause-kept
returns-then-is_err-clause-kept g c = search rules
