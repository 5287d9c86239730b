use Rattle.std.proofs.Common.{rules}
use Rattle.eql_lines.proofs.scan.LineScan.read.Goals as goal

pub returns-then-is_blank-clause-memory_not_blank :
    goal.returns-then-is_blank-clause-memory_not_blank
returns-then-is_blank-clause-memory_not_blank c = search rules
