use Rattle.std.proofs.Common.{rules}
use Rattle.eql_check.proofs.judge.check_whole.Goals as goal

pub returns-in_err-check_kinds : goal.returns-in_err-check_kinds
returns-in_err-check_kinds c = search rules
