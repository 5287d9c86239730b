use Rattle.std.proofs.Common.{rules}
use Rattle.eql_check.proofs.expression.comparison.Goals as goal

pub returns-then-holds_field-2 : goal.returns-then-holds_field-2
returns-then-holds_field-2 c = search rules
