use Rattle.std.proofs.Common.{rules}
use Rattle.eql_parts.proofs.waiting.Waiting.deliver.Goals as goal

pub returns-then-is_err-clause-back : goal.returns-then-is_err-clause-back
returns-then-is_err-clause-back g c = search rules
