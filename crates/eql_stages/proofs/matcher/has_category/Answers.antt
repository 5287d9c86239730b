use Rattle.std.proofs.Common.{rules}
use Rattle.eql_stages.proofs.matcher.has_category.Goals as goal

pub returns-in-Some : goal.returns-in-Some
returns-in-Some c = search rules
