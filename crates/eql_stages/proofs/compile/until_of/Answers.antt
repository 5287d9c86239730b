use Rattle.std.proofs.Common.{rules}
use Rattle.eql_stages.proofs.compile.until_of.Goals as goal

pub returns-in_ok-matcher-in-Some : goal.returns-in_ok-matcher-in-Some
returns-in_ok-matcher-in-Some c = search rules
