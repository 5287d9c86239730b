use Rattle.std.proofs.Common.{rules}
use Rattle.eql_parts.proofs.waiting.Waiting.collect.Goals as goal

pub returns-clause-found : goal.returns-clause-found
returns-clause-found g c = search rules
