use Rattle.std.proofs.lemmas.Grind.{common_steps}
use Rattle.std.proofs.Common.{arith}
use Rattle.eql_check.proofs.parts.all_items.Goals as goal

pub returns-after-until : goal.returns-after-until
returns-after-until c = grind (arith, common_steps)
