use Rattle.std.proofs.Common.{rules}
use Rattle.eql_words.proofs.values.checkpoint_with.Goals as goal

pub returns-in_default : goal.returns-in_default
returns-in_default c = search rules
