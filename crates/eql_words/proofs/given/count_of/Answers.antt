use Rattle.std.proofs.Common.{rules}
use Rattle.eql_words.proofs.given.count_of.Goals as goal

pub returns : goal.returns
returns c = search rules
