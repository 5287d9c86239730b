use Rattle.std.proofs.Common.{rules}
use Rattle.eql_words.proofs.numbers.milliseconds_of.Goals as goal

pub returns : goal.returns
returns c = search rules
