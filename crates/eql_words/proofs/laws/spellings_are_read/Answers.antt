use Rattle.eql_words.proofs.Spellings.{alike, read_spelled}
use Rattle.eql_words.proofs.laws.spellings_are_read.Goals as goal

pub returns-clause-read : goal.returns-clause-read
returns-clause-read c = read_spelled

pub returns-clause-alike : goal.returns-clause-alike
returns-clause-alike c = alike
