use Rattle.eql_words.proofs.Bounding.{bounded}
use Rattle.eql_words.proofs.laws.commands_are_bounded.Goals as goal

pub returns : goal.returns
returns c = record { bounds = bounded }
