use Rattle.eql_check.proofs.Characters.{texts_by_characters}
use Rattle.eql_check.proofs.laws.texts_by_characters.Goals as goal

pub returns : goal.returns
returns c = texts_by_characters
