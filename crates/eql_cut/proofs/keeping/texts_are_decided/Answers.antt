use Rattle.eql_cut.proofs.WholeLaws.{texts_are_decided}
use Rattle.eql_cut.proofs.keeping.texts_are_decided.Goals as goal

pub returns : goal.returns
returns c = texts_are_decided
