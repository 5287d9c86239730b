use Rattle.eql_cut.proofs.Restored.{cut_back}
use Rattle.eql_cut.proofs.keeping.lifted_cuts_are_placed.Goals as goal

pub returns : goal.returns
returns c = cut_back
