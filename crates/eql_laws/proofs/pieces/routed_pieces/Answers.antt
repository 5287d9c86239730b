use Rattle.eql_laws.proofs.PieceLemmas.{routed_pieces as the_law}
use Rattle.eql_laws.proofs.pieces.routed_pieces.Goals as goal

pub returns : goal.returns
returns c = the_law
