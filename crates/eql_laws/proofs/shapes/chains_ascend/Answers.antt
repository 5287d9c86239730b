use Rattle.eql_laws.proofs.Shaping as laws
use Rattle.eql_laws.proofs.shapes.chains_ascend.Goals as goal

pub returns-clause-matches : goal.returns-clause-matches
returns-clause-matches c = laws.matches_ascend

pub returns-clause-after : goal.returns-clause-after
returns-clause-after c = laws.after_is_ready
