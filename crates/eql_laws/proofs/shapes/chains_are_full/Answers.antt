use Rattle.eql_laws.proofs.Shaping as laws
use Rattle.eql_laws.proofs.shapes.chains_are_full.Goals as goal

pub returns-clause-matches : goal.returns-clause-matches
returns-clause-matches c = laws.matches_are_full

pub returns-clause-after : goal.returns-clause-after
returns-clause-after c = laws.after_is_full

pub returns-clause-stages : goal.returns-clause-stages
returns-clause-stages c = laws.after_has_stages
