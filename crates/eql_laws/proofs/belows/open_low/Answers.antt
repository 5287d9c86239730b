use Rattle.eql_laws.proofs.BelowLemmas as laws
use Rattle.eql_laws.proofs.belows.open_low.Goals as goal

pub returns-clause-in_range : goal.returns-clause-in_range
returns-clause-in_range c = laws.open_low

pub returns-clause-at_least : goal.returns-clause-at_least
returns-clause-at_least c = laws.open_low_at_least
