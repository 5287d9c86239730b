use Rattle.eql_laws.proofs.PieceLemmas as laws
use Rattle.eql_laws.proofs.pieces.times_keep.Goals as goal

pub returns-clause-pieces : goal.returns-clause-pieces
returns-clause-pieces c = laws.times_keep

pub returns-clause-after : goal.returns-clause-after
returns-clause-after c = laws.times_after

pub returns-clause-between : goal.returns-clause-between
returns-clause-between c = laws.times_between
