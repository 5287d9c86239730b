use Rattle.eql_cut.proofs.Setting.{names_same, unplaced_is_back}
use Rattle.eql_cut.proofs.placed_laws.places_alone_are_set.Goals as goal

pub returns-clause-names : goal.returns-clause-names
returns-clause-names c = names_same

pub returns-clause-back : goal.returns-clause-back
returns-clause-back c = unplaced_is_back c.lifted_cuts_are_placed.ensures
