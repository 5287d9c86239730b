use Rattle.eql_runs.proofs.Counting.{CountLaws, matches_are_few, found_is_few}
use Rattle.eql_runs.proofs.laws.matches_are_counted.Goals as goal

pub returns-clause-few : goal.returns-clause-few
returns-clause-few c =
    let laws : CountLaws = record { found = c.found_is_few.ensures.found; readers = c.readers_fit.ensures } in
    matches_are_few laws

pub returns-clause-found : goal.returns-clause-found
returns-clause-found c =
    let laws : CountLaws = record { found = c.found_is_few.ensures.found; readers = c.readers_fit.ensures } in
    found_is_few laws c.commands_are_bounded.ensures.bounds
