use Rattle.std.specs.Prelude.{map}
use Rattle.eql_laws.specs.Places.{whole}
use Rattle.eql_cut.specs.Placed.{place_in_texts}
use Rattle.eql_cut.proofs.HavePlaces.{events_have_places}
use Rattle.eql_cut.proofs.placed_laws.cuts_have_places.Goals as goal

pub returns-clause-events : goal.returns-clause-events
returns-clause-events c = events_have_places c.events_and_keys_stay.ensures.events c.pipes_go_on.ensures.kept

pub returns-clause-back : goal.returns-clause-back
returns-clause-back c = λ run reads t shards cut reading is.
    c.lifted_cuts_are_placed.ensures (place_in_texts (map whole shards)) cut
    (events_have_places c.events_and_keys_stay.ensures.events c.pipes_go_on.ensures.kept run reads t shards cut reading is)
