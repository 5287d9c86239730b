use Rattle.std.proofs.Common.{◌∙◌}
use Rattle.eql_cut.specs.Placed.{cut_without_places}
use Rattle.eql_cut.proofs.Noted.{wanted_were_noted, noted_is_placed}
use Rattle.eql_cut.proofs.placed_laws.noted_places_serve.Goals as goal

pub returns-clause-wanted : goal.returns-clause-wanted
returns-clause-wanted c = wanted_were_noted

pub returns-clause-placed : goal.returns-clause-placed
returns-clause-placed c = noted_is_placed

pub returns-clause-back : goal.returns-clause-back
returns-clause-back c = λ run reads t shards cut lists reading is each.
    noted_is_placed shards (cut_without_places cut) lists each ∙ c.cuts_have_places.ensures.back run reads t shards cut reading is
