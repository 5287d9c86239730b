use Rattle.eql_shards.proofs.LendingLemmas.{went_back}
use Rattle.eql_shards.proofs.opening.open_shards.Goals as goal

pub returns-in-Err-open_all-clause-shelf : goal.returns-in-Err-open_all-clause-shelf
returns-in-Err-open_all-clause-shelf g c =
    let stopped = c.in-Err-open_all.ensures in
    went_back g.H.Shelf _ _ _ g.H.Src.Source.lent_as g.H.Src.Source.fault_count c.open_all.new.sources.items c.in-Err-open_all.error _ _ _
    stopped.fresh stopped.told stopped.kept stopped.lent stopped.unfailing c.give_sources.ensures.back
