use Rattle.std.proofs.Common.{vec_len}
use Rattle.eql_shards.specs.Giving.{lane_returned}
use Rattle.eql_shards.proofs.BackLemmas.{Gone}
use Rattle.eql_shards.proofs.giving.give_lanes.Given as goal

abbrev pub invariant-back : goal.invariant-back
invariant-back g l = Gone g.H.Shelf (lane_returned g.H.Src.Source.lent_as) l.fn.lanes.items l.lanes.items l.fn.shelf l.shelf

abbrev pub decreases-back : goal.decreases-back
decreases-back g l = vec_len l.lanes
