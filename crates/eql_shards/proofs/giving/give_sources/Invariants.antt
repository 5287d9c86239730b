use Rattle.std.proofs.Common.{vec_len}
use Rattle.eql_shards.specs.Giving.{return_of}
use Rattle.eql_shards.proofs.BackLemmas.{Gone}
use Rattle.eql_shards.proofs.giving.give_sources.Given as goal

abbrev pub invariant-back : goal.invariant-back
invariant-back g l = Gone g.H.Shelf (return_of g.H.Src.Source.lent_as g.H.Src.Source.fault_count) l.fn.sources.items l.sources.items l.fn.shelf l.shelf

abbrev pub decreases-back : goal.decreases-back
decreases-back g l = vec_len l.sources
