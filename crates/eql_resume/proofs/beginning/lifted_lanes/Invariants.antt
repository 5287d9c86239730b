use Rattle.std.proofs.Common.{◌≡◌, ◌++◌, length}
use Rattle.eql_resume.specs.Beginnings.{lifts_of}
use Rattle.eql_resume.proofs.beginning.lifted_lanes.Given as goal

abbrev pub invariant-loop-cut : goal.invariant-loop-cut
invariant-loop-cut l =
    (lifts_of l.fn.lanes l.fn.wanted.items ≡ l.starts.items ++ lifts_of l.cut-iterator.rest.items l.wanted.rest.items)
    × (length l.wanted.rest.items ≡ length l.cut-iterator.rest.items)
