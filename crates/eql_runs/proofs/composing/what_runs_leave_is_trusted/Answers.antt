use Rattle.eql_runs.proofs.LeftCuts.{left_is_trusted}
use Rattle.eql_runs.proofs.OwnCuts.{OwnLaws}
use Rattle.eql_runs.proofs.composing.what_runs_leave_is_trusted.Goals as goal

pub returns : goal.returns
returns c =
    let laws : OwnLaws = record { readers = c.readers_fit.ensures; cuts = c.cuts_fit.ensures.fit; fronts = c.fronts_fit.ensures.fit; lifted_fit = c.lifted_cuts_fit.ensures.fit } in
    left_is_trusted laws
