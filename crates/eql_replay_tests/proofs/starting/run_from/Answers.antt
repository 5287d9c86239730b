use Rattle.eql_replay_tests.proofs.starting.run_from.Goals as goal

pub lanes_from-requires-clause-begin : goal.lanes_from-requires-clause-begin
lanes_from-requires-clause-begin c = (c.cuts_may_begin.ensures _ _ _ (c.fits.ensures.0 c.if-not-fits.false)).lanes
