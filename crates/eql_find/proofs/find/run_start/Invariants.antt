use Rattle.eql_find.proofs.find.run_start.Given as goal

abbrev pub ghost-run_lanes : goal.ghost-run_lanes
ghost-run_lanes g a = g.known_texts
