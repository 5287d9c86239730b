use Rattle.eql_find.proofs.running.run_lanes.Given as goal

abbrev pub ghost-search : goal.ghost-search
ghost-search g a = g.known_texts
