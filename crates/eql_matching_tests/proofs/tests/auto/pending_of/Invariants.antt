use Rattle.eql_matching_tests.proofs.tests.auto.pending_of.Given as goal

abbrev pub ghosts-run_over : goal.ghosts-run_over
ghosts-run_over a = record { name = a.blank.name; parts = a.blank.parts }
