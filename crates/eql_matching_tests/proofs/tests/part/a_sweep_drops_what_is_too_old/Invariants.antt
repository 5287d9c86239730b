use Rattle.eql_matching_tests.proofs.tests.part.a_sweep_drops_what_is_too_old.Given as goal

abbrev pub ghosts-wrong_over : goal.ghosts-wrong_over
ghosts-wrong_over g a = record { name = a.blank.name; parts = a.blank.parts }
