use Rattle.eql_matching_tests.proofs.tests.parts.wrong_in.Given as goal

abbrev pub ghosts-wrong_over : goal.ghosts-wrong_over
ghosts-wrong_over a = record { name = a.blank.name; parts = a.blank.parts }
