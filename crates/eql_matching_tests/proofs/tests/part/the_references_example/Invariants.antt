use Rattle.eql_matching_tests.proofs.tests.part.the_references_example.Given as goal

abbrev pub ghosts-wrong_over : goal.ghosts-wrong_over
ghosts-wrong_over g a = record { name = a.blank.name; parts = a.blank.parts }
