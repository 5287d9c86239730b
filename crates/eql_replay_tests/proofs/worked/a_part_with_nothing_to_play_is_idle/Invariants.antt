use Rattle.eql_replay_tests.proofs.worked.a_part_with_nothing_to_play_is_idle.Given as goal

abbrev pub ghosts-check_idle : goal.ghosts-check_idle
ghosts-check_idle g a = record { name = a.blank.name; parts = a.blank.parts }
