use Rattle.eql_hands_tests.proofs.alone.a_hand_reads_a_lane_to_its_end.Given as goal

abbrev pub ghosts-play_alone : goal.ghosts-play_alone
ghosts-play_alone g a = record { name = a.blank.name; parts = a.blank.parts }
