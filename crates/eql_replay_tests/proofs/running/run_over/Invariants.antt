use Rattle.std.proofs.Common.{None}
use Rattle.eql_replay_tests.proofs.running.run_over.Given as goal

abbrev pub ghosts-replay_over-G-Ledger : goal.ghosts-replay_over-G-Ledger
ghosts-replay_over-G-Ledger a = record { name = a.blank.name; parts = a.blank.parts }

abbrev pub ghosts-replay_over-T-Opening : goal.ghosts-replay_over-T-Opening
ghosts-replay_over-T-Opening a = record { lanes = a.lanes.items; text = λ s. None; plays = a.plays.items }
