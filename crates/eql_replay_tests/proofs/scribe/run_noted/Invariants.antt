use Rattle.std.proofs.Common.{None}
use Rattle.eql_replay_tests.proofs.scribe.run_noted.Given as goal

abbrev pub ghosts-note_over-G-Ledger : goal.ghosts-note_over-G-Ledger
ghosts-note_over-G-Ledger a = record { name = a.blank.name; parts = a.blank.parts }

abbrev pub ghosts-note_over-T-Opening : goal.ghosts-note_over-T-Opening
ghosts-note_over-T-Opening a = record { lanes = a.lanes.items; text = λ s. None; plays = a.plays.items }
