use Rattle.eql_conductor.specs.LaneRounds.{text_at}
use Rattle.eql_search.proofs.run.search.Given as goal

abbrev pub ghosts-search_lanes-G-Ledger : goal.ghosts-search_lanes-G-Ledger
ghosts-search_lanes-G-Ledger g a = record { name = a.blank.name; parts = a.blank.parts }

abbrev pub ghosts-search_lanes-T-HubOpening : goal.ghosts-search_lanes-T-HubOpening
ghosts-search_lanes-T-HubOpening g a = record { text = text_at g.known_texts }
