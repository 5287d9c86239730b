-- What a run of `made` searches, as files and as a search over them.
use Rattle.std.specs.Prelude.{ℕ, false, [], ◌∷◌, None, codes}
use Rattle.eql_runs.specs.Made.{made_text}
use Rattle.eql_words.specs.declared.commands.Find.{Find}
use Rattle.eql_runs.specs.Files.{Files}
use Rattle.eql_runs.specs.Summaries.{made_query, made_mapping}

-- the query, the mapping, and the four texts of so many events
abbrev pub made_files : (events : ℕ) → Files
made_files events =
    (codes "query", made_query) ∷ (codes "fields", made_mapping)
    ∷ (codes "0", made_text 0 events) ∷ (codes "1", made_text 1 events)
    ∷ (codes "2", made_text 2 events) ∷ (codes "3", made_text 3 events) ∷ []

-- eql find --query query --fields fields --hands N 0 1 2 3
abbrev pub made_find : (hands : ℕ) → Find
made_find hands = record {
  query = codes "query";
  fields = codes "fields";
  tie = None;
  slack = None;
  batch = 256;
  hands = hands;
  checkpoint = None;
  places = false;
  shards = codes "0" ∷ codes "1" ∷ codes "2" ∷ codes "3" ∷ [];
}
