-- A search over made files lists what the definition says, and stops for want of memory alone.
use Rattle.std.proofs.Common.{◌≡◌, ◌≢◌, ℕ, ◌≤◌, List, [], ◌∷◌, Option, Some, None, refl, sym, ap, ◌∙◌, subst, codes}
use Rattle.std.specs.Prelude.{All, Ok, drop}
use Rattle.eql_values.specs.declared.found.Numbered.{Numbered}
use Rattle.eql_laws.specs.Places.{LinesGoOn}
use Rattle.eql_outside.specs.Moments.{History}
use Rattle.eql_book.specs.Listing.{listing}
use Rattle.eql_check.specs.Mappings.{mapping_of}
use Rattle.eql_outside.specs.declared.refused.OutRefused.TheVariants as refused_by
use Rattle.eql_outside.specs.Plans.{FaultPlan, fresh_plan}
use Rattle.eql_outside.specs.Unfailing.{IsUnfailing}
use Rattle.eql_runs.specs.Made.{made_texts}
use Rattle.eql_words.specs.declared.commands.Find.{Find}
use Rattle.eql_runs.specs.Files.{Files, first_missing, HasTokens, HasTexts, HasChecked, IsWithin}
use Rattle.eql_runs.specs.RunLaws.{CheckedIsAccepted, MadeIsASearch, MadeIsWithin}
use Rattle.eql_runs.specs.Runs.{Finds, Searches, SearchesBeyond, ShardLimit}
use Rattle.eql_runs.specs.Starts.{nothing_kept}
use Rattle.eql_runs.specs.Searches.{Search, listed_of, listing_of, rest_of}
use Rattle.eql_runs.specs.Summaries.{made_query, made_mapping, IsMadeSearch}
use Rattle.eql_runs.proofs.Limits.{not_beyond}
use Rattle.eql_runs.proofs.Reading.{one_text, one_texts}
use Rattle.eql_inputs.specs.declared.error.InputError.TheVariants as error
use Rattle.eql_inputs.specs.Errors.{refusal_of}
use Rattle.eql_find.specs.declared.error.FindError.{FindError}
use Rattle.eql_find.specs.declared.error.FindError.TheVariants as run
use Rattle.eql_find.specs.Finding.{FindsAll, HasFindCause, names_in}
use Rattle.eql_find.specs.Errors.{IsFault, limit_of}
use Rattle.eql_summary.specs.Inputs.{made_files, made_find}
use Rattle.eql_summary.specs.Written.{IsMadeListing, IsWant}

-- an object for which no failure is planned
pub no_fails : (plan : Option FaultPlan) (fails : List ℕ) → plan ≡ Some (fresh_plan fails) → fails ≡ [] → IsUnfailing plan
no_fails plan fails is none = subst IsUnfailing (sym is) (record { none = none; no_stop = refl })

-- nothing of a listing is left out where no line was written before
none_dropped : (list : List Numbered) → drop 0 list ≡ list
none_dropped [] = refl
none_dropped (n ∷ list) = refl

rest_of_all : (search : Search) (texts : List (List ℕ)) → rest_of search 0 texts ≡ listing_of search texts
rest_of_all search texts = ap (listing search.places) (none_dropped (listed_of search texts))

module _ (hands events : ℕ) where
  -- the files are there, and checked
  is_checked : (search : Search) → IsMadeSearch search
      → HasChecked (codes "query") (codes "fields") (made_files events) search.query search.mapping
  unfolding lib.Utf8.encode
  is_checked search made = record {
    both = record {
      query_there = record {
        tokens = made.tokens;
        spelled = record { text = made_query; there = refl; has = made.spelled };
        read = made.read;
      };
      mapping_there = record { text = made_mapping; there = refl; is_mapping = made.is_mapping };
    };
    checked = made.checked;
  }

  are_there : HasTexts (made_find hands).shards (made_files events) (made_texts events)
  unfolding lib.Utf8.encode
  are_there = (refl, (refl, (refl, (refl, tt))))

  none_missing : first_missing (made_files events) (made_find hands).shards ≡ None
  unfolding lib.Utf8.encode
  none_missing = refl

  module _ (law : LinesGoOn) (accepted : CheckedIsAccepted) (made : MadeIsASearch) (within : MadeIsWithin) (few : events ≤ 1000000) where
    no_limit : (limit : ShardLimit) → SearchesBeyond (made_find hands) (made_files events) nothing_kept limit → ⊥
    no_limit limit b =
        let same = one_texts (made_find hands).shards (made_files events) b.texts (made_texts events) b.searches.there are_there in
        not_beyond law b.search b.texts (subst (λ (ts : List (List ℕ)). All IsWithin ts) (sym same) (within events few)) nothing_kept limit tt b.beyond

    -- a search that stops without a fault stops for want of memory. It has no checkpoint
    made_stops : (disk now : Option History) (err err' : Option (List ℕ)) (h : FindError)
        → HasFindCause (made_find hands) (Some (made_files events)) disk now err err' h → ¬ IsFault h → IsWant h
    made_stops disk now err err' (run.Files (error.Refused r)) cause calm =
        absurd (accepted (names_in (made_find hands)) (made_files events) made.0.query made.0.mapping (refusal_of r)
        (is_checked made.0 made.1) none_missing cause.1)
    made_stops disk now err err' (run.Files (error.Read name)) cause calm = absurd (calm tt)
    made_stops disk now err err' (run.Files error.Memory) cause calm = tt
    made_stops disk now err err' (run.Cut why) cause calm = absurd (cause.0 refl)
    made_stops disk now err err' (run.Held why) cause calm = absurd (cause.0 refl)
    made_stops disk now err err' run.Disk cause calm = absurd (calm tt)
    made_stops disk now err err' run.Write cause calm = absurd (calm tt)
    made_stops disk now err err' (run.Limit l) cause calm =
        absurd (no_limit (limit_of l) (cause.1 nothing_kept (λ has. absurd (has refl))).beyond)
    made_stops disk now err err' run.Generation cause calm = absurd (cause.0 refl)
    made_stops disk now err err' (run.Report refused_by.Failed) cause calm = absurd (calm tt)
    made_stops disk now err err' (run.Report refused_by.Memory) cause calm = tt

    pub stops_for_want : (find : Find) (files : Option Files) (disk now : Option History) (err err' : Option (List ℕ)) (h : FindError)
        → find ≡ made_find hands → files ≡ Some (made_files events) → HasFindCause find files disk now err err' h → ¬ IsFault h → IsWant h
    stops_for_want find files disk now err err' h find_is files_are cause calm =
        made_stops disk now err err' h
        (subst (λ (f : Find). HasFindCause f (Some (made_files events)) disk now err err' h) find_is
        (subst (λ (fs : Option Files). HasFindCause find fs disk now err err' h) files_are cause)) calm

  -- what is searched is the search of the texts
  is_made : (search : Search) (texts : List (List ℕ)) → Searches (made_find hands) (made_files events) search texts
      → IsMadeSearch search
  unfolding lib.Utf8.encode
  is_made search texts s =
      let q = s.checked.both.query_there in
      let m = s.checked.both.mapping_there in
      let query : q.spelled.text ≡ made_query = one_text (codes "query") (made_files events) q.spelled.text made_query q.spelled.there refl in
      let mapping : m.text ≡ made_mapping = one_text (codes "fields") (made_files events) m.text made_mapping m.there refl in
      record {
        tokens = q.tokens;
        spelled = subst (λ (t : List ℕ). HasTokens t q.tokens) query q.spelled.has;
        read = q.read;
        is_mapping = subst (λ (t : List ℕ). mapping_of t ≡ Ok search.mapping) mapping m.is_mapping;
        checked = s.checked.checked;
        tie = s.tie;
        slack = s.slack;
        places = s.places;
      }

  found_made : (bytes report : List ℕ) → Finds (made_find hands) (made_files events) nothing_kept bytes report → IsMadeListing events (Some bytes)
  found_made bytes report f = (
    f.search,
    is_made f.search f.texts f.searches,
    ap (λ (x : List ℕ). Some x) (f.bytes_are ∙ rest_of_all f.search f.texts
        ∙ ap (listing_of f.search) (one_texts (made_find hands).shards (made_files events) f.texts (made_texts events) f.searches.there are_there)),
  )

  made_found : (disk : Option History) (out' err err' : Option (List ℕ))
      → FindsAll (made_find hands) (Some (made_files events)) disk (Some []) out' err err' → IsMadeListing events out'
  made_found disk out' err err' h =
      let found = h nothing_kept (λ has. absurd (has refl)) (λ search texts searches. tt) in
      subst (IsMadeListing events) (sym found.3) (found_made found.0 found.1 found.2)

  pub all_found : (find : Find) (files : Option Files) (disk : Option History) (out out' err err' : Option (List ℕ)) → find ≡ made_find hands
      → files ≡ Some (made_files events) → out ≡ Some [] → FindsAll find files disk out out' err err' → IsMadeListing events out'
  all_found find files disk out out' err err' find_is files_are empty found =
      made_found disk out' err err'
      (subst (λ (f : Find). FindsAll f (Some (made_files events)) disk (Some []) out' err err') find_is
      (subst (λ (fs : Option Files). FindsAll find fs disk (Some []) out' err err') files_are
      (subst (λ (o : Option (List ℕ)). FindsAll find files disk o out' err err') empty found)))

-- a search of made events has no checkpoint
pub never_kept : {A : Type 0} (find : Find) (hands : ℕ) → find ≡ made_find hands → find.checkpoint ≢ None → A
never_kept find hands is has = absurd (has (ap (λ (f : Find). f.checkpoint) is))
