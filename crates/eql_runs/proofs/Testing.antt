-- A run for which what its disk holds passed all tests is refused for no cause.
use Rattle.std.proofs.Common.{◌≡◌, ℕ, List, refl, subst, length}
use Rattle.std.proofs.lemmas.Option.{slice_get_within}
use Rattle.eql_laws.specs.Places.{RestIsLate}
use Rattle.eql_words.specs.declared.commands.Find.{Find}
use Rattle.eql_runs.specs.CutRefusals.{CutRefusal, CutRefuses, IsTested, by_found, by_shard}
use Rattle.eql_runs.specs.Files.{Files}
use Rattle.eql_runs.specs.Runs.{IsFindAccepted, RefusesCut, Searches}
use Rattle.eql_runs.specs.Searches.{Search, rest_of, report_of}
use Rattle.eql_runs.specs.Starts.{BeginsWith, IsTrusted, OnDisk, a_cut, bad_head, bad_text, not_ours, listed_on, nothing_kept, start_for}
use Rattle.eql_runs.proofs.CutRefusing.{found_or_fits}
use Rattle.eql_runs.proofs.Listing.{one_search, search_or_refused}
use Rattle.eql_runs.proofs.PutCuts.{tested_is_own}
use Rattle.eql_runs.proofs.Reading.{QueryLaws, one_texts}

-- the words and the files determine the search and its texts
pub one_search_of : (laws : QueryLaws) (find : Find) (files : Files) (a b : Search) (ts us : List (List ℕ)) → Searches find files a ts
    → Searches find files b us → (a ≡ b) × (ts ≡ us)
one_search_of laws find files a b ts us s t = (one_search laws find files a b ts us s t, one_texts find.shards files ts us s.there t.there)

-- ---- no cause
tested_or_refused : (search : Search) (texts : List (List ℕ)) (on : OnDisk) (r : CutRefusal) → IsTested search texts on → CutRefuses search texts on r → ⊥
tested_or_refused search texts nothing_kept _ tested (by_found _ head r is refused) = elim refused [ ]
tested_or_refused search texts (bad_head area) _ tested refused = tested
tested_or_refused search texts (bad_text area) _ tested refused = tested
tested_or_refused search texts (not_ours area) _ tested refused = tested
tested_or_refused search texts (a_cut format generation cut) _ tested (by_found _ head r is refused) =
    found_or_fits search (length texts) format generation cut head r is tested.head tested.fits refused
tested_or_refused search texts (a_cut format generation cut) _ tested (by_shard _ _ _ own fits shard text there none r refused) =
    tested.shards shard text r (slice_get_within texts shard text there) there refused

-- ---- it begins with what it tested, where that is trusted
tested_begins : RestIsLate → (search : Search) (texts : List (List ℕ)) (on : OnDisk) → IsTested search texts on → IsTrusted search texts on → BeginsWith search texts on
tested_begins late search texts nothing_kept tested trusted = tt
tested_begins late search texts (a_cut format generation cut) tested trusted =
    tested_is_own late search texts format cut tested (trusted tested.head)
tested_begins late search texts (bad_head area) tested trusted = absurd tested
tested_begins late search texts (bad_text area) tested trusted = absurd tested
tested_begins late search texts (not_ours area) tested trusted = absurd tested

pub tested_is_accepted : (laws : QueryLaws) (late : RestIsLate) (find : Find) (files : Files) (on : OnDisk) (search : Search) (texts : List (List ℕ))
    → Searches find files search texts → IsTested search texts (start_for find on) → IsFindAccepted find files on
tested_is_accepted laws late find files on search texts searches tested = record {
  files_accepted = λ names is r refused. search_or_refused laws names find files search texts r is searches refused;
  cut_accepted = λ r denied. by_cut r denied;
  writes = λ trusts. (
    rest_of search (listed_on (start_for find on)) texts,
    report_of search texts,
    record {
      search = search;
      texts = texts;
      searches = searches;
      begins = tested_begins late search texts (start_for find on) tested (trusts search texts searches);
      bytes_are = refl;
      report_is = refl;
    },
  );
}
  where
    by_cut : (r : CutRefusal) → RefusesCut find files on r → ⊥
    by_cut r denied =
        let one = one_search_of laws find files denied.search search denied.texts texts denied.searches searches in
        tested_or_refused search texts (start_for find on) r tested
        (subst (λ (x : Search). CutRefuses x texts (start_for find on) r) one.0
        (subst (λ (xs : List (List ℕ)). CutRefuses denied.search xs (start_for find on) r) one.1 denied.refuses))
