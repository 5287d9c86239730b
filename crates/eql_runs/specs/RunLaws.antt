-- Laws of what a run writes and refuses: they say that the clauses of the top call pin its output.
use Rattle.std.specs.Prelude.{◌≡◌, ◌↔◌, ◌≤◌, ◌<◌, ◌^◌, ◌⊎◌, ℕ, ℤ, List, length, Option, Some, None, All}
use Rattle.eql_runs.specs.Made.{made_texts}
use Rattle.eql_outside.specs.Areas.{Areas}
use Rattle.eql_laws.specs.Books.{greatest_shards}
use Rattle.eql_laws.specs.Counting.{IsShardText}
use Rattle.eql_laws.specs.Fitting.{Fits, Kept}
use Rattle.eql_values.specs.declared.cut.Pipe.{Pipe}
use Rattle.eql_query.specs.QueryTree.{QueryTree}
use Rattle.eql_values.specs.declared.value.Kind.{Kind}
use Rattle.eql_check.specs.Kinds.{kind_at}
use Rattle.eql_check.specs.Typing.{IsChecked}
use Rattle.eql_words.specs.declared.commands.Command.TheVariants as command
use Rattle.eql_words.specs.declared.commands.Find.{Find}
use Rattle.eql_words.specs.Commands.{command_of}
use Rattle.eql_runs.specs.Files.{Files, first_missing, HasChecked, IsWithin}
use Rattle.eql_runs.specs.Refusals.{Names, Refusal, Refuses, refusal_status}
use Rattle.eql_runs.specs.Refusals as refusal
use Rattle.eql_runs.specs.CutRefusals.{damaged, IsTested, IsTestedCut}
use Rattle.eql_runs.specs.Starts.{IsOwnCut, IsTrustedCut, OnDisk, StandsFor, start_for}
use Rattle.eql_ckdisk.specs.Found.{Found, found_on}
use Rattle.eql_cut.specs.declared.cut.Cut.{Cut}
use Rattle.eql_cut.specs.declared.cut.CutHead.{CutHead}
use Rattle.eql_cut.specs.Agreeing.{difference}
use Rattle.eql_cut.specs.Formats.{IsBytes}
use Rattle.eql_runs.specs.Searches.{Search, matches_of}
use Rattle.eql_runs.specs.Summaries.{IsMadeSearch}
use Rattle.eql_runs.specs.Runs.{IsFindAccepted, Searches, SearchesBeyond, ShardLimit, Writes, IsRefused, AreTrusted, AreWithin, CanRun}

-- what an image stands for is one thing
abbrev pub DiskHoldsOne : Type 0
DiskHoldsOne = (f : Found) (on other : OnDisk) → StandsFor on f → StandsFor other f → on ≡ other

-- an image of a disk stands for something: each area of it is a list of bytes
abbrev pub DiskHoldsSomething : Type 0
DiskHoldsSomething = (image : Areas) → IsBytes image.a → IsBytes image.b → (on : OnDisk) × StandsFor on (found_on image)

-- a run over texts for which what its disk holds passed all tests is refused for no cause
abbrev pub TestedIsAccepted : Type 0
TestedIsAccepted =
    (find : Find) (files : Files) (on : OnDisk) (search : Search) (texts : List (List ℕ)) → Searches find files search texts
    → IsTested search texts (start_for find on) → IsFindAccepted find files on

-- a cut that is trusted is one over these texts where it passed all tests: so one with digests, which the search put over whatever
-- texts, where the digests tell those from these
abbrev pub TestedIsOwn : Type 0
TestedIsOwn =
    (search : Search) (texts : List (List ℕ)) (format : ℕ) (cut : Cut) → IsTestedCut search texts format cut
    → IsTrustedCut search texts format cut → IsOwnCut search texts format cut

-- a run searches for one thing, over one list of texts
abbrev pub SearchIsOne : Type 0
SearchIsOne =
    (find : Find) (files : Files) (search other : Search) (texts others : List (List ℕ)) → Searches find files search texts
    → Searches find files other others → (search ≡ other) × (texts ≡ others)

-- whether a cut fits a run doesn't depend on the span of the run
abbrev pub FitsAtAnySpan : Type 0
FitsAtAnySpan =
    (stages values : ℕ) (pipes : List Pipe) (slack : ℤ) (span other : Option ℤ) (shards : ℕ) (kept : Kept)
    → Fits (record { stages = stages; span = span; values = values; pipes = pipes; slack = slack }) shards kept
    → Fits (record { stages = stages; span = other; values = values; pipes = pipes; slack = slack }) shards kept

-- what cuts say of their runs differs in nothing exactly when it is one and the same
abbrev pub HeadsAgree : Type 0
HeadsAgree = (cut now : CutHead) → (difference cut now ≡ None) ↔ (cut ≡ now)

-- the words, the files and what the disk holds determine the bytes and the report
abbrev pub ListingIsOne : Type 0
ListingIsOne =
    (words : List (List ℕ)) (files : Files) (on : OnDisk) (bytes other report beside : List ℕ)
    → Writes words files on bytes report → Writes words files on other beside
    → (bytes ≡ other) × (report ≡ beside)

-- the same refusal; or both say that the text in an area is no cut's, maybe at another place
pub data IsSameRefusal : Refusal → Refusal → Type 0 where
  same : {r : Refusal} → IsSameRefusal r r
  other_place : {area at to : ℕ} → IsSameRefusal (refusal.cut (damaged area at)) (refusal.cut (damaged area to))

-- words, files and disk are refused for one cause
abbrev pub RefusalIsOne : Type 0
RefusalIsOne =
    (words : List (List ℕ)) (files : Files) (on : OnDisk) (r s : Refusal) → IsRefused words files on r
    → IsRefused words files on s → IsSameRefusal r s

-- and with one status
abbrev pub StatusIsOne : Type 0
StatusIsOne =
    (words : List (List ℕ)) (files : Files) (on : OnDisk) (r s : Refusal) → IsRefused words files on r
    → IsRefused words files on s → refusal_status r ≡ refusal_status s

-- no run writes anything over words, files and a disk that are refused
abbrev pub WritesOrIsRefused : Type 0
WritesOrIsRefused =
    (words : List (List ℕ)) (files : Files) (on : OnDisk) (bytes report : List ℕ) (r : Refusal)
    → Writes words files on bytes report → IsRefused words files on r → ⊥

-- nothing is left out, whatever bytes both areas of the disk are. They stand for something, and of that: the words are no
-- command; or they, the files and the disk are refused; or, where the disk is trusted and the shards can be read to their end, a
-- run writes
abbrev pub NoRunIsLeftOut : Type 0
NoRunIsLeftOut =
    (words : List (List ℕ)) (files : Files) (image : Areas) → IsBytes image.a → IsBytes image.b
    → (on : OnDisk) × StandsFor on (found_on image)
    × ((command_of words ≡ None) ⊎ ((r : Refusal) × IsRefused words files on r)
    ⊎ (AreTrusted words files on → AreWithin words files
    → (bytes report : List ℕ) × Writes words files on bytes report))

-- files that are all there, with a query that is checked, aren't refused
abbrev pub CheckedIsAccepted : Type 0
CheckedIsAccepted =
    (names : Names) (files : Files) (query : QueryTree) (mapping : List (List ℕ × Kind)) (r : Refusal)
    → HasChecked names.query names.fields files query mapping → first_missing files names.shards ≡ None
    → Refuses names files r → ⊥

-- a run that can be done isn't refused, and no shard of it is beyond a limit
abbrev pub ReadyIsNotRefused : Type 0
ReadyIsNotRefused =
    (words : List (List ℕ)) (files : Files) (on : OnDisk) → CanRun words files on
    → ((r : Refusal) → IsRefused words files on r → ⊥)
    × ((find : Find) (limit : ShardLimit) → command_of words ≡ Some (command.Find find)
    → SearchesBeyond find files on limit → ⊥)

-- a checked query has fewer than 2^64 matches over at most 256 texts within the limits of a shard
abbrev pub MatchesAreFew : Type 0
MatchesAreFew =
    (search : Search) (texts : List (List ℕ)) → IsChecked (kind_at search.mapping) search.query
    → length texts ≤ greatest_shards → All IsShardText texts
    → length (matches_of search texts) < 2 ^ 64

-- and so has each run of `find`
abbrev pub RunsFindFew : Type 0
RunsFindFew =
    (words : List (List ℕ)) (files : Files) (find : Find) (search : Search) (texts : List (List ℕ))
    → command_of words ≡ Some (command.Find find) → Searches find files search texts
    → All IsShardText texts → length (matches_of search texts) < 2 ^ 64

-- the query and the mapping of a run of `made` are a search
abbrev pub MadeIsASearch : Type 0
MadeIsASearch = (search : Search) × IsMadeSearch search

-- and each text of such a run can be read to its end
abbrev pub MadeIsWithin : Type 0
MadeIsWithin = (events : ℕ) → events ≤ 1000000 → All IsWithin (made_texts events)
