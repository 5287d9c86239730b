-- A search over the lanes of a run: what it searches for, with what it begins, and why it stops.
use Rattle.std.specs.Prelude.{◌≡◌, ◌≢◌, ◌≤◌, ◌<◌, ◌^◌, ℕ, List, [], All, length, map, slice_get, Option, None, Some, IfSome, Result, Ok, Err}
use Rattle.eql_values.specs.declared.cut.BookCut.{BookCut}
use Rattle.eql_values.specs.declared.cut.Counts.{Counts}
use Rattle.eql_values.specs.declared.cut.LaneCut.{LaneCut}
use Rattle.eql_values.specs.declared.found.Holder.{Holder}
use Rattle.eql_values.specs.declared.order.Mark.{Mark}
use Rattle.eql_outside.specs.Moments.{History}
use Rattle.eql_outside.specs.Written.{WroteFront}
use Rattle.eql_laws.specs.Places.{ReadTo, whole}
use Rattle.eql_parser.specs.Printed.{query_shown}
use Rattle.eql_query.specs.QueryTree.{query_tree}
use Rattle.eql_stages.specs.Stages.{span_in}
use Rattle.eql_words.specs.declared.commands.Find.{Find}
use Rattle.eql_lane.specs.Lanes.{fresh_cut as fresh_lane}
use Rattle.eql_lane.specs.Views.{LaneView}
use Rattle.eql_cut.specs.declared.cut.Cut.{Cut}
use Rattle.eql_cut.specs.declared.cut.CutHead.{CutHead}
use Rattle.eql_cut.specs.Rising.{RiseFrom}
use Rattle.eql_ckdisk.specs.declared.state.CkState.{CkState}
use Rattle.eql_ckdisk.specs.Putting.{Stands, last_cut}
use Rattle.eql_conductor.specs.declared.plan.Keep.{Keep}
use Rattle.eql_conductor.specs.Saving.{PutsCuts}
use Rattle.eql_runs.specs.Runs.{KeptCounted, ShardLimit, WroteCounted, shard_of}
use Rattle.eql_runs.specs.Searches.{Search, matches_of, pipes_of, reads_of, report_lines, shard_counts_from, slack_of, stages_of}
use Rattle.eql_runs.specs.Starts.{IsCutOf, lanes_over}
use Rattle.eql_inputs.specs.declared.error.InputError.TheVariants as error
use Rattle.eql_resume.specs.Beginnings.{Keeping, keeping_of, whole as whole_cut, undigested, unplaced}
use Rattle.eql_resume.specs.Lifted.{WereLifted}
use Rattle.eql_search.specs.Answers.{AreSteadyBut, BecameAt, RoseFaults}
use Rattle.eql_search.specs.Beginnings.{BeginsOn, cuts_of, start_at}
use Rattle.eql_search.specs.Keeping.{IsLaterCut}
use Rattle.eql_search.specs.Searches.{Rules}
use Rattle.eql_find.specs.declared.error.FindError.{FindError}
use Rattle.eql_find.specs.declared.error.FindError.TheVariants as run
use Rattle.eql_find.specs.declared.plan.PlannedQuery.{PlannedQuery}
use Rattle.eql_find.specs.Errors.{limit_of}

-- ---- what is searched for
abbrev pub search_in : Find → PlannedQuery → Search
search_in find p = record {
  query = query_tree p.plan.checked.query;
  mapping = p.mapping;
  tie = find.tie;
  slack = find.slack;
  places = find.places;
}

-- the rules that a search goes by
abbrev pub rules_in : Search → Rules
rules_in search = record { reads = reads_of search; slack = slack_of search; stages = stages_of search; span = span_in search.query.body }

-- the slack that cuts tell, in milliseconds; a run without one keeps no cuts
abbrev pub slack_told : Option ℕ → ℕ
slack_told None = 0
slack_told (Some ms) = ms

-- what the cuts of a run say of it
abbrev pub head_in : Find → PlannedQuery → CutHead
head_in find p = record {
  query = query_shown (query_tree p.plan.checked.query);
  mapping = p.mapping;
  tie = find.tie;
  slack = slack_told find.slack;
  shards = length find.shards;
}

-- ---- with what it begins
-- a lane of which nothing was read
abbrev pub IsFresh : {S L : Type 0} → LaneView S L → Type 0
IsFresh lane = (lane.state.cut ≡ fresh_lane) × (lane.places ≡ [])

-- the places that lanes keep of the lines that were wanted
abbrev pub places_in : {S L : Type 0} → List (LaneView S L) → List (List (ℕ × ℕ))
places_in lanes = map (λ lane. lane.places) lanes

-- a lane from which its places were taken
abbrev pub bare : {S L : Type 0} → LaneView S L → LaneView S L
bare lane = record lane { places = [] }

-- lanes began with what a cut without places keeps of them, over shards that were read up to places. Where their texts are told
-- these are the whole shards
pub record BeganLifted {S L : Type 0} (texts : Option (List (List ℕ))) (cut : Cut) (lanes : List (LaneView S L)) : Type 0 where
  pub shards : List ReadTo
  pub were_lifted : WereLifted cut 0 shards (cuts_of lanes) (places_in lanes)
  pub texts_are : IfSome texts (λ ts. map whole shards ≡ ts)

-- lanes began with what a cut keeps of them, as it stands
pub record BeganFrom {S L : Type 0} (cut : Cut) (lanes : List (LaneView S L)) : Type 0 where
  pub cuts_are : cuts_of lanes ≡ cut.lanes
  pub no_places : All (λ lane. lane.places ≡ []) lanes

-- lanes began with what a cut without digests keeps of them, with those of what was read of some texts. Where texts are told these are
-- the texts
pub record BeganRetraced {S L : Type 0} (texts : Option (List (List ℕ))) (cut : Cut) (lanes : List (LaneView S L)) : Type 0 where
  pub over : List (List ℕ)
  pub cuts_are : cuts_of lanes ≡ lanes_over over cut.lanes
  pub texts_are : IfSome texts (λ ts. over ≡ ts)
  pub no_places : All (λ lane. lane.places ≡ []) lanes

-- so lanes began with what the text of a cut in this format keeps of them, or afresh
abbrev pub BeganBy : {S L : Type 0} → (texts : Option (List (List ℕ))) → Keeping → Cut → List (LaneView S L) → Type 0
BeganBy texts whole_cut cut lanes = BeganFrom cut lanes
BeganBy texts undigested cut lanes = BeganRetraced texts cut lanes
BeganBy texts unplaced cut lanes = BeganLifted texts cut lanes

abbrev pub BeganWith : {S L : Type 0} → (texts : Option (List (List ℕ))) → (format : ℕ) → Option Cut → List (LaneView S L) → Type 0
BeganWith texts format None lanes = All IsFresh lanes
BeganWith texts format (Some cut) lanes = BeganBy texts (keeping_of format) cut lanes

-- what lanes, pending sequences and a book that begin so are of these texts: nothing, or a cut of them
abbrev pub StartsOn : Search → (texts : List (List ℕ)) → Mark → List LaneCut → List Holder → BookCut → Type 0
StartsOn search texts mark lanes holders book = BeginsOn (rules_in search) (pipes_of search) texts (start_at mark lanes holders book)

-- ---- the report
-- a report of as many shards as the words name, of which the error output got a front; where a run may begin so over told texts it is that of
-- the search
pub record WroteReportOf (find : Find) (search : Search) (texts : Option (List (List ℕ))) (Started : List (List ℕ) → Type 0)
    (err err' : Option (List ℕ)) : Type 0 where
  pub counts : List Counts
  pub count : length counts ≡ length find.shards
  pub wrote : WroteFront (report_lines 0 counts) err err'
  pub counts_are : IfSome texts (λ ts. Started ts → counts ≡ shard_counts_from search 0 ts)

-- ---- the disk
-- the cuts that a run put, one after another, none of a time before the one before it. `Are` says which texts they are cuts of. The generations
-- came to their end only where they began far up
pub record RunPutsCuts (head : CutHead) (from : Mark) (Are : List Cut → Type 0) (state then : CkState) (before now : Option History)
    (ended : Type 0) : Type 0 where
  pub cuts : List Cut
  pub are_later : All (IsLaterCut head from) cuts
  pub are_cuts : Are cuts
  pub rise : RiseFrom from cuts
  pub puts : PutsCuts (last_cut state) cuts before now
  pub at_end : ended → ((last_cut then).generation ≡ 2 ^ 63) × (2 ^ 62 ≤ (last_cut state).generation) × Stands (last_cut then) now

module _ {D : Type 0} (history : D → Option History) where
  abbrev pub KeepsAs : {A : Type 0} → CutHead → Mark → (List Cut → Type 0) → (keep kept : Option (Keep D)) → Result A FindError → Type 0
  KeepsAs head from Are None None answer = answer ≢ Err run.Generation
  KeepsAs head from Are None (Some l) answer = ⊥
  KeepsAs head from Are (Some k) None answer = ⊥
  KeepsAs head from Are (Some k) (Some l) answer =
      RunPutsCuts head from Are k.state l.state (history k.disk) (history l.disk) (answer ≡ Err run.Generation)

-- where a run may begin so over told texts, these are cuts of the search over them, and what they count behind the first lines was written and
-- kept
abbrev pub AreCutsOf : Search → (texts : Option (List (List ℕ))) → (listed : ℕ) → (out out' kept kept' : Option (List ℕ))
    → (Started : List (List ℕ) → Type 0) → List Cut → Type 0
AreCutsOf search texts listed out out' kept kept' Started cuts =
    IfSome texts (λ ts. Started ts → length (matches_of search ts) < 2 ^ 64
    → (slack : ℕ) → search.slack ≡ Some slack
    → All (λ (cut : Cut). IsCutOf search slack ts cut) cuts × All (WroteCounted search ts listed out out') cuts
    × All (KeptCounted search ts listed out kept kept') cuts)

-- ---- why it stops
-- `Started` says that the run may begin so over texts, `Beyond` that a shard of them is beyond a limit
abbrev pub LanesStop : Find → Search → (texts : Option (List (List ℕ))) → (Started : List (List ℕ) → Type 0)
    → (Beyond : List (List ℕ) → ShardLimit → Type 0) → (err err' : Option (List ℕ)) → FindError → Type 0
LanesStop find search texts Started Beyond err err' (run.Files (error.Refused r)) = ⊥
LanesStop find search texts Started Beyond err err' (run.Files (error.Read name)) = Unit {0}
LanesStop find search texts Started Beyond err err' (run.Files error.Memory) = Unit {0}
LanesStop find search texts Started Beyond err err' (run.Cut why) = ⊥
LanesStop find search texts Started Beyond err err' (run.Held why) = ⊥
LanesStop find search texts Started Beyond err err' run.Disk = find.checkpoint ≢ None
LanesStop find search texts Started Beyond err err' run.Write = Unit {0}
LanesStop find search texts Started Beyond err err' (run.Limit l) =
    (shard_of (limit_of l) < length find.shards) × IfSome texts (λ ts. Beyond ts (limit_of l))
LanesStop find search texts Started Beyond err err' run.Generation = find.checkpoint ≢ None
LanesStop find search texts Started Beyond err err' (run.Report r) = WroteReportOf find search texts Started err err'

-- the faults of the lanes' sources: where a read fault is told those of the lane of a shard with its name rose, and others may have risen;
-- else none did
pub record LaneFailed {S L : Type 0} (find : Find) (name : List ℕ) (olds news : List (LaneView S L)) : Type 0 where
  pub shard : ℕ
  pub named : slice_get find.shards shard ≡ Some name
  pub rose : BecameAt shard olds news RoseFaults

abbrev pub LaneFaultsFollow : {A S L : Type 0} → Find → Result A FindError → (olds news : List (LaneView S L)) → Type 0
LaneFaultsFollow find (Ok done) olds news = AreSteadyBut (λ s. ⊥) olds news
LaneFaultsFollow find (Err (run.Files (error.Refused r))) olds news = AreSteadyBut (λ s. ⊥) olds news
LaneFaultsFollow find (Err (run.Files (error.Read name))) olds news = LaneFailed find name.now olds news
LaneFaultsFollow find (Err (run.Files error.Memory)) olds news = AreSteadyBut (λ s. ⊥) olds news
LaneFaultsFollow find (Err (run.Cut why)) olds news = AreSteadyBut (λ s. ⊥) olds news
LaneFaultsFollow find (Err (run.Held why)) olds news = AreSteadyBut (λ s. ⊥) olds news
LaneFaultsFollow find (Err run.Disk) olds news = AreSteadyBut (λ s. ⊥) olds news
LaneFaultsFollow find (Err run.Write) olds news = AreSteadyBut (λ s. ⊥) olds news
LaneFaultsFollow find (Err (run.Limit l)) olds news = AreSteadyBut (λ s. ⊥) olds news
LaneFaultsFollow find (Err run.Generation) olds news = AreSteadyBut (λ s. ⊥) olds news
LaneFaultsFollow find (Err (run.Report r)) olds news = AreSteadyBut (λ s. ⊥) olds news
