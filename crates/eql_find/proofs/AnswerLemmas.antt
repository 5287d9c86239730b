-- What a run over lanes returns: its listing and its report, and why it errors.
use native.Mathlib.Omega.{arith}
use Rattle.std.proofs.Common.{◌≡◌, ◌≢◌, ◌<◌, ◌+◌, ◌^◌, ℕ, zero, suc, ℤ, List, [], ◌∷◌, ◌++◌, Option, Some, None, Err, refl, sym, ap, ap₂, ◌∙◌, subst, length, map}
use Rattle.std.specs.Prelude.{IfSome, All, slice_get, drop}
use Rattle.std.proofs.lemmas.List.{take_all, length-map}
use Rattle.std.proofs.lemmas.List.Elements.{All-nil}
use Rattle.std.proofs.lemmas.Option.{none-some, slice_get_within}
use Rattle.eql_values.specs.Accepted.{Reads}
use Rattle.eql_values.specs.Lines.{lines_of}
use Rattle.eql_values.specs.declared.cut.Counts.{Counts}
use Rattle.eql_outside.specs.Outside.{Rose}
use Rattle.eql_outside.specs.declared.refused.OutRefused.{OutRefused}
use Rattle.eql_outside.specs.declared.refused.OutRefused.TheVariants as refused_by
use Rattle.eql_outside.specs.Written.{WroteAll, WroteFront}
use Rattle.eql_laws.specs.Counting.{greatest_lines}
use Rattle.eql_stages.specs.Planned.{line_of, planned_query}
use Rattle.eql_words.specs.declared.commands.Find.{Find}
use Rattle.eql_words.specs.Bounds.{FindIsBounded}
use Rattle.eql_lane.specs.Slacks.{nanos_of}
use Rattle.eql_lane.specs.Views.{LaneView}
use Rattle.eql_lane.specs.declared.ops.ShardLimit.TheVariants as limit
use Rattle.eql_cut.specs.declared.cut.Cut.{Cut}
use Rattle.eql_conductor.specs.declared.stop.Stop.{Stop}
use Rattle.eql_conductor.specs.declared.stop.Stop.TheVariants as stop
use Rattle.eql_conductor.specs.LaneRounds.{text_at}
use Rattle.eql_resume.specs.Beginnings.{Rest}
use Rattle.eql_runs.specs.Runs.{GoesBeyond, KeptCounted, WroteCounted, many_bytes, many_lines}
use Rattle.eql_runs.specs.Searches.{Search, matches_of, plan_of, reads_of, report_lines, report_of, rest_of, shard_counts_from, slack_of}
use Rattle.eql_runs.specs.Starts.{IsCutOf}
use Rattle.eql_search.specs.Answers.{AreSteadyBut, BecameAt, CountWhole, HasSearchCause, IsNoFault, IsRead, RanOutOfBytes, RanOutOfLines, WereRead}
use Rattle.eql_search.specs.Searches.{AreTextsOf}
use Rattle.eql_find.specs.declared.error.FindError.{FindError}
use Rattle.eql_find.specs.declared.error.FindError.TheVariants as run
use Rattle.eql_find.specs.declared.plan.PlannedQuery.{PlannedQuery}
use Rattle.eql_find.specs.Errors.{DiskFollows, ErrFollows, IsFault, IsReport, OutFollows}
use Rattle.eql_shards.specs.Reports.{counts_in}
use Rattle.eql_find.specs.Running.{IsBeyondOn, StartsOver}
use Rattle.eql_find.specs.Searching.{AreCutsOf, LaneFaultsFollow, WroteReportOf, LanesStop, bare, search_in}
use Rattle.eql_find.specs.Stops.{IsErrorOf, read, write, disk, memory, limited, generation}
use Rattle.eql_find.proofs.KeepLemmas.{are_cuts_of}
use Rattle.eql_find.proofs.RunLemmas.{StartsSo}
use Rattle.eql_find.proofs.SearchLemmas.{AreSearched, slack_same, told_each, told_two}
use Rattle.eql_find.proofs.StayLemmas.{own_of, rose_over}

-- all of a text is a front of it
pub front_of_all : (text : List ℕ) (before now : Option (List ℕ)) → WroteAll text before now → WroteFront text before now
front_of_all text None now wrote = tt
front_of_all text (Some w) now wrote =
    (length text, wrote ∙ ap (λ (t : List ℕ). Some (w ++ t)) (sym (take_all (length text) text (omega arith))))

-- ---- the report
-- what lanes counted that read all lines of texts is what the report tells of them
module _ (search : Search) where
  counts_from : {S L : Type 0} (shard : ℕ) (texts : List (List ℕ)) (lanes : List (LaneView S L))
      → CountWhole (reads_of search) (slack_of search) shard texts lanes → counts_in lanes ≡ shard_counts_from search shard texts
  counts_from shard [] [] h = refl
  counts_from shard [] (l ∷ ls) h = absurd h
  counts_from shard (t ∷ ts) [] h = absurd h
  counts_from shard (t ∷ ts) (l ∷ ls) h = ap₂ (λ (c : Counts) (cs : List Counts). c ∷ cs) h.0 (counts_from (shard + 1) ts ls h.1)

counts_are : {S L : Type 0} (find : Find) (p : PlannedQuery) (ts : List (List ℕ)) (lanes : List (LaneView S L)) → planned_query p.plan ≡ plan_of (search_in find p)
    → WereRead (line_of (planned_query p.plan)) (nanos_of find.slack) ts lanes → counts_in lanes ≡ shard_counts_from (search_in find p) 0 ts
counts_are find p ts lanes plan were =
    counts_from (search_in find p) 0 ts lanes
    (subst (λ (reads : Reads). CountWhole reads (slack_of (search_in find p)) 0 ts lanes) (ap line_of plan)
    (subst (λ (slack : Option ℤ). CountWhole (line_of (planned_query p.plan)) slack 0 ts lanes) (slack_same find.slack) were.counts))

-- ---- what a run says of told texts with which it may begin
module _ {S L : Type 0} (find : Find) (p : PlannedQuery) (told : Option (List (List ℕ))) (lanes mids news : List (LaneView S L)) (rest placed : Rest)
    (starts : (ts : List (List ℕ)) → told ≡ Some ts → StartsOver told find p lanes rest ts → StartsSo find p ts mids placed)
    (listed_is : placed.book.listed ≡ rest.book.listed) where
  -- what the search says of them
  pub of_started : (P Q : List (List ℕ) → Type 0) → ((ts : List (List ℕ)) → P ts → Q ts) → IfSome told (λ ts. StartsSo find p ts mids placed → P ts)
      → IfSome told (λ ts. StartsOver told find p lanes rest ts → Q ts)
  of_started P Q f said = told_each told (λ ts. StartsSo find p ts mids placed → P ts) (λ ts. StartsOver told find p lanes rest ts → Q ts)
      (λ ts e h s. f ts (h (starts ts e s))) said

  pub listing_all : (before now : Option (List ℕ))
      → IfSome told (λ ts. StartsSo find p ts mids placed → WroteAll (rest_of (search_in find p) placed.book.listed ts) before now)
      → IfSome told (λ ts. StartsOver told find p lanes rest ts → WroteAll (rest_of (search_in find p) rest.book.listed ts) before now)
  listing_all before now = of_started (λ ts. WroteAll (rest_of (search_in find p) placed.book.listed ts) before now)
      (λ ts. WroteAll (rest_of (search_in find p) rest.book.listed ts) before now)
      (λ ts. subst (λ (n : ℕ). WroteAll (rest_of (search_in find p) n ts) before now) listed_is)

  pub listing_front : (before now : Option (List ℕ))
      → IfSome told (λ ts. StartsSo find p ts mids placed → WroteFront (rest_of (search_in find p) placed.book.listed ts) before now)
      → IfSome told (λ ts. StartsOver told find p lanes rest ts → WroteFront (rest_of (search_in find p) rest.book.listed ts) before now)
  listing_front before now = of_started (λ ts. WroteFront (rest_of (search_in find p) placed.book.listed ts) before now)
      (λ ts. WroteFront (rest_of (search_in find p) rest.book.listed ts) before now)
      (λ ts. subst (λ (n : ℕ). WroteFront (rest_of (search_in find p) n ts) before now) listed_is)

  -- the whole listing is a front of it too
  pub listing_some : (before now : Option (List ℕ))
      → IfSome told (λ ts. StartsSo find p ts mids placed → WroteAll (rest_of (search_in find p) placed.book.listed ts) before now)
      → IfSome told (λ ts. StartsOver told find p lanes rest ts → WroteFront (rest_of (search_in find p) rest.book.listed ts) before now)
  listing_some before now = of_started (λ ts. WroteAll (rest_of (search_in find p) placed.book.listed ts) before now)
      (λ ts. WroteFront (rest_of (search_in find p) rest.book.listed ts) before now)
      (λ ts h. front_of_all (rest_of (search_in find p) rest.book.listed ts) before now
      (subst (λ (n : ℕ). WroteAll (rest_of (search_in find p) n ts) before now) listed_is h))

  module _ (plan : planned_query p.plan ≡ plan_of (search_in find p))
      (were : IfSome told (λ ts. StartsSo find p ts mids placed → WereRead (line_of (planned_query p.plan)) (nanos_of find.slack) ts news)) where
    pub counted : IfSome told (λ ts. StartsOver told find p lanes rest ts → counts_in news ≡ shard_counts_from (search_in find p) 0 ts)
    counted = of_started (λ ts. WereRead (line_of (planned_query p.plan)) (nanos_of find.slack) ts news)
        (λ ts. counts_in news ≡ shard_counts_from (search_in find p) 0 ts) (λ ts. counts_are find p ts news plan) were

    -- a run that is done wrote its listing and its report
    pub done_by : (out out' err err' : Option (List ℕ))
        → IfSome told (λ ts. StartsSo find p ts mids placed → WroteAll (rest_of (search_in find p) placed.book.listed ts) out out')
        → WroteAll (report_lines 0 (counts_in news)) err err'
        → IfSome told (λ ts. StartsOver told find p lanes rest ts
        → WroteAll (rest_of (search_in find p) rest.book.listed ts) out out' × WroteAll (report_of (search_in find p) ts) err err')
    done_by out out' err err' listed wrote =
        told_two told (λ ts. StartsOver told find p lanes rest ts → WroteAll (rest_of (search_in find p) rest.book.listed ts) out out')
        (λ ts. StartsOver told find p lanes rest ts → counts_in news ≡ shard_counts_from (search_in find p) 0 ts)
        (λ ts. StartsOver told find p lanes rest ts
        → WroteAll (rest_of (search_in find p) rest.book.listed ts) out out' × WroteAll (report_of (search_in find p) ts) err err')
        (λ ts l c s. (l s, subst (λ (cs : List Counts). WroteAll (report_lines 0 cs) err err') (c s) wrote))
        (listing_all out out' listed) counted

    -- the report of which a front was written
    pub report_by : (err err' : Option (List ℕ)) → length news ≡ length lanes → length lanes ≡ length find.shards
        → WroteFront (report_lines 0 (counts_in news)) err err'
        → WroteReportOf find (search_in find p) told (StartsOver told find p lanes rest) err err'
    report_by err err' long many wrote = record {
      counts = counts_in news;
      count = length-map news (λ lane. lane.state.cut.counts) ∙ long ∙ many;
      wrote = wrote;
      counts_are = counted;
    }

  -- the cuts that it put are cuts of the search, and what they count was written and kept
  pub cuts_are : FindIsBounded find → (out out' kept kept' : Option (List ℕ)) (cuts : List Cut)
      → IfSome told (λ ts. StartsSo find p ts mids placed → AreSearched (search_in find p) ts placed.book.listed out out' kept kept' cuts)
      → AreCutsOf (search_in find p) told rest.book.listed out out' kept kept' (StartsOver told find p lanes rest) cuts
  cuts_are bounds out out' kept kept' cuts = of_started (λ ts. AreSearched (search_in find p) ts placed.book.listed out out' kept kept' cuts)
      (λ ts. length (matches_of (search_in find p) ts) < 2 ^ 64 → (slack : ℕ) → find.slack ≡ Some slack
      → All (λ (cut : Cut). IsCutOf (search_in find p) slack ts cut) cuts × All (WroteCounted (search_in find p) ts rest.book.listed out out') cuts
      × All (KeptCounted (search_in find p) ts rest.book.listed out kept kept') cuts)
      (λ ts are. are_cuts_of find p bounds ts rest.book.listed out out' kept kept' cuts
      (subst (λ (n : ℕ). AreSearched (search_in find p) ts n out out' kept kept' cuts) listed_is are))

-- no cuts are such
pub no_cuts : (search : Search) (told : Option (List (List ℕ))) (listed : ℕ) (out out' kept kept' : Option (List ℕ)) (StartsOver : List (List ℕ) → Type 0)
    → AreCutsOf search told listed out out' kept kept' StartsOver []
no_cuts search None listed out out' kept kept' StartsOver = tt
no_cuts search (Some ts) listed out out' kept kept' StartsOver =
    λ started less slack is. (All-nil (IsCutOf search slack ts), All-nil (WroteCounted search ts listed out out'), All-nil (KeptCounted search ts listed out kept kept'))

-- ---- errors
-- the text of a lane, by its shard
text_there : {S L : Type 0} (left : S → Option (List ℕ)) (texts : List (List ℕ)) (lanes : List (LaneView S L)) (shard : ℕ) (lane : LaneView S L)
    → AreTextsOf left texts lanes → slice_get lanes shard ≡ Some lane → (text : List ℕ) × (slice_get texts shard ≡ Some text)
text_there left [] [] shard lane of was = absurd (none-some lane was)
text_there left [] (l ∷ ls) shard lane of was = absurd of
text_there left (t ∷ ts) [] shard lane of was = absurd of
text_there left (t ∷ ts) (l ∷ ls) zero lane of was = (t, refl)
text_there left (t ∷ ts) (l ∷ ls) (suc shard) lane of was = text_there left ts ls shard lane of.1 was

module _ {S L : Type 0} (left : S → Option (List ℕ)) (find : Find) (told : Option (List (List ℕ))) (lanes mids news : List (LaneView S L))
    (taken : mids ≡ map bare lanes) (texts_of : IfSome told (λ ts. AreTextsOf left ts lanes)) (many : length lanes ≡ length find.shards) where
  within : (shard : ℕ) (lane : LaneView S L) → slice_get mids shard ≡ Some lane → shard < length find.shards
  within shard lane was =
      let own = own_of lanes mids news taken shard lane was in
      let less = slice_get_within lanes shard own.own own.was in
      omega (arith, less, many)

  beyond_lines : (shard : ℕ) → BecameAt shard mids news (RanOutOfLines (text_at told shard)) → IfSome told (λ ts. IsBeyondOn lanes ts (many_lines shard))
  beyond_lines shard b = by told texts_of b
    where
      by : (o : Option (List (List ℕ))) → IfSome o (λ ts. AreTextsOf left ts lanes) → BecameAt shard mids news (RanOutOfLines (text_at o shard))
          → IfSome o (λ ts. IsBeyondOn lanes ts (many_lines shard))
      by None of out = tt
      by (Some ts) of out =
          let own = own_of lanes mids news taken shard out.old out.was in
          let text = text_there left ts lanes shard own.own of own.was in
          record {
            lane = own.own;
            was = own.was;
            text = text.0;
            there = text.1;
            beyond = subst (λ (l : LaneView S L). GoesBeyond (many_lines shard) (Some l.state.cut) text.0) (sym own.bare_is)
                (subst (λ (o : Option (List ℕ)). IfSome o (λ t. greatest_lines < out.old.state.cut.counts.lines + length (lines_of (drop out.old.state.cut.offset t)))) text.1
                out.became.beyond);
          }

  beyond_bytes : (shard : ℕ) → BecameAt shard mids news (RanOutOfBytes (text_at told shard)) → IfSome told (λ ts. IsBeyondOn lanes ts (many_bytes shard))
  beyond_bytes shard b = by told texts_of b
    where
      by : (o : Option (List (List ℕ))) → IfSome o (λ ts. AreTextsOf left ts lanes) → BecameAt shard mids news (RanOutOfBytes (text_at o shard))
          → IfSome o (λ ts. IsBeyondOn lanes ts (many_bytes shard))
      by None of out = tt
      by (Some ts) of out =
          let own = own_of lanes mids news taken shard out.old out.was in
          let text = text_there left ts lanes shard own.own of own.was in
          record {
            lane = own.own;
            was = own.was;
            text = text.0;
            there = text.1;
            beyond = subst (λ (o : Option (List ℕ)). IfSome o (λ t. GoesBeyond (many_bytes shard) (Some own.own.state.cut) t)) text.1 out.became.beyond;
          }

  -- why the run errors, by why its search stopped
  pub stopped_by : (search : Search) (StartsOver : List (List ℕ) → Type 0) (before now disk_before disk_now : ℕ) (err err' : Option (List ℕ)) (why : Stop) (h : FindError)
      → HasSearchCause told why mids news before now disk_before disk_now
      → (Rose disk_before disk_now → find.checkpoint ≢ None) → (why ≡ stop.Generation → find.checkpoint ≢ None)
      → IsErrorOf find.shards why h → LanesStop find search told StartsOver (IsBeyondOn lanes) err err' h
  stopped_by search StartsOver before now d e err err' _ _ cause rose ends (read shard name named) = tt
  stopped_by search StartsOver before now d e err err' _ _ cause rose ends write = tt
  stopped_by search StartsOver before now d e err err' _ _ cause rose ends disk = rose cause
  stopped_by search StartsOver before now d e err err' _ _ cause rose ends memory = tt
  stopped_by search StartsOver before now d e err err' _ _ cause rose ends (limited (limit.Lines shard)) = (within shard cause.old cause.was, beyond_lines shard cause)
  stopped_by search StartsOver before now d e err err' _ _ cause rose ends (limited (limit.Bytes shard)) = (within shard cause.old cause.was, beyond_bytes shard cause)
  stopped_by search StartsOver before now d e err err' _ _ cause rose ends generation = ends refl

  pub faults_by : (T : Type 0) (before now disk_before disk_now : ℕ) (why : Stop) (h : FindError) → HasSearchCause told why mids news before now disk_before disk_now
      → AreSteadyBut (λ shard. IsRead {A = T} (Err why)) lanes news → IsErrorOf find.shards why h → LaneFaultsFollow {A = T} find (Err h) lanes news
  faults_by T before now d f _ _ cause steady (read shard name named) = record {
    shard = shard;
    named = named;
    rose = rose_over lanes mids news taken shard cause;
  }
  faults_by T before now d f _ _ cause steady write = steady
  faults_by T before now d f _ _ cause steady disk = steady
  faults_by T before now d f _ _ cause steady memory = steady
  faults_by T before now d f _ _ cause steady (limited of) = steady
  faults_by T before now d f _ _ cause steady generation = steady

-- the counts of the disk, of the output and of the error output, by why the search stopped
module _ {S L : Type 0} (A : Type 0) (shards : List (List ℕ)) (told : Option (List (List ℕ))) (olds news : List (LaneView S L)) (before now disk_before disk_now : ℕ) where
  pub disk_as : (why : Stop) (h : FindError) → HasSearchCause told why olds news before now disk_before disk_now
      → (why ≢ stop.Disk → ¬ IsRead {A = A} (Err why) → disk_now ≡ disk_before) → IsErrorOf shards why h → DiskFollows {A = A} (Err h) disk_before disk_now
  disk_as _ _ cause steady (read shard name named) = tt
  disk_as _ _ cause steady write = steady (λ e. absurd cc) (λ e. e)
  disk_as _ _ cause steady disk = cause
  disk_as _ _ cause steady memory = steady (λ e. absurd cc) (λ e. e)
  disk_as _ _ cause steady (limited of) = steady (λ e. absurd cc) (λ e. e)
  disk_as _ _ cause steady generation = steady (λ e. absurd cc) (λ e. e)

  pub out_as : (why : Stop) (h : FindError) → HasSearchCause told why olds news before now disk_before disk_now
      → (why ≢ stop.Write → ¬ IsRead {A = A} (Err why) → now ≡ before) → IsErrorOf shards why h → OutFollows {A = A} (Err h) before now
  out_as _ _ cause steady (read shard name named) = tt
  out_as _ _ cause steady write = cause
  out_as _ _ cause steady disk = steady (λ e. absurd cc) (λ e. e)
  out_as _ _ cause steady memory = steady (λ e. absurd cc) (λ e. e)
  out_as _ _ cause steady (limited of) = steady (λ e. absurd cc) (λ e. e)
  out_as _ _ cause steady generation = steady (λ e. absurd cc) (λ e. e)

pub err_as : (A : Type 0) (shards : List (List ℕ)) (n : ℕ) (why : Stop) (h : FindError) → IsErrorOf shards why h → ErrFollows {A = A} (Err h) n n
err_as A shards n _ _ (read shard name named) = refl
err_as A shards n _ _ write = refl
err_as A shards n _ _ disk = refl
err_as A shards n _ _ memory = refl
err_as A shards n _ _ (limited of) = refl
err_as A shards n _ _ generation = refl

-- the counts of the error output, where it refused the report
pub refused_as : (A : Type 0) (why : OutRefused) (before now : ℕ) → (why ≡ refused_by.Failed → Rose before now) → (why ≢ refused_by.Failed → now ≡ before)
    → ErrFollows {A = A} (Err (run.Report why)) before now
refused_as A refused_by.Failed before now rose steady = rose refl
refused_as A refused_by.Memory before now rose steady = steady (λ e. cc)

pub calm_by : (shards : List (List ℕ)) (why : Stop) (h : FindError) → IsNoFault why → IsErrorOf shards why h → ¬ IsFault h
calm_by shards _ _ calm (read shard name named) fault = absurd calm
calm_by shards _ _ calm write fault = absurd calm
calm_by shards _ _ calm disk fault = absurd calm
calm_by shards _ _ calm memory fault = fault
calm_by shards _ _ calm (limited of) fault = fault
calm_by shards _ _ calm generation fault = fault

-- a search that stopped refused no report
pub no_report : (shards : List (List ℕ)) (why : Stop) (h : FindError) → IsErrorOf shards why h → ¬ IsReport h
no_report shards _ _ (read shard name named) report = report
no_report shards _ _ write report = report
no_report shards _ _ disk report = report
no_report shards _ _ memory report = report
no_report shards _ _ (limited of) report = report
no_report shards _ _ generation report = report

-- the end of the generations is told where the search told it, and nowhere else
pub ends_by : (shards : List (List ℕ)) (why : Stop) (h : FindError) → IsErrorOf shards why h → h ≡ run.Generation → why ≡ stop.Generation
ends_by shards _ _ (read shard name named) e = absurd cc
ends_by shards _ _ write e = absurd cc
ends_by shards _ _ disk e = absurd cc
ends_by shards _ _ memory e = absurd cc
ends_by shards _ _ (limited of) e = absurd cc
ends_by shards _ _ generation e = refl
