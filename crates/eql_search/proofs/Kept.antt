-- Which cuts a run put on its disk.
use Rattle.std.proofs.Common.{◌≡◌, ◌≤◌, ◌^◌, ℕ, ℤ, List, [], Option, None, Some, Ok, Err, All, length, refl, arith, subst}
use Rattle.std.specs.Prelude.{◌≤ℤ◌, pos, IfSome, OnOk}
use Rattle.std.proofs.lemmas.List.Elements.{All-nil, All-weaker}
use Rattle.eql_outside.specs.Moments.{History}
use Rattle.eql_outside.specs.declared.disk.Disk as disks
use Rattle.eql_outside.specs.declared.sink.Sink as sinks
use Rattle.eql_outside.specs.declared.source.Source as sources
use Rattle.eql_values.specs.Accepted.{Reads}
use Rattle.eql_values.specs.declared.reader.LineReader as readers
use Rattle.eql_values.specs.declared.found.Holder.{Holder}
use Rattle.eql_values.specs.declared.order.Mark.{Mark}
use Rattle.eql_laws.specs.Alive.{IsSpan}
use Rattle.eql_laws.specs.Belows.{greatest_slack}
use Rattle.eql_laws.specs.Fitting.{Run}
use Rattle.eql_lane.specs.Views.{LaneView}
use Rattle.eql_parts.specs.PartSteps.{PartView, Rules as PartRules}
use Rattle.eql_book.specs.Books.{BookState}
use Rattle.eql_book.proofs.Wholes.{book_is_kept, end_is_whole}
use Rattle.eql_cut.specs.declared.cut.Cut.{Cut}
use Rattle.eql_cut.specs.declared.cut.CutHead.{CutHead}
use Rattle.eql_cut.specs.Rising.{RiseFrom}
use Rattle.eql_ckdisk.specs.declared.state.CkState.{CkState}
use Rattle.eql_ckdisk.specs.Putting.{Stands, last_cut}
use Rattle.eql_ckdisk.specs.Runs.{last_after}
use Rattle.eql_conductor.specs.declared.plan.Keep.{Keep}
use Rattle.eql_conductor.specs.declared.plan.Run.{Run as Carried}
use Rattle.eql_conductor.specs.declared.plan.RunPlan.{RunPlan}
use Rattle.eql_conductor.specs.declared.stop.Stop.TheVariants as stop
use Rattle.eql_conductor.specs.Benches.{Known}
use Rattle.eql_conductor.specs.Going.{RunResult}
use Rattle.eql_conductor.specs.LaneRounds.{text_at}
use Rattle.eql_conductor.specs.Lists.{known_in}
use Rattle.eql_conductor.specs.Outputs.{Output, output_of}
use Rattle.eql_conductor.specs.RunLaws.{BeginsTold, rules_of}
use Rattle.eql_conductor.specs.Runs.{IsRunCut, KeepGoes, KeptLinesOf, LastHolds, MayKeepIf, RunPuts, WroteLinesOf}
use Rattle.eql_conductor.proofs.Cutting.{puts_none}
use Rattle.eql_conductor.proofs.Recorded.{run_cut_is, run_cut_is_safe, wrote_to_cuts}
use Rattle.eql_hub_run.specs.Beside.{HubRan, IsSameBench, IsTold}
use Rattle.eql_search.specs.Beginnings.{BeginsOn, MayKeepOn, cuts_of, run_by, start_at}
use Rattle.eql_search.specs.Keeping.{AreSearchCuts, IsLaterCut, IsSearchCut, KeepsOn, KeptCounted, PutsThese, WroteCounted}
use Rattle.eql_search.specs.Searches.{AreBegunFrom, AreTextsOf, HasNumbers, Rules}
use Rattle.eql_search.proofs.Generations.{few_cuts}
use Rattle.eql_search.proofs.Lines.{begins_told}
use Rattle.eql_search.proofs.Opened.{BeginsSo}
use Rattle.eql_search.proofs.Texts.{for_some, of_some}
use Rattle.eql_search.proofs.Told.{done_then, generation_then, no_disk, no_memory}

-- ---- cuts may be kept
-- a search keeps them as a run over its lanes may
pub may_keep : {S L D : Type 0} (history : D → Option History) (count : D → ℕ) (read_of : L → Reads) (text : ℕ → Option (List ℕ)) (lanes : List (LaneView S L)) (parts : List PartView)
    (plan : RunPlan) (keep : Option (Keep D)) → MayKeepOn history plan (length lanes) keep → MayKeepIf history count plan (known_in read_of text lanes parts) keep
may_keep history count read_of text lanes parts plan None may = may
may_keep history count read_of text lanes parts plan (Some k) may = (may.0, record { every = may.1; head = record { names = may.2; shards = may.3 }; stands = may.4 })

-- ---- nothing was put
module _ {D : Type 0} (history : D → Option History) (head : CutHead) (from : Mark) (Are : List Cut → Type 0) (are : Are []) where
  puts_nothing : (k : Keep D) → Stands (last_cut k.state) (history k.disk) → PutsThese {A = Unit {0}} head from Are k.state k.state (history k.disk) (history k.disk) (Err stop.Memory)
  puts_nothing k stands = record {
    cuts = [];
    are_later = All-nil (IsLaterCut head from);
    are_cuts = are;
    rise = tt;
    puts = puts_none (last_cut k.state) (history k.disk);
    stands = λ disk memory unread. stands;
    last = tt;
    ended = λ e. absurd cc;
  }

  pub keeps_nothing : (plan : RunPlan) (lanes : ℕ) (keep : Option (Keep D)) → MayKeepOn history plan lanes keep → KeepsOn history {A = Unit {0}} head from Are keep keep (Err stop.Memory)
  keeps_nothing plan lanes None may = λ e. cc
  keeps_nothing plan lanes (Some k) may = puts_nothing k may.4

module _ {S L K D : Type 0} (source : sources.Ghosts S) (reader : readers.Ghosts L) (output : sinks.Ghosts K) (disk : disks.Ghosts D) (reads : Reads) (slack : Option ℤ)
    (stages : ℕ) (span : Option ℤ) (told : Option (List (List ℕ))) (olds news : List (LaneView S L)) (holders : List Holder) (parts : List PartView)
    (sink sink' : K) (carried carried' : Carried D)
    (first last : Known) (begun : AreBegunFrom reader.read_of reads slack 0 olds) (is_span : IsSpan span) (few : length olds ≤ 256)
    (texts_are : IfSome told (λ (texts : List (List ℕ)). AreTextsOf source.left texts olds))
    (begins : BeginsSo source.left reader.read_of reads slack stages span (text_at told) olds holders parts carried.plan carried.book carried.plan.mark)
    (same : IsSameBench (known_in reader.read_of (text_at told) olds parts) first) where
  abbrev plan : RunPlan
  plan = carried.plan

  abbrev book : BookState
  book = carried.book

  abbrev before : Output
  before = output_of output sink

  abbrev now : Output
  now = output_of output sink'

  abbrev rules : PartRules
  rules = record { stages = stages; span = span }

  abbrev by : Rules
  by = record { reads = reads; slack = slack; stages = stages; span = span }

  abbrev On : List (List ℕ) → Type 0
  On texts = BeginsOn by book.pipes texts (start_at plan.mark (cuts_of olds) holders book.kept)

  begun_told : (texts : List (List ℕ)) → told ≡ Some texts → AreTextsOf source.left texts olds → On texts → HasNumbers by texts → BeginsTold rules reads slack texts plan.mark holders first book
  begun_told texts e are on numbers =
      begins_told source reader output disk reads slack stages span told olds news holders parts sink sink' carried carried' first last begun is_span begins same texts e are on numbers

  -- a cut of the run, over told texts
  search_cut : (texts : List (List ℕ)) → told ≡ Some texts → AreTextsOf source.left texts olds → On texts → HasNumbers by texts → (bound : ℤ) → slack ≡ Some bound → pos 0 ≤ℤ bound → bound ≤ℤ greatest_slack
      → (cut : Cut) → IsRunCut plan.head plan.mark first book cut → IsSearchCut by book.pipes texts bound cut
  search_cut texts e are on numbers bound is low high cut made =
      let run : Run = run_by by book.pipes 0 bound in
      let began : BeginsTold (rules_of run) reads (Some bound) texts plan.mark holders first book =
      subst (λ (o : Option ℤ). BeginsTold rules reads o texts plan.mark holders first book) is (begun_told texts e are on numbers) in
      record {
        is_cut = run_cut_is book_is_kept end_is_whole run reads texts plan.mark holders first book began refl plan.head cut made;
        safe = run_cut_is_safe book_is_kept end_is_whole run reads texts plan.mark holders first book began refl plan.head cut made;
        in_range = (made.told reads (Some bound) texts rules holders began.texts_are began.rests).in_range low high;
      }

  -- of such a cut the lines were written and kept
  abbrev Wrote : List (List ℕ) → Cut → Type 0
  Wrote texts = WroteCounted by book.pipes book.places book.kept.listed texts before.written now.written

  abbrev Kept : List (List ℕ) → Cut → Type 0
  Kept texts = KeptCounted by book.pipes book.places book.kept.listed texts before.written before.kept now.kept

  kept_cuts : (texts : List (List ℕ)) → BeginsTold rules reads slack texts plan.mark holders first book → (kept : Option (List ℕ)) (cuts : List Cut)
      → All (IsRunCut plan.head plan.mark first book) cuts → All (λ (cut : Cut). IfSome kept (λ _. WroteLinesOf plan.mark first book before.written now.kept cut)) cuts
      → All (KeptCounted by book.pipes book.places book.kept.listed texts before.written kept now.kept) cuts
  kept_cuts texts began None cuts made lines = lines
  kept_cuts texts began (Some bytes) cuts made lines =
      wrote_to_cuts book_is_kept end_is_whole rules reads slack texts plan.mark holders first book before.written now.kept began plan.head cuts made lines

  abbrev pub Are : List Cut → Type 0
  Are cuts = IfSome told (λ texts. On texts → HasNumbers by texts → AreSearchCuts by book.pipes texts cuts × All (Wrote texts) cuts × All (Kept texts) cuts)

  abbrev WroteLines : List Cut → Type 0
  WroteLines = All (WroteLinesOf plan.mark first book before.written now.written)

  abbrev KeptLines : List Cut → Type 0
  KeptLines = All (KeptLinesOf plan.mark first book before now.kept)

  search_cuts : (cuts : List Cut) → All (IsRunCut plan.head plan.mark first book) cuts → WroteLines cuts → KeptLines cuts → Are cuts
  search_cuts cuts made wrote kept =
      for_some told (λ (texts : List (List ℕ)). On texts → HasNumbers by texts → AreSearchCuts by book.pipes texts cuts × All (Wrote texts) cuts × All (Kept texts) cuts)
      (λ texts e on numbers.
      let are = of_some told (λ (ts : List (List ℕ)). AreTextsOf source.left ts olds) texts e texts_are in
      let began = begun_told texts e are on numbers in (
        λ bound is low high.
            All-weaker (IsRunCut plan.head plan.mark first book) (IsSearchCut by book.pipes texts bound) (search_cut texts e are on numbers bound is low high) cuts made,
        wrote_to_cuts book_is_kept end_is_whole rules reads slack texts plan.mark holders first book before.written now.written began plan.head cuts made wrote,
        kept_cuts texts began before.kept cuts made kept,
      ))

  module _ (r : RunResult) (ended : RunResult) (told_as : IsTold ended r) where
    later_cut : (cut : Cut) → IsRunCut plan.head plan.mark first book cut → IsLaterCut plan.head plan.mark cut
    later_cut cut made = record { head_is = made.head_is; is_cut = made.is_cut; later = made.later }

    last_of : (state then_state : CkState) (disk disk_now : Option History) (cuts : List Cut) (a : RunResult) → IsTold ended a
        → RunPuts plan.head plan.mark first book state then_state disk disk_now cuts ended
        → OnOk a ((last_cut then_state ≡ last_after (last_cut state) cuts) × LastHolds (last_cut then_state) cuts disk_now)
    last_of state then_state disk disk_now cuts (Ok a) at puts =
        let done = done_then ended a at in (
          subst (λ (e : RunResult). OnOk e (last_cut then_state ≡ last_after (last_cut state) cuts)) done puts.state_is,
          subst (λ (e : RunResult). OnOk e (LastHolds (last_cut then_state) cuts disk_now)) done puts.holds,
        )
    last_of state then_state disk disk_now cuts (Err of) at puts = tt

    these : (state then_state : CkState) (disk disk_now : Option History) (cuts : List Cut) → length cuts ≤ 2 ^ 51 → WroteLines cuts → KeptLines cuts → RiseFrom plan.mark cuts
        → RunPuts plan.head plan.mark first book state then_state disk disk_now cuts ended → PutsThese plan.head plan.mark Are state then_state disk disk_now r
    these state then_state disk disk_now cuts few_of wrote lines rise puts = record {
      cuts = cuts;
      are_later = All-weaker (IsRunCut plan.head plan.mark first book) (IsLaterCut plan.head plan.mark) later_cut cuts puts.are_cuts;
      are_cuts = search_cuts cuts puts.are_cuts wrote lines;
      rise = rise;
      puts = puts.puts;
      stands = λ disk_fault memory unread. puts.stands (no_disk ended r told_as disk_fault unread) (no_memory ended r told_as memory unread);
      last = last_of state then_state disk disk_now cuts r told_as puts;
      ended = λ e.
          let full = puts.full (generation_then ended r e told_as) in
          let to = puts.generation_to in
          (full, omega (arith, full, to, few_of));
    }

    goes : (keep kept : Option (Keep D)) (cuts : List Cut) → length cuts ≤ 2 ^ 51 → WroteLines cuts → KeptLines cuts → RiseFrom plan.mark cuts
        → KeepGoes disk.history disk.fault_count plan.head plan.mark first book cuts ended keep kept → KeepsOn disk.history plan.head plan.mark Are keep kept r
    goes None None cuts few_of wrote lines rise kept_so = λ e. kept_so.1 (generation_then ended r e told_as)
    goes None (Some l) cuts few_of wrote lines rise kept_so = absurd kept_so
    goes (Some k) None cuts few_of wrote lines rise kept_so = absurd kept_so
    goes (Some k) (Some l) cuts few_of wrote lines rise kept_so = these k.state l.state (disk.history k.disk) (disk.history l.disk) cuts few_of wrote lines rise kept_so

  pub keeps : (r : RunResult) → HubRan source reader output disk (text_at told) olds news parts sink sink' first last carried carried' r
      → KeepsOn disk.history plan.head plan.mark Are carried.keep carried'.keep r
  keeps r run =
      let ran = run.conductor.ran in
      goes r run.ended run.hands.told carried.keep carried'.keep ran.cuts
      (few_cuts reader.read_of (text_at told) olds news parts first last same run.conductor.goes.same.lanes run.hands.lanes run.hands.on.count few begins.begins.sized plan ran.cuts run.ended ran.notes ran.bound)
      ran.wrote ran.lines_kept ran.rise ran.keeps
