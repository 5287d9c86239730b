-- What is asked of a search and with what it may begin, and what is known where it ended.
use Rattle.std.specs.Prelude.{◌≡◌, ◌≢◌, ◌≤◌, ℕ, true, List, length, All, Option, None, IfErr, IfSome, OnErr, OnOk, Result, Err}
use Rattle.std.specs.List.{AllZip}
use Rattle.eql_outside.specs.Written.{WroteAll, WroteFront}
use Rattle.eql_outside.specs.declared.disk.Disk as disks
use Rattle.eql_outside.specs.declared.sink.Sink as sinks
use Rattle.eql_outside.specs.declared.source.Source as sources
use Rattle.eql_values.specs.declared.cut.LaneCut.{LaneCut}
use Rattle.eql_values.specs.declared.found.Holder.{Holder}
use Rattle.eql_values.specs.declared.reader.LineReader as readers
use Rattle.eql_laws.specs.Alive.{IsSpan}
use Rattle.eql_laws.specs.Counting.{IsShardText}
use Rattle.eql_lane.specs.Views.{LaneView}
use Rattle.eql_book.specs.Books.{BookState}
use Rattle.eql_cut.specs.declared.cut.Cut.{Cut}
use Rattle.eql_conductor.specs.declared.plan.Keep.{Keep}
use Rattle.eql_conductor.specs.declared.plan.Run.{Run}
use Rattle.eql_conductor.specs.declared.plan.RunPlan.{RunPlan}
use Rattle.eql_conductor.specs.declared.stop.Stop.{Stop}
use Rattle.eql_conductor.specs.declared.stop.Stop.TheVariants as stop
use Rattle.eql_conductor.specs.Runs.{disk_faults}
use Rattle.eql_search.specs.declared.rules.Rules.{Rules as Asked}
use Rattle.eql_search.specs.Answers.{AreSteadyBut, HasSearchCause, IsClosed, IsRead, StaysLane, WereRead}
use Rattle.eql_search.specs.Beginnings.{BeginsOn, MayBegin, MayKeepOn, cuts_of, start_at}
use Rattle.eql_search.specs.Keeping.{AreSearchCuts, KeptCounted, WroteCounted}
use Rattle.eql_search.specs.Searches.{AreBegun, AreTextsOf, HasNumbers, Rules, rest_of, rules_of}

-- ---- the beginning
-- the numbers that a search is asked with: lines at once, stages, a span in nanoseconds, and hands
pub record AreInBounds (plan : RunPlan) (rules : Asked) (hands : ℕ) : Type 0 where
  pub batch_from : 1 ≤ plan.batch
  pub batch_to : plan.batch ≤ 4096
  pub stages_from : 1 ≤ rules.stages
  pub stages_to : rules.stages ≤ 256
  pub is_span : IsSpan rules.span
  pub hands_to : hands ≤ 65536

-- lanes, pending sequences, book and disk with which a search may begin. The texts of the lanes are told or not
pub record MaySearch {S L D : Type 0} (source : sources.Ghosts S) (reader : readers.Ghosts L) (disk : disks.Ghosts D)
    (known_texts : Option (List (List ℕ))) (rules : Asked) (lanes : List (LaneView S L)) (holders : List Holder) (run : Run D) : Type 0 where
  pub some : 1 ≤ length lanes
  pub few : length lanes ≤ 256
  pub begun : AreBegun reader.read_of lanes
  pub texts_are : IfSome known_texts (λ texts. AreTextsOf source.left texts lanes)
  pub whole : run.book.whole ≡ true
  pub begins : MayBegin (rules_of reader.read_of rules lanes) run.book.pipes run.plan.mark (cuts_of lanes) holders run.book.kept
  pub keeps : MayKeepOn disk.history run.plan (length lanes) run.keep

-- by which rules a search goes, and with what it begins
pub record Beginning : Type 0 where
  pub rules : Rules
  pub plan : RunPlan
  pub cuts : List LaneCut
  pub holders : List Holder
  pub book : BookState

abbrev pub beginning_of : {S L D : Type 0} → readers.Ghosts L → Asked → List (LaneView S L) → List Holder → Run D → Beginning
beginning_of reader rules lanes holders run =
    record { rules = rules_of reader.read_of rules lanes; plan = run.plan; cuts = cuts_of lanes; holders = holders; book = run.book }

-- what it begins with is nothing, or a cut of these texts
abbrev pub BeginsOver : Beginning → List (List ℕ) → Type 0
BeginsOver from texts = BeginsOn from.rules from.book.pipes texts (start_at from.plan.mark from.cuts from.holders from.book.kept)

-- the listing of texts, from the line after those that the book counts
abbrev pub listing_from : Beginning → List (List ℕ) → List ℕ
listing_from from = rest_of from.rules from.book.pipes from.book.places from.book.kept.listed

-- ---- the end
module _ {K : Type 0} (output : sinks.Ghosts K) where
  -- what was written, over told texts of which the cut is one where there is one, and of which each match has a number. After a stop that is
  -- asked of texts only that shards may have
  pub record WritesListing {A : Type 0} (known_texts : Option (List (List ℕ))) (from : Beginning) (sink sink' : K) (answer : Result A Stop) : Type 0 where
    pub whole : OnOk answer (IfSome known_texts (λ texts. BeginsOver from texts → HasNumbers from.rules texts
        → WroteAll (listing_from from texts) (output.written sink) (output.written sink')))
    pub front : OnErr answer (IfSome known_texts (λ texts. BeginsOver from texts → (All IsShardText texts → HasNumbers from.rules texts)
        → WroteFront (listing_from from texts) (output.written sink) (output.written sink')))
    -- a sink that doesn't tell goes on so
    pub silent : output.written sink ≡ None → output.written sink' ≡ None

  -- over such texts these are cuts of them, and the lines that they count were written and kept
  abbrev pub AreCutsFrom : (known_texts : Option (List (List ℕ))) → Beginning → (sink sink' : K) → List Cut → Type 0
  AreCutsFrom known_texts from sink sink' cuts = IfSome known_texts (λ texts. BeginsOver from texts → HasNumbers from.rules texts
      → AreSearchCuts from.rules from.book.pipes texts cuts
      × All (WroteCounted from.rules from.book.pipes from.book.places from.book.kept.listed texts (output.written sink) (output.written sink')) cuts
      × All (KeptCounted from.rules from.book.pipes from.book.places from.book.kept.listed texts (output.written sink) (output.kept sink) (output.kept sink')) cuts)

  -- why it stopped, and that no fault was passed over: of several at once a read fault is told. No count falls
  pub record StopsForCause {A S L D : Type 0} (disk : disks.Ghosts D) (known_texts : Option (List (List ℕ))) (olds news : List (LaneView S L))
      (sink sink' : K) (keep keep' : Option (Keep D)) (answer : Result A Stop) : Type 0 where
    pub cause : IfErr answer (λ why. HasSearchCause known_texts why olds news (output.fault_count sink) (output.fault_count sink')
        (disk_faults disk.history disk.fault_count keep) (disk_faults disk.history disk.fault_count keep'))
    pub reads_steady : AreSteadyBut (λ shard. IsRead answer) olds news
    pub writes_steady : answer ≢ Err stop.Write → ¬ IsRead answer → output.fault_count sink' ≡ output.fault_count sink
    pub disk_steady : answer ≢ Err stop.Disk → ¬ IsRead answer
        → disk_faults disk.history disk.fault_count keep' ≡ disk_faults disk.history disk.fault_count keep
    pub writes_rise : output.fault_count sink ≤ output.fault_count sink'
    pub disks_rise : disk_faults disk.history disk.fault_count keep ≤ disk_faults disk.history disk.fault_count keep'

-- what became of the lanes, in their order
pub record LanesEnd {A S L : Type 0} (source : sources.Ghosts S) (reader : readers.Ghosts L) (known_texts : Option (List (List ℕ))) (from : Beginning)
    (olds news : List (LaneView S L)) (answer : Result A Stop) : Type 0 where
  pub closed : OnOk answer (All IsClosed news)
  pub read : OnOk answer (IfSome known_texts (λ texts. BeginsOver from texts → WereRead from.rules.reads from.rules.slack texts news))
  pub stay : AllZip (StaysLane source.left source.lent_as reader.read_of) olds news
  pub texts_are : IfSome known_texts (λ texts. AreTextsOf source.left texts news)
