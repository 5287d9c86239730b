-- What a search ensures, by the run that it was, or where there was no memory to begin.
use Rattle.std.proofs.Common.{◌≡◌, ◌≢◌, inl, inr, ◌≤◌, ℕ, ℤ, true, List, [], Option, Some, Ok, Err, All, length, refl, sym, ap, ◌∙◌, arith, subst}
use Rattle.std.specs.Prelude.{IfErr, IfSome, OnErr, OnOk, Result}
use Rattle.std.specs.List.{AllZip}
use Rattle.std.proofs.lemmas.List.Elements.{All-nil}
use Rattle.eql_outside.specs.declared.disk.Disk as disks
use Rattle.eql_outside.specs.declared.sink.Sink as sinks
use Rattle.eql_outside.specs.declared.source.Source as sources
use Rattle.eql_outside.specs.Written.{WroteAll, WroteFront}
use Rattle.eql_values.specs.Accepted.{Reads}
use Rattle.eql_values.specs.declared.reader.LineReader as readers
use Rattle.eql_values.specs.declared.found.Holder.{Holder}
use Rattle.eql_laws.specs.Alive.{IsSpan}
use Rattle.eql_laws.specs.Belows.{IsReading}
use Rattle.eql_laws.specs.Counting.{IsShardText}
use Rattle.eql_lane.specs.Views.{LaneView}
use Rattle.eql_parts.specs.PartSteps.{PartView, Rules as PartRules}
use Rattle.eql_book.specs.Books.{BookState}
use Rattle.eql_cut.specs.declared.cut.Cut.{Cut}
use Rattle.eql_conductor.specs.declared.plan.Run.{Run}
use Rattle.eql_conductor.specs.declared.plan.RunPlan.{RunPlan}
use Rattle.eql_conductor.specs.declared.stop.Stop.TheVariants as stop
use Rattle.eql_conductor.specs.Benches.{Known}
use Rattle.eql_conductor.specs.Going.{RunResult}
use Rattle.eql_conductor.specs.LaneRounds.{text_at}
use Rattle.eql_conductor.specs.Records.{FollowsPlans}
use Rattle.eql_conductor.specs.Runs.{disk_faults}
use Rattle.eql_conductor.proofs.Broken.{wrote_none}
use Rattle.eql_hub_run.specs.Beside.{HubRan}
use Rattle.eql_lock_bench.specs.Locked.{known_by}
use Rattle.eql_search.specs.declared.rules.Rules.{Rules as Asked}
use Rattle.eql_search.specs.Answers.{AreUnfailing, HasSearchCause, IsClosed, IsNoFault, IsRead, AreSteadyBut, StaysLane, WereRead}
use Rattle.eql_search.specs.Beginnings.{BeginsOn, MayBegin, MayKeepOn, cuts_of, start_at}
use Rattle.eql_search.specs.Keeping.{AreSearchCuts, IsSearchCut, KeepsOn, KeptCounted, WroteCounted}
use Rattle.eql_search.specs.Running.{DidNotBegin, TriesToSearch}
use Rattle.eql_search.specs.Searches.{AreBegunFrom, AreTextsOf, HasNumbers, Rules, rest_of}
use Rattle.eql_search.proofs.Causes.{counts_so, has_cause, lanes_unfailing, no_fault, reads_steady}
use Rattle.eql_search.proofs.Kept.{keeps, keeps_nothing}
use Rattle.eql_search.proofs.Lanes.{all_stay, lanes_stay, texts_stay}
use Rattle.eql_search.proofs.Lines.{lanes_closed, texts_read, wrote_front, wrote_whole}
use Rattle.eql_search.proofs.Opened.{BeginsSo, begins}
use Rattle.eql_search.proofs.Texts.{for_some, of_some}

-- what holds where an answer is good, or bad, holds of each told text then
ok_for : {A E T : Type 0} (r : Result A E) (told : Option T) (P : T → Type 0) → ((t : T) → told ≡ Some t → OnOk r (P t)) → OnOk r (IfSome told P)
ok_for (Ok a) told P each = for_some told P each
ok_for (Err e) told P each = tt

err_for : {A E T : Type 0} (r : Result A E) (told : Option T) (P : T → Type 0) → ((t : T) → told ≡ Some t → OnErr r (P t)) → OnErr r (IfSome told P)
err_for (Ok a) told P each = tt
err_for (Err e) told P each = for_some told P each

ok_under : {A E : Type 0} (r : Result A E) (P Q : Type 0) → (P → OnOk r Q) → OnOk r (P → Q)
ok_under (Ok a) P Q h = h
ok_under (Err e) P Q h = tt

err_under : {A E : Type 0} (r : Result A E) (P Q : Type 0) → (P → OnErr r Q) → OnErr r (P → Q)
err_under (Ok a) P Q h = tt
err_under (Err e) P Q h = h

module _ {S L K D : Type 0} (source : sources.Ghosts S) (reader : readers.Ghosts L) (output : sinks.Ghosts K) (disk : disks.Ghosts D) (reads : Reads) (slack : Option ℤ)
    (asked : Asked) (told : Option (List (List ℕ))) (olds : List (LaneView S L)) (holders : List Holder) (sink : K) (carried : Run D) where
  abbrev stages : ℕ
  stages = asked.stages

  abbrev span : Option ℤ
  span = asked.span

  abbrev plan : RunPlan
  plan = carried.plan

  abbrev book : BookState
  book = carried.book

  abbrev rules : PartRules
  rules = record { stages = stages; span = span }

  abbrev by : Rules
  by = record { reads = reads; slack = slack; stages = stages; span = span }

  abbrev On : List (List ℕ) → Type 0
  On texts = BeginsOn by book.pipes texts (start_at plan.mark (cuts_of olds) holders book.kept)

  -- what is said of cuts over told texts, where the sink is this one then
  abbrev CutsOf : (sink' : K) → List Cut → List (List ℕ) → Type 0
  CutsOf sink' cuts texts =
      On texts → HasNumbers by texts
      → AreSearchCuts by book.pipes texts cuts × All (WroteCounted by book.pipes book.places book.kept.listed texts (output.written sink) (output.written sink')) cuts
      × All (KeptCounted by book.pipes book.places book.kept.listed texts (output.written sink) (output.kept sink) (output.kept sink')) cuts

  abbrev Cuts : (sink' : K) → List Cut → Type 0
  Cuts sink' cuts = IfSome told (CutsOf sink' cuts)

  abbrev rest : List (List ℕ) → List ℕ
  rest texts = rest_of by book.pipes book.places book.kept.listed texts

  -- what is ensured of a search that ends with these lanes and this answer
  pub record SearchEnds (news : List (LaneView S L)) (sink' : K) (carried' : Run D) (r : RunResult) : Type 0 where
    pub whole : OnOk r (IfSome told (λ texts. On texts → HasNumbers by texts → WroteAll (rest texts) (output.written sink) (output.written sink')))
    pub front : OnErr r (IfSome told (λ texts. On texts → (All IsShardText texts → HasNumbers by texts) → WroteFront (rest texts) (output.written sink) (output.written sink')))
    pub keeps_so : KeepsOn disk.history plan.head plan.mark (Cuts sink') carried.keep carried'.keep r
    pub closed : OnOk r (All IsClosed news)
    pub read : OnOk r (IfSome told (λ texts. On texts → WereRead reads slack texts news))
    pub lanes : AllZip (StaysLane source.left source.lent_as reader.read_of) olds news
    pub texts : IfSome told (λ texts. AreTextsOf source.left texts news)
    pub cause : IfErr r (λ why. HasSearchCause told why olds news (output.fault_count sink) (output.fault_count sink')
        (disk_faults disk.history disk.fault_count carried.keep) (disk_faults disk.history disk.fault_count carried'.keep))
    pub steady : AreSteadyBut (λ shard. IsRead r) olds news
    pub writes_steady : r ≢ Err stop.Write → ¬ IsRead r → output.fault_count sink' ≡ output.fault_count sink
    pub disk_steady : r ≢ Err stop.Disk → ¬ IsRead r
        → disk_faults disk.history disk.fault_count carried'.keep ≡ disk_faults disk.history disk.fault_count carried.keep
    pub follows : FollowsPlans output disk sink sink' carried carried' r
    pub unfailing : AreUnfailing source.fault_plan olds → r ≢ Err stop.Write → r ≢ Err stop.Disk → IfErr r IsNoFault × AreUnfailing source.fault_plan news
    pub sink_counts : output.fault_count sink ≤ output.fault_count sink'
    pub disk_counts : disk_faults disk.history disk.fault_count carried.keep ≤ disk_faults disk.history disk.fault_count carried'.keep

  module _ (begun : AreBegunFrom reader.read_of reads slack 0 olds) (texts_are : IfSome told (λ texts. AreTextsOf source.left texts olds))
      (may_keep : MayKeepOn disk.history plan (length olds) carried.keep) where
    -- ---- no memory to begin
    none_ends : SearchEnds olds sink carried (Err stop.Memory)
    none_ends = record {
      whole = tt;
      front = for_some told (λ texts. On texts → (All IsShardText texts → HasNumbers by texts) → WroteFront (rest texts) (output.written sink) (output.written sink))
          (λ texts e on few. wrote_none (rest texts) (output.written sink));
      keeps_so = keeps_nothing disk.history plan.head plan.mark (Cuts sink)
          (for_some told (CutsOf sink []) (λ texts e on numbers. (
            λ bound is low high. All-nil (IsSearchCut by book.pipes texts bound),
            All-nil (WroteCounted by book.pipes book.places book.kept.listed texts (output.written sink) (output.written sink)),
            All-nil (KeptCounted by book.pipes book.places book.kept.listed texts (output.written sink) (output.kept sink) (output.kept sink)),
          ))) plan (length olds) carried.keep may_keep;
      closed = tt;
      read = tt;
      lanes = all_stay source.left source.lent_as reader.read_of olds;
      texts = texts_are;
      cause = tt;
      steady = λ shard old new untold was is. let e : old ≡ new = let both : Some old ≡ Some new = sym was ∙ is in cc in ap (λ (lane : LaneView S L). lane.state.faults) (sym e);
      writes_steady = λ other unread. refl;
      disk_steady = λ other unread. refl;
      follows = record {
        silent = λ none. none;
        unfailing = λ quiet. ((λ e. cc), quiet);
        unfailing_disk = λ quiet. ((λ e. cc), quiet);
      };
      unfailing = λ quiet wrote put. (tt, quiet);
      sink_counts = omega arith;
      disk_counts = omega arith;
    }

    not_begun : (news : List (LaneView S L)) (sink' : K) (carried' : Run D) (r : RunResult) → DidNotBegin olds news sink sink' carried carried' r
        → SearchEnds news sink' carried' r
    not_begun news sink' carried' r none =
        subst (λ (a : RunResult). SearchEnds news sink' carried' a) (sym none.memory)
        (subst (λ (c : Run D). SearchEnds news sink' c (Err stop.Memory)) (sym none.run_is)
        (subst (λ (k : K). SearchEnds news k carried (Err stop.Memory)) (sym none.sink_is)
        (subst (λ (ls : List (LaneView S L)). SearchEnds ls sink carried (Err stop.Memory)) (sym none.lanes) none_ends)))

    -- ---- a run
    module _ (is_span : IsSpan span) (few : length olds ≤ 256) (news : List (LaneView S L)) (parts : List PartView) (sink' : K) (carried' : Run D) (first last : Known)
        (opened : BeginsSo source.left reader.read_of reads slack stages span (text_at told) olds holders parts plan book plan.mark) (r : RunResult)
        (run : HubRan source reader output disk (text_at told) olds news parts sink sink' first last carried carried' r) where
      are_of : (texts : List (List ℕ)) → told ≡ Some texts → AreTextsOf source.left texts olds
      are_of texts e = of_some told (λ (ts : List (List ℕ)). AreTextsOf source.left ts olds) texts e texts_are

      run_ends : SearchEnds news sink' carried' r
      run_ends =
          let counts = counts_so source reader output disk reads slack told olds news parts sink sink' carried carried' first last begun opened.begins.sized r run in
          record {
            whole = ok_for r told (λ texts. On texts → HasNumbers by texts → WroteAll (rest texts) (output.written sink) (output.written sink')) (λ texts e.
                ok_under r (On texts) (HasNumbers by texts → WroteAll (rest texts) (output.written sink) (output.written sink')) (λ on.
                wrote_whole source reader output disk reads slack stages span told olds news holders parts sink sink' carried carried' first last begun is_span opened run.begins texts e (are_of texts e) on r run));
            front = err_for r told (λ texts. On texts → (All IsShardText texts → HasNumbers by texts) → WroteFront (rest texts) (output.written sink) (output.written sink')) (λ texts e.
                err_under r (On texts) ((All IsShardText texts → HasNumbers by texts) → WroteFront (rest texts) (output.written sink) (output.written sink')) (λ on.
                wrote_front source reader output disk reads slack stages span told olds news holders parts sink sink' carried carried' first last begun is_span opened run.begins texts e (are_of texts e) on r run));
            keeps_so = keeps source reader output disk reads slack stages span told olds news holders parts sink sink' carried carried' first last begun is_span few texts_are opened run.begins r run;
            closed = lanes_closed source reader output disk reads slack stages span told olds news holders parts sink sink' carried carried' first last begun is_span opened run.begins r run;
            read = ok_for r told (λ texts. On texts → WereRead reads slack texts news) (λ texts e.
                ok_under r (On texts) (WereRead reads slack texts news) (λ on.
                texts_read source reader output disk reads slack stages span told olds news holders parts sink sink' carried carried' first last begun is_span opened run.begins texts e (are_of texts e) on r run));
            lanes = lanes_stay source reader output disk reads slack told olds news parts sink sink' carried carried' r first last begun run opened.begins.sized;
            texts = texts_stay source reader output disk reads slack told olds news parts sink sink' carried carried' r first last begun run opened.begins.sized texts_are;
            cause = has_cause source reader output disk reads slack told olds news parts sink sink' carried carried' first last begun opened.begins.sized r run;
            steady = reads_steady source reader output disk reads slack told olds news parts sink sink' carried carried' first last begun opened.begins.sized r run;
            writes_steady = counts.sink_stays;
            disk_steady = counts.disk_stays;
            follows = run.hands.follows;
            unfailing = λ quiet wrote put. (
              no_fault source reader output disk reads slack told olds news parts sink sink' carried carried' first last begun opened.begins.sized quiet r run wrote put,
              lanes_unfailing source reader output disk reads slack told olds news parts sink sink' carried carried' first last begun opened.begins.sized quiet r run,
            );
            sink_counts = counts.sink_counts;
            disk_counts = counts.disk_counts;
          }

    -- ---- both
    searched_ends : (readings : (one : L) → IsReading (reader.read_of one)) → 1 ≤ plan.batch → plan.batch ≤ 4096 → 1 ≤ length olds → length olds ≤ 256 → IsSpan span → book.whole ≡ true
        → MayBegin by book.pipes plan.mark (cuts_of olds) holders book.kept → (news : List (LaneView S L)) (sink' : K) (carried' : Run D) (r : RunResult)
        → TriesToSearch source reader output disk (text_at told) olds news rules holders sink sink' carried carried' r → SearchEnds news sink' carried' r
    searched_ends readings batch_from batch_to some few is_span whole may news sink' carried' r did = elim did [
      | inl searched ↦
          run_ends is_span few news searched.parts sink' carried' (known_by source.left source.lent_as source.fault_plan reader.read_of (text_at told) searched.ran.first)
          (known_by source.left source.lent_as source.fault_plan reader.read_of (text_at told) searched.ran.last)
          (begins source.left reader.read_of reads slack stages span (text_at told) olds holders searched.parts plan book readings begun searched.are is_span batch_from batch_to some whole may) r searched.ran.run
      | inr none ↦ not_begun news sink' carried' r none
    ]

    -- of lanes that were taken from their place, and given back to it
    pub ends : (readings : (one : L) → IsReading (reader.read_of one)) → 1 ≤ plan.batch → plan.batch ≤ 4096 → 1 ≤ length olds → length olds ≤ 256 → IsSpan span → book.whole ≡ true
        → MayBegin by book.pipes plan.mark (cuts_of olds) holders book.kept → (news taken back : List (LaneView S L)) (sink' : K) (carried' : Run D) (r : RunResult)
        → taken ≡ olds → back ≡ news
        → TriesToSearch source reader output disk (text_at told) taken back rules holders sink sink' carried carried' r → SearchEnds news sink' carried' r
    ends readings batch_from batch_to some few is_span whole may news taken back sink' carried' r from to did =
        searched_ends readings batch_from batch_to some few is_span whole may news sink' carried' r
        (subst (λ (ls : List (LaneView S L)). TriesToSearch source reader output disk (text_at told) olds ls rules holders sink sink' carried carried' r) to
        (subst (λ (ls : List (LaneView S L)). TriesToSearch source reader output disk (text_at told) ls back rules holders sink sink' carried carried' r) from did))
