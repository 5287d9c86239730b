-- What the records of runs say in the words of the listing, and of the cuts of texts. No law says it, since it would range over what is known of
-- a bench before and after a run, which is of `Type 1`.
use Rattle.std.proofs.Common.{◌≡◌, ℕ, ℤ, List, [], ◌∷◌, drop, take, Option, Some, subst}
use Rattle.std.specs.Prelude.{All, Ok, Err}
use Rattle.std.proofs.lemmas.List.Elements.{All-cons, All-head, All-nil, All-tail, All-weaker}
use Rattle.eql_values.specs.declared.found.Holder.{Holder}
use Rattle.eql_values.specs.declared.order.Mark.{Mark}
use Rattle.eql_values.specs.declared.order.Mark.TheVariants.{At}
use Rattle.eql_values.specs.Accepted.{Reads}
use Rattle.eql_laws.specs.Fitting.{Run}
use Rattle.eql_outside.specs.Written.{WroteAll, WroteThrough}
use Rattle.eql_book.specs.Books.{BookState}
use Rattle.eql_book.specs.Laws.{BookIsKept, EndIsWhole}
use Rattle.eql_book.specs.Listing.{listing}
use Rattle.eql_cut.specs.declared.cut.Cut.{Cut}
use Rattle.eql_cut.specs.declared.cut.CutHead.{CutHead}
use Rattle.eql_cut.specs.Domain.{kept_by}
use Rattle.eql_parts.specs.PartSteps.{Rules}
use Rattle.eql_conductor.specs.Benches.{Known}
use Rattle.eql_conductor.specs.Going.{RunResult}
use Rattle.eql_conductor.specs.Openings.{IsCutOfTexts, IsSafeCut}
use Rattle.eql_conductor.specs.Runs.{IsRunCut, RanWhole, RunIs, RunStops, WroteLinesOf}
use Rattle.eql_conductor.specs.RunLaws.{BeginsTold, ListsByAnswer, StopsListed, lines_after, listed_by, rules_of}
use Rattle.eql_conductor.proofs.OpenedCuts.{run_cuts_are_safe}
use Rattle.eql_conductor.proofs.Listed.{lines_to, run_cuts_are_of_texts, runs_stop_in_lines, runs_write_lines}

module _ (kept : BookIsKept) (whole : EndIsWhole) (rules : Rules) (reads : Reads) (slack : Option ℤ) (texts : List (List ℕ)) (from : Mark) (all : List Holder) (old new : Known)
    (book then : BookState) (before now : Option (List ℕ)) (began : BeginsTold rules reads slack texts from all old book) where
  done_listed : RanWhole from old new book then before now → WroteAll (lines_after rules reads slack texts book) before now
  done_listed ran =
      subst (λ (bytes : List ℕ). WroteAll bytes before now)
      (runs_write_lines kept whole rules reads slack texts from all book began.rests.are.span began.played began.numbers)
      (ran.told reads slack texts rules all began.texts_are began.rests)

  stopped_listed : (cuts : List Cut) → RunStops from old new book then before now cuts → StopsListed rules reads slack texts from new book then before now cuts
  stopped_listed cuts stops = record {
    mark = stops.mark;
    later = stops.later;
    safe = stops.safe;
    after_cuts = stops.after_cuts;
    so = runs_stop_in_lines kept whole rules reads slack texts from stops.mark all book then before now began.rests.are.span began.played began.numbers stops.later
        (stops.told reads slack texts rules all began.texts_are began.rests);
  }

  -- a run over told texts wrote the lines after those that its book counts, or stopped within them
  pub run_listed : (cuts : List Cut) (answer : RunResult) → RunIs from old new book then before now cuts answer → ListsByAnswer rules reads slack texts from new book then before now cuts answer
  run_listed cuts (Ok done) is = done_listed is
  run_listed cuts (Err by) is = stopped_listed cuts is

-- and of the lines after those, it wrote those that each of its cuts counts
module _ (kept : BookIsKept) (whole : EndIsWhole) (rules : Rules) (reads : Reads) (slack : Option ℤ) (texts : List (List ℕ)) (from : Mark) (all : List Holder) (old : Known)
    (book : BookState) (before now : Option (List ℕ)) (began : BeginsTold rules reads slack texts from all old book) (head : CutHead) where
  abbrev pub WroteToCut : Cut → Type 0
  WroteToCut cut = WroteThrough (listing book.places (drop book.kept.listed (take cut.book.listed (listed_by rules reads slack texts book.pipes)))) before now

  wrote_to_cut : (cut : Cut) → IsRunCut head from old book cut → WroteLinesOf from old book before now cut → WroteToCut cut
  wrote_to_cut cut is wrote =
      subst (λ (bytes : List ℕ). WroteThrough bytes before now)
      (lines_to rules reads slack texts kept whole from all book began.rests.are.span began.played began.numbers (At cut.mark) is.later cut.book
      (is.told reads slack texts rules all began.texts_are began.rests).book_is)
      (wrote reads slack texts rules all began.texts_are began.rests)

  pub wrote_to_cuts : (cuts : List Cut) → All (IsRunCut head from old book) cuts → All (WroteLinesOf from old book before now) cuts → All WroteToCut cuts
  wrote_to_cuts [] are wrote = All-nil WroteToCut
  wrote_to_cuts (cut ∷ cuts) are wrote =
      All-cons WroteToCut cut cuts
      (wrote_to_cut cut (All-head (IsRunCut head from old book) cut cuts are) (All-head (WroteLinesOf from old book before now) cut cuts wrote))
      (wrote_to_cuts cuts (All-tail (IsRunCut head from old book) cut cuts are) (All-tail (WroteLinesOf from old book before now) cut cuts wrote))

module _ (kept : BookIsKept) (whole : EndIsWhole) (run : Run) (reads : Reads) (texts : List (List ℕ)) (from : Mark) (all : List Holder) (old : Known) (book : BookState)
    (began : BeginsTold (rules_of run) reads (Some run.slack) texts from all old book) (pipes : book.pipes ≡ run.pipes) (head : CutHead) where
  -- a cut that it puts is the cut of the texts
  pub run_cut_is : (cut : Cut) → IsRunCut head from old book cut → IsCutOfTexts run reads texts (kept_by cut)
  run_cut_is cut is =
      run_cuts_are_of_texts kept whole run reads texts from all book cut began.rests.are.span began.played began.numbers pipes is.later
      (is.told reads (Some run.slack) texts (rules_of run) all began.texts_are began.rests)

  pub run_cuts_are : (cuts : List Cut) → All (IsRunCut head from old book) cuts → All (λ (cut : Cut). IsCutOfTexts run reads texts (kept_by cut)) cuts
  run_cuts_are cuts are = All-weaker (IsRunCut head from old book) (λ (cut : Cut). IsCutOfTexts run reads texts (kept_by cut)) run_cut_is cuts are

  -- and no further event of its lanes can come below its time
  pub run_cut_is_safe : (cut : Cut) → IsRunCut head from old book cut → IsSafeCut (Some run.slack) (kept_by cut)
  run_cut_is_safe cut is =
      run_cuts_are_safe run reads texts from all book cut (is.told reads (Some run.slack) texts (rules_of run) all began.texts_are began.rests)

  pub run_cuts_safe : (cuts : List Cut) → All (IsRunCut head from old book) cuts → All (λ (cut : Cut). IsSafeCut (Some run.slack) (kept_by cut)) cuts
  run_cuts_safe cuts are = All-weaker (IsRunCut head from old book) (λ (cut : Cut). IsSafeCut (Some run.slack) (kept_by cut)) run_cut_is_safe cuts are
