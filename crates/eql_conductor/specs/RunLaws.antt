-- What the record of a run says in the words of the listing, and of the cuts of texts.
use Rattle.std.specs.Prelude.{◌≡◌, ◌<◌, ◌≤◌, ◌^◌, ◌++◌, ℕ, ℤ, ◌≤ℤ◌, pos, true, List, [], Option, Some, All, drop, length, Ok, Err}
use Rattle.eql_values.specs.declared.found.Holder.{Holder}
use Rattle.eql_values.specs.declared.found.Match.{Match}
use Rattle.eql_values.specs.declared.found.Numbered.{Numbered}
use Rattle.eql_values.specs.declared.cut.Pipe.{Pipe}
use Rattle.eql_values.specs.declared.order.Mark.{Mark}
use Rattle.eql_values.specs.declared.order.Mark.TheVariants.{Start, At, End}
use Rattle.eql_values.specs.Accepted.{Reads, below}
use Rattle.eql_values.specs.Matching.{after, matches}
use Rattle.eql_values.specs.Numbering.{numbered_matches, pipe_output}
use Rattle.eql_laws.specs.Alive.{IsSpan}
use Rattle.eql_laws.specs.Belows.{between, greatest_slack}
use Rattle.eql_laws.specs.Books.{book_of, greatest_shards}
use Rattle.eql_laws.specs.Counting.{IsShardText}
use Rattle.eql_laws.specs.Fitting.{Fits, Kept, ReadsFor, Run}
use Rattle.eql_laws.specs.Lateness.{IsAtMost}
use Rattle.eql_outside.specs.Written.{WroteAll, WroteFront}
use Rattle.eql_book.specs.Books.{BookState, book_after}
use Rattle.eql_book.specs.Laws.{fresh_cut as fresh_book}
use Rattle.eql_book.specs.Listing.{listing}
use Rattle.eql_cut.specs.declared.cut.Cut.{Cut}
use Rattle.eql_cut.specs.Domain.{kept_by}
use Rattle.eql_lane.specs.Lanes.{LaneState}
use Rattle.eql_parts.specs.PartSteps.{PartState, Rules, alive_by, mark_time}
use Rattle.eql_conductor.specs.Benches.{Known}
use Rattle.eql_conductor.specs.Going.{RunResult}
use Rattle.eql_conductor.specs.LaneRounds.{IsSafe}
use Rattle.eql_conductor.specs.Openings.{IsCutOfTexts, IsSafeCut, OpensFresh, OpensFrom, SuitsBench, TellsTexts}
use Rattle.eql_conductor.specs.PartRounds.{AreAtRest}
use Rattle.eql_conductor.specs.Rounds.{BenchIsOfTexts, found_by}
use Rattle.eql_conductor.specs.Runs.{IsCutOf, RunStopsAt, whole_lines}

-- the rules of the parts of a run
abbrev pub rules_of : Run → Rules
rules_of run = record { stages = run.stages; span = run.span }

-- ---- told texts, by the rules of a run
module _ (rules : Rules) (reads : Reads) (slack : Option ℤ) (texts : List (List ℕ)) where
  -- the matches by the events below a mark
  abbrev pub found_below : Mark → List Match
  found_below mark = matches rules.stages rules.span [] (below reads slack texts mark)

  -- the whole listing through pipes
  abbrev pub listed_by : List Pipe → List Numbered
  listed_by pipes = pipe_output pipes (numbered_matches (found_below End))

  -- its lines after those that the book counts
  abbrev pub lines_after : BookState → List ℕ
  lines_after book = listing book.places (drop book.kept.listed (listed_by book.pipes))

  -- each match has a number of 64 bits
  abbrev pub HaveNumbers : Type 0
  HaveNumbers = length (found_below End) < 2 ^ 64

  -- all events below a mark were played: what was pending and alive at the mark is pending, and the book counts the matches
  pub record HavePlayed (mark : Mark) (all : List Holder) (book : BookState) : Type 0 where
    pub pending : all ≡ alive_by rules.span (mark_time mark) (after rules.stages rules.span [] (below reads slack texts mark))
    pub counted : book.kept ≡ book_of book.pipes (found_below mark)

  -- the matches below a mark are those that the book counted at a lesser one, followed by those given to it
  pub record WereGiven (from mark : Mark) (book then : BookState) : Type 0 where
    pub given : List Match
    pub book_is : then ≡ book_after book given
    pub found_is : found_below mark ≡ found_below from ++ given
    pub counted : then.kept ≡ book_of book.pipes (found_below mark)

  -- a run that stopped at a mark wrote a front of the lines; and where the book is whole, it was given the matches below the mark
  pub record StopsInLines (from mark : Mark) (book then : BookState) (before now : Option (List ℕ)) : Type 0 where
    pub front : WroteFront (lines_after book) before now
    pub given : then.whole ≡ true → WereGiven from mark book then

-- ---- a whole run over told texts
module _ (rules : Rules) (reads : Reads) (slack : Option ℤ) (texts : List (List ℕ)) where
  -- it began where all events below its mark were played, and its matches have numbers
  pub record BeginsTold (from : Mark) (all : List Holder) (old : Known) (book : BookState) : Type 0 where
    pub texts_are : BenchIsOfTexts reads slack texts from old
    pub rests : AreAtRest rules all from old
    pub played : HavePlayed rules reads slack texts from all book
    pub numbers : HaveNumbers rules reads slack texts

  -- it stopped at a mark that is safe and at least that of each cut
  pub record StopsListed (from : Mark) (new : Known) (book then : BookState) (before now : Option (List ℕ)) (cuts : List Cut) : Type 0 where
    pub mark : Mark
    pub later : IsAtMost from mark
    pub safe : IsSafe mark new
    pub after_cuts : All (λ (cut : Cut). IsAtMost (At cut.mark) mark) cuts
    pub so : StopsInLines rules reads slack texts from mark book then before now

  -- what it wrote, by its result
  abbrev pub ListsByAnswer : (from : Mark) (new : Known) (book then : BookState) (before now : Option (List ℕ)) (cuts : List Cut) → RunResult → Type 0
  ListsByAnswer from new book then before now cuts (Ok done) = WroteAll (lines_after rules reads slack texts book) before now
  ListsByAnswer from new book then before now cuts (Err by) = StopsListed from new book then before now cuts

-- ---- how a run begins
-- a bench that begins afresh, with a fresh book, begins a run over the texts of its lanes
abbrev pub FreshRunsAreTold : Known → Type 0
FreshRunsAreTold b = (lane : ℕ → LaneState) (part : ℕ → PartState) (rules : Rules) (reads : Reads) (slack : Option ℤ) (texts : List (List ℕ)) (book : BookState)
    → OpensFresh b lane part rules → TellsTexts reads slack texts b → book.kept ≡ fresh_book book.pipes → HaveNumbers rules reads slack texts
    → BeginsTold rules reads slack texts Start [] b book

-- and so does one that begins with a cut of these texts that fits, by the bounds of a run that differs in its span at most
abbrev pub CutRunsAreTold : Known → Type 0
CutRunsAreTold b = (lane : ℕ → LaneState) (part : ℕ → PartState) (run bounds : Run) (shards : ℕ) (reads : Reads) (texts : List (List ℕ)) (kept : Kept) (book : BookState)
    → OpensFrom b lane part (rules_of run) kept → SuitsBench bounds shards (rules_of run) kept b → bounds.slack ≡ run.slack
    → IsCutOfTexts run reads texts kept → TellsTexts reads (Some run.slack) texts b → book.pipes ≡ run.pipes → book.kept ≡ kept.book
    → HaveNumbers (rules_of run) reads (Some run.slack) texts
    → BeginsTold (rules_of run) reads (Some run.slack) texts (At kept.time) kept.holders b book

-- ---- what a run wrote
-- the lines of the matches by all events from a mark on are those of the listing after the ones that the book counts
abbrev pub RunsWriteLines : Type 0
RunsWriteLines = (rules : Rules) (reads : Reads) (slack : Option ℤ) (texts : List (List ℕ)) (from : Mark) (all : List Holder) (book : BookState)
    → IsSpan rules.span → HavePlayed rules reads slack texts from all book → HaveNumbers rules reads slack texts
    → whole_lines book (found_by rules all (between reads slack texts from End)) ≡ lines_after rules reads slack texts book

-- and a run that stopped stopped within them
abbrev pub RunsStopInLines : Type 0
RunsStopInLines = (rules : Rules) (reads : Reads) (slack : Option ℤ) (texts : List (List ℕ)) (from mark : Mark) (all : List Holder) (book then : BookState)
    (before now : Option (List ℕ)) → IsSpan rules.span → HavePlayed rules reads slack texts from all book → HaveNumbers rules reads slack texts
    → IsAtMost from mark → RunStopsAt rules all reads slack texts from mark book then before now
    → StopsInLines rules reads slack texts from mark book then before now

-- ---- which cuts it puts
-- each is the cut of the texts, at places and its own time
abbrev pub RunCutsAreOfTexts : Type 0
RunCutsAreOfTexts = (run : Run) (reads : Reads) (texts : List (List ℕ)) (from : Mark) (all : List Holder) (book : BookState) (cut : Cut)
    → IsSpan run.span → HavePlayed (rules_of run) reads (Some run.slack) texts from all book → HaveNumbers (rules_of run) reads (Some run.slack) texts
    → book.pipes ≡ run.pipes → IsAtMost from (At cut.mark) → IsCutOf (rules_of run) all reads (Some run.slack) texts from book cut
    → IsCutOfTexts run reads texts (kept_by cut)

-- it fits the run, where its texts and its slack are those that a run may have
abbrev pub RunCutsFit : Type 0
RunCutsFit = (run : Run) (reads : Reads) (texts : List (List ℕ)) (from : Mark) (all : List Holder) (book : BookState) (cut : Cut)
    → IsSpan run.span → HavePlayed (rules_of run) reads (Some run.slack) texts from all book → HaveNumbers (rules_of run) reads (Some run.slack) texts
    → book.pipes ≡ run.pipes → IsAtMost from (At cut.mark) → IsCutOf (rules_of run) all reads (Some run.slack) texts from book cut
    → ReadsFor run reads → All IsShardText texts → length texts ≤ greatest_shards → pos 0 ≤ℤ run.slack → run.slack ≤ℤ greatest_slack
    → Fits run (length texts) (kept_by cut)

-- and no further event of its lanes can come below its time
abbrev pub RunCutsAreSafe : Type 0
RunCutsAreSafe = (run : Run) (reads : Reads) (texts : List (List ℕ)) (from : Mark) (all : List Holder) (book : BookState) (cut : Cut)
    → IsCutOf (rules_of run) all reads (Some run.slack) texts from book cut → IsSafeCut (Some run.slack) (kept_by cut)
