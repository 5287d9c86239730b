-- What a run of the conductor does, from its first round to its end.
use Rattle.std.specs.Prelude.{◌≡◌, ◌≢◌, ◌≤◌, ◌<◌, ◌+◌, ◌^◌, ◌++◌, ℕ, ℤ, true, List, [], ◌∷◌, Option, None, Some, IfSome, OnOk, All, length, Result, Ok, Err}
use Rattle.eql_values.specs.declared.found.Holder.{Holder}
use Rattle.eql_values.specs.declared.found.Match.{Match}
use Rattle.eql_values.specs.declared.order.Mark.{Mark}
use Rattle.eql_values.specs.declared.order.Mark.TheVariants.{Start, At, End}
use Rattle.eql_values.specs.Accepted.{Reads}
use Rattle.eql_laws.specs.Alive.{alive_holders}
use Rattle.eql_laws.specs.Belows.{between}
use Rattle.eql_laws.specs.Counting.{greatest_bytes}
use Rattle.eql_laws.specs.Lateness.{IsAtMost}
use Rattle.eql_outside.specs.Moments.{History}
use Rattle.eql_outside.specs.Outside.{Rose}
use Rattle.eql_outside.specs.Plans.{FaultPlan}
use Rattle.eql_outside.specs.Unfailing.{IsUnfailing}
use Rattle.eql_outside.specs.Written.{WroteAll, WroteFront, WroteThrough}
use Rattle.eql_lane.specs.declared.ops.ShardLimit.TheVariants as limit
use Rattle.eql_lane.specs.Lanes.{IsOutOfLines, LaneState}
use Rattle.eql_parts.specs.PartSteps.{Rules}
use Rattle.eql_book.specs.Books.{BookState, book_after, held_back, kept_after, let_out}
use Rattle.eql_book.specs.Listing.{listing}
use Rattle.eql_cut.specs.declared.cut.Cut.{Cut}
use Rattle.eql_cut.specs.declared.cut.CutHead.{CutHead}
use Rattle.eql_cut.specs.Domain.{IsCut}
use Rattle.eql_ckdisk.specs.declared.state.CkState.{CkState}
use Rattle.eql_ckdisk.specs.Cuts.{Holds}
use Rattle.eql_ckdisk.specs.Found.{LastCut}
use Rattle.eql_ckdisk.specs.Putting.{Stands, last_cut}
use Rattle.eql_ckdisk.specs.Runs.{last_after}
use Rattle.eql_conductor.specs.declared.plan.Keep.{Keep}
use Rattle.eql_conductor.specs.declared.plan.RunPlan.{RunPlan}
use Rattle.eql_conductor.specs.declared.stop.Stop.{Stop}
use Rattle.eql_conductor.specs.declared.stop.Stop.TheVariants as stop
use Rattle.eql_conductor.specs.Benches.{Known, NoFeedFailed}
use Rattle.eql_conductor.specs.Bounds.{AreSized}
use Rattle.eql_conductor.specs.Going.{FailsAt, FaultRose, RunResult}
use Rattle.eql_conductor.specs.LaneRounds.{IsSafe, LanesAreAt}
use Rattle.eql_conductor.specs.Outputs.{Output}
use Rattle.eql_conductor.specs.PartRounds.{AreAtRest, AreSomehowFull, pending_after}
use Rattle.eql_conductor.specs.Rounds.{BenchIsOfTexts, IsInRange, found_by}
use Rattle.eql_conductor.specs.Saving.{AreLanesOf, BookKeepsNumbers, IsHeadOf, PutsCuts}

-- ---- how a run may begin
-- the plan's numbers are in range, there is a lane, each lane handed out all that lies below the plan's mark and is of a size that a shard may
-- have, the parts are at rest there, and the book is whole
pub record MayRun (plan : RunPlan) (b : Known) (book : BookState) : Type 0 where
  pub batch_from : 1 ≤ plan.batch
  pub batch_to : plan.batch ≤ 4096
  pub some_lane : 1 ≤ b.lanes
  pub before_end : plan.mark ≢ End
  pub lanes : LanesAreAt None plan.mark b
  pub sized : AreSized b
  pub parts : AreSomehowFull plan.mark b
  pub whole : book.whole ≡ true
  pub numbers : BookKeepsNumbers book.kept

-- a run that keeps cuts: after how many rounds, with which head, and where the last cut stands
pub record MayKeep (plan : RunPlan) (b : Known) (state : CkState) (disk : Option History) : Type 0 where
  pub every : IfSome plan.every (λ n. 1 ≤ n)
  pub head : IsHeadOf plan.head b
  pub stands : Stands (last_cut state) disk

-- ---- what a run writes
-- the lines of matches before the end, and those that the pipes hold back until then
abbrev pub lines_before_end : BookState → List Match → List ℕ
lines_before_end book found = listing book.places (let_out book.pipes book.kept found)

abbrev pub whole_lines : BookState → List Match → List ℕ
whole_lines book found = lines_before_end book found ++ listing book.places (held_back (book_after book found))

-- the lines that are written by rounds up to a mark: those that the pipes hold back only once all lanes are at their end
abbrev pub lines_by : Mark → BookState → List Match → List ℕ
lines_by Start book found = lines_before_end book found
lines_by (At time) book found = lines_before_end book found
lines_by End book found = whole_lines book found

-- the run wrote all lines of the matches by all events from its mark on; each lane is closed and read to its end, and the book is whole
pub record RanWhole (from : Mark) (old new : Known) (book then : BookState) (before now : Option (List ℕ)) : Type 0 where
  pub closed : (s : ℕ) → s < new.lanes → (x : LaneState) → new.lane s x → x.cut.closed ≡ true
  pub lanes : (texts : Option (List (List ℕ))) → LanesAreAt texts from old → LanesAreAt texts End new
  pub whole : then.whole ≡ true
  pub told : (reads : Reads) (slack : Option ℤ) (texts : List (List ℕ)) (rules : Rules) (all : List Holder) → BenchIsOfTexts reads slack texts from old → AreAtRest rules all from old
      → WroteAll (whole_lines book (found_by rules all (between reads slack texts from End))) before now

-- what was written by a run that stopped at a mark: a front of that; and where the book is whole, it was given the matches by the events below
-- the mark
pub record RunStopsAt (rules : Rules) (all : List Holder) (reads : Reads) (slack : Option ℤ) (texts : List (List ℕ)) (from mark : Mark) (book then : BookState) (before now : Option (List ℕ)) : Type 0 where
  pub front : WroteFront (lines_by mark book (found_by rules all (between reads slack texts from End))) before now
  pub given : then.whole ≡ true → then ≡ book_after book (found_by rules all (between reads slack texts from mark))

-- the run stopped, at a mark that is safe and at least that of each cut
pub record RunStops (from : Mark) (old new : Known) (book then : BookState) (before now : Option (List ℕ)) (cuts : List Cut) : Type 0 where
  pub mark : Mark
  pub later : IsAtMost from mark
  pub safe : IsSafe mark new
  pub after_cuts : All (λ (cut : Cut). IsAtMost (At cut.mark) mark) cuts
  pub told : (reads : Reads) (slack : Option ℤ) (texts : List (List ℕ)) (rules : Rules) (all : List Holder) → BenchIsOfTexts reads slack texts from old → AreAtRest rules all from old
      → RunStopsAt rules all reads slack texts from mark book then before now

abbrev pub RunIs : (from : Mark) (old new : Known) (book then : BookState) (before now : Option (List ℕ)) (cuts : List Cut) → RunResult → Type 0
RunIs from old new book then before now cuts (Ok done) = RanWhole from old new book then before now
RunIs from old new book then before now cuts (Err by) = RunStops from old new book then before now cuts

-- ---- which cuts a run puts
-- what a cut keeps of told texts: what lies before the lanes' places, and what is pending and alive at its time, and the book's state, once all
-- events between the run's mark and that time were played. Its time is in the range of marks
pub record IsCutOf (rules : Rules) (all : List Holder) (reads : Reads) (slack : Option ℤ) (texts : List (List ℕ)) (from : Mark) (book : BookState) (cut : Cut) : Type 0 where
  pub lanes : AreLanesOf reads slack texts cut.mark cut.lanes
  pub holders : cut.holders ≡ alive_holders rules.span cut.mark (pending_after rules all (between reads slack texts from (At cut.mark)))
  pub book_is : cut.book ≡ kept_after book.pipes book.kept (found_by rules all (between reads slack texts from (At cut.mark)))
  pub in_range : IsInRange (At cut.mark) slack

-- a cut that a run puts
pub record IsRunCut (head : CutHead) (from : Mark) (old : Known) (book : BookState) (cut : Cut) : Type 0 where
  pub head_is : cut.head ≡ head
  pub is_cut : IsCut cut
  pub later : IsAtMost from (At cut.mark)
  pub told : (reads : Reads) (slack : Option ℤ) (texts : List (List ℕ)) (rules : Rules) (all : List Holder) → BenchIsOfTexts reads slack texts from old → AreAtRest rules all from old
      → IsCutOf rules all reads slack texts from book cut

-- the lines that a cut counts, of told texts, were written, and perhaps more behind them
abbrev pub WroteLinesOf : (from : Mark) (old : Known) (book : BookState) (before now : Option (List ℕ)) → Cut → Type 0
WroteLinesOf from old book before now cut =
    (reads : Reads) (slack : Option ℤ) (texts : List (List ℕ)) (rules : Rules) (all : List Holder) → BenchIsOfTexts reads slack texts from old → AreAtRest rules all from old
    → WroteThrough (lines_before_end book (found_by rules all (between reads slack texts from (At cut.mark)))) before now

-- and where it was told what is kept, they are kept behind all that was written before
abbrev pub KeptLinesOf : (from : Mark) (old : Known) (book : BookState) (before : Output) (kept : Option (List ℕ)) → Cut → Type 0
KeptLinesOf from old book before kept cut = IfSome before.kept (λ _. WroteLinesOf from old book before.written kept cut)

abbrev pub cut_time : Cut → ℤ
cut_time cut = cut.mark

-- the last of them alone stands on the disk
abbrev pub LastHolds : LastCut → List Cut → Option History → Type 0
LastHolds last [] disk = Unit {0}
LastHolds last (cut ∷ []) disk = IfSome disk (λ k. Holds last cut k.now)
LastHolds last (cut ∷ next ∷ cuts) disk = LastHolds last (next ∷ cuts) disk

-- a run that keeps cuts: those that it put, one after another. Where it came to its end, the state says where the last of them stands. Where
-- neither the disk failed nor memory ran out, a further cut may be put as things are
pub record RunPuts (head : CutHead) (from : Mark) (old : Known) (book : BookState) (state then : CkState) (before now : Option History) (cuts : List Cut) (answer : RunResult) : Type 0 where
  pub are_cuts : All (IsRunCut head from old book) cuts
  pub puts : PutsCuts (last_cut state) cuts before now
  pub state_is : OnOk answer (last_cut then ≡ last_after (last_cut state) cuts)
  pub holds : OnOk answer (LastHolds (last_cut then) cuts now)
  pub generation_from : (last_cut state).generation ≤ (last_cut then).generation
  pub generation_to : (last_cut then).generation ≤ (last_cut state).generation + length cuts
  pub full : answer ≡ Err stop.Generation → (last_cut then).generation ≡ 2 ^ 63
  pub stands : answer ≢ Err stop.Disk → answer ≢ Err stop.Memory → Stands (last_cut then) now

-- ---- why a run ends
-- why it stops: by the bench, and the counts of faults of the sink and of the disk
abbrev pub StopsFor : Stop → (old new : Known) (sink_before sink_now disk_before disk_now : ℕ) → Type 0
StopsFor (stop.Read s) old new sb sn db dn = (s < old.lanes) × FaultRose s old new × FailsAt s old new × (sn ≡ sb) × (dn ≡ db)
StopsFor stop.Write old new sb sn db dn = NoFeedFailed old new × (new.worn ≡ old.worn) × (Rose sb sn × (sb ≤ sn)) × (dn ≡ db)
StopsFor stop.Disk old new sb sn db dn = NoFeedFailed old new × (new.worn ≡ old.worn) × (sn ≡ sb) × (Rose db dn × (db ≤ dn))
StopsFor stop.Memory old new sb sn db dn = NoFeedFailed old new × (new.worn ≡ old.worn) × (sn ≡ sb) × (dn ≡ db)
StopsFor (stop.Limit (limit.Lines s)) old new sb sn db dn = (s < old.lanes) × ((y : LaneState) → new.lane s y → IsOutOfLines (old.set s) y) × NoFeedFailed old new × (new.worn ≡ old.worn) × (sn ≡ sb) × (dn ≡ db)
StopsFor (stop.Limit (limit.Bytes s)) old new sb sn db dn = (s < old.lanes) × ((y : LaneState) → new.lane s y → y.taken ≡ greatest_bytes) × NoFeedFailed old new × (new.worn ≡ old.worn) × (sn ≡ sb) × (dn ≡ db)
StopsFor stop.Generation old new sb sn db dn = NoFeedFailed old new × (new.worn ≡ old.worn) × (sn ≡ sb) × (dn ≡ db)
StopsFor stop.Worn old new sb sn db dn = (old.worn < new.worn) × NoFeedFailed old new × (sn ≡ sb) × (dn ≡ db)

-- and where it comes to its end, nothing failed
abbrev pub EndsBy : {A : Type 0} → Result A Stop → (old new : Known) (sink_before sink_now disk_before disk_now : ℕ) → Type 0
EndsBy (Ok done) old new sb sn db dn = NoFeedFailed old new × (new.worn ≡ old.worn) × (sn ≡ sb) × (dn ≡ db)
EndsBy (Err by) old new sb sn db dn = StopsFor by old new sb sn db dn

-- ---- a run with cuts or without
-- no call of the disk that keeps them is planned to fail
abbrev pub IsKeptUnfailing : {D : Type 0} → (D → Option FaultPlan) → Option (Keep D) → Type 0
IsKeptUnfailing plan None = Unit {0}
IsKeptUnfailing plan (Some k) = IsUnfailing (plan k.disk)

-- by what is told of a disk and by the count of its faults
module _ {D : Type 0} (history : D → Option History) (count : D → ℕ) where
  abbrev pub disk_faults : Option (Keep D) → ℕ
  disk_faults None = 0
  disk_faults (Some k) = count k.disk

  -- cuts are kept exactly when the plan says how often
  abbrev pub MayKeepIf : RunPlan → Known → Option (Keep D) → Type 0
  MayKeepIf plan b None = plan.every ≡ None
  MayKeepIf plan b (Some k) = (plan.every ≢ None) × MayKeep plan b k.state (history k.disk)

  abbrev pub KeepGoes : CutHead → Mark → Known → BookState → List Cut → RunResult → Option (Keep D) → Option (Keep D) → Type 0
  KeepGoes head from old book cuts answer None None = (cuts ≡ []) × (answer ≢ Err stop.Generation)
  KeepGoes head from old book cuts answer None (Some k) = ⊥
  KeepGoes head from old book cuts answer (Some k) None = ⊥
  KeepGoes head from old book cuts answer (Some k) (Some l) = RunPuts head from old book k.state l.state (history k.disk) (history l.disk) cuts answer
