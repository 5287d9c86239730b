-- How a run of the conductor goes from round to round, and what one step of it does.
use Rattle.std.specs.Prelude.{◌≡◌, ◌≢◌, ◌≤◌, ◌+◌, ◌^◌, ℕ, ℤ, true, List, [], ◌∷◌, Option, None, Some, IfSome, All, length, map, Err}
use Rattle.std.specs.Option.{option_to_list}
use Rattle.eql_values.specs.declared.found.Holder.{Holder}
use Rattle.eql_values.specs.declared.order.Mark.{Mark}
use Rattle.eql_values.specs.declared.order.Mark.TheVariants.{Start, At, End}
use Rattle.eql_laws.specs.Lateness.{IsAtMost}
use Rattle.eql_outside.specs.Moments.{History}
use Rattle.eql_parts.specs.PartSteps.{Rules}
use Rattle.eql_book.specs.Books.{BookState}
use Rattle.eql_cut.specs.declared.cut.Cut.{Cut}
use Rattle.eql_cut.specs.declared.cut.CutHead.{CutHead}
use Rattle.eql_cut.specs.Rising.{RiseFrom}
use Rattle.eql_ckdisk.specs.declared.state.CkState.{CkState}
use Rattle.eql_ckdisk.specs.Putting.{Stands, last_cut}
use Rattle.eql_ckdisk.specs.Runs.{last_after}
use Rattle.eql_conductor.specs.declared.plan.Keep.{Keep}
use Rattle.eql_conductor.specs.declared.plan.RunPlan.{RunPlan}
use Rattle.eql_conductor.specs.declared.stop.Stop.{Stop}
use Rattle.eql_conductor.specs.declared.stop.Stop.TheVariants as stop
use Rattle.eql_conductor.specs.Benches.{Known}
use Rattle.eql_conductor.specs.Bounds.{RoundsSpend}
use Rattle.eql_conductor.specs.Going.{RunResult}
use Rattle.eql_conductor.specs.LaneRounds.{LanesAreAt}
use Rattle.eql_conductor.specs.Outputs.{Output, KeepsFor}
use Rattle.eql_conductor.specs.PartRounds.{AreAtRest, AreSomehowFull}
use Rattle.eql_conductor.specs.Rounds.{GoesTo, RoundRests}
use Rattle.eql_conductor.specs.RunNotes.{NotesCut, Place, RoundBrokeOff, PlaysRound, PlaysRounds, NotesSaveFront, place, start}
use Rattle.eql_conductor.specs.Runs.{IsRunCut, KeepGoes, KeptLinesOf, LastHolds, RunIs, WroteLinesOf, cut_time}
use Rattle.eql_conductor.specs.Saving.{BookKeepsNumbers, IsHeadOf, IsSavedAt, PutsCuts}

-- between two rounds: each lane handed out all that lies below a mark, the parts are at rest there, and the book is whole
pub record IsAtMark (mark : Mark) (b : Known) (book : BookState) : Type 0 where
  pub lanes : LanesAreAt None mark b
  pub parts : AreSomehowFull mark b
  pub whole : book.whole ≡ true
  pub numbers : BookKeepsNumbers book.kept

-- ---- cuts
abbrev pub time_of : Option Cut → Option ℤ
time_of None = None
time_of (Some cut) = Some cut.mark

-- a cut of this mark's time is due, where it has one
abbrev pub time_in : Mark → Option ℤ
time_in Start = None
time_in (At time) = Some time
time_in End = None

-- a cut of a bench and a book at a mark
pub record IsTaken (head : CutHead) (mark : Mark) (b : Known) (book : BookState) (cut : Cut) : Type 0 where
  pub mark_is : mark ≡ At cut.mark
  pub saved : IsSavedAt head cut.mark b book cut

-- cuts were put one after another, and the last of them stands: the state says where
pub record PutsEach (old new : CkState) (before now : Option History) (cuts : List Cut) : Type 0 where
  pub puts : PutsCuts (last_cut old) cuts before now
  pub state_is : last_cut new ≡ last_after (last_cut old) cuts
  pub holds : LastHolds (last_cut new) cuts now
  pub stands : Stands (last_cut new) now

-- cuts were put, and the state still says where the last one stood that was put whole
pub record PutStops (by : Stop) (old new : CkState) (before now : Option History) (cuts : List Cut) : Type 0 where
  pub puts : PutsCuts (last_cut old) cuts before now
  pub state_is : last_cut new ≡ last_cut old
  pub full : by ≡ stop.Generation → (last_cut new).generation ≡ 2 ^ 63
  pub stands : (by ≢ stop.Disk) → (by ≢ stop.Memory) → Stands (last_cut new) now

-- ---- with cuts or without, by what is told of a disk and by the count of its faults
module _ {D : Type 0} (history : D → Option History) (count : D → ℕ) where
  -- where cuts are kept: they may have the plan's head, and the last one stands. Elsewhere none is due
  abbrev pub KeepStands : RunPlan → Known → Option (Keep D) → Type 0
  KeepStands plan b None = plan.every ≡ None
  KeepStands plan b (Some k) = IsHeadOf plan.head b × Stands (last_cut k.state) (history k.disk)

  -- these cuts were put, and none where none is kept
  abbrev pub KeepPuts : List Cut → (keep kept : Option (Keep D)) → Type 0
  KeepPuts cuts None None = cuts ≡ []
  KeepPuts cuts None (Some k) = ⊥
  KeepPuts cuts (Some k) None = ⊥
  KeepPuts cuts (Some k) (Some l) = PutsEach k.state l.state (history k.disk) (history l.disk) cuts

  -- one cut was put, or nothing was done
  abbrev pub KeepsOne : Option Cut → (keep kept : Option (Keep D)) → Type 0
  KeepsOne None keep kept = kept ≡ keep
  KeepsOne (Some cut) keep kept = KeepPuts (cut ∷ []) keep kept

  -- a cut was to be put, and wasn't put whole
  abbrev pub KeepStops : Stop → List Cut → (keep kept : Option (Keep D)) → Type 0
  KeepStops by cuts (Some k) (Some l) = PutStops by k.state l.state (history k.disk) (history l.disk) cuts
  KeepStops by cuts keep kept = ⊥

  -- between two rounds a cut was kept where one of this time is due: lanes and parts stay as they were at the mark
  pub record CutGoes (head : CutHead) (mark : Mark) (due : Option ℤ) (old new : Known) (book : BookState) (before now : Output) (keep kept : Option (Keep D)) : Type 0 where
    pub lanes : (texts : Option (List (List ℕ))) → LanesAreAt texts mark old → LanesAreAt texts mark new
    pub parts : (rules : Rules) (all : List Holder) → AreAtRest rules all mark old → AreAtRest rules all mark new
    pub cut : Option Cut
    pub is : IfSome cut (IsTaken head mark old book)
    pub lines_kept : KeepsFor (option_to_list cut) before now
    pub keeps : KeepsOne cut keep kept
    pub time_is : time_of cut ≡ due
    pub noted : NotesCut due old new

  -- or it stopped there
  pub record CutStops (head : CutHead) (mark : Mark) (due : Option ℤ) (old new : Known) (book : BookState) (before now : Output) (keep kept : Option (Keep D)) (by : Stop) : Type 0 where
    pub cuts : List Cut
    pub are : All (IsTaken head mark old book) cuts
    pub one : length cuts ≤ 1
    pub lines_kept : KeepsFor cuts before now
    pub keeps : KeepStops by cuts keep kept
    pub time : ℤ
    pub time_is : due ≡ Some time
    pub noted : NotesSaveFront old new

  -- ---- one round
  -- a round that counted, and then a cut where one was due
  pub record CountsRound (plan : RunPlan) (at : Place) (mark : Mark) (old new : Known) (book then : BookState) (before now : Output) (keep kept : Option (Keep D)) : Type 0 where
    pub goes : GoesTo at.mark mark old new book then before.written now.written
    pub cut : Option Cut
    pub is : IfSome cut (λ c. (mark ≡ At c.mark) × IsRunCut plan.head at.mark old book c)
    pub lines_kept : KeepsFor (option_to_list cut) before now
    pub keeps : KeepsOne cut keep kept
    pub noted : PlaysRound plan.batch plan.every at (time_of cut) old new (Some mark)

  -- one that didn't count, after which no cut is due
  pub record PassesRound (plan : RunPlan) (at : Place) (old new : Known) (book then : BookState) (before now : Output) (keep kept : Option (Keep D)) : Type 0 where
    pub rests : RoundRests at.mark old new book then before.written now.written
    pub kept_is : now.kept ≡ before.kept
    pub keeps : kept ≡ keep
    pub noted : PlaysRound plan.batch plan.every at None old new None

  abbrev pub StepIs : RunPlan → Place → (old new : Known) → (book then : BookState) → (before now : Output) → (keep kept : Option (Keep D)) → Option Mark → Type 0
  StepIs plan at old new book then before now keep kept None = PassesRound plan at old new book then before now keep kept
  StepIs plan at old new book then before now keep kept (Some mark) = CountsRound plan at mark old new book then before now keep kept

  -- a run from a mark, as it ended
  pub record RanFrom (head : CutHead) (from : Mark) (old new : Known) (book then : BookState) (before now : Output) (keep kept : Option (Keep D)) (answer : RunResult) : Type 0 where
    pub cuts : List Cut
    pub is : RunIs from old new book then before.written now.written cuts answer
    pub keeps : KeepGoes history count head from old book cuts answer keep kept
    pub wrote : All (WroteLinesOf from old book before.written now.written) cuts
    pub rise : RiseFrom from cuts

  -- or it stopped there: a run of this round alone
  pub record StepStops (plan : RunPlan) (at : Place) (old new : Known) (book then : BookState) (before now : Output) (keep kept : Option (Keep D)) (by : Stop) : Type 0 where
    pub ran : RanFrom plan.head at.mark old new book then before now keep kept (Err by)
    pub lines_kept : KeepsFor ran.cuts before now
    pub noted : RoundBrokeOff plan.batch plan.every at (map cut_time ran.cuts) old new

  -- ---- rounds
  -- so many rounds from the plan's mark on, with the cuts that were put
  pub record RanTo (plan : RunPlan) (at : Place) (n : ℕ) (old new : Known) (book then : BookState) (before now : Output) (keep kept : Option (Keep D)) : Type 0 where
    pub goes : GoesTo plan.mark at.mark old new book then before.written now.written
    pub cuts : List Cut
    pub are_cuts : All (IsRunCut plan.head plan.mark old book) cuts
    pub at_most : All (λ (cut : Cut). IsAtMost (At cut.mark) at.mark) cuts
    pub puts : KeepPuts cuts keep kept
    pub wrote : All (WroteLinesOf plan.mark old book before.written now.written) cuts
    pub lines_kept : All (KeptLinesOf plan.mark old book before now.kept) cuts
    pub kept_is : cuts ≡ [] → now.kept ≡ before.kept
    pub rise : RiseFrom plan.mark cuts
    pub noted : PlaysRounds plan.batch plan.every (start plan) at (map cut_time cuts) old new
    pub rounds : length noted.rounds ≡ n

  -- all rounds, of which the last one came to the end
  pub record RanAll (plan : RunPlan) (old new : Known) (book then : BookState) (before now : Output) (keep kept : Option (Keep D)) : Type 0 where
    pub n : ℕ
    pub counts : ℕ
    pub ran : RanTo plan (place End counts) (n + 1) old new book then before now keep kept
    pub spent : RoundsSpend n old new
