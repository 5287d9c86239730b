-- Which cuts a search puts on its disk.
use Rattle.std.specs.Prelude.{◌≡◌, ◌≢◌, ◌≤◌, ◌^◌, ◌≤ℤ◌, pos, ℕ, ℤ, Bool, List, drop, take, Option, None, Some, Result, Err, OnOk, IfSome, All}
use Rattle.eql_values.specs.declared.cut.Pipe.{Pipe}
use Rattle.eql_values.specs.declared.order.Mark.{Mark}
use Rattle.eql_values.specs.declared.order.Mark.TheVariants.{At}
use Rattle.eql_values.specs.Numbering.{numbered_matches, pipe_output}
use Rattle.eql_outside.specs.Moments.{History}
use Rattle.eql_outside.specs.Written.{WroteThrough}
use Rattle.eql_laws.specs.Belows.{IsMarkTime, greatest_slack}
use Rattle.eql_laws.specs.Lateness.{IsAtMost}
use Rattle.eql_cut.specs.declared.cut.Cut.{Cut}
use Rattle.eql_cut.specs.declared.cut.CutHead.{CutHead}
use Rattle.eql_cut.specs.Domain.{IsCut, kept_by}
use Rattle.eql_cut.specs.Rising.{RiseFrom}
use Rattle.eql_book.specs.Listing.{listing}
use Rattle.eql_ckdisk.specs.declared.state.CkState.{CkState}
use Rattle.eql_ckdisk.specs.Putting.{Stands, last_cut}
use Rattle.eql_ckdisk.specs.Runs.{last_after}
use Rattle.eql_conductor.specs.declared.plan.Keep.{Keep}
use Rattle.eql_conductor.specs.declared.stop.Stop.{Stop}
use Rattle.eql_conductor.specs.declared.stop.Stop.TheVariants as stop
use Rattle.eql_conductor.specs.Openings.{IsCutOfTexts, IsSafeCut}
use Rattle.eql_conductor.specs.Runs.{LastHolds}
use Rattle.eql_conductor.specs.Saving.{PutsCuts}
use Rattle.eql_search.specs.Answers.{IsRead}
use Rattle.eql_search.specs.Searches.{Rules, found_in}
use Rattle.eql_search.specs.Beginnings.{run_by}

-- a cut of these texts by a slack in nanoseconds, at a safe time in the range of marks
pub record IsSearchCut (rules : Rules) (pipes : List Pipe) (texts : List (List ℕ)) (slack : ℤ) (cut : Cut) : Type 0 where
  pub is_cut : IsCutOfTexts (run_by rules pipes 0 slack) rules.reads texts (kept_by cut)
  pub safe : IsSafeCut (Some slack) (kept_by cut)
  pub in_range : IsMarkTime cut.mark

-- cuts of these texts, where the slack is one that a run may have: 0 to 36,500 days
abbrev pub AreSearchCuts : Rules → List Pipe → (texts : List (List ℕ)) → List Cut → Type 0
AreSearchCuts rules pipes texts cuts =
    (slack : ℤ) → rules.slack ≡ Some slack → pos 0 ≤ℤ slack → slack ≤ℤ greatest_slack → All (IsSearchCut rules pipes texts slack) cuts

-- the lines that a cut of these texts counts, behind the first ones, were written, and perhaps more behind them
abbrev pub WroteCounted : Rules → List Pipe → (places : Bool) → (listed : ℕ) → (texts : List (List ℕ)) → (before now : Option (List ℕ)) → Cut → Type 0
WroteCounted rules pipes places listed texts before now cut =
    WroteThrough (listing places (drop listed (take cut.book.listed (pipe_output pipes (numbered_matches (found_in rules texts)))))) before now

-- and they were kept, where the sink tells what it keeps
abbrev pub KeptCounted : Rules → List Pipe → (places : Bool) → (listed : ℕ) → (texts : List (List ℕ)) → (before kept kept' : Option (List ℕ)) → Cut → Type 0
KeptCounted rules pipes places listed texts before kept kept' cut = IfSome kept (λ bytes. WroteCounted rules pipes places listed texts before kept' cut)

-- a cut with this head, at a time from the mark on
pub record IsLaterCut (head : CutHead) (from : Mark) (cut : Cut) : Type 0 where
  pub head_is : cut.head ≡ head
  pub is_cut : IsCut cut
  pub later : IsAtMost from (At cut.mark)

-- the cuts that a search put, one after another. `Are` says which texts they are cuts of. After a disk fault, want of memory or a read fault alone
-- the disk is to be recovered: of several faults at once the read fault is told. At the last generation it began far up
pub record PutsThese {A : Type 0} (head : CutHead) (from : Mark) (Are : List Cut → Type 0) (state then : CkState)
    (before now : Option History) (answer : Result A Stop) : Type 0 where
  pub cuts : List Cut
  pub are_later : All (IsLaterCut head from) cuts
  pub are_cuts : Are cuts
  pub rise : RiseFrom from cuts
  pub puts : PutsCuts (last_cut state) cuts before now
  pub stands : answer ≢ Err stop.Disk → answer ≢ Err stop.Memory → ¬ IsRead answer → Stands (last_cut then) now
  pub last : OnOk answer ((last_cut then ≡ last_after (last_cut state) cuts) × LastHolds (last_cut then) cuts now)
  pub ended : answer ≡ Err stop.Generation
      → ((last_cut then).generation ≡ 2 ^ 63) × (2 ^ 62 ≤ (last_cut state).generation)

module _ {D : Type 0} (history : D → Option History) where
  -- what became of the disk of a search
  abbrev pub KeepsOn : {A : Type 0} → CutHead → Mark → (List Cut → Type 0) → (keep kept : Option (Keep D)) → Result A Stop → Type 0
  KeepsOn head from Are None None answer = answer ≢ Err stop.Generation
  KeepsOn head from Are None (Some l) answer = ⊥
  KeepsOn head from Are (Some k) None answer = ⊥
  KeepsOn head from Are (Some k) (Some l) answer =
      PutsThese head from Are k.state l.state (history k.disk) (history l.disk) answer
