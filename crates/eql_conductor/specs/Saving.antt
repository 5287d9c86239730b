-- What a cut keeps of a bench and a book at a mark, and what putting it does to a disk.
use Rattle.std.specs.Prelude.{◌≡◌, ◌≢◌, ◌≤◌, ℕ, ℤ, List, [], ◌∷◌, Option, IfSome, All, IsTrue, length, map, Result, Err}
use Rattle.eql_values.specs.declared.cut.BookCut.{BookCut}
use Rattle.eql_values.specs.declared.cut.LaneCut.{LaneCut}
use Rattle.eql_values.specs.declared.found.Holder.{Holder}
use Rattle.eql_values.specs.declared.found.Numbered.{Numbered}
use Rattle.eql_values.specs.declared.cut.PipeState.{PipeState}
use Rattle.eql_values.specs.declared.order.Mark.TheVariants.{At}
use Rattle.eql_values.specs.Accepted.{Reads}
use Rattle.eql_values.specs.Marks.{is_safe}
use Rattle.eql_laws.specs.Alive.{alive_holders}
use Rattle.eql_laws.specs.Books.{NumbersAscend, kept_of}
use Rattle.eql_laws.specs.Lanes.{lanes_from}
use Rattle.eql_laws.specs.Places.{ReadTo, ArePlaces, lows_from, whole}
use Rattle.eql_outside.specs.Moments.{History, DiskTells}
use Rattle.eql_outside.specs.Outside.{Rose}
use Rattle.eql_outside.specs.Unfailing.{IsUnfailing}
use Rattle.eql_outside.specs.declared.disk.Disk as disks
use Rattle.eql_book.specs.Books.{BookState}
use Rattle.eql_cut.specs.declared.cut.Cut.{Cut}
use Rattle.eql_cut.specs.declared.cut.CutHead.{CutHead}
use Rattle.eql_cut.specs.CutValues.{names_ascend}
use Rattle.eql_cut.specs.Domain.{IsCut}
use Rattle.eql_ckdisk.specs.declared.state.CkState.{CkState}
use Rattle.eql_ckdisk.specs.Found.{LastCut, next}
use Rattle.eql_ckdisk.specs.Cuts.{Holds}
use Rattle.eql_ckdisk.specs.Putting.{Stands, last_cut}
use Rattle.eql_ckdisk.specs.Runs.{PutsAll}
use Rattle.eql_parts.specs.PartSteps.{Rules}
use Rattle.eql_conductor.specs.declared.stop.Stop.{Stop}
use Rattle.eql_conductor.specs.declared.stop.Stop.TheVariants as stop
use Rattle.eql_conductor.specs.Benches.{Known}
use Rattle.eql_conductor.specs.Outputs.{Output, KeepsAll, KeepsFor}
use Rattle.eql_conductor.specs.PartRounds.{AreAtRest, pending_after}
use Rattle.eql_conductor.specs.Rounds.{BenchIsOfTexts}

-- what a pipe keeps stands in order of its numbers, and is of matches that were found
pub record KeepsNumbers (found : ℕ) (s : PipeState) : Type 0 where
  pub ascend : NumbersAscend (kept_of s)
  pub found_to : All (λ (n : Numbered). n.number ≤ found) (kept_of s)

-- and so for all pipes of a book
abbrev pub BookKeepsNumbers : BookCut → Type 0
BookKeepsNumbers kept = All (KeepsNumbers kept.found) kept.pipes

-- the head is one that a text may have, and of so many lanes
pub record IsHeadOf (head : CutHead) (b : Known) : Type 0 where
  pub names : IsTrue (names_ascend head.mapping)
  pub shards : head.shards ≡ b.lanes

-- the lanes of a cut are those of texts that were read up to places, at which its time is safe
pub record AreLanesOf (reads : Reads) (slack : Option ℤ) (texts : List (List ℕ)) (time : ℤ) (lanes : List LaneCut) : Type 0 where
  pub shards : List ReadTo
  pub are_places : ArePlaces shards
  pub texts_are : map whole shards ≡ texts
  pub safe : IsTrue (is_safe (At time) (lows_from reads slack 0 shards))
  pub lanes_are : lanes ≡ lanes_from reads slack 0 (At time) shards

-- a cut of a bench and a book at a time: of lanes of told texts it has what lies before their places, and of parts at rest what is pending and
-- alive then, by key and stage
pub record IsSavedAt (head : CutHead) (time : ℤ) (b : Known) (book : BookState) (cut : Cut) : Type 0 where
  pub head_is : cut.head ≡ head
  pub mark_is : cut.mark ≡ time
  pub book_is : cut.book ≡ book.kept
  pub is_cut : IsCut cut
  pub lanes : (reads : Reads) (slack : Option ℤ) (texts : List (List ℕ)) → BenchIsOfTexts reads slack texts (At time) b → AreLanesOf reads slack texts time cut.lanes
  pub holders : (rules : Rules) (all : List Holder) → AreAtRest rules all (At time) b → cut.holders ≡ alive_holders rules.span time (pending_after rules all [])

-- the disk before and after cuts were put, one after another
abbrev pub PutsCuts : LastCut → List Cut → (before now : Option History) → Type 0
PutsCuts last cuts before now = DiskTells (PutsAll last cuts) before now

-- a cut was put behind all that was written, which is kept, and stands alone: the state says where
pub record SavesCut (head : CutHead) (time : ℤ) (b : Known) (book : BookState) (output output' : Output) (old new : CkState) (before now : Option History) : Type 0 where
  pub cut : Cut
  pub is_saved : IsSavedAt head time b book cut
  pub lines_kept : KeepsAll output output'
  pub puts : PutsCuts (last_cut old) (cut ∷ []) before now
  pub state_is : last_cut new ≡ next (last_cut old)
  pub holds : IfSome now (λ k. Holds (last_cut new) cut k.now)
  pub stands : Stands (last_cut new) now

-- none was put whole: at each moment there stands what stood before, or the cut
pub record SavesNoCut (head : CutHead) (time : ℤ) (b : Known) (book : BookState) (output output' : Output) (old new : CkState) (before now : Option History) : Type 0 where
  pub cuts : List Cut
  pub one : length cuts ≤ 1
  pub are_saved : All (IsSavedAt head time b book) cuts
  pub lines_kept : KeepsFor cuts output output'
  pub puts : PutsCuts (last_cut old) cuts before now
  pub state_is : last_cut new ≡ last_cut old

-- the count of a disk's faults rises where its fault is told, and nowhere else. A disk of which no call is planned to fail isn't told as failed, and
-- stays such
pub record TellsDisk {A D : Type 0} (disk : disks.Ghosts D) (before now : D) (answer : Result A Stop) : Type 0 where
  pub cause : answer ≡ Err stop.Disk → Rose (disk.fault_count before) (disk.fault_count now)
  pub steady : answer ≢ Err stop.Disk → disk.fault_count now ≡ disk.fault_count before
  pub counts : disk.fault_count before ≤ disk.fault_count now
  pub unfailing : IsUnfailing (disk.fault_plan before) → (answer ≢ Err stop.Disk) × IsUnfailing (disk.fault_plan now)
