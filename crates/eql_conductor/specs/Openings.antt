-- How a bench may begin: afresh, or with what a cut keeps; and that a run may begin there.
use Rattle.std.specs.Prelude.{◌≡◌, ◌<◌, ◌≤◌, ℕ, ℤ, true, List, [], Option, Some, None, IsTrue, All, map, slice_get}
use Rattle.eql_values.specs.declared.cut.LaneCut.{LaneCut}
use Rattle.eql_values.specs.declared.found.Holder.{Holder}
use Rattle.eql_values.specs.declared.order.Mark.{Mark}
use Rattle.eql_values.specs.declared.order.Mark.TheVariants.{Start, At}
use Rattle.eql_values.specs.Accepted.{Reads}
use Rattle.eql_values.specs.Marks.{is_safe, low_of}
use Rattle.eql_laws.specs.Alive.{HoldersAreInOrder}
use Rattle.eql_laws.specs.Fitting.{Fits, Kept, Run, StandsInOrder, cut_of}
use Rattle.eql_laws.specs.Places.{ArePlaces, ReadTo, whole}
use Rattle.eql_laws.specs.Shapes.{HasStageBefore, IsFull}
use Rattle.eql_lane.specs.Lanes.{LaneState, beginning_lane, fresh_cut as fresh_lane}
use Rattle.eql_lane.specs.Starts.{MayBegin}
use Rattle.eql_parts.specs.Inboxes.{HolderIsBelow}
use Rattle.eql_parts.specs.PartSteps.{PartState, Rules, alive_by, mark_time}
use Rattle.eql_conductor.specs.Finding.{own_of}
use Rattle.eql_book.specs.Books.{BookState, FitsPipes}
use Rattle.eql_book.specs.Laws.{fresh_cut as fresh_book}
use Rattle.eql_conductor.specs.declared.plan.RunPlan.{RunPlan}
use Rattle.eql_conductor.specs.Benches.{ComesByFeeds, Known, ComesByTurns}
use Rattle.eql_conductor.specs.Bounds.{AreSized}
use Rattle.eql_conductor.specs.LaneRounds.{AreLanes, LanesAreAt, text_at}
use Rattle.eql_conductor.specs.PartRounds.{AreParts, AreAtRest, AreSomehowFull}
use Rattle.eql_conductor.specs.Rounds.{BenchIsOfTexts, ReadTexts}
use Rattle.eql_conductor.specs.Runs.{MayRun}
use Rattle.eql_conductor.specs.Saving.{BookKeepsNumbers}

-- ---- the states that lanes and parts begin with
-- a lane that begins with what a cut keeps of it, over a source with any number of faults
abbrev pub IsBegun : LaneCut → LaneState → Type 0
IsBegun cut x = x ≡ beginning_lane cut x.faults

-- a part that begins with these pending sequences at a mark: it has those that are alive then
abbrev pub begun_part : Rules → List Holder → Mark → PartState
begun_part rules holders mark = record {
  held = alive_by rules.span (mark_time mark) holders;
  inbox = [];
  found = [];
  done = mark;
  last = mark;
  processed = None;
}

-- each lane and each part began with its state of these, and only others played since
pub record OpensWith (b : Known) (lane : ℕ → LaneState) (part : ℕ → PartState) : Type 0 where
  pub lanes : (s : ℕ) → s < b.lanes → (x : LaneState) → b.lane s x → ComesByFeeds (b.set s) (lane s) x
  pub parts : (p : ℕ) → p < b.parts → (x : PartState) → b.part p x → ComesByTurns (b.rules p) (part p) x

-- lanes and parts that a run may have, opened from these states
pub record OpensAt (b : Known) (lane : ℕ → LaneState) (part : ℕ → PartState) (rules : Rules) : Type 0 where
  pub opened : OpensWith b lane part
  pub are_lanes : AreLanes b
  pub are_parts : AreParts rules b

-- all of them began afresh
pub record OpensFresh (b : Known) (lane : ℕ → LaneState) (part : ℕ → PartState) (rules : Rules) : Type 0 where
  pub opens : OpensAt b lane part rules
  pub lanes : (s : ℕ) → s < b.lanes → IsBegun fresh_lane (lane s)
  pub parts : (p : ℕ) → p < b.parts → part p ≡ begun_part rules [] Start

-- all of them began with what a cut keeps: each lane with its own, and each part with the pending sequences of its keys
pub record OpensFrom (b : Known) (lane : ℕ → LaneState) (part : ℕ → PartState) (rules : Rules) (kept : Kept) : Type 0 where
  pub opens : OpensAt b lane part rules
  pub cuts : (s : ℕ) → s < b.lanes → slice_get kept.lanes s ≡ Some (lane s).cut
  pub lanes : (s : ℕ) → s < b.lanes → IsBegun (lane s).cut (lane s)
  pub parts : (p : ℕ) → p < b.parts → part p ≡ begun_part rules (own_of kept.holders p) (At kept.time)

-- ---- texts
-- the lanes tell these texts, and have one reading and one slack
pub record TellsTexts (reads : Reads) (slack : Option ℤ) (texts : List (List ℕ)) (b : Known) : Type 0 where
  pub read : ReadTexts reads slack texts b
  pub have : (s : ℕ) → s < b.lanes → (b.set s).text ≡ text_at (Some texts) s

-- a cut is that of these texts, read up to places
pub record IsCutOfTexts (run : Run) (reads : Reads) (texts : List (List ℕ)) (kept : Kept) : Type 0 where
  pub shards : List ReadTo
  pub are_places : ArePlaces shards
  pub texts_are : map whole shards ≡ texts
  pub kept_is : kept ≡ cut_of run reads kept.time shards

-- no further event of the cut's lanes can come below its time
abbrev pub IsSafeCut : Option ℤ → Kept → Type 0
IsSafeCut slack kept = IsTrue (is_safe (At kept.time) (map (λ (lane : LaneCut). low_of lane.closed slack lane.best) kept.lanes))

-- ---- what is known where a run begins
-- lanes of a size that a shard may have, at a mark, with what is pending
pub record BeginsAt (rules : Rules) (all : List Holder) (mark : Mark) (b : Known) : Type 0 where
  pub lanes : LanesAreAt None mark b
  pub sized : AreSized b
  pub parts : AreSomehowFull mark b
  pub rests : AreAtRest rules all mark b

-- what a run's plan, its lanes' number and its book must be, however it begins
pub record IsPlanned (plan : RunPlan) (mark : Mark) (b : Known) (book : BookState) : Type 0 where
  pub batch_from : 1 ≤ plan.batch
  pub batch_to : plan.batch ≤ 4096
  pub mark_is : plan.mark ≡ mark
  pub some_lane : 1 ≤ b.lanes
  pub whole : book.whole ≡ true

-- ---- a fresh run
pub record FreshBegins (rules : Rules) (b : Known) : Type 0 where
  pub begins : BeginsAt rules [] Start b
  pub told : (reads : Reads) (slack : Option ℤ) (texts : List (List ℕ)) → TellsTexts reads slack texts b → BenchIsOfTexts reads slack texts Start b
  pub may_run : (plan : RunPlan) (book : BookState) → IsPlanned plan Start b book → book.kept ≡ fresh_book book.pipes → MayRun plan b book

abbrev pub FreshRunsBegin : Known → Type 0
FreshRunsBegin b = (lane : ℕ → LaneState) (part : ℕ → PartState) (rules : Rules) → OpensFresh b lane part rules → FreshBegins rules b

-- ---- a run from a cut
-- the cut fits a run of these stages over the lanes' slack, and stands in order
pub record SuitsBench (run : Run) (shards : ℕ) (rules : Rules) (kept : Kept) (b : Known) : Type 0 where
  pub fits : Fits run shards kept
  pub stands : StandsInOrder shards kept
  pub stages : rules.stages ≡ run.stages
  pub slack : (s : ℕ) → s < b.lanes → (b.set s).slack ≡ Some run.slack

pub record CutBegins (rules : Rules) (kept : Kept) (b : Known) : Type 0 where
  pub begins : BeginsAt rules kept.holders (At kept.time) b
  pub numbers : BookKeepsNumbers kept.book
  pub may_run : (plan : RunPlan) (book : BookState) → IsPlanned plan (At kept.time) b book → book.kept ≡ kept.book → MayRun plan b book

abbrev pub CutRunsBegin : Known → Type 0
CutRunsBegin b = (lane : ℕ → LaneState) (part : ℕ → PartState) (rules : Rules) (run : Run) (shards : ℕ) (kept : Kept)
    → OpensFrom b lane part rules kept → SuitsBench run shards rules kept b → CutBegins rules kept b

-- where the cut is one of told texts at a safe time, the lanes have these texts
abbrev pub CutRunsHaveTexts : Known → Type 0
CutRunsHaveTexts b = (lane : ℕ → LaneState) (part : ℕ → PartState) (rules : Rules) (run : Run) (reads : Reads) (texts : List (List ℕ)) (kept : Kept)
    → OpensFrom b lane part rules kept → IsCutOfTexts run reads texts kept → IsSafeCut (Some run.slack) kept → TellsTexts reads (Some run.slack) texts b
    → BenchIsOfTexts reads (Some run.slack) texts (At kept.time) b

-- ---- what lanes, parts and a book are made of
-- pending sequences with which a part of so many stages may begin at a time
pub record PartMayBegin (stages : ℕ) (time : ℤ) (own : List Holder) : Type 0 where
  pub order : HoldersAreInOrder own
  pub before : All (HasStageBefore stages) own
  pub full : All IsFull own
  pub below : All (HolderIsBelow (At time)) own

-- each lane, each part and the book may begin with what the cut keeps
pub record AllMayBegin (run : Run) (kept : Kept) : Type 0 where
  pub lanes : All MayBegin kept.lanes
  pub parts : (p : ℕ) → PartMayBegin run.stages kept.time (own_of kept.holders p)
  pub book : FitsPipes run.pipes kept.book

abbrev pub FitMayBegin : Type 0
FitMayBegin = (run : Run) (shards : ℕ) (kept : Kept) → Fits run shards kept → AllMayBegin run kept
