-- How the tests open a run: afresh, or with what a cut keeps that fits.
use Rattle.std.specs.Prelude.{◌≡◌, ◌≢◌, ◌≤◌, ◌⊎◌, ℕ, ℤ, List, [], Option, None, Some, IfSome, IsTrue, All, slice_get}
use Rattle.eql_values.specs.declared.cut.LaneCut.{LaneCut}
use Rattle.eql_values.specs.declared.found.Holder.{Holder}
use Rattle.eql_values.specs.declared.order.Mark.{Mark}
use Rattle.eql_values.specs.declared.order.Mark.TheVariants.{Start, At}
use Rattle.eql_laws.specs.Alive.{HoldersAreInOrder}
use Rattle.eql_laws.specs.Fitting.{Fits, Kept, Run, StandsInOrder}
use Rattle.eql_laws.specs.Shapes.{HasStageBefore, IsFull}
use Rattle.eql_outside.specs.Moments.{History}
use Rattle.eql_lane.specs.Lanes.{beginning_lane, fresh_cut as fresh_lane}
use Rattle.eql_lane.specs.declared.make.LaneStart.{LaneStart}
use Rattle.eql_lane.specs.declared.make.LaneStart.TheVariants as start
use Rattle.eql_lane.specs.Views.{LaneView}
use Rattle.eql_parts.specs.Inboxes.{HolderIsBelow}
use Rattle.eql_parts.specs.PartSteps.{PartView, Rules}
use Rattle.eql_conductor.specs.Finding.{own_of}
use Rattle.eql_book.specs.Books.{BookState}
use Rattle.eql_book.specs.Laws.{fresh_cut as fresh_book}
use Rattle.eql_cut.specs.CutValues.{names_ascend}
use Rattle.eql_ckdisk.specs.Putting.{Stands, last_cut}
use Rattle.eql_conductor.specs.declared.plan.Keep.{Keep}
use Rattle.eql_conductor.specs.declared.plan.RunPlan.{RunPlan}
use Rattle.eql_conductor.specs.Openings.{begun_part}

-- ---- lanes
-- a lane of its shard, at its beginning, by a slack in nanoseconds, with a cut of which this holds
pub record BeginsWith {S L : Type 0} (slack : Option ℤ) (Is : LaneCut → Type 0) (s : ℕ) (lane : LaneView S L) : Type 0 where
  pub shard : lane.shard ≡ s
  pub slack_is : lane.slack ≡ slack
  pub state : lane.state ≡ beginning_lane lane.state.cut lane.state.faults
  pub cut : Is lane.state.cut

-- the cut with which a lane starts, where it has a digest and places
abbrev pub StartsAs : LaneStart → LaneCut → Type 0
StartsAs start.Fresh is = is ≡ fresh_lane
StartsAs (start.From cut) is = is ≡ cut
StartsAs (start.Retrace cut) is = Unit {0}
StartsAs (start.Lift cut wanted) is = Unit {0}

-- each lane begins so
pub record BeginAll {S L : Type 0} (slack : Option ℤ) (Is : ℕ → LaneCut → Type 0) (lanes : List (LaneView S L)) : Type 0 where
  pub each : (s : ℕ) (lane : LaneView S L) → slice_get lanes s ≡ Some lane → BeginsWith slack (Is s) s lane

-- with the cut of a lane of which nothing was read, and with that in its place
abbrev pub IsFreshAt : ℕ → LaneCut → Type 0
IsFreshAt s cut = cut ≡ fresh_lane

abbrev pub StandsAt : List LaneCut → ℕ → LaneCut → Type 0
StandsAt cuts s cut = slice_get cuts s ≡ Some cut

-- ---- parts
-- pending sequences with which a part may begin at a mark
pub record MayHold (stages : ℕ) (mark : Mark) (own : List Holder) : Type 0 where
  pub order : HoldersAreInOrder own
  pub before : All (HasStageBefore stages) own
  pub full : All IsFull own
  pub below : All (HolderIsBelow mark) own

-- and so has each part of these
pub record AllMayHold (stages : ℕ) (mark : Mark) (holders : List Holder) : Type 0 where
  pub each : (p : ℕ) → MayHold stages mark (own_of holders p)

-- the parts begin at a mark, each with its own of these pending sequences
pub record PartsBegin (rules : Rules) (mark : Mark) (holders : List Holder) (parts : List PartView) : Type 0 where
  pub each : (p : ℕ) (part : PartView) → slice_get parts p ≡ Some part → part ≡ record { rules = rules; state = begun_part rules (own_of holders p) mark }

-- ---- starts
module _ {S L : Type 0} (plan : RunPlan) (rules : Rules) (lanes : List (LaneView S L)) (holders : List Holder) (book : BookState) where
  -- a run afresh
  pub record StartsFresh : Type 0 where
    pub slack : Option ℤ
    pub mark : plan.mark ≡ Start
    pub begin : BeginAll slack IsFreshAt lanes
    pub none : holders ≡ []
    pub book_is : book.kept ≡ fresh_book book.pipes

  -- a run that goes on from what a cut keeps that fits
  pub record StartsFrom : Type 0 where
    pub run : Run
    pub shards : ℕ
    pub kept : Kept
    pub mark : plan.mark ≡ At kept.time
    pub fits : Fits run shards kept
    pub stands : StandsInOrder shards kept
    pub stages : rules.stages ≡ run.stages
    pub begin : BeginAll (Some run.slack) (StandsAt kept.lanes) lanes
    pub holders_are : holders ≡ kept.holders
    pub book_is : book.kept ≡ kept.book

  abbrev pub Starts : Type 0
  Starts = StartsFresh ⊎ StartsFrom

-- ---- cuts
-- a run of so many lanes may keep cuts there
pub record KeepsOver {D : Type 0} (history : D → Option History) (plan : RunPlan) (lanes : ℕ) (k : Keep D) : Type 0 where
  pub some : plan.every ≢ None
  pub every : IfSome plan.every (λ n. 1 ≤ n)
  pub names : IsTrue (names_ascend plan.head.mapping)
  pub shards : plan.head.shards ≡ lanes
  pub stands : Stands (last_cut k.state) (history k.disk)

-- or keeps none
abbrev pub MayKeepOver : {D : Type 0} (history : D → Option History) → RunPlan → (lanes : ℕ) → Option (Keep D) → Type 0
MayKeepOver history plan lanes None = plan.every ≡ None
MayKeepOver history plan lanes (Some k) = KeepsOver history plan lanes k

-- cuts are kept exactly when it is said how often, on a disk that stands as the state says
abbrev pub MayKeepBy : {D : Type 0} (history : D → Option History) → (every : Option ℕ) → Option (Keep D) → Type 0
MayKeepBy history every None = every ≡ None
MayKeepBy history every (Some k) = (every ≢ None) × IfSome every (λ n. 1 ≤ n) × Stands (last_cut k.state) (history k.disk)
