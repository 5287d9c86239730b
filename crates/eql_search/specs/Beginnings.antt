-- How a search begins: afresh, or with what a cut keeps.
use Rattle.std.specs.Prelude.{◌≡◌, ◌≢◌, ◌≤◌, ℕ, ℤ, List, [], map, length, Option, None, Some, IfSome, IsSomeAnd, IsTrue, All}
use Rattle.eql_values.specs.declared.cut.BookCut.{BookCut}
use Rattle.eql_values.specs.declared.cut.LaneCut.{LaneCut}
use Rattle.eql_values.specs.declared.cut.Pipe.{Pipe}
use Rattle.eql_values.specs.declared.found.Holder.{Holder}
use Rattle.eql_values.specs.declared.order.Mark.{Mark}
use Rattle.eql_values.specs.declared.order.Mark.TheVariants.{Start, At, End}
use Rattle.eql_outside.specs.Moments.{History}
use Rattle.eql_laws.specs.Fitting.{Fits, Kept, Run, StandsInOrder}
use Rattle.eql_lane.specs.Lanes.{fresh_cut as fresh_lane}
use Rattle.eql_lane.specs.Views.{LaneView}
use Rattle.eql_book.specs.Laws.{fresh_cut as fresh_book}
use Rattle.eql_cut.specs.CutValues.{names_ascend}
use Rattle.eql_ckdisk.specs.Putting.{Stands, last_cut}
use Rattle.eql_conductor.specs.declared.plan.Keep.{Keep}
use Rattle.eql_conductor.specs.declared.plan.RunPlan.{RunPlan}
use Rattle.eql_conductor.specs.Openings.{IsCutOfTexts}
use Rattle.eql_search.specs.Searches.{Rules}

-- what lanes keep
abbrev pub cuts_of : {S L : Type 0} → List (LaneView S L) → List LaneCut
cuts_of lanes = map (λ lane. lane.state.cut) lanes

-- what a search begins with: nothing at the start; at a time what a cut keeps of lanes, of what is pending, and of the book
abbrev pub start_at : Mark → List LaneCut → List Holder → BookCut → Option Kept
start_at Start lanes holders book = None
start_at (At time) lanes holders book = Some (record { time = time; lanes = lanes; holders = holders; book = book })
start_at End lanes holders book = None

-- a search by these rules and pipes, as its cuts depend on it: with keys of so many values, at a slack in nanoseconds
abbrev pub run_by : Rules → List Pipe → (values : ℕ) → (slack : ℤ) → Run
run_by rules pipes values slack = record { stages = rules.stages; span = rules.span; values = values; pipes = pipes; slack = slack }

-- nothing was read of the lanes, nothing is pending, and nothing was added to the book
pub record BeginsFresh (pipes : List Pipe) (lanes : List LaneCut) (holders : List Holder) (book : BookCut) : Type 0 where
  pub lanes_are : All (λ (lane : LaneCut). lane ≡ fresh_lane) lanes
  pub none : holders ≡ []
  pub book_is : book ≡ fresh_book pipes

-- a cut that fits the search, and stands in order
pub record BeginsFrom (rules : Rules) (pipes : List Pipe) (shards : ℕ) (kept : Kept) : Type 0 where
  pub values : ℕ
  pub slack : ℤ
  pub slack_is : rules.slack ≡ Some slack
  pub fits : Fits (run_by rules pipes values slack) shards kept
  pub stands : StandsInOrder shards kept

-- how a search from a mark on may begin
abbrev pub MayBegin : Rules → List Pipe → Mark → List LaneCut → List Holder → BookCut → Type 0
MayBegin rules pipes Start lanes holders book = BeginsFresh pipes lanes holders book
MayBegin rules pipes (At time) lanes holders book =
    BeginsFrom rules pipes (length lanes) (record { time = time; lanes = lanes; holders = holders; book = book })
MayBegin rules pipes End lanes holders book = ⊥

-- what a search begins with is nothing, or a cut of these texts
abbrev pub BeginsOn : Rules → List Pipe → List (List ℕ) → Option Kept → Type 0
BeginsOn rules pipes texts None = Unit {0}
BeginsOn rules pipes texts (Some kept) =
    IsSomeAnd rules.slack (λ slack. IsCutOfTexts (run_by rules pipes 0 slack) rules.reads texts kept)

-- cuts are kept exactly when the plan says how often, with a head of so many lanes, on a disk that stands as the state says
module _ {D : Type 0} (history : D → Option History) where
  abbrev pub MayKeepOn : RunPlan → (lanes : ℕ) → Option (Keep D) → Type 0
  MayKeepOn plan lanes None = plan.every ≡ None
  MayKeepOn plan lanes (Some k) =
      (plan.every ≢ None) × IfSome plan.every (λ n. 1 ≤ n) × IsTrue (names_ascend plan.head.mapping)
      × (plan.head.shards ≡ lanes) × Stands (last_cut k.state) (history k.disk)
