-- What is true of a bench from its beginning on, and what a call of it does.
use Rattle.std.specs.Prelude.{◌≡◌, ◌≢◌, ◌<◌, ◌≤◌, ◌^◌, ◌+◌, ℕ, List, [], Option, None, Some, All, IsOkAnd, Result, length, min, slice_get}
use Rattle.eql_values.specs.Accepted.{Reads}
use Rattle.eql_outside.specs.Plans.{FaultPlan}
use Rattle.eql_outside.specs.Unfailing.{IsUnfailing}
use Rattle.eql_lane.specs.declared.ops.LaneOp.{LaneOp}
use Rattle.eql_lane.specs.declared.ops.LaneReply.{LaneReply}
use Rattle.eql_lane.specs.Views.{LaneView}
use Rattle.eql_parts.specs.declared.ops.PartOp.{PartOp}
use Rattle.eql_parts.specs.declared.ops.PartReply.{PartReply}
use Rattle.eql_conductor.specs.declared.bench.NotPlayed.{NotPlayed}
use Rattle.eql_conductor.specs.GoingOn.{AreOfTexts, LanesGoOn, LanesReadFurther, LanesReadOn}
use Rattle.eql_conductor.specs.Lists.{PoolView}
use Rattle.eql_replay.specs.declared.foreign.Foreign.{Foreign}
use Rattle.eql_replay.specs.declared.foreign.Foreign.TheVariants.{Feed, Turn}
use Rattle.eql_replay.specs.declared.noted.Noted.{Noted}
use Rattle.eql_replay.specs.Listed.{BenchView}
use Rattle.eql_replay.specs.Noting.{fails_in}
use Rattle.eql_replay.specs.Pools.{PlaysLaneAt, PlaysPartAt, ForeignsPlay, IsPlay}

-- others don't feed this lane by the one play, and by none of all
abbrev pub FeedsElsewhere : ℕ → Foreign → Type 0
FeedsElsewhere s (Feed lane max) = lane ≢ s
FeedsElsewhere s (Turn part max) = Unit {0}

abbrev pub NoneFeeds : ℕ → List (List Foreign) → Type 0
NoneFeeds s plays = All (λ foreigns. All (FeedsElsewhere s) foreigns) plays

-- what others play before a call, of which so many were before: nothing once the lists are used up
abbrev pub list_in : Option (List Foreign) → List Foreign
list_in None = []
list_in (Some foreigns) = foreigns

abbrev pub list_at : List (List Foreign) → ℕ → List Foreign
list_at plays calls = list_in (slice_get plays calls)

module _ {S L : Type 0} (left lent_as : S → Option (List ℕ)) (fault_plan : S → Option FaultPlan) (read_of : L → Reads) where
  -- others played their list, and then the operation was played on a lane, or on a part: it always is
  pub record IsLaneCall (plays : List (List Foreign)) (s : ℕ) (op : LaneOp) (result : Result LaneReply NotPlayed) (old new : BenchView S L) : Type 0 where
    pub between : PoolView S L
    pub others : ForeignsPlay left lent_as fault_plan read_of (list_at plays old.calls) old.pool between
    pub calls : new.calls ≡ min (old.calls + 1) (length plays)
    pub is : IsOkAnd result (λ reply. PlaysLaneAt left lent_as fault_plan read_of s op reply between.lanes new.pool.lanes × (new.pool.parts ≡ between.parts))

  pub record IsPartCall (plays : List (List Foreign)) (p : ℕ) (op : PartOp) (result : Result PartReply NotPlayed) (old new : BenchView S L) : Type 0 where
    pub between : PoolView S L
    pub others : ForeignsPlay left lent_as fault_plan read_of (list_at plays old.calls) old.pool between
    pub calls : new.calls ≡ min (old.calls + 1) (length plays)
    pub is : IsOkAnd result (λ reply. PlaysPartAt p op reply between.parts new.pool.parts × (new.pool.lanes ≡ between.lanes))

-- others don't feed the lane, and none of the caller's own feeds failed
abbrev pub IsQuiet : List (List Foreign) → List Noted → ℕ → Type 0
IsQuiet plays notes s = NoneFeeds s plays × (fails_in s notes ≡ 0)

-- no feed of the caller failed at a lane whose source isn't planned to fail
pub record FailsAsPlanned {S L : Type 0} (fault_plan : S → Option FaultPlan) (first : List (LaneView S L)) (notes : List Noted) : Type 0 where
  pub each : (s : ℕ) (one : LaneView S L) → slice_get first s ≡ Some one → IsUnfailing (fault_plan one.source) → fails_in s notes ≡ 0

-- what is true of each bench, by its beginning
pub record IsBench {S L : Type 0} (left lent_as : S → Option (List ℕ)) (fault_plan : S → Option FaultPlan) (read_of : L → Reads) (first : List (LaneView S L)) (text : ℕ → Option (List ℕ)) (plays : List (List Foreign)) (b : BenchView S L) : Type 0 where
  pub on : LanesGoOn left lent_as fault_plan read_of (IsQuiet plays b.notes) first b.pool.lanes
  pub planned : FailsAsPlanned fault_plan first b.notes
  pub texts : AreOfTexts left text b.pool.lanes
  pub read : LanesReadOn read_of text first b.pool.lanes
  pub lines : LanesReadFurther text first b.pool.lanes
  pub few_lanes : length b.pool.lanes < 2 ^ 32
  pub few_parts : length b.pool.parts < 2 ^ 32
  pub fit : All (λ foreigns. All (IsPlay (length b.pool.lanes) (length b.pool.parts)) foreigns) plays
  pub calls : b.calls ≤ length plays
