-- What becomes of lanes and of a sink in a search, by its result.
use Rattle.std.specs.Prelude.{◌≡◌, ◌<◌, ◌≤◌, ◌+◌, ℕ, ℤ, true, All, List, [], ◌∷◌, drop, length, slice_get, Option, Some, IfSome, Result, Err}
use Rattle.eql_outside.specs.Outside.{Rose}
use Rattle.eql_outside.specs.Plans.{FaultPlan}
use Rattle.eql_outside.specs.Unfailing.{IsUnfailing}
use Rattle.eql_values.specs.Accepted.{Reads}
use Rattle.eql_values.specs.Lines.{lines_of}
use Rattle.eql_laws.specs.Counting.{counts_of, greatest_lines, greatest_bytes, IsShardText}
use Rattle.eql_lane.specs.declared.ops.ShardLimit.{ShardLimit}
use Rattle.eql_lane.specs.declared.ops.ShardLimit.TheVariants as limit
use Rattle.eql_lane.specs.Views.{IsSameLane, LaneView}
use Rattle.eql_conductor.specs.declared.stop.Stop.{Stop}
use Rattle.eql_conductor.specs.declared.stop.Stop.TheVariants as stop
use Rattle.eql_conductor.specs.LaneRounds.{text_at}

module _ {S L : Type 0} where
  -- the faults of a lane's source are as many as before
  abbrev pub LaneHasSameFaults : LaneView S L → LaneView S L → Type 0
  LaneHasSameFaults old new = new.state.faults ≡ old.state.faults

  -- the faults of the lane of each shard are as many as before, but for one of which this may be told
  abbrev pub AreSteadyBut : (IsTold : ℕ → Type 0) → (olds news : List (LaneView S L)) → Type 0
  AreSteadyBut IsTold olds news =
      (shard : ℕ) (old new : LaneView S L) → ¬ IsTold shard → slice_get olds shard ≡ Some old
      → slice_get news shard ≡ Some new → LaneHasSameFaults old new

  -- no take of the lanes' sources is planned to fail
  abbrev pub AreUnfailing : (S → Option FaultPlan) → List (LaneView S L) → Type 0
  AreUnfailing plan lanes = All (λ lane. IsUnfailing (plan lane.source)) lanes

  -- the faults of a lane's source rose
  abbrev pub RoseFaults : LaneView S L → LaneView S L → Type 0
  RoseFaults old new = Rose old.state.faults new.state.faults

  -- this became of the lane of this shard
  pub record BecameAt (shard : ℕ) (olds news : List (LaneView S L)) (Became : LaneView S L → LaneView S L → Type 0) : Type 0 where
    pub old : LaneView S L
    pub new : LaneView S L
    pub was : slice_get olds shard ≡ Some old
    pub is : slice_get news shard ≡ Some new
    pub became : Became old new

module _ {S L : Type 0} where
  -- a lane was read to its end
  abbrev pub IsClosed : LaneView S L → Type 0
  IsClosed lane = lane.state.cut.closed ≡ true

  -- what became of the lines of these texts is what the lanes counted, the first of which is of this shard
  abbrev pub CountWhole : Reads → Option ℤ → (shard : ℕ) → List (List ℕ) → List (LaneView S L) → Type 0
  CountWhole reads slack shard [] [] = Unit {0}
  CountWhole reads slack shard [] (lane ∷ lanes) = ⊥
  CountWhole reads slack shard (text ∷ texts) [] = ⊥
  CountWhole reads slack shard (text ∷ texts) (lane ∷ lanes) =
      (lane.state.cut.counts ≡ counts_of reads slack shard text) × CountWhole reads slack (shard + 1) texts lanes

  -- the lanes were read to the end of these texts, which are within the limits of a shard
  pub record WereRead (reads : Reads) (slack : Option ℤ) (texts : List (List ℕ)) (lanes : List (LaneView S L)) : Type 0 where
    pub counts : CountWhole reads slack 0 texts lanes
    pub within : All IsShardText texts

  -- a lane read as many lines as a shard may have, and took a byte of a further one; so of its text, where it is told, the lines behind those
  -- that were counted at the beginning are too many together with them
  pub record RanOutOfLines (text : Option (List ℕ)) (old new : LaneView S L) : Type 0 where
    pub lines : new.state.cut.counts.lines ≡ greatest_lines
    pub byte : new.state.cut.offset < new.state.taken
    pub beyond : IfSome text (λ t. greatest_lines < old.state.cut.counts.lines + length (lines_of (drop old.state.cut.offset t)))

  -- a lane took as many bytes as a shard may have; so its text, where it is told, has at least as many
  pub record RanOutOfBytes (text : Option (List ℕ)) (old new : LaneView S L) : Type 0 where
    pub bytes : new.state.taken ≡ greatest_bytes
    pub beyond : IfSome text (λ t. greatest_bytes ≤ length t)

  -- a lane came to this limit of its shard
  abbrev pub HasLimitAt : (texts : Option (List (List ℕ))) → ShardLimit → (olds news : List (LaneView S L)) → Type 0
  HasLimitAt texts (limit.Lines shard) olds news = BecameAt shard olds news (RanOutOfLines (text_at texts shard))
  HasLimitAt texts (limit.Bytes shard) olds news = BecameAt shard olds news (RanOutOfBytes (text_at texts shard))

  -- why a search stopped: by the texts of its lanes, where they are told, by its lanes before and after, and by the faults of its sink and of its
  -- disk before and after. No lock is worn
  abbrev pub HasSearchCause : (texts : Option (List (List ℕ))) → Stop → (olds news : List (LaneView S L)) → (before now disk_before disk_now : ℕ) → Type 0
  HasSearchCause texts (stop.Read shard) olds news before now disk_before disk_now = BecameAt shard olds news RoseFaults
  HasSearchCause texts stop.Write olds news before now disk_before disk_now = Rose before now
  HasSearchCause texts stop.Disk olds news before now disk_before disk_now = Rose disk_before disk_now
  HasSearchCause texts stop.Memory olds news before now disk_before disk_now = Unit {0}
  HasSearchCause texts (stop.Limit of) olds news before now disk_before disk_now = HasLimitAt texts of olds news
  HasSearchCause texts stop.Generation olds news before now disk_before disk_now = Unit {0}
  HasSearchCause texts stop.Worn olds news before now disk_before disk_now = ⊥

module _ {S L : Type 0} (left : S → Option (List ℕ)) where
  -- what stays of a lane whatever is returned, and that the count of its faults doesn't fall
  pub record StaysLane (lent_as : S → Option (List ℕ)) (read_of : L → Reads) (old new : LaneView S L) : Type 0 where
    pub same : IsSameLane left lent_as read_of old new
    pub counts : old.state.faults ≤ new.state.faults

-- a read fault of some lane is told
abbrev pub IsRead : {A : Type 0} → Result A Stop → Type 0
IsRead (Err (stop.Read shard)) = Unit {0}
IsRead answer = ⊥

-- a stop that is no fault
abbrev pub IsNoFault : Stop → Type 0
IsNoFault (stop.Read shard) = ⊥
IsNoFault stop.Write = ⊥
IsNoFault stop.Disk = ⊥
IsNoFault stop.Memory = Unit {0}
IsNoFault (stop.Limit of) = Unit {0}
IsNoFault stop.Generation = Unit {0}
IsNoFault stop.Worn = Unit {0}
