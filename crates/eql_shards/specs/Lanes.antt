-- Lanes over the sources of shards, and why they aren't made.
use Rattle.std.specs.Prelude.{◌≡◌, ◌≢◌, ◌≤◌, ◌<◌, ◌+◌, ◌⊎◌, ℕ, true, List, [], ◌∷◌, ◌++◌, All, drop, take, length, slice_get, IfSome, Option, Some}
use Rattle.eql_values.specs.Accepted.{Reads}
use Rattle.eql_outside.specs.Outside.{Rose}
use Rattle.eql_outside.specs.Faults.{FaultsAreSame, RoseUnder}
use Rattle.eql_outside.specs.Plans.{FaultPlan}
use Rattle.eql_outside.specs.Unfailing.{IsUnfailing}
use Rattle.eql_lane.specs.declared.make.LaneRefused.{LaneRefused}
use Rattle.eql_lane.specs.declared.make.LaneRefused.TheVariants as refused
use Rattle.eql_lane.specs.declared.make.LaneStart.{LaneStart}
use Rattle.eql_lane.specs.Noting.{IsWholeLine}
use Rattle.eql_lane.specs.Passing.{Agrees}
use Rattle.eql_lane.specs.Starts.{BeginsAs, IsNotMade, cut_of, known_of, wanted_of}
use Rattle.eql_lane.specs.Views.{LaneView}

module _ {S L : Type 0} (left lent_as : S → Option (List ℕ)) (faults : S → ℕ) (plan : S → Option FaultPlan) (read_of : L → Reads) where
  -- a lane that was made over a source, by a slack in milliseconds, as it was to begin
  pub record IsOver (reads : Reads) (slack : Option ℕ) (shard : ℕ) (source : S) (start : LaneStart) (lane : LaneView S L) : Type 0 where
    pub reader : L
    pub reads_are : read_of reader ≡ reads
    pub made : BeginsAs left lent_as faults source reader shard slack start lane
    pub unfailing : IsUnfailing (plan source) → IsUnfailing (plan lane.source)

  -- lanes over these sources that begin so, of which the first is of this shard and the others are of the shards after it
  abbrev pub AreOver : Reads → Option ℕ → (shard : ℕ) → List S → List LaneStart → List (LaneView S L) → Type 0
  AreOver reads slack shard [] [] [] = Unit {0}
  AreOver reads slack shard (source ∷ sources) (start ∷ starts) (lane ∷ lanes) =
      IsOver reads slack shard source start lane × AreOver reads slack (shard + 1) sources starts lanes
  AreOver reads slack shard _ _ _ = ⊥

-- a text over which a lane that begins so is made: it has the bytes that are passed over, with the digest that the start knows, in
-- them the wanted lines, and ends behind them where the cut says so
pub record Serves (start : LaneStart) (text : List ℕ) : Type 0 where
  pub there : (cut_of start).offset ≤ length text
  pub agrees : Agrees (known_of start) (cut_of start).offset text
  pub whole : All (IsWholeLine (take (cut_of start).offset text) (drop (cut_of start).offset text)) (wanted_of start)
  pub ended : (cut_of start).closed ≡ true → length text ≡ (cut_of start).offset

module _ {S : Type 0} (left lent_as : S → Option (List ℕ)) (faults : S → ℕ) (plan : S → Option FaultPlan) where
  -- making lanes stopped at the source of this shard, which went back to its shelf: why, and what the shelf's counts say; those
  -- before it were made
  pub record StopsMakingAt (why : LaneRefused) (shard : ℕ) (sources : List S) (starts : List LaneStart) (before now : ℕ)
      (names names' : List ℕ → ℕ) : Type 0 where
    pub source : S
    pub is : slice_get sources shard ≡ Some source
    pub start : LaneStart
    pub begins : slice_get starts shard ≡ Some start
    pub back : S
    pub refused_by : IsNotMade left lent_as faults start source why back
    pub earlier : (s : ℕ) (x : S) (b : LaneStart) → s < shard → slice_get sources s ≡ Some x → slice_get starts s ≡ Some b
        → IfSome (left x) (Serves b)
    pub steady : why ≢ refused.Failed → (now ≡ before) × FaultsAreSame names names'
    pub rose : why ≡ refused.Failed → Rose before now × RoseUnder (lent_as source) names names'
    pub unfailing : IsUnfailing (plan source) → why ≢ refused.Failed

  -- making lanes stopped: memory ran out before the first, or at one of them
  abbrev pub StopsMaking : LaneRefused → (shard : ℕ) → List S → List LaneStart → (before now : ℕ) → (names names' : List ℕ → ℕ) → Type 0
  StopsMaking why shard sources starts before now names names' =
      ((why ≡ refused.Memory) × (now ≡ before) × FaultsAreSame names names')
      ⊎ StopsMakingAt why shard sources starts before now names names'

module _ {S L : Type 0} (left lent_as : S → Option (List ℕ)) (faults : S → ℕ) (plan : S → Option FaultPlan) (read_of : L → Reads)
    (reads : Reads) (slack : Option ℕ) where
  -- of these sources the first have lanes, which began with the first of these starts, and the rest not yet
  pub record HaveLanes (all rest : List S) (starts left_over : List LaneStart) (lanes : List (LaneView S L)) : Type 0 where
    pub done : List S
    pub began : List LaneStart
    pub all_are : all ≡ done ++ rest
    pub starts_are : starts ≡ began ++ left_over
    pub over : AreOver left lent_as faults plan read_of reads slack 0 done began lanes

  -- the same, with one source between them for which that stopped
  pub record StopsAmong (why : LaneRefused) (shard : ℕ) (all rest : List S) (starts : List LaneStart) (lanes : List (LaneView S L))
      (before now : ℕ) (names names' : List ℕ → ℕ) : Type 0 where
    pub done : List S
    pub source : S
    pub began : List LaneStart
    pub all_are : all ≡ done ++ source ∷ rest
    pub over : AreOver left lent_as faults plan read_of reads slack 0 done began lanes
    pub at : StopsMakingAt left lent_as faults plan why shard all starts before now names names'
