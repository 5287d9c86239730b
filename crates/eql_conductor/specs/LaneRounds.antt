-- What the conductor knows of its lanes between calls.
use Rattle.std.specs.Prelude.{◌≡◌, ◌<◌, ◌≤◌, ◌+◌, ℕ, List, [], ◌∷◌, Option, None, Some, length, slice_get}
use Rattle.eql_values.specs.declared.item.Item.{Item}
use Rattle.eql_values.specs.declared.order.Mark.{Mark}
use Rattle.eql_laws.specs.Belows.{IsReading}
use Rattle.eql_laws.specs.Lateness.{IsAtMost}
use Rattle.eql_lane.specs.Lanes.{LaneState, low}
use Rattle.eql_conductor.specs.LaneCalls.{LaneIsAt, HandsOver}
use Rattle.eql_conductor.specs.Benches.{Known}

-- the text of a lane, where texts are given
abbrev pub text_at : Option (List (List ℕ)) → ℕ → Option (List ℕ)
text_at None s = None
text_at (Some texts) s = slice_get texts s

-- lane s is of shard s, and its lines are read as a reader reads them
pub record AreLanes (b : Known) : Type 0 where
  pub shard : (s : ℕ) → s < b.lanes → (b.set s).shard ≡ s
  pub reading : (s : ℕ) → s < b.lanes → IsReading (b.set s).reads

-- each lane handed out all that lies below the mark, which is safe
pub record LanesAreAt (texts : Option (List (List ℕ))) (mark : Mark) (b : Known) : Type 0 where
  pub are : AreLanes b
  pub each : (s : ℕ) → s < b.lanes → (x : LaneState) → b.lane s x → LaneIsAt (text_at texts s) (b.set s) mark x

-- the lanes below n handed out all that lies below the one mark, and the others all that lies below the last one
pub record AreTakenTo (texts : Option (List (List ℕ))) (n : ℕ) (last mark : Mark) (b : Known) : Type 0 where
  pub are : AreLanes b
  pub taken : (s : ℕ) → s < b.lanes → s < n → (x : LaneState) → b.lane s x → LaneIsAt (text_at texts s) (b.set s) mark x
  pub left : (s : ℕ) → s < b.lanes → n ≤ s → (x : LaneState) → b.lane s x → LaneIsAt (text_at texts s) (b.set s) last x

-- no further event of this lane can come below the mark
pub record IsSafeAt (s : ℕ) (mark : Mark) (b : Known) : Type 0 where
  pub low_is : (x : LaneState) → b.lane s x → IsAtMost mark (low (b.set s) x)

-- none of the lanes below n
pub record AreSafeTo (n : ℕ) (mark : Mark) (b : Known) : Type 0 where
  pub each : (s : ℕ) → s < b.lanes → s < n → IsSafeAt s mark b

-- none of any lane
pub record IsSafe (mark : Mark) (b : Known) : Type 0 where
  pub each : (s : ℕ) → s < b.lanes → IsSafeAt s mark b

-- what lanes hand out from one mark on and below another, where the first is this lane
abbrev pub HandsFrom : Option (List (List ℕ)) → (last mark : Mark) → Known → ℕ → List (List Item) → Type 0
HandsFrom texts last mark b s [] = Unit {0}
HandsFrom texts last mark b s (items ∷ lists) = HandsOver (text_at texts s) (b.set s) last mark items × HandsFrom texts last mark b (s + 1) lists

-- each lane hands its list over
pub record AllHandOver (texts : Option (List (List ℕ))) (last mark : Mark) (b : Known) (lists : List (List Item)) : Type 0 where
  pub count : length lists ≡ b.lanes
  pub each : HandsFrom texts last mark b 0 lists

-- what is known once the lanes below n were taken from, where these texts are given
pub record TookTo (texts : Option (List (List ℕ))) (n : ℕ) (last mark : Mark) (old now : Known) (lists : List (List Item)) : Type 0 where
  pub lanes : AreTakenTo texts n last mark now
  pub each : HandsFrom texts last mark old 0 lists
