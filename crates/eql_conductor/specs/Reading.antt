-- What the reading half of a round does: each lane is fed once and looked at, and where the round counts, taken from up to its mark.
use Rattle.std.specs.Prelude.{◌≡◌, ◌≢◌, ℕ, List, Option, None, Some, length}
use Rattle.eql_values.specs.declared.order.Mark.{Mark}
use Rattle.eql_laws.specs.Lateness.{IsAtMost}
use Rattle.eql_conductor.specs.declared.reading.TakenRound.{TakenRound}
use Rattle.eql_conductor.specs.Benches.{Known, PartNotesStay, PartsRest, Rests}
use Rattle.eql_conductor.specs.Bounds.{RoundSpends, mark_after}
use Rattle.eql_conductor.specs.Fitting.{TakesFitting}
use Rattle.eql_conductor.specs.Going.{Went}
use Rattle.eql_conductor.specs.Handed.{AllHandOut}
use Rattle.eql_conductor.specs.LaneRounds.{LanesAreAt}
use Rattle.eql_conductor.specs.RoundNotes.{LanesGrow, LanesGrowFront, counted_mark, lane_round, low_at}
use Rattle.eql_conductor.specs.Rounds.{CountsAreInRange}

-- with these lows each lane was fed and looked at, and where the least of them is greater than the last mark, taken from up to that. No part played
pub record NotesReading (last : Mark) (batch : ℕ) (old new : Known) (counted : Option Mark) : Type 0 where
  pub lows : List Mark
  pub count : length lows ≡ old.lanes
  pub counts : counted ≡ counted_mark last lows
  pub lanes : LanesGrow (λ s. lane_round batch (low_at lows s) (counted_mark last lows)) old new
  pub parts : PartNotesStay old new

-- a front of that was played
pub record NotesReadingFront (last : Mark) (batch : ℕ) (old new : Known) : Type 0 where
  pub lows : List Mark
  pub count : length lows ≡ old.lanes
  pub lanes : LanesGrowFront (λ s. lane_round batch (low_at lows s) (counted_mark last lows)) old new
  pub parts : PartNotesStay old new

-- the lanes were read, and what lies below the mark of a round that counts was handed out; the parts were left to others
pub record ReadsLanes (last : Mark) (batch : ℕ) (old new : Known) (counted : Option Mark) : Type 0 where
  pub lanes : (texts : Option (List (List ℕ))) → LanesAreAt texts last old → LanesAreAt texts (mark_after last counted) new
  pub parts : PartsRest old new
  pub went : Went old new
  pub spends : RoundSpends last old new counted
  pub in_range : CountsAreInRange last old counted
  pub notes : NotesReading last batch old new counted

-- the round doesn't count: nothing was taken
pub record TakesNone (last : Mark) (batch : ℕ) (old new : Known) : Type 0 where
  pub rests : Rests old new
  pub reads : ReadsLanes last batch old new None

-- it counts: its mark is greater than the last one, and the events are those below it that have routes
pub record TakesBelow (last : Mark) (batch : ℕ) (old new : Known) (taken : TakenRound) : Type 0 where
  pub later : IsAtMost last taken.mark
  pub apart : taken.mark ≢ last
  pub fitting : TakesFitting last taken.mark old new taken.items
  pub reads : ReadsLanes last batch old new (Some taken.mark)

abbrev pub TakesRound : Mark → ℕ → (old new : Known) → Option TakenRound → Type 0
TakesRound last batch old new None = TakesNone last batch old new
TakesRound last batch old new (Some taken) = TakesBelow last batch old new taken

-- a call of the bench stopped it
pub record TakingBreaks (last : Mark) (batch : ℕ) (old new : Known) : Type 0 where
  pub parts : PartsRest old new
  pub handed : AllHandOut 0 old new
  pub notes : NotesReadingFront last batch old new
