-- What the conductor plays in a round, as notes.
use Rattle.std.specs.Prelude.{◌≡◌, ◌≢◌, ◌<◌, ◌≤◌, ◌+◌, ◌++◌, ℕ, suc, Bool, true, false, not, if◌then◌else◌, List, [], ◌∷◌, Option, None, Some, All, length, take, filter, get_or}
use Rattle.std.specs.Ordering.{is_le}
use Rattle.eql_values.specs.declared.item.Item.{Item}
use Rattle.eql_values.specs.declared.order.Mark.{Mark}
use Rattle.eql_values.specs.declared.order.Mark.TheVariants.{End}
use Rattle.eql_values.specs.Marks.{mark_cmp}
use Rattle.eql_values.specs.Routing.{routed_items}
use Rattle.eql_laws.specs.Apart.{joined_lists}
use Rattle.eql_laws.specs.Lanes.{least_of}
use Rattle.eql_parts.specs.Spreading.{part_number}
use Rattle.eql_conductor.specs.declared.note.Note.{Note}
use Rattle.eql_conductor.specs.declared.note.Note.TheVariants as note
use Rattle.eql_conductor.specs.Benches.{Known, LaneNotesStay, PartNotesStay}
use Rattle.eql_conductor.specs.PartRounds.{WaitAtMost}
use Rattle.eql_conductor.specs.Handed.{AllHandOut}

-- ---- a lane's round
-- the low of a lane
abbrev pub low_at : List Mark → ℕ → Mark
low_at lows s = get_or lows s End

-- a round counts where the least of its lows is greater than the last mark, and this is its mark
abbrev pub counted_mark : Mark → List Mark → Option Mark
counted_mark last lows = if is_le (mark_cmp (least_of lows) last) then None else Some (least_of lows)

-- in a round that counts a lane is taken from
abbrev pub took : Option Mark → List Note
took None = []
took (Some mark) = note.Took mark ∷ []

-- a lane is fed and looked at, and in a round that counts taken from
abbrev pub lane_round : (batch : ℕ) (low : Mark) → Option Mark → List Note
lane_round batch low mark = note.Fed batch ∷ note.Looked low ∷ took mark

-- ---- lanes
-- the notes of each lane grew by these
pub record LanesGrow (more : ℕ → List Note) (old new : Known) : Type 0 where
  pub each : (s : ℕ) → s < old.lanes → new.lane_notes s ≡ old.lane_notes s ++ more s

-- notes grew by a front of these, which may be all or none
abbrev pub GrewFront : (old more new : List Note) → Type 0
GrewFront old more new = (n : ℕ) × (new ≡ old ++ take n more)

-- the notes of each lane grew by a front of these
pub record LanesGrowFront (more : ℕ → List Note) (old new : Known) : Type 0 where
  pub each : (s : ℕ) → s < old.lanes → GrewFront (old.lane_notes s) (more s) (new.lane_notes s)

-- the notes of each lane grew by these, and those of no part
pub record NotesLanes (more : ℕ → List Note) (old new : Known) : Type 0 where
  pub lanes : LanesGrow more old new
  pub parts : PartNotesStay old new

pub record NotesLanesFront (more : ℕ → List Note) (old new : Known) : Type 0 where
  pub lanes : LanesGrowFront more old new
  pub parts : PartNotesStay old new

-- the notes of this lane grew by these, and those of nothing else
pub record NotesLane (s : ℕ) (more : List Note) (old new : Known) : Type 0 where
  pub grew : new.lane_notes s ≡ old.lane_notes s ++ more
  pub others : (k : ℕ) → k < old.lanes → k ≢ s → new.lane_notes k ≡ old.lane_notes k
  pub parts : PartNotesStay old new

pub record NotesLaneFront (s : ℕ) (more : List Note) (old new : Known) : Type 0 where
  pub n : ℕ
  pub noted : NotesLane s (take n more) old new

-- in a loop: the notes of the lanes below n grew by these
pub record NotesLanesTo (n : ℕ) (more : ℕ → List Note) (old now : Known) : Type 0 where
  pub done : (s : ℕ) → s < old.lanes → s < n → now.lane_notes s ≡ old.lane_notes s ++ more s
  pub left : (s : ℕ) → s < old.lanes → n ≤ s → now.lane_notes s ≡ old.lane_notes s
  pub parts : PartNotesStay old now

-- each lane was looked at, and the mark is the least of their lows
pub record NotesLooks (old new : Known) (mark : Mark) : Type 0 where
  pub lows : List Mark
  pub count : length lows ≡ old.lanes
  pub least : mark ≡ least_of lows
  pub noted : NotesLanes (λ s. note.Looked (low_at lows s) ∷ []) old new

pub record NotesLooksFront (old new : Known) : Type 0 where
  pub lows : List Mark
  pub count : length lows ≡ old.lanes
  pub noted : NotesLanesFront (λ s. note.Looked (low_at lows s) ∷ []) old new

-- in a loop: the lanes below n were looked at
pub record NotesLooksTo (n : ℕ) (mark : Mark) (old now : Known) : Type 0 where
  pub lows : List Mark
  pub count : length lows ≡ n
  pub least : mark ≡ least_of lows
  pub noted : NotesLanesTo n (λ s. note.Looked (low_at lows s) ∷ []) old now

-- ---- parts
-- whether it tells of events that were played
abbrev pub is_turn : Note → Bool
is_turn (note.Turned (suc n)) = true
is_turn _ = false

-- how many notes tell of events that were played, and how many others there are
abbrev pub turns_in : List Note → ℕ
turns_in notes = length (filter is_turn notes)

abbrev pub others_in : List Note → ℕ
others_in notes = length (filter (λ (n : Note). not (is_turn n)) notes)

-- notes grew by at most so many that tell of events played, and at most so many others
pub record GrewBy (turns others : ℕ) (old new : List Note) : Type 0 where
  pub more : List Note
  pub grew : new ≡ old ++ more
  pub turns_to : turns_in more ≤ turns
  pub others_to : others_in more ≤ others

-- and so those of each part
pub record PartsGrow (turns : ℕ → ℕ) (others : ℕ) (old new : Known) : Type 0 where
  pub each : (p : ℕ) → p < old.parts → GrewBy (turns p) others (old.part_notes p) (new.part_notes p)

pub record NotesParts (turns : ℕ → ℕ) (others : ℕ) (old new : Known) : Type 0 where
  pub parts : PartsGrow turns others old new
  pub lanes : LaneNotesStay old new

-- those of this part, and of nothing else
pub record NotesPart (p turns others : ℕ) (old new : Known) : Type 0 where
  pub grew : GrewBy turns others (old.part_notes p) (new.part_notes p)
  pub rest : (k : ℕ) → k < old.parts → k ≢ p → new.part_notes k ≡ old.part_notes k
  pub lanes : LaneNotesStay old new

-- in a loop: those of the parts below n
pub record PartsGrowTo (n : ℕ) (turns : ℕ → ℕ) (others : ℕ) (old now : Known) : Type 0 where
  pub done : (p : ℕ) → p < old.parts → p < n → GrewBy (turns p) others (old.part_notes p) (now.part_notes p)
  pub left : (p : ℕ) → p < old.parts → n ≤ p → now.part_notes p ≡ old.part_notes p
  pub lanes : LaneNotesStay old now

-- a part at which at most so many events waited played some: as many turns and events that may still wait together are no more
pub record TurnsSome (w p : ℕ) (old new : Known) : Type 0 where
  pub turns : ℕ
  pub wait : ℕ
  pub few : turns + wait ≤ w
  pub waits : WaitAtMost p wait new
  pub noted : NotesPart p turns 0 old new

-- a turn at which at most so many events waited
abbrev pub NotesTurn : (w p : ℕ) (old new : Known) → Option ℕ → Type 0
NotesTurn w p old new (Some less) = TurnsSome w p old new
NotesTurn w p old new None = NotesPart p 0 1 old new

-- how many events of these are delivered to a part
abbrev pub delivered_to : List Item → ℕ → ℕ
delivered_to items p = length (routed_items part_number p items)

-- events that the lanes handed out were played: the notes of each part grew by at most one for each event that was delivered to it, and at
-- most so many others
pub record PlaysParts (others : ℕ) (old new : Known) : Type 0 where
  pub items : List Item
  pub handed : AllHandOut (length items) old new
  pub parts : PartsGrow (delivered_to items) others old new

-- ---- over rounds
-- notes grew in so many rounds, in each by at most four of those that are counted
pub record GrewInRounds (count : List Note → ℕ) (rounds : ℕ) (old new : List Note) : Type 0 where
  pub lists : List (List Note)
  pub as_many : length lists ≡ rounds
  pub grew : new ≡ old ++ joined_lists lists
  pub four : All (λ (list : List Note). count list ≤ 4) lists

-- the notes of each lane
pub record LanesGrowInRounds (rounds : ℕ) (old new : Known) : Type 0 where
  pub each : (s : ℕ) → s < old.lanes → GrewInRounds (λ (list : List Note). length list) rounds (old.lane_notes s) (new.lane_notes s)

-- the notes of each part that tell of no events played
pub record PartsGrowInRounds (rounds : ℕ) (old new : Known) : Type 0 where
  pub each : (p : ℕ) → p < old.parts → GrewInRounds others_in rounds (old.part_notes p) (new.part_notes p)

-- ---- a round
-- a round with these lows: each lane was fed and looked at, and where the least low is greater than the last mark it was taken from up to that
pub record NotesRound (last : Mark) (batch : ℕ) (old new : Known) (answer : Option Mark) : Type 0 where
  pub lows : List Mark
  pub count : length lows ≡ old.lanes
  pub counts : answer ≡ counted_mark last lows
  pub lanes : LanesGrow (λ s. lane_round batch (low_at lows s) (counted_mark last lows)) old new
  pub parts : PlaysParts 3 old new

-- a round that broke off
pub record NotesRoundFront (last : Mark) (batch : ℕ) (old new : Known) : Type 0 where
  pub lows : List Mark
  pub count : length lows ≡ old.lanes
  pub lanes : LanesGrowFront (λ s. lane_round batch (low_at lows s) (counted_mark last lows)) old new
  pub parts : PlaysParts 3 old new
