-- What the conductor plays in a run, as notes: round by round, from the lows that it looked at.
use Rattle.std.specs.Prelude.{◌≡◌, ◌≢◌, ◌⊎◌, ◌<◌, ◌*◌, ◌%◌, ◌==◌, ◌++◌, ℕ, ℤ, suc, pos, if◌then◌else◌, List, [], ◌∷◌, Option, None, Some, All, length, refl, Ok, Err}
use Rattle.std.specs.Option.{option_to_list}
use Rattle.eql_values.specs.declared.order.Mark.{Mark}
use Rattle.eql_values.specs.declared.order.Mark.TheVariants.{Start, At, End}
use Rattle.eql_conductor.specs.declared.note.Note.{Note}
use Rattle.eql_conductor.specs.declared.note.Note.TheVariants as note
use Rattle.eql_conductor.specs.declared.plan.RunPlan.{RunPlan}
use Rattle.eql_conductor.specs.Benches.{Known}
use Rattle.eql_conductor.specs.Going.{RunResult}
use Rattle.eql_conductor.specs.RoundNotes.{low_at, counted_mark, lane_round, LanesGrow, GrewFront, LanesGrowFront, PlaysParts, PartsGrowInRounds}

-- ---- how far a run is
-- the last mark, and how many rounds counted
pub record Place : Type 0 where
  pub mark : Mark
  pub counts : ℕ

abbrev pub place : Mark → (counts : ℕ) → Place
place mark counts = record { mark = mark; counts = counts }

-- where a run begins
abbrev pub start : RunPlan → Place
start plan = place plan.mark 0

-- after a round: it counted with this mark, or it didn't
abbrev pub place_behind : Place → Option Mark → Place
place_behind at None = at
place_behind at (Some mark) = record { mark = mark; counts = suc at.counts }

-- after a round with these lows
abbrev pub next_place : Place → List Mark → Place
next_place at lows = place_behind at (counted_mark at.mark lows)

-- after rounds with these lows
abbrev pub place_after : Place → List (List Mark) → Place
place_after at [] = at
place_after at (lows ∷ rounds) = place_after (next_place at lows) rounds

-- each of these rounds begins before the end
abbrev pub BeginBeforeEnd : Place → List (List Mark) → Type 0
BeginBeforeEnd at [] = Unit {0}
BeginBeforeEnd at (lows ∷ rounds) = (at.mark ≢ End) × BeginBeforeEnd (next_place at lows) rounds

-- ---- cuts
-- after the n-th counted round, of this mark, a cut is due where the mark has a time and n is a multiple; it has that time
abbrev pub cut_after : Option ℕ → (n : ℕ) → Option Mark → Option ℤ
cut_after (Some every) n (Some (At t)) = if n % every == 0 then Some t else None
cut_after every n mark = None

-- after a round with these lows
abbrev pub cut_due : Option ℕ → Place → List Mark → Option ℤ
cut_due every at lows = cut_after every (next_place at lows).counts (counted_mark at.mark lows)

-- the times of the cuts that are due in rounds
abbrev pub cut_times : Option ℕ → Place → List (List Mark) → List ℤ
cut_times every at [] = []
cut_times every at (lows ∷ rounds) = option_to_list (cut_due every at lows) ++ cut_times every (next_place at lows) rounds

-- ---- the notes of a lane
-- a lane is snapped where a cut is due
abbrev pub snap_notes : Option ℤ → List Note
snap_notes None = []
snap_notes (Some t) = note.Snapped ∷ []

module _ (batch : ℕ) (every : Option ℕ) where
  -- in a round
  abbrev pub round_notes : Place → List Mark → ℕ → List Note
  round_notes at lows s = lane_round batch (low_at lows s) (counted_mark at.mark lows) ++ snap_notes (cut_due every at lows)

  -- in rounds with these lows
  abbrev pub rounds_notes : Place → List (List Mark) → ℕ → List Note
  rounds_notes at [] s = []
  rounds_notes at (lows ∷ rounds) s = round_notes at lows s ++ rounds_notes (next_place at lows) rounds s

  -- one round from a place, with this result, and with a cut of this time where one was due
  pub record PlaysRound (at : Place) (time : Option ℤ) (old new : Known) (answer : Option Mark) : Type 0 where
    pub lows : List Mark
    pub count : length lows ≡ old.lanes
    pub counts : answer ≡ counted_mark at.mark lows
    pub time_is : time ≡ cut_due every at lows
    pub lanes : LanesGrow (round_notes at lows) old new
    pub parts : PlaysParts 4 old new

  -- a round that broke off, with cuts of these times: none, or the one that was due
  pub record RoundBrokeOff (at : Place) (times : List ℤ) (old new : Known) : Type 0 where
    pub lows : List Mark
    pub count : length lows ≡ old.lanes
    pub times_are : (times ≡ []) ⊎ (times ≡ option_to_list (cut_due every at lows))
    pub lanes : LanesGrowFront (round_notes at lows) old new
    pub parts : PlaysParts 4 old new

  -- whole rounds were played from one place to another, with cuts of these times, and none once the end was come to. The notes of each part grew
  -- in each round by at most four, and by at most one for each event that was delivered to it
  pub record PlaysRounds (from to : Place) (times : List ℤ) (old new : Known) : Type 0 where
    pub rounds : List (List Mark)
    pub lows : All (λ (lows : List Mark). length lows ≡ old.lanes) rounds
    pub to_is : to ≡ place_after from rounds
    pub before_end : BeginBeforeEnd from rounds
    pub times_are : times ≡ cut_times every from rounds
    pub lanes : LanesGrow (rounds_notes from rounds) old new
    pub parts : PlaysParts (4 * length rounds) old new
    pub in_rounds : PartsGrowInRounds (length rounds) old new

  -- rounds, of which the last may have broken off, with cuts of these times: those that were due in the rounds before it, or in all. At the end
  -- nothing was played of it
  pub record PlaysRoundsFront (from : Place) (times : List ℤ) (old new : Known) : Type 0 where
    pub rounds : List (List Mark)
    pub last : List Mark
    pub lows : All (λ (lows : List Mark). length lows ≡ old.lanes) (last ∷ rounds)
    pub before_end : BeginBeforeEnd from rounds
    pub last_begins : ((place_after from rounds).mark ≢ End) ⊎ LanesGrow (rounds_notes from rounds) old new
    pub times_are : (times ≡ cut_times every from rounds) ⊎ (times ≡ cut_times every from (rounds ++ last ∷ []))
    pub lanes : (s : ℕ) → s < old.lanes → GrewFront (old.lane_notes s ++ rounds_notes from rounds s) (round_notes (place_after from rounds) last s) (new.lane_notes s)
    pub parts : PlaysParts (4 * suc (length rounds)) old new
    pub in_rounds : PartsGrowInRounds (suc (length rounds)) old new

-- ---- a cut
-- each lane and part was snapped
pub record NotesSave (old new : Known) : Type 0 where
  pub lanes : LanesGrow (λ s. note.Snapped ∷ []) old new
  pub parts : PlaysParts 1 old new

pub record NotesSaveFront (old new : Known) : Type 0 where
  pub lanes : LanesGrowFront (λ s. note.Snapped ∷ []) old new
  pub parts : PlaysParts 1 old new

-- a cut of this time was kept, or none was
pub record NotesCut (time : Option ℤ) (old new : Known) : Type 0 where
  pub lanes : LanesGrow (λ s. snap_notes time) old new
  pub parts : PlaysParts 1 old new

-- ---- a run
-- it played rounds up to the end, with cuts of these times
pub record RanToEnd (plan : RunPlan) (times : List ℤ) (old new : Known) : Type 0 where
  pub to : Place
  pub ended : to.mark ≡ End
  pub played : PlaysRounds plan.batch plan.every (start plan) to times old new

-- a run that is done played whole rounds, up to the end and with the cuts that were due, and any other may have broken off in its last round
abbrev pub RunNotes : RunPlan → (times : List ℤ) → (old new : Known) → RunResult → Type 0
RunNotes plan times old new (Ok done) = RanToEnd plan times old new
RunNotes plan times old new (Err by) = PlaysRoundsFront plan.batch plan.every (start plan) times old new

-- how many rounds it had, with the one that broke off
abbrev pub round_count : (plan : RunPlan) (times : List ℤ) (old new : Known) (answer : RunResult) → RunNotes plan times old new answer → ℕ
round_count plan times old new (Ok done) notes = length notes.played.rounds
round_count plan times old new (Err by) notes = suc (length notes.rounds)

-- ---- a worked run: of two lanes and a cut after each second counted round, of which the second round doesn't count
abbrev four_rounds : List (List Mark)
four_rounds = (At (pos 5) ∷ At (pos 3) ∷ []) ∷ (At (pos 6) ∷ At (pos 3) ∷ []) ∷ (At (pos 9) ∷ End ∷ []) ∷ (End ∷ End ∷ []) ∷ []

first_lane : rounds_notes 7 (Some 2) (record { mark = Start; counts = 0 }) four_rounds 0
    ≡ note.Fed 7 ∷ note.Looked (At (pos 5)) ∷ note.Took (At (pos 3)) ∷ note.Fed 7 ∷ note.Looked (At (pos 6)) ∷ note.Fed 7 ∷ note.Looked (At (pos 9)) ∷ note.Took (At (pos 9))
    ∷ note.Snapped ∷ note.Fed 7 ∷ note.Looked End ∷ note.Took End ∷ []
first_lane = refl

second_lane : rounds_notes 7 None (record { mark = At (pos 3); counts = 0 }) four_rounds 1
    ≡ note.Fed 7 ∷ note.Looked (At (pos 3)) ∷ note.Fed 7 ∷ note.Looked (At (pos 3)) ∷ note.Fed 7 ∷ note.Looked End ∷ note.Took (At (pos 9)) ∷ note.Fed 7 ∷ note.Looked End
    ∷ note.Took End ∷ []
second_lane = refl

one_cut : cut_times (Some 2) (record { mark = Start; counts = 0 }) four_rounds ≡ pos 9 ∷ []
one_cut = refl

three_counted : place_after (record { mark = Start; counts = 0 }) four_rounds ≡ record { mark = End; counts = 3 }
three_counted = refl
