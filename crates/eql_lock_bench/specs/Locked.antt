-- What is known of a bench of locks: the states to which leads what its hand has seen, and the hand's own calls.
use Rattle.std.specs.Prelude.{◌≡◌, ◌+◌, ◌^◌, ℕ, Bool, true, false, nat_le, List, [], Option, None, Some, Result, Ok, Err, length, map, slice_get}
use Rattle.std.specs.List.{count_by, sum_by}
use Rattle.eql_values.specs.Accepted.{Reads}
use Rattle.eql_outside.specs.Plans.{FaultPlan}
use Rattle.eql_lane.specs.declared.ops.LaneOp.{LaneOp}
use Rattle.eql_lane.specs.declared.ops.LaneReply.{LaneReply}
use Rattle.eql_lane.specs.declared.ops.LaneReply.TheVariants as lane_reply
use Rattle.eql_lane.specs.Lanes.{LaneState}
use Rattle.eql_lane.specs.Views.{LaneView}
use Rattle.eql_parts.specs.declared.ops.PartOp.{PartOp}
use Rattle.eql_parts.specs.declared.ops.PartReply.{PartReply}
use Rattle.eql_parts.specs.PartSteps.{PartState, PartView}
use Rattle.eql_turn_lock.specs.declared.history.Entry.{Entry}
use Rattle.eql_turn_lock.specs.declared.refused.NotNow.{NotNow}
use Rattle.eql_turn_lock.specs.declared.refused.NotNow.TheVariants as not_now
use Rattle.eql_turn_lock.specs.declared.view.View.{View}
use Rattle.eql_turn_lock.specs.Calls.{Plays, RefusesWorn}
use Rattle.eql_turn_lock.specs.History.{IsLegal}
use Rattle.eql_hub.specs.Hands.{HandView}
use Rattle.eql_hub.specs.Turns.{IsLaneTurn, IsPartTurn}
use Rattle.eql_conductor.specs.declared.bench.NotPlayed.{NotPlayed}
use Rattle.eql_conductor.specs.declared.bench.NotPlayed.TheVariants as not_played
use Rattle.eql_conductor.specs.declared.note.Note.{Note}
use Rattle.eql_conductor.specs.Benches.{Known}
use Rattle.eql_conductor.specs.Lists.{rules_in, set_in}
use Rattle.eql_conductor.specs.Notes.{lane_note, part_note}

-- the value in a place may be in this state: what the pass has seen leads there from the value at `make`
pub record MayBe {T O R X : Type 0} (step_of : T → O → R → T → Type 0) (state_of : T → X) (views : List (View T O R)) (k : ℕ) (x : X) : Type 0 where
  pub view : View T O R
  pub opening : T
  pub value : T
  pub there : slice_get views k ≡ Some view
  pub opened : view.opening ≡ Some opening
  pub legal : IsLegal step_of opening view.seen value
  pub state_is : x ≡ state_of value

-- the value of which the lock in a place was made, and the pass's own entries there
abbrev pub opening_in : {T O R : Type 0} → Option (View T O R) → Option T
opening_in None = None
opening_in (Some view) = view.opening

abbrev pub mine_in : {T O R : Type 0} → Option (View T O R) → List (Entry O R)
mine_in None = []
mine_in (Some view) = view.mine

-- the state of a lane, and of a part
abbrev pub lane_state : {S L : Type 0} → LaneView S L → LaneState
lane_state lane = lane.state

abbrev pub part_state : PartView → PartState
part_state part = part.state

-- the note of an entry
abbrev pub noted_lane : Entry LaneOp LaneReply → Note
noted_lane entry = lane_note entry.op entry.reply

abbrev pub noted_part : Entry PartOp PartReply → Note
noted_part entry = part_note entry.op entry.reply

-- whether a lane answers that its source failed, as it does to feeds alone
abbrev pub did_fail : LaneReply → Bool
did_fail (lane_reply.Failed n) = true
did_fail reply = false

abbrev pub entry_failed : Entry LaneOp LaneReply → Bool
entry_failed entry = did_fail entry.reply

-- how many words that the passes met are at least 2^63
abbrev pub is_worn : ℕ → Bool
is_worn word = nat_le (2 ^ 63) word

abbrev pub worn_of : {T O R : Type 0} → View T O R → ℕ
worn_of view = count_by is_worn view.looked

abbrev pub worn_in : {T O R : Type 0} → List (View T O R) → ℕ
worn_in views = sum_by worn_of views

-- what is known by a hand, and by the texts of the lanes as the hub was made of them
abbrev pub known_by : {S L : Type 0} → (left lent_as : S → Option (List ℕ)) → (fault_plan : S → Option FaultPlan) → (L → Reads) → (text : ℕ → Option (List ℕ)) → HandView S L → Known
known_by left lent_as fault_plan read_of text hand = record {
  lanes = length hand.lanes.views;
  parts = length hand.parts.views;
  set = λ s. set_in read_of (text s) (opening_in (slice_get hand.lanes.views s));
  rules = λ p. rules_in (opening_in (slice_get hand.parts.views p));
  lane = MayBe (IsLaneTurn left lent_as fault_plan read_of) lane_state hand.lanes.views;
  part = MayBe IsPartTurn part_state hand.parts.views;
  lane_notes = λ s. map noted_lane (mine_in (slice_get hand.lanes.views s));
  part_notes = λ p. map noted_part (mine_in (slice_get hand.parts.views p));
  failed = λ s. count_by entry_failed (mine_in (slice_get hand.lanes.views s));
  worn = worn_in hand.lanes.views + worn_in hand.parts.views;
}

-- ---- what a call returns
-- the word that was met
abbrev pub word_of : {O : Type 0} → NotNow O → ℕ
word_of (not_now.Busy word op) = word
word_of (not_now.Worn word op) = word

abbrev pub told_of : {O R : Type 0} → Result R (NotNow O) → Result R NotPlayed
told_of (Ok reply) = Ok reply
told_of (Err refused) = Err (not_played.Worn (word_of refused))

-- the call waited for its turn
abbrev pub IsNeverBusy : {O R : Type 0} → Result R (NotNow O) → Type 0
IsNeverBusy (Ok reply) = Unit {0}
IsNeverBusy (Err (not_now.Busy word op)) = ⊥
IsNeverBusy (Err (not_now.Worn word op)) = Unit {0}

-- what a call does to the pass's view, by the answer of the bench: the operation was played, or the call loaded a worn word last;
-- memory never runs out
abbrev pub Answers : {T O R : Type 0} → (T → O → R → T → Type 0) → (O → Bool) → O → Result R NotPlayed → View T O R → View T O R → Type 0
Answers step_of is_open op (Ok reply) v w = Plays step_of is_open v op reply w
Answers step_of is_open op (Err (not_played.Worn word)) v w = RefusesWorn v op (not_now.Worn word op) w
Answers step_of is_open op (Err not_played.Memory) v w = ⊥
