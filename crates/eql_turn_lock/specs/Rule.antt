-- The rule of the table under a lock, and what each kind of step tells.
-- The word is twice the length of the history, and 1 more while a pass holds the turn, with the
-- slot. The idle word is what the word was after a call whose reply was idle. Every view fits the
-- history.
use Rattle.std.specs.Prelude.{◌≡◌, ◌≢◌, ℕ, suc, ◌+◌, ◌*◌, ◌<◌, ◌≤◌, ◌^◌, Bool, true, false, if◌then◌else◌, List, [], ◌∷◌, ◌++◌, length, Some, None, All}
use mathlib.Core.Option.{some, none}
use mathlib.Core.Option as maybe
use lib.ListN.{get_elem?}
use Rattle.atomic_table.specs.Table.{State, Me, Step}
use Rattle.eql_turn_lock.specs.declared.history.Entry.{Entry}
use Rattle.eql_turn_lock.specs.declared.view.Ended.{Ended}
use Rattle.eql_turn_lock.specs.declared.view.View.{View}
use Rattle.eql_turn_lock.specs.declared.slot.LastCall.{LastCall}
use Rattle.eql_turn_lock.specs.declared.slot.Slot.{Slot}
use Rattle.eql_turn_lock.specs.History.{StartsWith, entry, calls_by, OthersOpen, EndsIdle, IsLegal}
use Rattle.eql_turn_lock.specs.Passes.{IsEndedIn, HasEnded, AreDistinct, spent_view, is_live, KnowsHistory}

-- who has the turn: nobody, or the pass with this number
pub data Phase : Type 0 where
  free : Phase
  taken : ℕ → Phase

module _ {O R : Type 0} where
  -- the word counts a beginning of the history whose last reply is idle
  abbrev pub IsIdleFront : (R → Bool) → ℕ → List (Entry O R) → Type 0
  IsIdleFront is_idle word log =
      (front : List (Entry O R)) × StartsWith log front × (word ≡ 2 * length front)
      × EndsIdle is_idle front

module _ {T O R : Type 0} where
  abbrev pub live_count : List (View T O R) → ℕ
  live_count [] = 0
  live_count (v ∷ vs) = if is_live v then suc (live_count vs) else live_count vs

  -- the view, after a word was met
  abbrev pub looked_at : ℕ → View T O R → View T O R
  looked_at word v = record v { looked = v.looked ++ word ∷ [] }

  -- the view of the holder of the turn, with this history
  abbrev pub in_turn : List (Entry O R) → View T O R → View T O R
  in_turn log v = record v { turn = Some log }

  -- the view after the entry joined the history
  abbrev pub view_after : List (Entry O R) → Entry O R → View T O R → View T O R
  view_after log e v = record v { seen = log ++ e ∷ []; mine = v.mine ++ e ∷ []; turn = None }

  -- The view of a seat: its number is its place, what it has seen begins the history, and its own
  -- entries are all there.
  pub record SeatFits (opening : T) (log : List (Entry O R)) (word : ℕ) (phase : Phase) (seat : ℕ)
      (v : View T O R) : Type 0 where
    pub number : v.number ≡ seat
    pub opened : v.opening ≡ Some opening
    pub begins : StartsWith log v.seen
    pub all_mine : calls_by seat log ≡ v.mine
    pub seen_mine : calls_by seat v.seen ≡ v.mine
    pub below : All (λ n. n ≤ word) v.looked
    pub holds : (l : List (Entry O R)) → v.turn ≡ Some l → (l ≡ log) × (phase ≡ taken seat)

  -- What the word counts. The value is at home where the turn is free.
  abbrev pub Stands : T → List (Entry O R) → ℕ → List (maybe.Option (Slot T O R)) → Phase → Type 0
  Stands value log word homes free =
      (word ≡ 2 * length log)
      × ((slot : Slot T O R) × (homes ≡ some slot ∷ []) × (slot.value ≡ Some value))
  Stands value log word homes (taken k) = (word ≡ 2 * length log + 1) × (homes ≡ none ∷ [])

  -- a pass that was joined in
  pub record EndedFits (log : List (Entry O R)) (word : ℕ) (views : List (View T O R))
      (e : Ended O R) : Type 0 where
    pub some_number : 0 < e.number
    pub all_mine : calls_by e.number log ≡ e.mine
    pub below : All (λ n. n ≤ word) e.looked
    pub is_spent : get_elem? views e.number ≡ some spent_view

  -- what the view of the first pass counts
  pub record FirstFits (log : List (Entry O R)) (word : ℕ) (views : List (View T O R))
      (v : View T O R) : Type 0 where
    pub made_is : length views ≡ v.made + 1
    pub ended_fit : All (EndedFits log word views) v.ended
    pub ended_seen : All (IsEndedIn v.seen) v.ended
    pub distinct : AreDistinct v.ended
    pub each_spent :
        (j : ℕ) (u : View T O R) → get_elem? views j ≡ some u → is_live u ≡ false
        → HasEnded j v.ended
    pub count : live_count views + length v.ended ≡ length views

  pub record HasOneHistory (step_of : T → O → R → T → Type 0) (is_open : O → Bool)
      (is_idle : R → Bool) (opening : T) (s : State (Slot T O R) (View T O R)) : Type 0 where
    pub log : List (Entry O R)
    -- the value to which the history leads
    pub value : T
    pub legal : IsLegal step_of opening log value
    pub phase : Phase
    pub word : ℕ
    pub idle : ℕ
    pub words_are : s.words ≡ word ∷ idle ∷ []
    pub idle_front : idle < 2 ^ 63 → IsIdleFront is_idle idle log
    pub stands : Stands value log word s.homes phase
    pub others_open : OthersOpen is_open log
    pub by_below : All (λ (e : Entry O R). e.by < length s.views) log
    pub each_seat :
        (j : ℕ) (v : View T O R) → get_elem? s.views j ≡ some v → is_live v ≡ true
        → SeatFits opening log word phase j v
    pub taker :
        (k : ℕ) → phase ≡ taken k
        → (v : View T O R) × (get_elem? s.views k ≡ some v) × (is_live v ≡ true)
        × ((l : List (Entry O R)) × (v.turn ≡ Some l))
    pub first_seat :
        (v : View T O R) → get_elem? s.views 0 ≡ some v → is_live v ≡ true
        → FirstFits log word s.views v

  -- the word joins those that the pass met, which aren't greater, and it counts no less than the pass
  -- has seen
  abbrev pub loads :
      (T → O → R → T → Type 0) → (O → Bool) → Step (Slot T O R) → Me (Slot T O R) (View T O R) → ℕ
      → Me (Slot T O R) (View T O R) → Type 0
  loads step_of is_open step before found after =
      (after ≡ (looked_at found before.0, before.1)) × All (λ n. n ≤ found) before.0.looked
      × KnowsHistory step_of is_open before.0 × (2 * length before.0.seen ≤ found)

  -- The idle word counts a history of this view's opening value whose last reply is idle. Of it and
  -- of what the pass has seen one begins the other, since both begin the whole history.
  pub record FindsIdle (step_of : T → O → R → T → Type 0) (is_idle : R → Bool) (idle : ℕ)
      (v : View T O R) : Type 0 where
    pub log : List (Entry O R)
    pub begins : StartsWith log v.seen
    pub front : IsIdleFront is_idle idle log
    pub opening : T
    pub opened : v.opening ≡ Some opening
    pub value : T
    pub legal : IsLegal step_of opening front.0 value

  -- nothing changes, and the word tells of an idle reply where it is below 2^63
  abbrev pub loads_idle :
      (T → O → R → T → Type 0) → (R → Bool) → Step (Slot T O R) → Me (Slot T O R) (View T O R) → ℕ
      → Me (Slot T O R) (View T O R) → Type 0
  loads_idle step_of is_idle step before found after =
      (after ≡ before) × (found < 2 ^ 63 → FindsIdle step_of is_idle found before.0)

  -- the seat holds the turn: the value that it has stands for the whole history
  pub record HoldsTurn (step_of : T → O → R → T → Type 0) (is_open : O → Bool) (word : ℕ)
      (me : Me (Slot T O R) (View T O R)) : Type 0 where
    pub log : List (Entry O R)
    pub slot : Slot T O R
    pub opening : T
    pub value : T
    pub turn : me.0.turn ≡ Some log
    pub carries : me.1 ≡ (0, slot) ∷ []
    pub long : word ≡ 2 * length log
    pub opened : me.0.opening ≡ Some opening
    pub valued : slot.value ≡ Some value
    pub legal : IsLegal step_of opening log value
    pub begins : StartsWith log me.0.seen
    pub all_mine : calls_by me.0.number log ≡ me.0.mine
    pub seen_mine : calls_by me.0.number me.0.seen ≡ me.0.mine
    pub others_open : OthersOpen is_open log
    pub by_made : me.0.number ≡ 0 → All (λ (e : Entry O R). e.by ≤ me.0.made) log
    pub ended_all :
        me.0.number ≡ 0 → All (λ (e : Ended O R). (0 < e.number) × IsEndedIn log e) me.0.ended
    pub distinct : me.0.number ≡ 0 → AreDistinct me.0.ended

  abbrev pub IsSameBut : View T O R → View T O R → Type 0
  IsSameBut v w =
      (w.number ≡ v.number) × (w.opening ≡ v.opening) × (w.seen ≡ v.seen) × (w.mine ≡ v.mine)
      × (w.looked ≡ v.looked) × (w.made ≡ v.made) × (w.ended ≡ v.ended)

  -- the turn is taken where the word is still the one that was loaded, and else the other word
  -- joins those that the pass met
  abbrev pub takes_turn :
      (T → O → R → T → Type 0) → (O → Bool) → Step (Slot T O R) → Me (Slot T O R) (View T O R) → ℕ
      → Me (Slot T O R) (View T O R) → Type 0
  takes_turn step_of is_open step before found after =
      (found ≡ step.first → before.1 ≡ []
      → HoldsTurn step_of is_open found after × IsSameBut before.0 after.0)
      × (found ≢ step.first → (after ≡ (looked_at found before.0, before.1))
      × KnowsHistory step_of is_open before.0)

  -- the entry that the slot tells joins the history
  abbrev pub ends_turn :
      Step (Slot T O R) → Me (Slot T O R) (View T O R) → ℕ → Me (Slot T O R) (View T O R) → Type 0
  ends_turn step before stored after =
      (log : List (Entry O R)) (slot : Slot T O R) (last : LastCall O R) → before.0.turn ≡ Some log
      → before.1 ≡ (0, slot) ∷ [] → slot.last ≡ Some last
      → after ≡ (view_after log (entry before.0.number last.op.value last.reply.value) before.0, [])

  -- nothing changes
  abbrev pub learns :
      (T → O → R → T → Type 0) → (O → Bool) → Step (Slot T O R) → Me (Slot T O R) (View T O R) → ℕ
      → Me (Slot T O R) (View T O R) → Type 0
  learns step_of is_open step before found after =
      (after ≡ before) × KnowsHistory step_of is_open before.0

  -- nothing changes for the seat
  abbrev pub tells_idle :
      Step (Slot T O R) → Me (Slot T O R) (View T O R) → ℕ → Me (Slot T O R) (View T O R) → Type 0
  tells_idle step before stored after = after ≡ before
