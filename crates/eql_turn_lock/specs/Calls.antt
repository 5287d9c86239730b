-- What a call on a lock requires, and what it says.
use Rattle.std.specs.Prelude.{◌≡◌, ◌≢◌, ◌⊎◌, ℕ, ◌+◌, ◌*◌, ◌≤◌, ◌<◌, ◌^◌, ◌%◌, Bool, true, List, [], ◌∷◌, ◌++◌, length, Some, All, sum_by}
use Rattle.eql_turn_lock.specs.declared.history.Entry.{Entry}
use Rattle.eql_turn_lock.specs.declared.view.Ended.{Ended}
use Rattle.eql_turn_lock.specs.declared.view.View.{View}
use Rattle.eql_turn_lock.specs.declared.tried.Tried.{Tried}
use Rattle.eql_turn_lock.specs.declared.tried.Tried.TheVariants.{Idle, Played, Refused}
use Rattle.eql_turn_lock.specs.declared.refused.NotNow.{NotNow}
use Rattle.eql_turn_lock.specs.declared.refused.NotNow.TheVariants.{Busy, Worn}
use Rattle.eql_turn_lock.specs.History.{StartsWith, entry, calls_by, OthersOpen, EndsIdle, IsLegal}
use Rattle.eql_turn_lock.specs.Passes.{IsEndedIn, HasEnded, AreDistinct, KnowsHistory}
use Rattle.eql_turn_lock.specs.Tries.{LostTry, IsLost, words_of}

module _ {T O R : Type 0} where
  -- The operation is open, or the pass is the first one and the operation is allowed in every state
  -- to which what it has seen can lead.
  abbrev pub MayPlay :
      (T → O → Type 0) → (T → O → R → T → Type 0) → (O → Bool) → View T O R → O → Type 0
  MayPlay allows step_of is_open v op =
      (is_open op ≡ true)
      ⊎ ((v.number ≡ 0)
      × ((opening x : T) → v.opening ≡ Some opening → IsLegal step_of opening v.seen x → allows x op))

  -- The operation was played once, and the pass met these words: its entry comes after all that it
  -- had seen before, and after entries of others.
  pub record PlaysLooking (looked : List ℕ) (step_of : T → O → R → T → Type 0) (is_open : O → Bool)
      (v : View T O R) (op : O) (reply : R) (w : View T O R) : Type 0 where
    pub between : List (Entry O R)
    pub between_others : calls_by v.number between ≡ []
    pub between_open : OthersOpen is_open between
    pub seen : w.seen ≡ (v.seen ++ between) ++ entry v.number op reply ∷ []
    pub mine : w.mine ≡ v.mine ++ entry v.number op reply ∷ []
    pub knows : KnowsHistory step_of is_open w
    pub same :
        (w.number ≡ v.number) × (w.opening ≡ v.opening) × (w.made ≡ v.made) × (w.ended ≡ v.ended)
    pub looked_is : w.looked ≡ v.looked ++ looked

  -- The call was answered, after tries that took no turn. The last word that it loaded is twice the
  -- length of the history that it came after, and no word that it met is worn.
  abbrev pub Plays :
      (T → O → R → T → Type 0) → (O → Bool) → View T O R → O → R → View T O R → Type 0
  Plays step_of is_open v op reply w =
      (tries : List LostTry) × (word : ℕ)
      × PlaysLooking (words_of tries ++ word ∷ []) step_of is_open v op reply w
      × All (λ n. n < 2 ^ 63) (words_of tries ++ word ∷ []) × (word + 2 ≡ 2 * length w.seen)
      × All IsLost tries

  -- the call was answered at its one try
  abbrev pub PlaysOnce :
      (T → O → R → T → Type 0) → (O → Bool) → View T O R → O → R → View T O R → Type 0
  PlaysOnce step_of is_open v op reply w =
      (word : ℕ) × PlaysLooking (word ∷ []) step_of is_open v op reply w × (word < 2 ^ 63)
      × (word + 2 ≡ 2 * length w.seen)

  -- nothing was played
  abbrev pub IsUnplayed : View T O R → View T O R → Type 0
  IsUnplayed v w =
      (w.seen ≡ v.seen) × (w.mine ≡ v.mine) × (w.number ≡ v.number) × (w.opening ≡ v.opening)
      × (w.made ≡ v.made) × (w.ended ≡ v.ended)

  -- the turn was held: the one word that the call met is odd
  abbrev pub MeetsHeld : View T O R → ℕ → View T O R → Type 0
  MeetsHeld v word w = (word % 2 ≡ 1) × (word < 2 ^ 63) × (w.looked ≡ v.looked ++ word ∷ [])

  -- the turn was free, and the word moved between the load and the exchange
  abbrev pub MeetsMoved : View T O R → ℕ → View T O R → Type 0
  MeetsMoved v word w =
      (loaded : ℕ) × (loaded % 2 ≡ 0) × (loaded < 2 ^ 63) × (word ≢ loaded)
      × (w.looked ≡ (v.looked ++ loaded ∷ []) ++ word ∷ [])

  -- One try: nothing was played, and the operation comes back with the last word that was met.
  abbrev pub Refuses : View T O R → O → NotNow O → View T O R → Type 0
  Refuses v op (Busy word back) w =
      (back ≡ op) × IsUnplayed v w × (MeetsHeld v word w ⊎ MeetsMoved v word w)
  Refuses v op (Worn word back) w =
      (back ≡ op) × IsUnplayed v w × (2 ^ 63 ≤ word) × (w.looked ≡ v.looked ++ word ∷ [])

  -- The one word that the call met counts a history that begins with all that the pass has seen, and
  -- whose last reply was idle.
  pub record MeetsIdle (step_of : T → O → R → T → Type 0) (is_idle : R → Bool) (v w : View T O R) :
      Type 0 where
    pub word : ℕ
    pub low : word < 2 ^ 63
    pub looked_is : w.looked ≡ v.looked ++ word ∷ []
    pub log : List (Entry O R)
    pub counted : word ≡ 2 * length log
    pub begins : StartsWith log v.seen
    pub ends_idle : EndsIdle is_idle log
    pub opening : T
    pub opened : v.opening ≡ Some opening
    -- a state to which the history leads
    pub value : T
    pub legal : IsLegal step_of opening log value

  -- One look, and one try where the last reply wasn't idle.
  abbrev pub PlaysUnlessIdle :
      (T → O → R → T → Type 0) → (O → Bool) → (R → Bool) → View T O R → O → Tried R O → View T O R
      → Type 0
  PlaysUnlessIdle step_of is_open is_idle v op (Idle back) w =
      (back ≡ op) × IsUnplayed v w × MeetsIdle step_of is_idle v w
  PlaysUnlessIdle step_of is_open is_idle v op (Played reply) w =
      PlaysOnce step_of is_open v op reply w
  PlaysUnlessIdle step_of is_open is_idle v op (Refused refused) w = Refuses v op refused w

  -- As many tries as are needed: the call is never refused but for a worn word. It loaded this word
  -- last, after tries that took no turn, and none of these loaded a worn one.
  abbrev pub RefusesWorn : View T O R → O → NotNow O → View T O R → Type 0
  RefusesWorn v op (Busy word back) w = ⊥
  RefusesWorn v op (Worn word back) w =
      (back ≡ op) × IsUnplayed v w × (2 ^ 63 ≤ word)
      × ((tries : List LostTry) × All IsLost tries
      × (w.looked ≡ (v.looked ++ words_of tries) ++ word ∷ []))

  -- The value at the end of the one history, once all other passes were joined in.
  pub record Closes (step_of : T → O → R → T → Type 0) (is_open : O → Bool) (v : View T O R)
      (value : T) : Type 0 where
    pub log : List (Entry O R)
    pub opening : T
    pub opened : v.opening ≡ Some opening
    pub legal : IsLegal step_of opening log value
    pub begins : StartsWith log v.seen
    pub all_mine : calls_by v.number log ≡ v.mine
    pub ended_in : All (IsEndedIn log) v.ended
    pub others_open : OthersOpen is_open log
    pub by_made : All (λ (e : Entry O R). e.by ≤ v.made) log
    -- each entry is one of the closing pass or of one that was joined in
    pub covered : All (λ (e : Entry O R). (e.by ≡ v.number) ⊎ HasEnded e.by v.ended) log
    pub distinct : AreDistinct v.ended
    pub counted : length log ≡ length v.mine + sum_by (λ (e : Ended O R). length e.mine) v.ended
    -- no pass met a greater word
    pub looked_below : All (λ n. n ≤ 2 * length log + 1) v.looked
    pub ended_below : All (λ (e : Ended O R). All (λ n. n ≤ 2 * length log + 1) e.looked) v.ended
