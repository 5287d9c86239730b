-- What passes know: the views that they begin with, and what stands in every view.
use Rattle.std.specs.Prelude.{◌≡◌, ◌≢◌, ℕ, ◌+◌, ◌≤◌, Bool, is_some, if◌then◌else◌, ltb, List, [], ◌∷◌, ◌++◌, length, Some, None, All, AllPairs}
use mathlib.Core.Option.{some}
use lib.ListN.{get_elem?}
use Rattle.eql_turn_lock.specs.declared.history.Entry.{Entry}
use Rattle.eql_turn_lock.specs.declared.view.Ended.{Ended}
use Rattle.eql_turn_lock.specs.declared.view.View.{View}
use Rattle.eql_turn_lock.specs.History.{StartsWith, calls_by, OthersOpen, IsLegal}

module _ {O R : Type 0} where
  -- Of a pass that was joined in, the entries are those that the list has under its number. What it
  -- had seen begins the list, and so does what the first pass had seen by then.
  abbrev pub IsEndedIn : List (Entry O R) → Ended O R → Type 0
  IsEndedIn entries e =
      (calls_by e.number entries ≡ e.mine) × StartsWith entries e.seen × StartsWith entries e.before

  -- one of the passes that were joined in has this number
  abbrev pub HasEnded : ℕ → List (Ended O R) → Type 0
  HasEnded number ended =
      (k : ℕ) × (e : Ended O R) × (get_elem? ended k ≡ some e) × (e.number ≡ number)

  -- no number stands twice
  abbrev pub AreDistinct : List (Ended O R) → Type 0
  AreDistinct ended = AllPairs (λ (d e : Ended O R). d.number ≢ e.number) ended

  abbrev pub longer : List (Entry O R) → List (Entry O R) → List (Entry O R)
  longer xs ys = if ltb (length xs) (length ys) then ys else xs

module _ {T O R : Type 0} where
  -- the first pass of a new lock
  abbrev pub first_view : T → View T O R
  first_view opening =
      record {
        number = 0;
        opening = Some opening;
        seen = [];
        mine = [];
        looked = [];
        made = 0;
        ended = [];
        turn = None;
      }

  -- the first pass after a split
  abbrev pub split_view : View T O R → View T O R
  split_view v = record v { made = v.made + 1 }

  -- the pass that is split off the first one
  abbrev pub new_view : View T O R → View T O R
  new_view v =
      record {
        number = v.made + 1;
        opening = v.opening;
        seen = v.seen;
        mine = [];
        looked = [];
        made = 0;
        ended = [];
        turn = None;
      }

  -- what the first pass keeps of another
  abbrev pub ended_of : View T O R → View T O R → Ended O R
  ended_of v other =
      record {
        number = other.number;
        mine = other.mine;
        looked = other.looked;
        seen = other.seen;
        before = v.seen;
      }

  -- the first pass after it took another in
  abbrev pub joined_view : View T O R → View T O R → View T O R
  joined_view v other =
      record v { seen = longer v.seen other.seen; ended = v.ended ++ ended_of v other ∷ [] }

  -- what is left of a pass that was joined in
  abbrev pub spent_view : View T O R
  spent_view =
      record {
        number = 0;
        opening = None;
        seen = [];
        mine = [];
        looked = [];
        made = 0;
        ended = [];
        turn = None;
      }

  -- the pass wasn't joined in
  abbrev pub is_live : View T O R → Bool
  is_live v = is_some v.opening

-- What a pass has seen is a legal history from the value at `make`. Its own entries there are those
-- that it made, each once, in order.
pub record KnowsHistory {T O R : Type 0} (step_of : T → O → R → T → Type 0) (is_open : O → Bool)
    (v : View T O R) : Type 0 where
  pub opening : T
  pub opened : v.opening ≡ Some opening
  -- a state to which the history leads
  pub value : T
  pub legal : IsLegal step_of opening v.seen value
  pub own : calls_by v.number v.seen ≡ v.mine
  pub others_open : OthersOpen is_open v.seen
  -- of the first pass: no entry has a greater number than the passes that were made
  pub by_made : v.number ≡ 0 → All (λ (e : Entry O R). e.by ≤ v.made) v.seen
  -- of the first pass: the entries of each pass that was joined in are all in what it has seen
  pub ended_in : v.number ≡ 0 → All (IsEndedIn v.seen) v.ended
  pub distinct : v.number ≡ 0 → AreDistinct v.ended
