-- Rows of locks and of passes as their callers see them.
use Rattle.std.specs.Prelude.{◌≡◌, ℕ, Bool, List, [], ◌∷◌, Some, All, length, map, slice_get, slice_set}
use Rattle.atomic_table.specs.Seated.{TableId}
use Rattle.eql_turn_lock.specs.declared.turned.Turned.{Ghosts}
use Rattle.eql_turn_lock.specs.declared.lock.TurnLock.{TurnLock}
use Rattle.eql_turn_lock.specs.declared.lock.Pass.{Pass}
use Rattle.eql_turn_lock.specs.declared.view.View.{View}
use Rattle.eql_turn_lock.specs.Calls.{MayPlay}
use Rattle.eql_turn_lock.specs.Locks.{view_of}
use Rattle.eql_turn_lock.specs.Passes.{KnowsHistory, joined_view}

-- one pass of each lock: of which lock it is, and what it knows
pub record RowView (T O R : Type 0) : Type 0 where
  pub locks : List TableId
  pub views : List (View T O R)

module _ {T O R : Type 0} where
  -- which lock it is
  abbrev pub id_of_lock : TurnLock T O R → TableId
  id_of_lock lock = lock.table.shared.table_id

  -- all are first passes
  abbrev pub AreFirst : List (View T O R) → Type 0
  AreFirst views = All (λ (v : View T O R). v.number ≡ 0) views

  -- all passes that were split off were joined in
  abbrev pub AllAreJoined : List (View T O R) → Type 0
  AllAreJoined views = All (λ (v : View T O R). length v.ended ≡ v.made) views

  -- what each pass has seen is a legal history, with its own entries
  abbrev pub AllKnow : (T → O → R → T → Type 0) → (O → Bool) → List (View T O R) → Type 0
  AllKnow step_of is_open views = All (KnowsHistory step_of is_open) views

  -- each pass takes in the other one in its place
  abbrev pub joined_views : List (View T O R) → List (View T O R) → List (View T O R)
  joined_views [] others = []
  joined_views (v ∷ vs) [] = v ∷ vs
  joined_views (v ∷ vs) (w ∷ ws) = joined_view v w ∷ joined_views vs ws

  -- the pass in a place may play the operation
  abbrev pub MayPlayAt :
      (T → O → Type 0) → (T → O → R → T → Type 0) → (O → Bool) → List (View T O R) → ℕ → O → Type 0
  MayPlayAt allows step_of is_open views place op =
      (v : View T O R) → slice_get views place ≡ Some v → MayPlay allows step_of is_open v op

module _ {T O R : Type 0} {g : Ghosts T O R} where
  -- of which lock it is a pass
  abbrev pub id_of_pass : Pass T O R g → TableId
  id_of_pass pass = pass.seat.table_id

  abbrev pub ids_in : List (Pass T O R g) → List TableId
  ids_in passes = map id_of_pass passes

  -- what passes know
  abbrev pub views_in : List (Pass T O R g) → List (View T O R)
  views_in passes = map view_of passes

  -- the passes are of these locks, place by place
  abbrev pub AreOf : List (TurnLock T O R) → List (Pass T O R g) → Type 0
  AreOf locks passes = ids_in passes ≡ map id_of_lock locks

-- what stands in a place is changed so, and the rest stays
pub record ChangesAt {X : Type 0} (place : ℕ) (Changes : X → X → Type 0) (old new : List X) : Type 0 where
  pub before : X
  pub after : X
  pub was : slice_get old place ≡ Some before
  pub is : new ≡ slice_set old place after
  pub changes : Changes before after
