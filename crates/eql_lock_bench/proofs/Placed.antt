-- What is known of each place once the view in one of them changed.
use Rattle.std.proofs.Common.{◌≡◌, ◌≢◌, inl, inr, ℕ, Bool, List, Option, Some, length, refl, sym, ap, ◌∙◌, subst}
use Rattle.std.specs.Prelude.{MatchResult, Result, Ok, Err, slice_get}
use Rattle.std.proofs.lemmas.Option.{same_Some}
use Rattle.std.proofs.lemmas.List.{length-set}
use Rattle.eql_turn_lock.specs.declared.history.Entry.{Entry}
use Rattle.eql_turn_lock.specs.declared.refused.NotNow.{NotNow}
use Rattle.eql_turn_lock.specs.declared.refused.NotNow.TheVariants as not_now
use Rattle.eql_turn_lock.specs.declared.view.View.{View}
use Rattle.eql_turn_lock.specs.Calls.{Plays, RefusesWorn}
use Rattle.eql_turn_lock.specs.History.{IsLegal}
use Rattle.eql_turn_lock.specs.Passes.{KnowsHistory}
use Rattle.eql_lock_row.specs.Rows.{ChangesAt}
use Rattle.eql_lock_row.proofs.Places.{else_there, here}
use Rattle.eql_conductor.specs.declared.bench.NotPlayed.{NotPlayed}
use Rattle.eql_conductor.proofs.Resting.{same_or}
use Rattle.eql_lock_bench.specs.Locked.{Answers, IsNeverBusy, MayBe, told_of}

module _ {X : Type 0} {Changes : X → X → Type 0} (place : ℕ) (old new : List X) (c : ChangesAt place Changes old new) where
  pub changed_count : length new ≡ length old
  changed_count = ap length c.is ∙ length-set old place c.after

  pub changed_here : slice_get new place ≡ Some c.after
  changed_here = ap (λ (l : List X). slice_get l place) c.is ∙ here old place c.after c.before c.was

  pub changed_else : (k : ℕ) → k ≢ place → slice_get new k ≡ slice_get old k
  changed_else k apart = ap (λ (l : List X). slice_get l k) c.is ∙ else_there old place k c.after apart

  pub is_after : (x : X) → slice_get new place ≡ Some x → x ≡ c.after
  is_after x e = same_Some x c.after (sym e ∙ changed_here)

  -- what is the same of the one that changed is the same in each place
  pub same_each : {Y : Type 0} (f : Option X → Y) → f (Some c.after) ≡ f (Some c.before) → (k : ℕ) → f (slice_get new k) ≡ f (slice_get old k)
  same_each {Y} f same k = elim (same_or k place) [
    | inl e ↦ subst (λ (j : ℕ). f (slice_get new j) ≡ f (slice_get old j)) (sym e) (ap f changed_here ∙ (same ∙ sym (ap f c.was)))
    | inr apart ↦ ap f (changed_else k apart)
  ]

module _ {T O R X : Type 0} (step_of : T → O → R → T → Type 0) (state_of : T → X) where
  -- a view that stays tells the same states
  pub may_back : (old new : List (View T O R)) (k : ℕ) → slice_get new k ≡ slice_get old k → (x : X) → MayBe step_of state_of new k x → MayBe step_of state_of old k x
  may_back old new k e x may = record {
    view = may.view;
    opening = may.opening;
    value = may.value;
    there = sym e ∙ may.there;
    opened = may.opened;
    legal = may.legal;
    state_is = may.state_is;
  }

  -- and so does one of as much history
  pub may_seen : (old new : List (View T O R)) (k : ℕ) (v w : View T O R) → slice_get old k ≡ Some v → slice_get new k ≡ Some w → w.seen ≡ v.seen → w.opening ≡ v.opening
      → (x : X) → MayBe step_of state_of new k x → MayBe step_of state_of old k x
  may_seen old new k v w was is seen opening x may =
      let e : may.view ≡ w = same_Some may.view w (sym may.there ∙ is) in
      record {
        view = v;
        opening = may.opening;
        value = may.value;
        there = was;
        opened = sym opening ∙ (ap (λ (u : View T O R). u.opening) (sym e) ∙ may.opened);
        legal = subst (λ (es : List (Entry O R)). IsLegal step_of may.opening es may.value) (ap (λ (u : View T O R). u.seen) e ∙ seen) may.legal;
        state_is = may.state_is;
      }

  -- whoever knows the history knows a state
  pub some_state : (is_open : O → Bool) (views : List (View T O R)) (k : ℕ) (w : View T O R) → slice_get views k ≡ Some w → KnowsHistory step_of is_open w
      → (x : X) × MayBe step_of state_of views k x
  some_state is_open views k w there knows = (
    state_of knows.value,
    record {
      view = w;
      opening = knows.opening;
      value = knows.value;
      there = there;
      opened = knows.opened;
      legal = knows.legal;
      state_is = refl;
    },
  )

-- a call of a lock waits for its turn
pub never_busy : {T O R : Type 0} (step_of : T → O → R → T → Type 0) (is_open : O → Bool) (op : O) (answer : Result R (NotNow O)) (v w : View T O R)
    → MatchResult answer (λ reply. Plays step_of is_open v op reply w) (λ refused. RefusesWorn v op refused w) → IsNeverBusy answer
never_busy step_of is_open op (Ok reply) v w plays = tt
never_busy step_of is_open op (Err (not_now.Worn word back)) v w refuses = tt
never_busy step_of is_open op (Err (not_now.Busy word back)) v w none = absurd none

-- what the lock answered is what the bench answers
pub answers : {T O R : Type 0} (step_of : T → O → R → T → Type 0) (is_open : O → Bool) (op : O) (answer : Result R (NotNow O)) (result : Result R NotPlayed) (v w : View T O R)
    → result ≡ told_of answer → MatchResult answer (λ reply. Plays step_of is_open v op reply w) (λ refused. RefusesWorn v op refused w) → Answers step_of is_open op result v w
answers step_of is_open op (Ok reply) result v w is plays = subst (λ (r : Result _ NotPlayed). Answers step_of is_open op r v w) (sym is) plays
answers step_of is_open op (Err (not_now.Worn word back)) result v w is (same, rested, large, tries) =
    subst (λ (r : Result _ NotPlayed). Answers step_of is_open op r v w) (sym is) (refl, rested, large, tries)
answers step_of is_open op (Err (not_now.Busy word back)) result v w is none = absurd none

pub changes_answered : {T O R : Type 0} (step_of : T → O → R → T → Type 0) (is_open : O → Bool) (op : O) (answer : Result R (NotNow O)) (result : Result R NotPlayed) (place : ℕ) (old new : List (View T O R))
    → result ≡ told_of answer
    → ChangesAt place (λ (v w : View T O R). MatchResult answer (λ reply. Plays step_of is_open v op reply w) (λ refused. RefusesWorn v op refused w) × KnowsHistory step_of is_open w) old new
    → ChangesAt place (Answers step_of is_open op result) old new
changes_answered step_of is_open op answer result place old new is c = record {
  before = c.before;
  after = c.after;
  was = c.was;
  is = c.is;
  changes = answers step_of is_open op answer result c.before c.after is c.changes.0;
}
