-- What the one history of a lane tells of the lane at its end.
use Rattle.std.proofs.Common.{◌≡◌, inl, inr, ◌+◌, ℕ, zero, suc, Bool, true, false, cond, List, [], ◌∷◌, ◌++◌, Option, Some, refl, sym, ap, ◌∙◌, subst, arith, eq-eqb}
use Rattle.std.specs.Prelude.{All, ◌==◌, if◌then◌else◌}
use Rattle.std.specs.List.{count_by}
use Rattle.std.proofs.lemmas.List.Elements.{All-cons, All-head, All-nil, All-tail}
use mathlib.Core.Option.{some}
use lib.ListN.{get_elem?}
use Rattle.eql_values.specs.Accepted.{Reads}
use Rattle.eql_outside.specs.Outside.{Rose}
use Rattle.eql_outside.specs.Plans.{FaultPlan}
use Rattle.eql_laws.specs.Counting.{greatest_bytes}
use Rattle.eql_lane.specs.declared.ops.LaneOp.{LaneOp}
use Rattle.eql_lane.specs.declared.ops.LaneReply.{LaneReply}
use Rattle.eql_lane.specs.declared.ops.LaneReply.TheVariants as lane_reply
use Rattle.eql_lane.specs.declared.ops.ShardLimit.TheVariants as limit
use Rattle.eql_lane.specs.Lanes.{IsLaneStep, IsOutOfLines, LaneState, Setting}
use Rattle.eql_lane.specs.Plays.{DidNotFail}
use Rattle.eql_lane.specs.Views.{LaneView}
use Rattle.eql_turn_lock.specs.declared.history.Entry.{Entry}
use Rattle.eql_turn_lock.specs.declared.view.Ended.{Ended}
use Rattle.eql_turn_lock.specs.declared.view.View.{View}
use Rattle.eql_turn_lock.specs.Calls.{Closes}
use Rattle.eql_turn_lock.specs.History.{IsLegal, calls_by}
use Rattle.eql_turn_lock.specs.Passes.{IsEndedIn}
use Rattle.eql_conductor.specs.GoingOn.{IsAtPlace, ReadsFurther}
use Rattle.eql_conductor.proofs.GoingOn.{step_at, step_faults, step_further}
use Rattle.eql_hub.specs.Turns.{IsLaneTurn}
use Rattle.eql_lock_bench.specs.Locked.{did_fail, entry_failed}
use Rattle.eql_lock_bench.proofs.Counted.{count_cons}
use Rattle.eql_lock_bench.proofs.LaneRuns.{Stands, stands_on}
use Rattle.eql_lock_bench.proofs.Runs.{legal_keeps, legal_split}
use Rattle.eql_hub_run.specs.Workers.{Has, IsFailure, IsLimit}
use Rattle.eql_hub_run.proofs.Moves.{Moves, moves_on, moves_self, rose_before, rose_behind, step_bytes, step_failed, step_lines, step_moves}

-- ---- one of a list
module _ {X : Type 0} where
  pub has_behind : (P : X → Type 0) (x : X) (xs : List X) → Has P xs → Has P (x ∷ xs)
  has_behind P x xs h = record { front = x ∷ h.front; one = h.one; back = h.back; is = ap (λ (l : List X). x ∷ l) h.is; so = h.so }

  -- all are so, and one is
  pub all_one : (P Q : X → Type 0) (xs : List X) → All P xs → Has Q xs → (x : X) × P x × Q x
  all_one P Q xs all h = at h.front xs h.is all
    where
      at : (front list : List X) → list ≡ front ++ h.one ∷ h.back → All P list → (x : X) × P x × Q x
      at [] list is all = (h.one, All-head P h.one h.back (subst (All P) is all), h.so)
      at (x ∷ front) list is all = at front (front ++ h.one ∷ h.back) refl (All-tail P x (front ++ h.one ∷ h.back) (subst (All P) is all))

  pub at_elem : (P : X → Type 0) (xs : List X) (k : ℕ) (x : X) → get_elem? xs k ≡ some x → All P xs → P x
  at_elem P [] k x e all = absurd cc
  at_elem P (y ∷ ys) zero x e all = let same : y ≡ x = cc in subst P same (All-head P y ys all)
  at_elem P (y ∷ ys) (suc k) x e all = at_elem P ys k x e (All-tail P y ys all)

-- what stands among the entries of one stands among all
module _ {O R : Type 0} where
  own_one : (P : Entry O R → Type 0) (e : Entry O R) (own all : List (Entry O R)) → (Has P own → Has P all) → (b : Bool) → Has P (if b then e ∷ own else own) → Has P (e ∷ all)
  own_one P e own all rest false h = has_behind P e all (rest h)
  own_one P e own all rest true h = at h.front h.is
    where
      at : (front : List (Entry O R)) → e ∷ own ≡ front ++ h.one ∷ h.back → Has P (e ∷ all)
      at [] is = let same : h.one ≡ e = cc in record { front = []; one = e; back = all; is = refl; so = subst P same h.so }
      at (f ∷ front) is =
          let more : own ≡ front ++ h.one ∷ h.back = cc in
          has_behind P e all (rest (record { front = front; one = h.one; back = h.back; is = more; so = h.so }))

  pub has_own : (P : Entry O R → Type 0) (n : ℕ) (es : List (Entry O R)) → Has P (calls_by n es) → Has P es
  has_own P n [] h = h
  has_own P n (e ∷ es) h = own_one P e (calls_by n es) es (has_own P n es) (e.by == n) h

-- ---- entries that didn't fail
not_true : (b : Bool) (n : ℕ) → cond b 1 0 + n ≡ 0 → (b ≡ false) × (n ≡ 0)
not_true true n e = absurd (omega (arith, e))
not_true false n e = (refl, omega (arith, e))

abbrev pub IsCalm : Entry LaneOp LaneReply → Type 0
IsCalm e = entry_failed e ≡ false

calm_calls : (n : ℕ) (es : List (Entry LaneOp LaneReply)) → count_by entry_failed (calls_by n es) ≡ 0 → All (λ (e : Entry LaneOp LaneReply). e.by ≡ n → IsCalm e) es
calm_calls n [] none = All-nil (λ (e : Entry LaneOp LaneReply). e.by ≡ n → IsCalm e)
calm_calls n (e ∷ es) none = All-cons (λ (d : Entry LaneOp LaneReply). d.by ≡ n → IsCalm d) e es here (calm_calls n es (rest (e.by == n) none))
  where
    rest : (b : Bool) → count_by entry_failed (if b then e ∷ calls_by n es else calls_by n es) ≡ 0 → count_by entry_failed (calls_by n es) ≡ 0
    rest true h = let a = count_cons entry_failed e (calls_by n es) in (not_true (entry_failed e) (count_by entry_failed (calls_by n es)) (sym a ∙ h)).1
    rest false h = h

    here : e.by ≡ n → IsCalm e
    here is =
        let mine = ap (λ (b : Bool). count_by entry_failed (if b then e ∷ calls_by n es else calls_by n es)) (eq-eqb e.by n is) in
        let a = count_cons entry_failed e (calls_by n es) in
        (not_true (entry_failed e) (count_by entry_failed (calls_by n es)) (sym a ∙ (sym mine ∙ none))).0

-- an answer that isn't a failure
pub didnt : (reply : LaneReply) → DidNotFail reply → did_fail reply ≡ false
didnt (lane_reply.Failed n) none = absurd (none n refl)
didnt (lane_reply.Fed n) none = refl
didnt (lane_reply.Held n) none = refl
didnt lane_reply.Closed none = refl
didnt (lane_reply.Limit of) none = refl
didnt (lane_reply.Taken items) none = refl
didnt (lane_reply.Low mark) none = refl
didnt (lane_reply.Cut cut) none = refl
didnt (lane_reply.Memory n) none = refl

unfailed : (reply : LaneReply) → did_fail reply ≡ false → DidNotFail reply
unfailed reply none n e = let failed : did_fail reply ≡ true = ap did_fail e in let both : false ≡ true = sym none ∙ failed in absurd cc

-- where none of the closing pass's own entries failed, and none of those of the passes that were joined in, none failed at all
pub all_calm : {T : Type 0} (step_of : T → LaneOp → LaneReply → T → Type 0) (is_open : LaneOp → Bool) (w : View T LaneOp LaneReply) (value : T) (closes : Closes step_of is_open w value)
    → count_by entry_failed w.mine ≡ 0 → All (λ (d : Ended LaneOp LaneReply). count_by entry_failed d.mine ≡ 0) w.ended → All IsCalm closes.log
all_calm step_of is_open w value closes own others k e l =
    elim (closes.covered k e l) [
      | inl mine ↦ calm_calls w.number closes.log (ap (count_by entry_failed) closes.all_mine ∙ own) k e l mine
      | inr (j, d, there, is) ↦
          let in_log = at_elem (IsEndedIn closes.log) w.ended j d there closes.ended_in in
          let none = at_elem (λ (c : Ended LaneOp LaneReply). count_by entry_failed c.mine ≡ 0) w.ended j d there others in
          calm_calls d.number closes.log (ap (count_by entry_failed) in_log.0 ∙ none) k e l (sym is)
    ]

-- ---- along a history
module _ {S L : Type 0} (left lent_as : S → Option (List ℕ)) (fault_plan : S → Option FaultPlan) (read_of : L → Reads) where
  abbrev Turns : LaneView S L → LaneOp → LaneReply → LaneView S L → Type 0
  Turns = IsLaneTurn left lent_as fault_plan read_of

  module _ (text : Option (List ℕ)) (set : Setting) where
    abbrev Is : LaneView S L → Type 0
    Is = Stands left lent_as fault_plan read_of text set

    step_in : (x : LaneView S L) (op : LaneOp) (answer : LaneReply) (y : LaneView S L) → Turns x op answer y → Is x → IsLaneStep set x.state op answer y.state
    step_in x op answer y turn is = subst (λ (t : Setting). IsLaneStep t x.state op answer y.state) is.set_is (turn.plays text is.of).step

    next : (x : LaneView S L) (op : LaneOp) (answer : LaneReply) (y : LaneView S L) → Turns x op answer y → Is x → Is y
    next = stands_on left lent_as fault_plan read_of text set

    -- what each step of the lane keeps, a history keeps
    pub run_keeps : (Q : LaneState → Type 0) → ((x : LaneState) (op : LaneOp) (answer : LaneReply) (y : LaneState) → IsLaneStep set x op answer y → Q x → Q y)
        → (es : List (Entry LaneOp LaneReply)) (x y : LaneView S L) → IsLegal Turns x es y → Is x → Q x.state → Q y.state
    run_keeps Q keeps es x y legal is so =
        (legal_keeps Turns (λ z. Is z × Q z.state) (λ u op answer v turn both. (next u op answer v turn both.0, keeps u.state op answer v.state (step_in u op answer v turn both.0) both.1)) es x y legal (is, so)).1

    pub run_stands : (es : List (Entry LaneOp LaneReply)) (x y : LaneView S L) → IsLegal Turns x es y → Is x → Is y
    run_stands es x y legal is = legal_keeps Turns Is next es x y legal is

    pub run_moves : (es : List (Entry LaneOp LaneReply)) (x y : LaneView S L) → IsLegal Turns x es y → Is x → Moves set x.state y.state
    run_moves es x y legal is =
        run_keeps (Moves set x.state) (λ u op answer v step was. moves_on set x.state u v was (step_moves set u op answer v step)) es x y legal is (moves_self set x.state)

    -- no fault comes but by an entry that failed
    pub run_calm : (es : List (Entry LaneOp LaneReply)) (x y : LaneView S L) → IsLegal Turns x es y → Is x → All IsCalm es → y.state.faults ≡ x.state.faults
    run_calm [] x y same is calm = ap (λ (z : LaneView S L). z.state.faults) (sym same)
    run_calm (e ∷ es) x y (after, turn, rest) is calm =
        run_calm es after y rest (next x e.op e.reply after turn is) (All-tail IsCalm e es calm)
        ∙ step_faults set x.state e.op e.reply after.state (unfailed e.reply (All-head IsCalm e es calm)) (step_in x e.op e.reply after turn is)

    -- ---- an entry of a history
    -- it came at a state, and left another, from which the history went on
    pub record Came (P : Entry LaneOp LaneReply → Type 0) (x y : LaneView S L) : Type 0 where
      pub one : Entry LaneOp LaneReply
      pub before : LaneView S L
      pub after : LaneView S L
      pub so : P one
      pub first : Moves set x.state before.state
      pub step : IsLaneStep set before.state one.op one.reply after.state
      pub last : Moves set after.state y.state

    pub came : (P : Entry LaneOp LaneReply → Type 0) (es : List (Entry LaneOp LaneReply)) (x y : LaneView S L) → IsLegal Turns x es y → Is x → Has P es → Came P x y
    came P es x y legal is has =
        let whole : IsLegal Turns x (has.front ++ has.one ∷ has.back) y = subst (λ (l : List (Entry LaneOp LaneReply)). IsLegal Turns x l y) has.is legal in
        let two = legal_split Turns has.front (has.one ∷ has.back) x y whole in
        let at = run_stands has.front x two.0 two.1 is in
        let behind = next two.0 has.one.op has.one.reply two.2.0 two.2.1 at in
        record {
          one = has.one;
          before = two.0;
          after = two.2.0;
          so = has.so;
          first = run_moves has.front x two.0 two.1 is;
          step = step_in two.0 has.one.op has.one.reply two.2.0 two.2.1 at;
          last = run_moves has.back two.2.0 y two.2.2 behind;
        }

    pub run_failed : (es : List (Entry LaneOp LaneReply)) (x y : LaneView S L) → IsLegal Turns x es y → Is x → Has IsFailure es → Rose x.state.faults y.state.faults
    run_failed es x y legal is has =
        let c = came IsFailure es x y legal is has in
        let step = subst (λ (r : LaneReply). IsLaneStep set c.before.state c.one.op r c.after.state) c.so.1 c.step in
        let moved = step_moves set c.before.state c.one.op (lane_reply.Failed c.so.0) c.after.state step in
        let rose = rose_before x.state.faults c.before.state.faults c.after.state.faults c.first.faults (step_failed set c.before.state c.one.op c.so.0 c.after.state step) in
        let a = c.first.faults in
        let b = moved.faults in
        rose_behind x.state.faults c.after.state.faults y.state.faults (omega (arith, a, b)) rose c.last.rise

    pub run_lines : (shard : ℕ) (es : List (Entry LaneOp LaneReply)) (x y : LaneView S L) → IsLegal Turns x es y → Is x → Has (IsLimit (limit.Lines shard)) es
        → (shard ≡ set.shard) × IsOutOfLines set y.state
    run_lines shard es x y legal is has =
        let c = came (IsLimit (limit.Lines shard)) es x y legal is has in
        let step = subst (λ (r : LaneReply). IsLaneStep set c.before.state c.one.op r c.after.state) c.so c.step in
        let told = step_lines set c.before.state c.one.op shard c.after.state step in
        (told.0, c.last.lines told.1)

    pub run_bytes : (shard : ℕ) (es : List (Entry LaneOp LaneReply)) (x y : LaneView S L) → IsLegal Turns x es y → Is x → Has (IsLimit (limit.Bytes shard)) es
        → (shard ≡ set.shard) × (y.state.taken ≡ greatest_bytes)
    run_bytes shard es x y legal is has =
        let c = came (IsLimit (limit.Bytes shard)) es x y legal is has in
        let step = subst (λ (r : LaneReply). IsLaneStep set c.before.state c.one.op r c.after.state) c.so c.step in
        let told = step_bytes set c.before.state c.one.op shard c.after.state step in
        (told.0, c.last.bytes told.1)

    -- ---- over a told text
    pub run_at : (t : List ℕ) → set.text ≡ Some t → (es : List (Entry LaneOp LaneReply)) (x y : LaneView S L) → IsLegal Turns x es y → Is x
        → IsAtPlace set t x.state → IsAtPlace set t y.state
    run_at t told es x y legal is at = run_keeps (IsAtPlace set t) (λ u op answer v step was. step_at set t u op answer v told step was) es x y legal is at

    pub run_further : (t : List ℕ) → set.text ≡ Some t → (one : LaneState) (es : List (Entry LaneOp LaneReply)) (x y : LaneView S L) → IsLegal Turns x es y → Is x
        → ReadsFurther t one x.state → ReadsFurther t one y.state
    run_further t told one es x y legal is was = run_keeps (ReadsFurther t one) (λ u op answer v step before. step_further set t told one u op answer v step before) es x y legal is was
