-- Runs of a value by the entries of a history.
use Rattle.std.proofs.Common.{◌≡◌, ◌≢◌, ℕ, Bool, true, false, List, [], ◌∷◌, ◌++◌, refl, sym, ap, ◌∙◌, subst, eq-eqb}
use Rattle.std.specs.Prelude.{All, if◌then◌else◌, ◌==◌}
use Rattle.std.proofs.lemmas.List.Elements.{All-cons, All-head, All-nil, All-tail}
use Rattle.eql_turn_lock.specs.declared.history.Entry.{Entry}
use Rattle.eql_turn_lock.specs.declared.view.View.{View}
use Rattle.eql_turn_lock.specs.Calls.{PlaysLooking}
use Rattle.eql_turn_lock.specs.History.{IsLegal, OthersOpen, calls_by, entry}

module _ {T O R : Type 0} where
  module _ (step_of : T → O → R → T → Type 0) where
    -- a run of two lists is one of each
    pub legal_split : (xs ys : List (Entry O R)) (x z : T) → IsLegal step_of x (xs ++ ys) z → (y : T) × IsLegal step_of x xs y × IsLegal step_of y ys z
    legal_split [] ys x z legal = (x, refl, legal)
    legal_split (e ∷ es) ys x z (after, step, rest) = let more = legal_split es ys after z rest in (more.0, (after, step, more.1), more.2)

    pub legal_one : (e : Entry O R) (x y : T) → IsLegal step_of x (e ∷ []) y → step_of x e.op e.reply y
    legal_one e x y (after, step, same) = subst (λ (v : T). step_of x e.op e.reply v) same step

    -- what each step keeps, a run keeps
    pub legal_keeps : (P : T → Type 0) → ((x : T) (op : O) (reply : R) (y : T) → step_of x op reply y → P x → P y)
        → (es : List (Entry O R)) (x y : T) → IsLegal step_of x es y → P x → P y
    legal_keeps P keeps [] x y same is = subst P same is
    legal_keeps P keeps (e ∷ es) x y (after, step, rest) is = legal_keeps P keeps es after y rest (keeps x e.op e.reply after step is)

-- ---- entries of others
module _ {O R : Type 0} where
  abbrev pub IsOpenTo : (O → Bool) → Entry O R → Type 0
  IsOpenTo is_open e = is_open e.op ≡ true

  not_mine : (n : ℕ) (e : Entry O R) (es : List (Entry O R)) → calls_by n (e ∷ es) ≡ [] → e.by ≢ n
  not_mine n e es none is =
      let here : calls_by n (e ∷ es) ≡ e ∷ calls_by n es = ap (λ (b : Bool). if b then e ∷ calls_by n es else calls_by n es) (eq-eqb e.by n is) in
      let both : e ∷ calls_by n es ≡ [] = sym here ∙ none in
      absurd cc

  rest_not_mine : (n : ℕ) (e : Entry O R) (es : List (Entry O R)) → calls_by n (e ∷ es) ≡ [] → calls_by n es ≡ []
  rest_not_mine n e es none = step (e.by == n) none
    where
      step : (b : Bool) → (if b then e ∷ calls_by n es else calls_by n es) ≡ [] → calls_by n es ≡ []
      step true h = absurd cc
      step false h = h

  -- what isn't of the first pass is open
  pub all_open : (is_open : O → Bool) (es : List (Entry O R)) → calls_by 0 es ≡ [] → OthersOpen is_open es → All (IsOpenTo is_open) es
  all_open is_open [] none others = All-nil (IsOpenTo is_open)
  all_open is_open (e ∷ es) none others =
      All-cons (IsOpenTo is_open) e es (All-head (λ (d : Entry O R). d.by ≢ 0 → is_open d.op ≡ true) e es others (not_mine 0 e es none))
      (all_open is_open es (rest_not_mine 0 e es none) (All-tail (λ (d : Entry O R). d.by ≢ 0 → is_open d.op ≡ true) e es others))

-- to a value that the first pass may have left leads a run by what it had seen before, by open entries, and by its own call
pub record Led {T O R : Type 0} (step_of : T → O → R → T → Type 0) (is_open : O → Bool) (v : View T O R) (opening : T) (op : O) (reply : R) (value : T) : Type 0 where
  pub between : List (Entry O R)
  pub first : T
  pub before : T
  pub was : IsLegal step_of opening v.seen first
  pub others : IsLegal step_of first between before
  pub are_open : All (IsOpenTo is_open) between
  pub step : step_of before op reply value

pub led : {T O R : Type 0} (step_of : T → O → R → T → Type 0) (is_open : O → Bool) (looked : List ℕ) (v : View T O R) (op : O) (reply : R) (w : View T O R) (opening value : T)
    → v.number ≡ 0 → PlaysLooking looked step_of is_open v op reply w → IsLegal step_of opening w.seen value → Led step_of is_open v opening op reply value
led {T} {O} {R} step_of is_open looked v op reply w opening value first plays legal =
    let mine : Entry O R = entry v.number op reply in
    let whole : IsLegal step_of opening ((v.seen ++ plays.between) ++ mine ∷ []) value = subst (λ (es : List (Entry O R)). IsLegal step_of opening es value) plays.seen legal in
    let last = legal_split step_of (v.seen ++ plays.between) (mine ∷ []) opening value whole in
    let two = legal_split step_of v.seen plays.between opening last.0 last.1 in
    record {
      between = plays.between;
      first = two.0;
      before = last.0;
      was = two.1;
      others = two.2;
      are_open = all_open is_open plays.between (subst (λ (n : ℕ). calls_by n plays.between ≡ []) first plays.between_others) plays.between_open;
      step = legal_one step_of mine last.0 value last.2;
    }
