-- Facts on histories.
use Rattle.std.proofs.Common.{◌≡◌, ◌≢◌, ℕ, ◌≤◌, Bool, true, false, List, [], ◌∷◌, ◌++◌, length, refl, sym, ap, ◌∙◌, subst, arith, eqb, eq-eqb, ne_eqb, append-nil, length-append}
use Rattle.std.proofs.lemmas.Bool.Decides.{eqb_tells}
use Rattle.std.proofs.lemmas.List.{append_assoc, append_cancel_left}
use Rattle.std.proofs.lemmas.List.Elements.{All-append, All-tail, All-head, All-cons, All-nil}
use Rattle.std.specs.Prelude.{All, if◌then◌else◌, ◌==◌}
use mathlib.Core.Logic.{⊎_elim}
use Rattle.eql_turn_lock.specs.declared.history.Entry.{Entry}
use Rattle.eql_turn_lock.specs.History.{StartsWith, calls_by, OthersOpen, IsLegal}

module _ {X : Type 0} where
  pub all_right : (P : X → Type 0) (xs ys : List X) → All P (xs ++ ys) → All P ys
  all_right P [] ys h = h
  all_right P (x ∷ xs) ys h = all_right P xs ys (All-tail P x (xs ++ ys) h)

  pub all_left : (P : X → Type 0) (xs ys : List X) → All P (xs ++ ys) → All P xs
  all_left P [] ys h = All-nil P
  all_left P (x ∷ xs) ys h = All-cons P x xs (All-head P x (xs ++ ys) h) (all_left P xs ys (All-tail P x (xs ++ ys) h))

  pub all_both : (P Q : X → Type 0) (xs : List X) → All P xs → All Q xs → All (λ x. P x × Q x) xs
  all_both P Q xs a b k d lt = (a k d lt, b k d lt)

  pub all_snoc : (P : X → Type 0) (xs : List X) (x : X) → All P xs → P x → All P (xs ++ x ∷ [])
  all_snoc P xs x h p = All-append P xs (x ∷ []) h (All-cons P x [] p (All-nil P))

  -- the whole begins with itself
  pub starts_longer : (log seen more : List X) → StartsWith log seen → StartsWith (log ++ more) seen
  starts_longer log seen more s = (s.0 ++ more, ap (λ (l : List X). l ++ more) s.1 ∙ append_assoc seen s.0 more)

  pub starts_in : (log seen xs : List X) → StartsWith log seen → StartsWith seen xs → StartsWith log xs
  starts_in log seen xs a b = (b.0 ++ a.0, a.1 ∙ (ap (λ (l : List X). l ++ a.0) b.1 ∙ append_assoc xs b.0 a.0))

  pub starts_shorter : (log xs : List X) → StartsWith log xs → length xs ≤ length log
  starts_shorter log xs s = let is : length log ≡ length (xs ++ s.0) = ap (λ (l : List X). length l) s.1 in let both = length-append xs s.0 in omega arith

  pub starts_self : (xs : List X) → StartsWith xs xs
  starts_self xs = ([], sym (append-nil xs))

module _ {O R : Type 0} where
  pub calls_append : (n : ℕ) (xs ys : List (Entry O R)) → calls_by n (xs ++ ys) ≡ calls_by n xs ++ calls_by n ys
  calls_append n [] ys = refl
  calls_append n (e ∷ es) ys = step (calls_append n es ys) (e.by == n)
    where
      step : calls_by n (es ++ ys) ≡ calls_by n es ++ calls_by n ys → (b : Bool) → (if b then e ∷ calls_by n (es ++ ys) else calls_by n (es ++ ys)) ≡ (if b then e ∷ calls_by n es else calls_by n es) ++ calls_by n ys
      step ih true = ap (λ (l : List (Entry O R)). e ∷ l) ih
      step ih false = ih

  pub calls_mine : (n : ℕ) (xs : List (Entry O R)) (e : Entry O R) → e.by ≡ n → calls_by n (xs ++ e ∷ []) ≡ calls_by n xs ++ e ∷ []
  calls_mine n xs e is = calls_append n xs (e ∷ []) ∙ ap (λ (b : Bool). calls_by n xs ++ (if b then e ∷ [] else [])) (eq-eqb e.by n is)

  pub calls_other : (n : ℕ) (xs : List (Entry O R)) (e : Entry O R) → e.by ≢ n → calls_by n (xs ++ e ∷ []) ≡ calls_by n xs
  calls_other n xs e not = calls_append n xs (e ∷ []) ∙ (ap (λ (b : Bool). calls_by n xs ++ (if b then e ∷ [] else [])) (ne_eqb e.by n not) ∙ append-nil (calls_by n xs))

  -- what came after all that a pass has seen isn't its own
  pub rest_is_of_others : (n : ℕ) (log seen rest mine : List (Entry O R)) → log ≡ seen ++ rest → calls_by n log ≡ mine → calls_by n seen ≡ mine → calls_by n rest ≡ []
  rest_is_of_others n log seen rest mine is all some = append_cancel_left (calls_by n seen) (calls_by n rest) []
      (sym (calls_append n seen rest) ∙ (ap (calls_by n) (sym is) ∙ (all ∙ (sym some ∙ sym (append-nil (calls_by n seen))))))

  module _ {T : Type 0} (step_of : T → O → R → T → Type 0) where
    pub legal_append : (xs ys : List (Entry O R)) (x y z : T) → IsLegal step_of x xs y → IsLegal step_of y ys z → IsLegal step_of x (xs ++ ys) z
    legal_append [] ys x y z a b = subst (λ (w : T). IsLegal step_of w ys z) (sym a) b
    legal_append (e ∷ es) ys x y z a b = (a.0, a.1, legal_append es ys a.0 y z a.2 b)

    pub legal_snoc : (xs : List (Entry O R)) (e : Entry O R) (x y z : T) → IsLegal step_of x xs y → step_of y e.op e.reply z → IsLegal step_of x (xs ++ e ∷ []) z
    legal_snoc xs e x y z a s = legal_append xs (e ∷ []) x y z a (z, s, refl)

    pub legal_split : (xs ys : List (Entry O R)) (x z : T) → IsLegal step_of x (xs ++ ys) z → (y : T) × IsLegal step_of x xs y × IsLegal step_of y ys z
    legal_split [] ys x z r = (x, refl, r)
    legal_split (e ∷ es) ys x z r = let t = legal_split es ys r.0 z r.2 in (t.0, (r.0, r.1, t.1), t.2)

    module _ (allows : T → O → Type 0) (is_open : O → Bool) (stays : (x y : T) (op later : O) (reply : R) → is_open op ≡ true → step_of x op reply y → allows x later → allows y later) where
      -- what others do takes no leave away
      pub still_allowed : (rest : List (Entry O R)) (x y : T) (op : O) → calls_by 0 rest ≡ [] → OthersOpen is_open rest → IsLegal step_of x rest y → allows x op → allows y op
      still_allowed [] x y op none opened run may = subst (λ (w : T). allows w op) run may
      still_allowed (e ∷ es) x y op none opened run may = ⊎_elim
          (λ (t : (eqb e.by 0 ≡ true) × (e.by ≡ 0)). absurd (cons_nil (sym (ap (λ (b : Bool). if b then e ∷ calls_by 0 es else calls_by 0 es) t.0) ∙ none)))
          (λ (t : (eqb e.by 0 ≡ false) × (e.by ≢ 0)). still_allowed es run.0 y op (sym (ap (λ (b : Bool). if b then e ∷ calls_by 0 es else calls_by 0 es) t.0) ∙ none) (All-tail (λ (x : Entry O R). x.by ≢ 0 → is_open x.op ≡ true) e es opened) run.2
          (stays x run.0 e.op op e.reply (All-head (λ (x : Entry O R). x.by ≢ 0 → is_open x.op ≡ true) e es opened t.1) run.1 may))
          (eqb_tells e.by 0)
        where
          cons_nil : {l : List (Entry O R)} → e ∷ l ≡ [] → ⊥
          cons_nil p = cc
