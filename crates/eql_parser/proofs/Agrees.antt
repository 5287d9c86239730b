-- Two runs of the descent, over tokens that begin alike and end in x and in y: what the first returns before its end rests on what they share,
-- so the second returns the same there, or refuses where the first does.
use Rattle.std.proofs.Common.{◌≡◌, ℕ, zero, suc, ◌-◌, ◌<◌, ◌≤◌, nat_lt, Bool, true, false, if◌then◌else◌, ◌⊎◌, inl, inr, List, [], ◌∷◌, ◌++◌, length, Option, Some, None, Ok, Err, refl, sym, ap, subst, arith, length-append, codes}
use Rattle.std.specs.Prelude.{neg_ℤ}
use Rattle.eql_values.specs.declared.value.Value.TheVariants as value
use Rattle.eql_query.specs.declared.expr.MathOp.{MathOp}
use Rattle.eql_query.specs.declared.expr.MathOp.TheVariants.{Sub}
use Rattle.eql_query.specs.Tree.{Tree, Trees, more}
use Rattle.eql_query.specs.Tree as t
use Rattle.eql_query.specs.View.{trees_of}
use Rattle.eql_parser.specs.Kinds.{Kind, false_, true_, text, number, open_, close_, dot_, question_, adds}
use Rattle.eql_parser.specs.Grammar.{first_part, part, is_left_out_call}
use Rattle.eql_parser.specs.Limits.{depth}
use Rattle.eql_parser.specs.Reading.{Fail, Syntax, LeftOut, TooDeep, TooOpen, Res, then_do, res_map, closing, is_comma, more_of, separated, comma_list, dotted_part, behind_dot, dotted, named_by, named_field, field, text_at, negative_at, literal, at_level, above, chain_on, chain_from, chain, joined_operands, call_of}
use Rattle.eql_parser.proofs.Told.{Told, upto_within, told_more, told_separated, told_dot, told_dotted, told_named, told_field, told_text, told_negative, told_literal, told_chain_from, told_joined, room_for}

-- the place of a refusal that rests on the tokens through it alone, or 0
abbrev pub firm : Fail → ℕ
firm (Syntax n) = n
firm (LeftOut w n) = 0
firm (TooDeep n) = n
firm (TooOpen n) = n

-- a rest and a place are no longer than this
abbrev pub Short : {A : Type 0} → ℕ → Res A → Type 0
Short l (Ok p) = length p.1 ≤ l
Short l (Err e) = firm e ≤ l

pub short : {A : Type 0} (d : ℕ) (ts : List Kind) (r : Res A) → Told d ts r → Short (length ts) r
short d ts (Ok p) h = omega (arith, ap length h.1, length-append h.0 p.1)
short d ts (Err (Syntax n)) h = upto_within d ts n h
short d ts (Err (LeftOut w n)) h = omega arith
short d ts (Err (TooDeep n)) h = upto_within d ts n h.1
short d ts (Err (TooOpen n)) h = omega (arith, ap length h.2, length-append h.0 (open_ ∷ h.1), h.3)

pub shorter : {A : Type 0} (k l : ℕ) (r : Res A) → k ≤ l → Short k r → Short l r
shorter k l (Ok p) h w = omega (arith, h, w)
shorter k l (Err e) h w = omega (arith, h, w)

pub short_then : {A B : Type 0} (l : ℕ) (r : Res A) (f : A → List Kind → Res B) → Short l r → ((a : A) (us : List Kind) → Short (length us) (f a us)) → Short l (then_do r f)
short_then l (Ok p) f h k = shorter (length p.1) l (f p.0 p.1) h (k p.0 p.1)
short_then l (Err e) f h k = h

pub short_map : {A B : Type 0} (l : ℕ) (f : A → B) (r : Res A) → Short l r → Short l (res_map f r)
short_map l f (Ok p) h = h
short_map l f (Err e) h = h

pub short_closing : {A : Type 0} (a : A) (us : List Kind) → Short (length us) (closing a us)
short_closing a [] = omega arith
short_closing a (close_ ∷ us) = omega arith
short_closing a (_ ∷ us) = omega arith

short_if : {A : Type 0} (l : ℕ) (b : Bool) (r s : Res A) → Short l r → Short l s → Short l (if b then r else s)
short_if l true r s h k = h
short_if l false r s h k = k

pub short_call : (w : List ℕ) (place : ℕ) (es : List Tree) (us : List Kind) → Short (length us) (call_of w place es us)
short_call w place es us = short_if (length us) (is_left_out_call w (trees_of es)) (Err (LeftOut (codes "number") place)) (Ok (t.call w false (trees_of es), us)) (omega arith) (omega arith)

-- no tree is returned
abbrev pub Refuses : {A : Type 0} → Res A → Type 0
Refuses (Ok p) = ⊥
Refuses (Err e) = Unit {0}

-- no tree is returned, and no limit is passed
abbrev pub Rejects : {A : Type 0} → Res A → Type 0
Rejects (Ok p) = ⊥
Rejects (Err (Syntax n)) = Unit {0}
Rejects (Err (LeftOut w n)) = Unit {0}
Rejects (Err _) = ⊥

-- a limit is passed
abbrev pub Passes : {A : Type 0} → Res A → Type 0
Passes (Ok p) = ⊥
Passes (Err (TooDeep n)) = Unit {0}
Passes (Err (TooOpen n)) = Unit {0}
Passes (Err _) = ⊥

-- a level too many begins before the tokens y
abbrev pub DeepBefore : List Kind → {A : Type 0} → Res A → Type 0
DeepBefore y (Ok p) = ⊥
DeepBefore y (Err (TooDeep n)) = length y < n
DeepBefore y (Err _) = ⊥

pub deep_passes : {A : Type 0} (y : List Kind) (s : Res A) → DeepBefore y s → Passes s
deep_passes y (Ok p) h = absurd h
deep_passes y (Err (Syntax n)) h = absurd h
deep_passes y (Err (LeftOut w n)) h = absurd h
deep_passes y (Err (TooDeep n)) h = tt
deep_passes y (Err (TooOpen n)) h = absurd h

-- The second run refuses where the first does, and passes a limit where the first does. For parentheses that needs that as many are allowed, which `Same` says.
abbrev pub Echo : (Same : Type 0) → (y : List Kind) → Fail → {A : Type 0} → Res A → Type 0
Echo Same y (Syntax n) s = Refuses s
Echo Same y (LeftOut w n) s = Refuses s
Echo Same y (TooDeep n) s = DeepBefore y s
Echo Same y (TooOpen n) s = Same → Passes s

abbrev pub Agree : (Same : Type 0) → (x y : List Kind) → {A : Type 0} → Res A → Res A → Type 0
Agree Same x y (Ok p) s = length x < length p.1 → (m : List Kind) × (p.1 ≡ m ++ x) × (s ≡ Ok (p.0, m ++ y))
Agree Same x y (Err e) s = length x < firm e → Echo Same y e s

-- as many parentheses are allowed in the second run or more, and as many where that is said
abbrev pub AsMany : (Same : Type 0) → (d d' : ℕ) → Type 0
AsMany Same d d' = (d ≤ d') × (Same → d ≡ d')

pub refuses_then : {A B : Type 0} (s : Res A) (g : A → List Kind → Res B) → Refuses s → Refuses (then_do s g)
refuses_then (Ok p) g h = absurd h
refuses_then (Err e) g h = tt

pub refuses_map : {A B : Type 0} (f : A → B) (s : Res A) → Refuses s → Refuses (res_map f s)
refuses_map f (Ok p) h = absurd h
refuses_map f (Err e) h = tt

pub rejects_refuses : {A : Type 0} (s : Res A) → Rejects s → Refuses s
rejects_refuses (Ok p) h = absurd h
rejects_refuses (Err e) h = tt

passes_then : {A B : Type 0} (s : Res A) (g : A → List Kind → Res B) → Passes s → Passes (then_do s g)
passes_then (Ok p) g h = absurd h
passes_then (Err (Syntax n)) g h = absurd h
passes_then (Err (LeftOut w n)) g h = absurd h
passes_then (Err (TooDeep n)) g h = tt
passes_then (Err (TooOpen n)) g h = tt

passes_map : {A B : Type 0} (f : A → B) (s : Res A) → Passes s → Passes (res_map f s)
passes_map f (Ok p) h = absurd h
passes_map f (Err (Syntax n)) h = absurd h
passes_map f (Err (LeftOut w n)) h = absurd h
passes_map f (Err (TooDeep n)) h = tt
passes_map f (Err (TooOpen n)) h = tt

deep_then : {A B : Type 0} (y : List Kind) (s : Res A) (g : A → List Kind → Res B) → DeepBefore y s → DeepBefore y (then_do s g)
deep_then y (Ok p) g h = absurd h
deep_then y (Err (Syntax n)) g h = absurd h
deep_then y (Err (LeftOut w n)) g h = absurd h
deep_then y (Err (TooDeep n)) g h = h
deep_then y (Err (TooOpen n)) g h = absurd h

deep_map : {A B : Type 0} (y : List Kind) (f : A → B) (s : Res A) → DeepBefore y s → DeepBefore y (res_map f s)
deep_map y f (Ok p) h = absurd h
deep_map y f (Err (Syntax n)) h = absurd h
deep_map y f (Err (LeftOut w n)) h = absurd h
deep_map y f (Err (TooDeep n)) h = h
deep_map y f (Err (TooOpen n)) h = absurd h

pub echo_then : {A B : Type 0} (Same : Type 0) (y : List Kind) (e : Fail) (s : Res A) (g : A → List Kind → Res B) → Echo Same y e s → Echo Same y e (then_do s g)
echo_then Same y (Syntax n) s g h = refuses_then s g h
echo_then Same y (LeftOut w n) s g h = refuses_then s g h
echo_then Same y (TooDeep n) s g h = deep_then y s g h
echo_then Same y (TooOpen n) s g h = λ k. passes_then s g (h k)

pub echo_map : {A B : Type 0} (Same : Type 0) (y : List Kind) (f : A → B) (e : Fail) (s : Res A) → Echo Same y e s → Echo Same y e (res_map f s)
echo_map Same y f (Syntax n) s h = refuses_map f s h
echo_map Same y f (LeftOut w n) s h = refuses_map f s h
echo_map Same y f (TooDeep n) s h = deep_map y f s h
echo_map Same y f (TooOpen n) s h = λ k. passes_map f s (h k)

pub longer : (x y m p : List Kind) (n : ℕ) → length (p ++ x) ≤ length (m ++ x) → length (m ++ y) ≤ n → length (p ++ y) ≤ n
longer x y m p n h k = omega (arith, length-append m x, length-append p x, length-append m y, length-append p y, h, k)

pub no_front : (x y m : List Kind) → length (m ++ y) ≤ 0 → length (m ++ x) ≤ length x
no_front x y m h = omega (arith, h, length-append m x, length-append m y)

pub which : (m n : ℕ) → (m < n) ⊎ (n ≤ m)
which m n = grind arith

module _ (Same : Type 0) (x y : List Kind) where
  -- at the tail itself nothing is claimed
  pub behind_tail : {A : Type 0} (l : ℕ) (r s : Res A) → l ≤ length x → Short l r → Agree Same x y r s
  behind_tail l (Ok p) s h w = λ k. absurd (omega (arith, h, w, k))
  behind_tail l (Err e) s h w = λ k. absurd (omega (arith, h, w, k))

  pub in_tail : {A : Type 0} (r s : Res A) → Short (length x) r → Agree Same x y r s
  in_tail r s w = behind_tail (length x) r s (omega arith) w

  pub both_refuse : {A : Type 0} (r s : Res A) → Rejects r → Refuses s → Agree Same x y r s
  both_refuse (Ok p) s h k = absurd h
  both_refuse (Err (Syntax n)) s h k = λ i. k
  both_refuse (Err (LeftOut w n)) s h k = λ i. k
  both_refuse (Err (TooDeep n)) s h k = absurd h
  both_refuse (Err (TooOpen n)) s h k = absurd h

  pub both_deep : {A : Type 0} (r s : Res A) → DeepBefore x r → DeepBefore y s → Agree Same x y r s
  both_deep (Ok p) s h k = absurd h
  both_deep (Err (Syntax n)) s h k = absurd h
  both_deep (Err (LeftOut w n)) s h k = absurd h
  both_deep (Err (TooDeep n)) s h k = λ i. k
  both_deep (Err (TooOpen n)) s h k = absurd h

  agree_at : {A B : Type 0} (a : A) (us : List Kind) (s : Res A) (f g : A → List Kind → Res B) → (length x < length us) ⊎ (length us ≤ length x)
      → Agree Same x y (Ok (a, us)) s → ((m : List Kind) → us ≡ m ++ x → Agree Same x y (f a (m ++ x)) (g a (m ++ y))) → Short (length us) (f a us)
      → Agree Same x y (f a us) (then_do s g)
  agree_at a us s f g (inr h) k l w = behind_tail (length us) (f a us) (then_do s g) h w
  agree_at a us s f g (inl h) k l w =
      let at = k h in
      let here : Agree Same x y (f a us) (g a (at.0 ++ y)) = subst (λ v. Agree Same x y (f a v) (g a (at.0 ++ y))) (sym at.1) (l at.0 at.1) in
      subst (λ r. Agree Same x y (f a us) (then_do r g)) (sym at.2) here

  -- l bounds what the first part leaves
  pub agree_then : {A B : Type 0} (l : ℕ) (r s : Res A) (f g : A → List Kind → Res B) → Short l r → Agree Same x y r s
      → ((a : A) (m : List Kind) → length (m ++ x) ≤ l → Agree Same x y (f a (m ++ x)) (g a (m ++ y))) → ((a : A) (us : List Kind) → Short (length us) (f a us))
      → Agree Same x y (then_do r f) (then_do s g)
  agree_then l (Ok p) s f g v h k w = agree_at p.0 p.1 s f g (which (length x) (length p.1)) h (λ m e. k p.0 m (omega (arith, v, ap length e))) (w p.0 p.1)
  agree_then l (Err e) s f g v h k w = λ i. echo_then Same y e s g (h i)

  pub agree_map : {A B : Type 0} (f : A → B) (r s : Res A) → Agree Same x y r s → Agree Same x y (res_map f r) (res_map f s)
  agree_map f (Ok p) s h = λ i. let at = h i in (at.0, at.1, ap (res_map f) at.2)
  agree_map f (Err e) s h = λ i. echo_map Same y f e s (h i)

  pub stays : {A : Type 0} (a : A) (m : List Kind) → Agree Same x y (Ok (a, m ++ x)) (Ok (a, m ++ y))
  stays a m = λ h. (m, refl, refl)

  pub agree_if : {A : Type 0} (b : Bool) (r r' s s' : Res A) → Agree Same x y r r' → Agree Same x y s s' → Agree Same x y (if b then r else s) (if b then r' else s')
  agree_if true r r' s s' h k = h
  agree_if false r r' s s' h k = k

  pub agree_at_level : {A : Type 0} (l place place' : ℕ) → length y < place' → (r s : Res A) → Agree Same x y r s → Agree Same x y (at_level l place r) (at_level l place' s)
  agree_at_level zero place place' behind r s h = λ i. behind
  agree_at_level (suc l) place place' behind r s h = h

  pub agree_above : {A : Type 0} (l : ℕ) (a : Tree) (place place' : ℕ) → length y < place' → (r s : Res A) → Agree Same x y r s → Agree Same x y (above l a place r) (above l a place' s)
  agree_above l a place place' behind r s h = agree_if (nat_lt (depth a) l) r s (Err (TooDeep place)) (Err (TooDeep place')) h (λ i. behind)

  pub agree_closing : {A : Type 0} (a : A) (m : List Kind) → Agree Same x y (closing a (m ++ x)) (closing a (m ++ y))
  agree_closing a [] = in_tail (closing a x) (closing a y) (short_closing a x)
  agree_closing a (close_ ∷ m) = stays a m
  agree_closing a (k ∷ m) = λ i. tt

  pub agree_closed : {A : Type 0} (l : ℕ) (r s : Res A) → Short l r → Agree Same x y r s → Agree Same x y (then_do r closing) (then_do s closing)
  agree_closed l r s w h = agree_then l r s closing closing w h (λ a m b. agree_closing a m) short_closing

  -- where the first may open a parenthesis, the second may
  pub agree_enter : {A : Type 0} (d d' : ℕ) (place place' : ℕ) (r s : Res A) → AsMany Same d d' → (0 < d → Agree Same x y r s)
      → Agree Same x y (if room_for d then r else Err (TooOpen place)) (if room_for d' then s else Err (TooOpen place'))
  agree_enter zero zero place place' r s le h = λ i e. tt
  agree_enter zero (suc d') place place' r s le h = λ i e. absurd (omega (arith, le.1 e))
  agree_enter (suc d) zero place place' r s le h = absurd (omega (arith, le.0))
  agree_enter (suc d) (suc d') place place' r s le h = h (omega arith)

  agree_part : (again again' : List ℕ → List Kind → Res (List ℕ)) (n n' : ℕ) (w : List ℕ) (p : Option (List ℕ)) (m : List Kind)
      → ((v : List ℕ) (q : List Kind) → length (q ++ x) ≤ n → length (q ++ y) ≤ n' → Agree Same x y (again v (q ++ x)) (again' v (q ++ y)))
      → length (m ++ x) ≤ n → length (m ++ y) ≤ n' → Agree Same x y (dotted_part again w p (m ++ x)) (dotted_part again' w p (m ++ y))
  agree_part again again' n n' w None m h k l = λ i. tt
  agree_part again again' n n' w (Some p) m h k l = h (w ++ 46 ∷ p) m k l

  agree_dot : (n n' : ℕ) (w : List ℕ) (m : List Kind)
      → ((v : List ℕ) (q : List Kind) → length (q ++ x) ≤ n → length (q ++ y) ≤ n' → Agree Same x y (dotted n v (q ++ x)) (dotted n' v (q ++ y)))
      → length (m ++ x) ≤ suc n → length (m ++ y) ≤ suc n' → Agree Same x y (behind_dot (dotted n) w (m ++ x)) (behind_dot (dotted n') w (m ++ y))
  agree_dot n n' w [] h k l = in_tail (behind_dot (dotted n) w x) (behind_dot (dotted n') w y) (short 0 x (behind_dot (dotted n) w x) (told_dot 0 (dotted n) w x (λ v vs. told_dotted 0 n v vs)))
  agree_dot n n' w (k' ∷ m) h k l = agree_part (dotted n) (dotted n') n n' w (part k') m h (omega (arith, k)) (omega (arith, l))

  agree_dotted : (n n' : ℕ) (w : List ℕ) (m : List Kind) → length (m ++ x) ≤ n → length (m ++ y) ≤ n' → Agree Same x y (dotted n w (m ++ x)) (dotted n' w (m ++ y))
  unfolding dotted
  agree_dotted zero n' w m k l = λ i. absurd (omega (arith, i, k))
  agree_dotted (suc n) zero w m k l =
      behind_tail (length (m ++ x)) (dotted (suc n) w (m ++ x)) (dotted zero w (m ++ y)) (no_front x y m l) (short 0 (m ++ x) (dotted (suc n) w (m ++ x)) (told_dotted 0 (suc n) w (m ++ x)))
  agree_dotted (suc n) (suc n') w [] k l = in_tail (dotted (suc n) w x) (dotted (suc n') w y) (short 0 x (dotted (suc n) w x) (told_dotted 0 (suc n) w x))
  agree_dotted (suc n) (suc n') w (dot_ ∷ m) k l = agree_dot n n' w m (λ v q. agree_dotted n n' v q) (omega (arith, k)) (omega (arith, l))
  agree_dotted (suc n) (suc n') w (k' ∷ m) k l = stays w (k' ∷ m)

  pub agree_named_by : (optional : Bool) (p : Option (List ℕ)) (m : List Kind) → Agree Same x y (named_by optional p (m ++ x)) (named_by optional p (m ++ y))
  agree_named_by optional None m = λ i. tt
  agree_named_by optional (Some w) m =
      agree_map (λ n. record { name = n; optional = optional }) (dotted (length (m ++ x)) w (m ++ x)) (dotted (length (m ++ y)) w (m ++ y))
      (agree_dotted (length (m ++ x)) (length (m ++ y)) w m (omega arith) (omega arith))

  pub agree_named : (optional : Bool) (m : List Kind) → Agree Same x y (named_field optional (m ++ x)) (named_field optional (m ++ y))
  agree_named optional [] = in_tail (named_field optional x) (named_field optional y) (short 0 x (named_field optional x) (told_named 0 optional x))
  agree_named optional (k ∷ m) = agree_named_by optional (first_part k) m

  pub agree_field : (m : List Kind) → Agree Same x y (field (m ++ x)) (field (m ++ y))
  agree_field [] = in_tail (field x) (field y) (short 0 x (field x) (told_field 0 x))
  agree_field (question_ ∷ m) = agree_named true m
  agree_field (k ∷ m) = agree_named false (k ∷ m)

  pub agree_text : (m : List Kind) → Agree Same x y (text_at (m ++ x)) (text_at (m ++ y))
  agree_text [] = in_tail (text_at x) (text_at y) (short 0 x (text_at x) (told_text 0 x))
  agree_text (text s ∷ m) = stays s m
  agree_text (_ ∷ m) = λ i. tt

  agree_negative : (m : List Kind) → Agree Same x y (negative_at (m ++ x)) (negative_at (m ++ y))
  agree_negative [] = in_tail (negative_at x) (negative_at y) (short 0 x (negative_at x) (told_negative 0 x))
  agree_negative (number n ∷ m) = stays (value.Long (neg_ℤ n)) m
  agree_negative (_ ∷ m) = λ i. tt

  pub agree_literal : (m : List Kind) → Agree Same x y (literal (m ++ x)) (literal (m ++ y))
  agree_literal [] = in_tail (literal x) (literal y) (short 0 x (literal x) (told_literal 0 x))
  agree_literal (number n ∷ m) = stays (value.Long n) m
  agree_literal (adds Sub ∷ m) = agree_negative m
  agree_literal (text s ∷ m) = stays (value.Text s) m
  agree_literal (true_ ∷ m) = stays (value.Bool true) m
  agree_literal (false_ ∷ m) = stays (value.Bool false) m
  agree_literal (_ ∷ m) = λ i. tt

  pub agree_call_of : (w : List ℕ) (place place' : ℕ) (es : List Tree) (m : List Kind) → Agree Same x y (call_of w place es (m ++ x)) (call_of w place' es (m ++ y))
  agree_call_of w place place' es m =
      agree_if (is_left_out_call w (trees_of es)) _ _ (Ok (t.call w false (trees_of es), m ++ x)) (Ok (t.call w false (trees_of es), m ++ y)) (λ i. tt) (stays (t.call w false (trees_of es)) m)

-- several with something between
module _ (Same : Type 0) (x y : List Kind) {A : Type 0} (d : ℕ) (is : Kind → Bool) (o : is open_ ≡ false) (c : is close_ ≡ false) (read read' : List Kind → Res A)
    (told : (us : List Kind) → Told d us (read us)) (agrees : (m : List Kind) → Agree Same x y (read (m ++ x)) (read' (m ++ y))) where
  short_more : (n : ℕ) (a : A) (us : List Kind) → Short (length us) (more_of is (separated is read n) a us)
  short_more n a us = short d us (more_of is (separated is read n) a us) (told_more d is (separated is read n) a us o c (λ vs. told_separated d is read n vs o c told))

  agree_more : (n n' : ℕ) (a : A) (m : List Kind)
      → ((p : List Kind) → length (p ++ x) ≤ n → length (p ++ y) ≤ n' → Agree Same x y (separated is read n (p ++ x)) (separated is read' n' (p ++ y)))
      → length (m ++ x) ≤ suc n → length (m ++ y) ≤ suc n' → Agree Same x y (more_of is (separated is read n) a (m ++ x)) (more_of is (separated is read' n') a (m ++ y))
  agree_more n n' a [] h k l = in_tail Same x y (more_of is (separated is read n) a x) (more_of is (separated is read' n') a y) (short_more n a x)
  agree_more n n' a (k' ∷ m) h k l =
      agree_if Same x y (is k') (res_map (λ xs. a ∷ xs) (separated is read n (m ++ x))) (res_map (λ xs. a ∷ xs) (separated is read' n' (m ++ y))) (Ok (a ∷ [], k' ∷ (m ++ x))) (Ok (a ∷ [], k' ∷ (m ++ y)))
      (agree_map Same x y (λ xs. a ∷ xs) (separated is read n (m ++ x)) (separated is read' n' (m ++ y)) (h m (omega (arith, k)) (omega (arith, l))))
      (stays Same x y (a ∷ []) (k' ∷ m))

  pub agree_separated : (n n' : ℕ) (m : List Kind) → length (m ++ x) ≤ n → length (m ++ y) ≤ n' → Agree Same x y (separated is read n (m ++ x)) (separated is read' n' (m ++ y))
  unfolding separated
  agree_separated zero n' m k l = λ i. absurd (omega (arith, i, k))
  agree_separated (suc n) zero m k l =
      behind_tail Same x y (length (m ++ x)) (separated is read (suc n) (m ++ x)) (separated is read' zero (m ++ y)) (no_front x y m l)
      (short d (m ++ x) (separated is read (suc n) (m ++ x)) (told_separated d is read (suc n) (m ++ x) o c told))
  agree_separated (suc n) (suc n') m k l =
      agree_then Same x y (length (m ++ x)) (read (m ++ x)) (read' (m ++ y)) (more_of is (separated is read n)) (more_of is (separated is read' n')) (short d (m ++ x) (read (m ++ x)) (told (m ++ x))) (agrees m)
      (λ a p b. agree_more n n' a p (agree_separated n n') (omega (arith, b, k)) (longer x y m p (suc n') b l)) (short_more n)

  pub agree_listed_by : (m : List Kind) → Agree Same x y (separated is read (length (m ++ x)) (m ++ x)) (separated is read' (length (m ++ y)) (m ++ y))
  agree_listed_by m = agree_separated (length (m ++ x)) (length (m ++ y)) m (omega arith) (omega arith)

pub agree_listed : (Same : Type 0) (x y : List Kind) {A : Type 0} (d : ℕ) (read read' : List Kind → Res A) → ((us : List Kind) → Told d us (read us))
    → ((m : List Kind) → Agree Same x y (read (m ++ x)) (read' (m ++ y))) → (m : List Kind) → Agree Same x y (comma_list read (m ++ x)) (comma_list read' (m ++ y))
agree_listed Same x y d read read' told agrees m = agree_listed_by Same x y d is_comma refl refl read read' told agrees m

-- operands from the left, and one operand or several joined in one node
module _ (Same : Type 0) (x y : List Kind) (d : ℕ) (read read' : ℕ → List Kind → Res Tree) (told : (l : ℕ) (us : List Kind) → Told d us (read l us))
    (agrees : (l : ℕ) (m : List Kind) → Agree Same x y (read l (m ++ x)) (read' l (m ++ y))) where
  short_read : (l : ℕ) (us : List Kind) → Short (length us) (read l us)
  short_read l us = short d us (read l us) (told l us)

  agree_chain_on : (l : ℕ) (again again' : Tree → List Kind → Res Tree) (n n' : ℕ) (a : Tree) (p : Option MathOp) (k : Kind) (m : List Kind)
      → ((b : Tree) (q : List Kind) → length (q ++ x) ≤ n → length (q ++ y) ≤ n' → Agree Same x y (again b (q ++ x)) (again' b (q ++ y))) → ((b : Tree) (us : List Kind) → Short (length us) (again b us))
      → length (m ++ x) ≤ n → length (m ++ y) ≤ n' → Agree Same x y (chain_on read l again a p k (m ++ x)) (chain_on read' l again' a p k (m ++ y))
  agree_chain_on l again again' n n' a None k m h w i j = stays Same x y a (k ∷ m)
  agree_chain_on l again again' n n' a (Some o) k m h w i j =
      agree_above Same x y l a (suc (length (m ++ x))) (suc (length (m ++ y))) (omega (arith, length-append m y)) (then_do (read (l - 1) (m ++ x)) (λ b vs. again (t.math o a b) vs)) (then_do (read' (l - 1) (m ++ y)) (λ b vs. again' (t.math o a b) vs))
      (agree_then Same x y (length (m ++ x)) (read (l - 1) (m ++ x)) (read' (l - 1) (m ++ y)) (λ b vs. again (t.math o a b) vs) (λ b vs. again' (t.math o a b) vs) (short_read (l - 1) (m ++ x)) (agrees (l - 1) m)
      (λ b q e. h (t.math o a b) q (omega (arith, e, i)) (longer x y m q n' e j)) (λ b vs. w (t.math o a b) vs))

  short_chain : (operator : Kind → Option MathOp) (o : operator open_ ≡ None) (c : operator close_ ≡ None) (l n : ℕ) (a : Tree) (us : List Kind) → Short (length us) (chain_from operator read l n a us)
  short_chain operator o c l n a us = short d us (chain_from operator read l n a us) (told_chain_from d operator read o c told l n a us)

  agree_chain_from : (operator : Kind → Option MathOp) (o : operator open_ ≡ None) (c : operator close_ ≡ None) (l n n' : ℕ) (a : Tree) (m : List Kind)
      → length (m ++ x) ≤ n → length (m ++ y) ≤ n' → Agree Same x y (chain_from operator read l n a (m ++ x)) (chain_from operator read' l n' a (m ++ y))
  unfolding chain_from
  agree_chain_from operator o c l zero n' a m k j = λ i. absurd (omega (arith, i, k))
  agree_chain_from operator o c l (suc n) zero a m k j =
      behind_tail Same x y (length (m ++ x)) (chain_from operator read l (suc n) a (m ++ x)) (chain_from operator read' l zero a (m ++ y)) (no_front x y m j) (short_chain operator o c l (suc n) a (m ++ x))
  agree_chain_from operator o c l (suc n) (suc n') a [] k j =
      in_tail Same x y (chain_from operator read l (suc n) a x) (chain_from operator read' l (suc n') a y) (short_chain operator o c l (suc n) a x)
  agree_chain_from operator o c l (suc n) (suc n') a (k' ∷ m) k j =
      agree_chain_on l (chain_from operator read l n) (chain_from operator read' l n') n n' a (operator k') k' m (λ b q. agree_chain_from operator o c l n n' b q)
      (λ b us. short_chain operator o c l n b us) (omega (arith, k)) (omega (arith, j))

  pub agree_chain : (operator : Kind → Option MathOp) (o : operator open_ ≡ None) (c : operator close_ ≡ None) (l : ℕ) (m : List Kind) → Agree Same x y (chain operator read l (m ++ x)) (chain operator read' l (m ++ y))
  agree_chain operator o c l m =
      agree_then Same x y (length (m ++ x)) (read l (m ++ x)) (read' l (m ++ y)) (λ a us. chain_from operator read l (length us) a us) (λ a us. chain_from operator read' l (length us) a us) (short_read l (m ++ x)) (agrees l m)
      (λ a p b. agree_chain_from operator o c l (length (p ++ x)) (length (p ++ y)) a p (omega arith) (omega arith)) (λ a us. short_chain operator o c l (length us) a us)

  pub agree_joined : (is : Kind → Bool) (node : Trees → Tree) (o : is open_ ≡ false) (c : is close_ ≡ false) (l : ℕ) (e : Tree) (m : List Kind)
      → Agree Same x y (joined_operands is node read l e (m ++ x)) (joined_operands is node read' l e (m ++ y))
  agree_joined is node o c l e [] = in_tail Same x y (joined_operands is node read l e x) (joined_operands is node read' l e y) (short d x (joined_operands is node read l e x) (told_joined d is node read l e x o c told))
  agree_joined is node o c l e (k ∷ m) =
      agree_if Same x y (is k) (above l e (suc (length (m ++ x))) (res_map (λ es. node (more e (trees_of es))) (separated is (read (l - 1)) (length (m ++ x)) (m ++ x))))
      (above l e (suc (length (m ++ y))) (res_map (λ es. node (more e (trees_of es))) (separated is (read' (l - 1)) (length (m ++ y)) (m ++ y)))) (Ok (e, k ∷ (m ++ x))) (Ok (e, k ∷ (m ++ y)))
      (agree_above Same x y l e (suc (length (m ++ x))) (suc (length (m ++ y))) (omega (arith, length-append m y)) (res_map (λ es. node (more e (trees_of es))) (separated is (read (l - 1)) (length (m ++ x)) (m ++ x)))
      (res_map (λ es. node (more e (trees_of es))) (separated is (read' (l - 1)) (length (m ++ y)) (m ++ y)))
      (agree_map Same x y (λ es. node (more e (trees_of es))) (separated is (read (l - 1)) (length (m ++ x)) (m ++ x)) (separated is (read' (l - 1)) (length (m ++ y)) (m ++ y))
      (agree_listed_by Same x y d is o c (read (l - 1)) (read' (l - 1)) (told (l - 1)) (agrees (l - 1)) m)))
      (stays Same x y e (k ∷ m))
