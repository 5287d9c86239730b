-- Two runs of the descent over queries that begin alike: what the first refuses at a place rests on the tokens through that place alone.
use Rattle.std.proofs.Common.{◌≡◌, ℕ, zero, suc, ◌<◌, ◌≤◌, Bool, true, false, if◌then◌else◌, ◌⊎◌, inl, inr, List, [], ◌∷◌, ◌++◌, length, Option, Some, None, Ok, Err, refl, sym, ap, subst, arith, ⊎_elim}
use Rattle.std.specs.Prelude.{ℤ, pos}
use Rattle.eql_query.specs.declared.expr.FieldRef.{FieldRef}
use Rattle.eql_query.specs.declared.query.Span.{Span}
use Rattle.eql_query.specs.declared.query.Unit.{Unit as TimeUnit}
use Rattle.eql_query.specs.declared.query.PipeText.{PipeText}
use Rattle.eql_query.specs.Tree.{Tree}
use Rattle.eql_query.specs.QueryTree.{TermTree, BodyTree, event, sequence, QueryTree}
use Rattle.eql_parser.specs.Kinds.{Kind, bang_, bar_, by_, join_, sample_, sequence_, until_, with_, name, number, open_, close_, open_item_}
use Rattle.eql_parser.specs.QueryGrammar.{category, is_fine_unit, pipe_of, unit_of}
use Rattle.eql_parser.specs.Reading.{Fail, Syntax, LeftOut, Res, then_do, res_map, field, expr}
use Rattle.eql_parser.specs.QueryReading as q
use Rattle.eql_parser.specs.QueryReading.{Conditioned, behind_expected, is_where, is_maxspan, is_runs, is_assign, is_open_item, is_close_item, number_at, term_tree_of, items_more, unit_named, unit_at, pipe_named, behind_term, behind_body}
use Rattle.eql_parser.proofs.Told.{Told, told_then, told_map, told_field}
use Rattle.eql_parser.proofs.ToldExpr.{expr_told}
use Rattle.eql_parser.proofs.ToldQuery.{told_expected, told_number, told_keys, told_runs, told_behind_term, told_items_more, told_number_unit, told_span, told_pipes, told_behind_body, told_term, told_bracketed, told_item, told_items, told_until, told_behind_items, told_behind_span, told_behind_keys, told_event, told_query}
use Rattle.eql_parser.proofs.Agrees.{firm, Short, short, shorter, short_map, short_then, Refuses, Rejects, rejects_refuses, Echo, Agree, AsMany, both_refuse, refuses_then, refuses_map, echo_then, echo_map, behind_tail, longer, in_tail, agree_then, agree_map, stays, agree_if, agree_field, agree_listed, which}
use Rattle.eql_parser.proofs.AgreesExpr.{expr_agrees}

module _ (Same : Type 0) (x y : List Kind) where
  agree_expected : {A : Type 0} (is : Kind → Bool) (go go' : List Kind → Res A) (m : List Kind) → Short (length x) (behind_expected is go x)
      → ((p : List Kind) → Agree Same x y (go (p ++ x)) (go' (p ++ y))) → Agree Same x y (behind_expected is go (m ++ x)) (behind_expected is go' (m ++ y))
  agree_expected is go go' [] w h = in_tail Same x y (behind_expected is go x) (behind_expected is go' y) w
  agree_expected is go go' (k ∷ m) w h = agree_if Same x y (is k) (go (m ++ x)) (go' (m ++ y)) (Err (Syntax (suc (length (m ++ x))))) (Err (Syntax (suc (length (m ++ y))))) (h m) (λ i. tt)

  -- what stands behind a word that has to stand here
  agree_behind : {A : Type 0} (is : Kind → Bool) (go go' : List Kind → Res A) (m : List Kind) → is open_ ≡ false → is close_ ≡ false → ((us : List Kind) → Told 0 us (go us))
      → ((p : List Kind) → Agree Same x y (go (p ++ x)) (go' (p ++ y))) → Agree Same x y (behind_expected is go (m ++ x)) (behind_expected is go' (m ++ y))
  agree_behind is go go' m o c t h = agree_expected is go go' m (short 0 x (behind_expected is go x) (told_expected 0 is go x o c t)) h

  agree_number : (m : List Kind) → Agree Same x y (number_at (m ++ x)) (number_at (m ++ y))
  agree_number [] = in_tail Same x y (number_at x) (number_at y) (short 0 x (number_at x) (told_number 0 x))
  agree_number (number n ∷ m) = stays Same x y n m
  agree_number (_ ∷ m) = λ i. tt

  agree_keys : (m : List Kind) → Agree Same x y (q.keys (m ++ x)) (q.keys (m ++ y))
  agree_keys [] = in_tail Same x y (q.keys x) (q.keys y) (short 0 x (q.keys x) (told_keys 0 x))
  agree_keys (by_ ∷ m) = agree_listed Same x y 0 field field (told_field 0) (agree_field Same x y) m
  agree_keys (k ∷ m) = stays Same x y {A = List FieldRef} [] (k ∷ m)

  agree_runs : (m : List Kind) → Agree Same x y (q.runs (m ++ x)) (q.runs (m ++ y))
  agree_runs [] = in_tail Same x y (q.runs x) (q.runs y) (short 0 x (q.runs x) (told_runs 0 x))
  agree_runs (with_ ∷ m) =
      agree_behind is_runs (behind_expected is_assign number_at) (behind_expected is_assign number_at) m refl refl (λ us. told_expected 0 is_assign number_at us refl refl (told_number 0))
      (λ p. agree_behind is_assign number_at number_at p refl refl (told_number 0) agree_number)
  agree_runs (k ∷ m) = stays Same x y (pos 1) (k ∷ m)

  agree_behind_term : (c : Conditioned) (m : List Kind) → Agree Same x y (behind_term c (m ++ x)) (behind_term c (m ++ y))
  agree_behind_term c m =
      agree_expected is_close_item (λ us. res_map (λ fs. (c, fs)) (q.keys us)) (λ us. res_map (λ fs. (c, fs)) (q.keys us)) m (short 0 x (behind_term c x) (told_behind_term 0 c x))
      (λ p. agree_map Same x y (λ fs. (c, fs)) (q.keys (p ++ x)) (q.keys (p ++ y)) (agree_keys p))

  agree_unit_named : (n : ℤ) (w : List ℕ) (u : Option TimeUnit) (m : List Kind) → Agree Same x y (unit_named n w u (m ++ x)) (unit_named n w u (m ++ y))
  agree_unit_named n w (Some u) m = stays Same x y {A = Option Span} (Some (record { count = n; unit = u })) m
  agree_unit_named n w None m = fine_or_not (is_fine_unit w)
    where
      fine_or_not : (b : Bool)
          → Agree Same x y {A = Option Span} (Err (if b then LeftOut w (suc (length (m ++ x))) else Syntax (suc (length (m ++ x))))) (Err (if b then LeftOut w (suc (length (m ++ y))) else Syntax (suc (length (m ++ y)))))
      fine_or_not true = λ i. tt
      fine_or_not false = λ i. tt

  short_unit_named : (n : ℤ) (w : List ℕ) (u : Option TimeUnit) (us : List Kind) → Short (suc (length us)) (unit_named n w u us)
  short_unit_named n w (Some u) us = omega arith
  short_unit_named n w None us = fine_or_not (is_fine_unit w)
    where
      fine_or_not : (b : Bool) → Short {A = Option Span} (suc (length us)) (Err (if b then LeftOut w (suc (length us)) else Syntax (suc (length us))))
      fine_or_not true = omega arith
      fine_or_not false = omega arith

  short_unit : (n : ℤ) (us : List Kind) → Short (length us) (unit_at n us)
  short_unit n (name w ∷ us) = short_unit_named n w (unit_of w) us
  short_unit n [] = omega arith
  short_unit n (_ ∷ us) = omega arith

  agree_unit : (n : ℤ) (m : List Kind) → Agree Same x y (unit_at n (m ++ x)) (unit_at n (m ++ y))
  agree_unit n [] = in_tail Same x y (unit_at n x) (unit_at n y) (short_unit n x)
  agree_unit n (name w ∷ m) = agree_unit_named n w (unit_of w) m
  agree_unit n (_ ∷ m) = λ i. tt

  agree_number_unit : (m : List Kind) → Agree Same x y (then_do (number_at (m ++ x)) unit_at) (then_do (number_at (m ++ y)) unit_at)
  agree_number_unit m =
      agree_then Same x y (length (m ++ x)) (number_at (m ++ x)) (number_at (m ++ y)) unit_at unit_at (short 0 (m ++ x) (number_at (m ++ x)) (told_number 0 (m ++ x))) (agree_number m) (λ n p b. agree_unit n p) short_unit

  agree_span : (m : List Kind) → Agree Same x y (q.span (m ++ x)) (q.span (m ++ y))
  agree_span [] = in_tail Same x y (q.span x) (q.span y) (short 0 x (q.span x) (told_span 0 x))
  agree_span (with_ ∷ m) =
      agree_behind is_maxspan (behind_expected is_assign (λ us. then_do (number_at us) unit_at)) (behind_expected is_assign (λ us. then_do (number_at us) unit_at)) m refl refl
      (λ us. told_expected 0 is_assign (λ vs. then_do (number_at vs) unit_at) us refl refl (told_number_unit 0))
      (λ p. agree_behind is_assign (λ us. then_do (number_at us) unit_at) (λ us. then_do (number_at us) unit_at) p refl refl (told_number_unit 0) agree_number_unit)
  agree_span (k ∷ m) = stays Same x y {A = Option Span} None (k ∷ m)

  agree_pipe_named : (w : List ℕ) (p : Option (ℤ → PipeText)) (m : List Kind) → Agree Same x y (pipe_named w p (m ++ x)) (pipe_named w p (m ++ y))
  agree_pipe_named w (Some make) m = agree_map Same x y make (number_at (m ++ x)) (number_at (m ++ y)) (agree_number m)
  agree_pipe_named w None m = λ i. tt

  short_pipe_named : (w : List ℕ) (p : Option (ℤ → PipeText)) (us : List Kind) → Short (suc (length us)) (pipe_named w p us)
  short_pipe_named w (Some make) us = shorter (length us) (suc (length us)) (res_map make (number_at us)) (omega arith) (short_map (length us) make (number_at us) (short 0 us (number_at us) (told_number 0 us)))
  short_pipe_named w None us = omega arith

  pub short_pipe : (us : List Kind) → Short (length us) (q.pipe us)
  short_pipe (name w ∷ us) = short_pipe_named w (pipe_of w) us
  short_pipe [] = omega arith
  short_pipe (_ ∷ us) = omega arith

  agree_pipe : (m : List Kind) → Agree Same x y (q.pipe (m ++ x)) (q.pipe (m ++ y))
  agree_pipe [] = in_tail Same x y (q.pipe x) (q.pipe y) (short_pipe x)
  agree_pipe (name w ∷ m) = agree_pipe_named w (pipe_of w) m
  agree_pipe (_ ∷ m) = λ i. tt

  pub short_pipes : (n : ℕ) (us : List Kind) → Short (length us) (q.pipes n us)
  short_pipes n us = short 0 us (q.pipes n us) (told_pipes 0 n us)

  agree_pipes : (n n' : ℕ) (m : List Kind) → length (m ++ x) ≤ n → length (m ++ y) ≤ n' → Agree Same x y (q.pipes n (m ++ x)) (q.pipes n' (m ++ y))
  unfolding q.pipes
  agree_pipes n n' [] k l = in_tail Same x y (q.pipes n x) (q.pipes n' y) (short_pipes n x)
  agree_pipes zero n' (k' ∷ m) k l = absurd (omega (arith, k))
  agree_pipes (suc n) zero (k' ∷ m) k l = absurd (omega (arith, l))
  agree_pipes (suc n) (suc n') (bar_ ∷ m) k l =
      agree_then Same x y (length (m ++ x)) (q.pipe (m ++ x)) (q.pipe (m ++ y)) (λ p us. res_map (λ ps. p ∷ ps) (q.pipes n us)) (λ p us. res_map (λ ps. p ∷ ps) (q.pipes n' us)) (short_pipe (m ++ x)) (agree_pipe m)
      (λ p r b. agree_map Same x y (λ ps. p ∷ ps) (q.pipes n (r ++ x)) (q.pipes n' (r ++ y)) (agree_pipes n n' r (omega (arith, b, k)) (longer x y m r n' b (omega (arith, l)))))
      (λ p us. short_map (length us) (λ ps. p ∷ ps) (q.pipes n us) (short_pipes n us))
  agree_pipes (suc n) (suc n') (k' ∷ m) k l = λ i. tt

  agree_behind_body : (b : BodyTree) (m : List Kind) → Agree Same x y (behind_body b (m ++ x)) (behind_body b (m ++ y))
  agree_behind_body b m =
      agree_map Same x y (λ ps. record { body = b; pipes = ps }) (q.pipes (length (m ++ x)) (m ++ x)) (q.pipes (length (m ++ y)) (m ++ y))
      (agree_pipes (length (m ++ x)) (length (m ++ y)) m (omega arith) (omega arith))

-- what is left of an answer is no longer than this
abbrev pub Left : {A : Type 0} → ℕ → Res A → Type 0
Left l (Ok p) = length p.1 ≤ l
Left l (Err e) = Unit {0}

left_short : {A : Type 0} (l : ℕ) (r : Res A) → Short l r → Left l r
left_short l (Ok p) h = h
left_short l (Err e) h = tt

left_down : {A : Type 0} (k l : ℕ) (r : Res A) → k ≤ l → Left k r → Left l r
left_down k l (Ok p) h w = omega (arith, h, w)
left_down k l (Err e) h w = tt

left_then : {A B : Type 0} (l : ℕ) (r : Res A) (f : A → List Kind → Res B) → Left l r → ((a : A) (us : List Kind) → Short (length us) (f a us)) → Left l (then_do r f)
left_then l (Ok p) f h k = left_down (length p.1) l (f p.0 p.1) h (left_short (length p.1) (f p.0 p.1) (k p.0 p.1))
left_then l (Err e) f h k = tt

left_if : {A : Type 0} (l : ℕ) (b : Bool) (r : Res A) (e : Fail) → Left l r → Left l (if b then r else Err e)
left_if l true r e h = h
left_if l false r e h = tt

-- Where items end at a `!`, the second run may find a missing event there, so it may refuse.
abbrev Loose : (Same : Type 0) → (x y : List Kind) → {A : Type 0} → Res A → Res A → Type 0
Loose Same x y (Ok p) s = length x < length p.1 → ((m : List Kind) × (p.1 ≡ m ++ x) × (s ≡ Ok (p.0, m ++ y))) ⊎ ((us : List Kind) × (p.1 ≡ bang_ ∷ us) × Refuses s)
Loose Same x y (Err e) s = length x < firm e → Echo Same y e s

module _ (Same : Type 0) (x y : List Kind) where
  loose : {A : Type 0} (r s : Res A) → Agree Same x y r s → Loose Same x y r s
  loose (Ok p) s h = λ i. inl (h i)
  loose (Err e) s h = h

  loose_map : {A B : Type 0} (f : A → B) (r s : Res A) → Loose Same x y r s → Loose Same x y (res_map f r) (res_map f s)
  loose_map f (Ok p) s h = λ i. ⊎_elim (λ at. inl (at.0, at.1, ap (res_map f) at.2)) (λ at. inr (at.0, at.1, refuses_map f s at.2)) (h i)
  loose_map f (Err e) s h = λ i. echo_map Same y f e s (h i)

  loose_tail : {A : Type 0} (l : ℕ) (r s : Res A) → l ≤ length x → Short l r → Loose Same x y r s
  loose_tail l r s h w = loose r s (behind_tail Same x y l r s h w)

  loose_at : {A B : Type 0} (a : A) (us m : List Kind) (s : Res A) (f g : A → List Kind → Res B) → us ≡ m ++ x → s ≡ Ok (a, m ++ y) → Loose Same x y (f a (m ++ x)) (g a (m ++ y))
      → Loose Same x y (f a us) (then_do s g)
  loose_at a us m s f g e e' h =
      let here : Loose Same x y (f a us) (g a (m ++ y)) = subst (λ v. Loose Same x y (f a v) (g a (m ++ y))) (sym e) h in
      subst (λ r. Loose Same x y (f a us) (then_do r g)) (sym e') here

  -- a part that agrees, and then one that may refuse
  then_loose : {A B : Type 0} (l : ℕ) (r s : Res A) (f g : A → List Kind → Res B) → Left l r → Agree Same x y r s
      → ((a : A) (m : List Kind) → length (m ++ x) ≤ l → Loose Same x y (f a (m ++ x)) (g a (m ++ y))) → ((a : A) (us : List Kind) → Short (length us) (f a us))
      → Loose Same x y (then_do r f) (then_do s g)
  then_loose l (Ok p) s f g v h k w =
      ⊎_elim (λ i. let at = h i in loose_at p.0 p.1 at.0 s f g at.1 at.2 (k p.0 at.0 (omega (arith, v, ap length at.1)))) (λ i. loose_tail (length p.1) (f p.0 p.1) (then_do s g) i (w p.0 p.1))
      (which (length x) (length p.1))
  then_loose l (Err e) s f g v h k w = λ i. echo_then Same y e s g (h i)

  -- a part that may refuse at a `!`, and then one that stops there
  loose_then : {A B : Type 0} (l : ℕ) (r s : Res A) (f g : A → List Kind → Res B) → Left l r → Loose Same x y r s
      → ((a : A) (m : List Kind) → length (m ++ x) ≤ l → Loose Same x y (f a (m ++ x)) (g a (m ++ y))) → ((a : A) (us : List Kind) (t : Res B) → Refuses t → Loose Same x y (f a (bang_ ∷ us)) t)
      → ((a : A) (us : List Kind) → Short (length us) (f a us)) → Loose Same x y (then_do r f) (then_do s g)
  loose_then l (Ok p) s f g v h k b w =
      ⊎_elim
      (λ i. ⊎_elim (λ at. loose_at p.0 p.1 at.0 s f g at.1 at.2 (k p.0 at.0 (omega (arith, v, ap length at.1))))
      (λ at. subst (λ us. Loose Same x y (f p.0 us) (then_do s g)) (sym at.1) (b p.0 at.0 (then_do s g) (refuses_then s g at.2))) (h i))
      (λ i. loose_tail (length p.1) (f p.0 p.1) (then_do s g) i (w p.0 p.1))
      (which (length x) (length p.1))
  loose_then l (Err e) s f g v h k b w = λ i. echo_then Same y e s g (h i)

-- behind an item, at a `!`
bang_again : (again : List Kind → Res (List TermTree)) (i : TermTree) (us : List Kind) → (items_more again i (bang_ ∷ us) ≡ Ok (i ∷ [], bang_ ∷ us)) ⊎ Refuses (items_more again i (bang_ ∷ us))
bang_again again i [] = inl refl
bang_again again i (open_item_ ∷ us) = inr tt
bang_again again i (_ ∷ us) = inl refl

bang_stays : (Same : Type 0) (x y : List Kind) (again again' : List Kind → Res (List TermTree)) (i : TermTree) → Loose Same x y (items_more again i (bang_ ∷ x)) (items_more again' i (bang_ ∷ y))
bang_stays Same [] y again again' i = λ h. ⊎_elim (λ e. inl (bang_ ∷ [], refl, e)) (λ e. inr ([], refl, e)) (bang_again again' i y)
bang_stays Same (open_item_ ∷ x) y again again' i = λ h. absurd (omega (arith, h))
bang_stays Same (k ∷ x) y again again' i = λ h. ⊎_elim (λ e. inl (bang_ ∷ [], refl, e)) (λ e. inr (k ∷ x, refl, e)) (bang_again again' i y)

bang_no_pipe : (Same : Type 0) (x y : List Kind) (b : BodyTree) (us : List Kind) (t : Res QueryTree) → Refuses t → Loose Same x y (behind_body b (bang_ ∷ us)) t
unfolding q.pipes
bang_no_pipe Same x y b us t h = λ i. h

module _ (Same : Type 0) (x y : List Kind) (d : ℕ) (condition condition' : List Kind → Res Tree) (told : (us : List Kind) → Told d us (condition us))
    (agrees : (m : List Kind) → Agree Same x y (condition (m ++ x)) (condition' (m ++ y))) where
  agree_term_of : (c : Option (Option (List ℕ))) (m : List Kind) → Agree Same x y (q.term_of condition c (m ++ x)) (q.term_of condition' c (m ++ y))
  agree_term_of None m = λ i. tt
  agree_term_of (Some c) m =
      agree_expected Same x y is_where (λ us. res_map (λ e. (c, e)) (condition us)) (λ us. res_map (λ e. (c, e)) (condition' us)) m
      (short d x (behind_expected is_where (λ us. res_map (λ e. (c, e)) (condition us)) x) (told_expected d is_where (λ us. res_map (λ e. (c, e)) (condition us)) x refl refl (λ us. told_map d us (λ e. (c, e)) (condition us) (told us))))
      (λ p. agree_map Same x y (λ e. (c, e)) (condition (p ++ x)) (condition' (p ++ y)) (agrees p))

  agree_term : (m : List Kind) → Agree Same x y (q.term condition (m ++ x)) (q.term condition' (m ++ y))
  agree_term [] = in_tail Same x y (q.term condition x) (q.term condition' y) (short d x (q.term condition x) (told_term d condition told x))
  agree_term (k ∷ m) = agree_term_of (category k) m

  short_in_brackets : (us : List Kind) → Short (length us) (then_do (q.term condition us) behind_term)
  short_in_brackets us = short d us (then_do (q.term condition us) behind_term) (told_then d us (q.term condition us) behind_term (told_term d condition told us) (told_behind_term d))

  agree_in_brackets : (m : List Kind) → Agree Same x y (then_do (q.term condition (m ++ x)) behind_term) (then_do (q.term condition' (m ++ y)) behind_term)
  agree_in_brackets m =
      agree_then Same x y (length (m ++ x)) (q.term condition (m ++ x)) (q.term condition' (m ++ y)) behind_term behind_term (short d (m ++ x) (q.term condition (m ++ x)) (told_term d condition told (m ++ x))) (agree_term m)
      (λ c p b. agree_behind_term Same x y c p) (λ c us. short 0 us (behind_term c us) (told_behind_term 0 c us))

  agree_bracketed : (m : List Kind) → Agree Same x y (q.bracketed_term condition (m ++ x)) (q.bracketed_term condition' (m ++ y))
  agree_bracketed m =
      agree_expected Same x y is_open_item (λ us. then_do (q.term condition us) behind_term) (λ us. then_do (q.term condition' us) behind_term) m
      (short d x (q.bracketed_term condition x) (told_bracketed d condition told x)) agree_in_brackets

  short_runs : (c : Conditioned × List FieldRef) (us : List Kind) → Short (length us) (res_map (term_tree_of c.0 c.1) (q.runs us))
  short_runs c us = short_map (length us) (term_tree_of c.0 c.1) (q.runs us) (short 0 us (q.runs us) (told_runs 0 us))

  agree_item_here : (m : List Kind)
      → Agree Same x y (then_do (q.bracketed_term condition (m ++ x)) (λ c us. res_map (term_tree_of c.0 c.1) (q.runs us))) (then_do (q.bracketed_term condition' (m ++ y)) (λ c us. res_map (term_tree_of c.0 c.1) (q.runs us)))
  agree_item_here m =
      agree_then Same x y (length (m ++ x)) (q.bracketed_term condition (m ++ x)) (q.bracketed_term condition' (m ++ y)) (λ c us. res_map (term_tree_of c.0 c.1) (q.runs us)) (λ c us. res_map (term_tree_of c.0 c.1) (q.runs us))
      (short d (m ++ x) (q.bracketed_term condition (m ++ x)) (told_bracketed d condition told (m ++ x))) (agree_bracketed m)
      (λ c p b. agree_map Same x y (term_tree_of c.0 c.1) (q.runs (p ++ x)) (q.runs (p ++ y)) (agree_runs Same x y p)) short_runs

  bang_refused : (any_condition : List Kind → Res Tree) (us : List Kind) → Rejects (q.item any_condition (bang_ ∷ us))
  bang_refused any_condition [] = tt
  bang_refused any_condition (open_item_ ∷ us) = tt
  bang_refused any_condition (_ ∷ us) = tt

  agree_item : (m : List Kind) → Agree Same x y (q.item condition (m ++ x)) (q.item condition' (m ++ y))
  agree_item [] = in_tail Same x y (q.item condition x) (q.item condition' y) (short d x (q.item condition x) (told_item d condition told x))
  agree_item (bang_ ∷ m) = both_refuse Same x y (q.item condition (bang_ ∷ (m ++ x))) (q.item condition' (bang_ ∷ (m ++ y))) (bang_refused condition (m ++ x)) (rejects_refuses (q.item condition' (bang_ ∷ (m ++ y))) (bang_refused condition' (m ++ y)))
  agree_item (k ∷ m) = agree_item_here (k ∷ m)

  left_item_here : (k : Kind) (us : List Kind) → Left (length us) (then_do (q.bracketed_term condition (k ∷ us)) (λ c vs. res_map (term_tree_of c.0 c.1) (q.runs vs)))
  left_item_here k us =
      left_then (length us) (q.bracketed_term condition (k ∷ us)) (λ c vs. res_map (term_tree_of c.0 c.1) (q.runs vs))
      (left_if (length us) (is_open_item k) (then_do (q.term condition us) behind_term) (Syntax (suc (length us))) (left_short (length us) (then_do (q.term condition us) behind_term) (short_in_brackets us))) short_runs

  -- an item is one token at least
  pub left_item : (k : Kind) (us : List Kind) → Left (length us) (q.item condition (k ∷ us))
  left_item bang_ [] = tt
  left_item bang_ (open_item_ ∷ us) = tt
  left_item bang_ (_ ∷ us) = tt
  left_item k us = left_item_here k us

  short_items_more : (n : ℕ) (i : TermTree) (us : List Kind) → Short (length us) (items_more (q.items condition n) i us)
  short_items_more n i us = short d us (items_more (q.items condition n) i us) (told_items_more d (q.items condition n) i us (told_items d condition told n))

  loose_items_more : (n n' : ℕ) (i : TermTree) (m : List Kind) → Loose Same x y (q.items condition n (m ++ x)) (q.items condition' n' (m ++ y))
      → Loose Same x y (items_more (q.items condition n) i (m ++ x)) (items_more (q.items condition' n') i (m ++ y))
  loose_items_more n n' i [] h = loose_tail Same x y (length x) (items_more (q.items condition n) i x) (items_more (q.items condition' n') i y) (omega arith) (short_items_more n i x)
  loose_items_more n n' i (open_item_ ∷ m) h = loose_map Same x y (λ is. i ∷ is) (q.items condition n (open_item_ ∷ (m ++ x))) (q.items condition' n' (open_item_ ∷ (m ++ y))) h
  loose_items_more n n' i (bang_ ∷ []) h = bang_stays Same x y (q.items condition n) (q.items condition' n') i
  loose_items_more n n' i (bang_ ∷ open_item_ ∷ m) h = λ j. tt
  loose_items_more n n' i (bang_ ∷ k ∷ m) h = λ j. inl (bang_ ∷ k ∷ m, refl, refl)
  loose_items_more n n' i (k ∷ m) h = λ j. inl (k ∷ m, refl, refl)

  loose_items : (n n' : ℕ) (m : List Kind) → length (m ++ x) ≤ n → length (m ++ y) ≤ n' → Loose Same x y (q.items condition n (m ++ x)) (q.items condition' n' (m ++ y))
  unfolding q.items
  loose_items n n' [] k l = loose_tail Same x y (length x) (q.items condition n x) (q.items condition' n' y) (omega arith) (short d x (q.items condition n x) (told_items d condition told n x))
  loose_items zero n' (k' ∷ m) k l = absurd (omega (arith, k))
  loose_items (suc n) zero (k' ∷ m) k l = absurd (omega (arith, l))
  loose_items (suc n) (suc n') (k' ∷ m) k l =
      then_loose Same x y (length (m ++ x)) (q.item condition (k' ∷ (m ++ x))) (q.item condition' (k' ∷ (m ++ y))) (items_more (q.items condition n)) (items_more (q.items condition' n')) (left_item k' (m ++ x))
      (agree_item (k' ∷ m)) (λ i p b. loose_items_more n n' i p (loose_items n n' p (omega (arith, b, k)) (longer x y m p n' b (omega (arith, l))))) (short_items_more n)

  agree_until : (m : List Kind) → Agree Same x y (q.until condition (m ++ x)) (q.until condition' (m ++ y))
  agree_until [] = in_tail Same x y (q.until condition x) (q.until condition' y) (short d x (q.until condition x) (told_until d condition told x))
  agree_until (until_ ∷ m) =
      agree_map Same x y (λ c. Some (term_tree_of c.0 c.1 (pos 1))) (q.bracketed_term condition (m ++ x)) (q.bracketed_term condition' (m ++ y)) (agree_bracketed m)
  agree_until (k ∷ m) = stays Same x y {A = Option TermTree} None (k ∷ m)

  loose_behind_items : (fs : List FieldRef) (s : Option Span) (is : List TermTree) (m : List Kind) → Loose Same x y (q.behind_items condition fs s is (m ++ x)) (q.behind_items condition' fs s is (m ++ y))
  loose_behind_items fs s is m =
      loose Same x y (q.behind_items condition fs s is (m ++ x)) (q.behind_items condition' fs s is (m ++ y))
      (agree_map Same x y (λ u. sequence fs s is u) (q.until condition (m ++ x)) (q.until condition' (m ++ y)) (agree_until m))

  loose_behind_span : (fs : List FieldRef) (s : Option Span) (m : List Kind) → Loose Same x y (q.behind_span condition fs s (m ++ x)) (q.behind_span condition' fs s (m ++ y))
  loose_behind_span fs s m =
      loose_then Same x y (length (m ++ x)) (q.items condition (length (m ++ x)) (m ++ x)) (q.items condition' (length (m ++ y)) (m ++ y)) (q.behind_items condition fs s) (q.behind_items condition' fs s)
      (left_short (length (m ++ x)) (q.items condition (length (m ++ x)) (m ++ x)) (short d (m ++ x) (q.items condition (length (m ++ x)) (m ++ x)) (told_items d condition told (length (m ++ x)) (m ++ x))))
      (loose_items (length (m ++ x)) (length (m ++ y)) m (omega arith) (omega arith)) (λ is p b. loose_behind_items fs s is p) (λ is us t h. λ i. inr (us, refl, h))
      (λ is us. short d us (q.behind_items condition fs s is us) (told_behind_items d condition told fs s is us))

  loose_behind_keys : (fs : List FieldRef) (m : List Kind) → Loose Same x y (q.behind_keys condition fs (m ++ x)) (q.behind_keys condition' fs (m ++ y))
  loose_behind_keys fs m =
      then_loose Same x y (length (m ++ x)) (q.span (m ++ x)) (q.span (m ++ y)) (q.behind_span condition fs) (q.behind_span condition' fs)
      (left_short (length (m ++ x)) (q.span (m ++ x)) (short 0 (m ++ x) (q.span (m ++ x)) (told_span 0 (m ++ x)))) (agree_span Same x y m) (λ s p b. loose_behind_span fs s p)
      (λ s us. short d us (q.behind_span condition fs s us) (told_behind_span d condition told fs s us))

  short_behind_keys : (fs : List FieldRef) (us : List Kind) → Short (length us) (q.behind_keys condition fs us)
  short_behind_keys fs us = short d us (q.behind_keys condition fs us) (told_behind_keys d condition told fs us)

  short_sequence : (us : List Kind) → Short (length us) (then_do (q.keys us) (q.behind_keys condition))
  short_sequence us = short_then (length us) (q.keys us) (q.behind_keys condition) (short 0 us (q.keys us) (told_keys 0 us)) short_behind_keys

  loose_sequence : (m : List Kind) → Loose Same x y (then_do (q.keys (m ++ x)) (q.behind_keys condition)) (then_do (q.keys (m ++ y)) (q.behind_keys condition'))
  loose_sequence m =
      then_loose Same x y (length (m ++ x)) (q.keys (m ++ x)) (q.keys (m ++ y)) (q.behind_keys condition) (q.behind_keys condition')
      (left_short (length (m ++ x)) (q.keys (m ++ x)) (short 0 (m ++ x) (q.keys (m ++ x)) (told_keys 0 (m ++ x)))) (agree_keys Same x y m) (λ fs p b. loose_behind_keys fs p) short_behind_keys

  short_behind_body : (b : BodyTree) (us : List Kind) → Short (length us) (behind_body b us)
  short_behind_body b us = short 0 us (behind_body b us) (told_behind_body 0 b us)

  loose_event : (m : List Kind)
      → Loose Same x y (then_do (res_map (λ c. event (term_tree_of c [] (pos 1))) (q.term condition (m ++ x))) behind_body) (then_do (res_map (λ c. event (term_tree_of c [] (pos 1))) (q.term condition' (m ++ y))) behind_body)
  loose_event m =
      loose Same x y (then_do (res_map (λ c. event (term_tree_of c [] (pos 1))) (q.term condition (m ++ x))) behind_body) (then_do (res_map (λ c. event (term_tree_of c [] (pos 1))) (q.term condition' (m ++ y))) behind_body)
      (agree_then Same x y (length (m ++ x)) (res_map (λ c. event (term_tree_of c [] (pos 1))) (q.term condition (m ++ x))) (res_map (λ c. event (term_tree_of c [] (pos 1))) (q.term condition' (m ++ y))) behind_body behind_body
      (short d (m ++ x) (res_map (λ c. event (term_tree_of c [] (pos 1))) (q.term condition (m ++ x))) (told_event d condition told (m ++ x)))
      (agree_map Same x y (λ c. event (term_tree_of c [] (pos 1))) (q.term condition (m ++ x)) (q.term condition' (m ++ y)) (agree_term m)) (λ b p i. agree_behind_body Same x y b p) short_behind_body)

  loose_query : (m : List Kind) → Loose Same x y (q.query_by condition (m ++ x)) (q.query_by condition' (m ++ y))
  loose_query [] = loose_tail Same x y (length x) (q.query_by condition x) (q.query_by condition' y) (omega arith) (short d x (q.query_by condition x) (told_query d condition told x))
  loose_query (sample_ ∷ m) = λ i. tt
  loose_query (join_ ∷ m) = λ i. tt
  loose_query (sequence_ ∷ m) =
      loose_then Same x y (length (m ++ x)) (then_do (q.keys (m ++ x)) (q.behind_keys condition)) (then_do (q.keys (m ++ y)) (q.behind_keys condition')) behind_body behind_body
      (left_short (length (m ++ x)) (then_do (q.keys (m ++ x)) (q.behind_keys condition)) (short_sequence (m ++ x))) (loose_sequence m)
      (λ b p i. loose Same x y (behind_body b (p ++ x)) (behind_body b (p ++ y)) (agree_behind_body Same x y b p)) (bang_no_pipe Same x y) short_behind_body
  loose_query (k ∷ m) = loose_event (k ∷ m)

refused_there : (Same : Type 0) (x y : List Kind) (r s : Res QueryTree) (e : Fail) → r ≡ Err e → Loose Same x y r s → length x < firm e → Echo Same y e s
refused_there Same x y r s e h k = subst (λ t. Loose Same x y t s) h k

-- what the first run refuses before its tail, the second refuses likewise, with as many parentheses allowed or more
pub query_stops : (Same : Type 0) (x y : List Kind) (d d' l : ℕ) (m : List Kind) (e : Fail) → AsMany Same d d' → q.query_by (expr d l) (m ++ x) ≡ Err e → length x < firm e
    → Echo Same y e (q.query_by (expr d' l) (m ++ y))
query_stops Same x y d d' l m e le h =
    refused_there Same x y (q.query_by (expr d l) (m ++ x)) (q.query_by (expr d' l) (m ++ y)) e h
    (loose_query Same x y d (expr d l) (expr d' l) (expr_told d l) (λ p. expr_agrees Same x y d d' l p le) m)
