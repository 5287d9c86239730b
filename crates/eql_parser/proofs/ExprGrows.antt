-- With more parentheses and more levels allowed a condition is returned the same, but where there was one too many.
use Rattle.std.proofs.Common.{◌≡◌, ℕ, zero, suc, ◌-◌, ◌≤◌, Bool, true, false, if◌then◌else◌, nat_lt, List, [], ◌∷◌, length, Option, None, Some, Ok, Err, refl, sym, subst, ap, ltb-true, lt-ltb, arith}
use Rattle.eql_query.specs.declared.expr.MathOp.{MathOp}
use Rattle.eql_query.specs.declared.expr.MathOp.TheVariants.{Sub}
use Rattle.eql_query.specs.Tree.{Tree, Trees, more}
use Rattle.eql_query.specs.Tree as t
use Rattle.eql_query.specs.View.{trees_of}
use Rattle.eql_parser.specs.Kinds.{Kind, false_, in_, matches, not_, null_, regex_, true_, name, folding, back, text, number, open_, close_, question_, compares, adds}
use Rattle.eql_parser.specs.Limits.{depth}
use Rattle.eql_parser.specs.Reading.{Fail, Syntax, LeftOut, TooDeep, TooOpen, Res, then_do, res_map, closing, is_or, is_and, is_comma, adds_of, multiplies_of, more_of, separated, comma_list, named_field, field_tree, text_at, literal, at_level, above, chain_on, chain_from, chain, joined_operands, call_of, enter, arguments, expr}
use Rattle.eql_parser.specs.Reading as r

-- the answers are the same, or the first is that a parenthesis too many opens or a level too many begins
abbrev pub Same : {A : Type 0} → Res A → Res A → Type 0
Same (Ok x) s = s ≡ Ok x
Same (Err (Syntax n)) s = s ≡ Err (Syntax n)
Same (Err (LeftOut w n)) s = s ≡ Err (LeftOut w n)
Same (Err (TooDeep n)) s = Unit {0}
Same (Err (TooOpen n)) s = Unit {0}

pub same : {A : Type 0} (r : Res A) → Same r r
same (Ok x) = refl
same (Err (Syntax n)) = refl
same (Err (LeftOut w n)) = refl
same (Err (TooDeep n)) = tt
same (Err (TooOpen n)) = tt

pub same_then : {A B : Type 0} (r s : Res A) (f g : A → List Kind → Res B) → Same r s → ((a : A) (us : List Kind) → Same (f a us) (g a us)) → Same (then_do r f) (then_do s g)
same_then (Ok x) s f g h k = subst (Same (f x.0 x.1)) (ap (λ r. then_do r g) (sym h)) (k x.0 x.1)
same_then (Err (Syntax n)) s f g h k = ap (λ r. then_do r g) h
same_then (Err (LeftOut w n)) s f g h k = ap (λ r. then_do r g) h
same_then (Err (TooDeep n)) s f g h k = tt
same_then (Err (TooOpen n)) s f g h k = tt

pub same_map : {A B : Type 0} (r s : Res A) (f : A → B) → Same r s → Same (res_map f r) (res_map f s)
same_map (Ok x) s f h = ap (res_map f) h
same_map (Err (Syntax n)) s f h = ap (res_map f) h
same_map (Err (LeftOut w n)) s f h = ap (res_map f) h
same_map (Err (TooDeep n)) s f h = tt
same_map (Err (TooOpen n)) s f h = tt

pub same_if : {A : Type 0} (b : Bool) (r r' s s' : Res A) → Same r r' → Same s s' → Same (if b then r else s) (if b then r' else s')
same_if true r r' s s' h k = h
same_if false r r' s s' h k = k

same_at_level : {A : Type 0} (l m place : ℕ) (r s : Res A) → l ≤ m → Same r s → Same (at_level l place r) (at_level m place s)
same_at_level zero m place r s i h = tt
same_at_level (suc l) zero place r s i h = absurd (omega (arith, i))
same_at_level (suc l) (suc m) place r s i h = h

above_at : {A : Type 0} (b : Bool) (l m : ℕ) (a : Tree) (place : ℕ) (r s : Res A) → nat_lt (depth a) l ≡ b → l ≤ m → Same r s
    → Same (if b then r else Err (TooDeep place)) (above m a place s)
above_at true l m a place r s e i h =
    subst (λ c. Same r (if c then s else Err (TooDeep place))) (sym (lt-ltb (depth a) m (omega (arith, ltb-true (depth a) l e, i)))) h
above_at false l m a place r s e i h = tt

same_above : {A : Type 0} (l m : ℕ) (a : Tree) (place : ℕ) (r s : Res A) → l ≤ m → Same r s → Same (above l a place r) (above m a place s)
same_above l m a place r s i h = above_at (nat_lt (depth a) l) l m a place r s refl i h

-- another parenthesis opens, where it may
same_enter : {A : Type 0} (b c : Bool) (n : ℕ) (r s : Res A) → (b ≡ true → (c ≡ true) × Same r s) → Same (if b then r else Err (TooOpen n)) (if c then s else Err (TooOpen n))
same_enter false c n r s h = tt
same_enter true c n r s h = let k = h refl in subst (λ x. Same r (if x then s else Err (TooOpen n))) (sym k.0) k.1

more_grows : {A : Type 0} (is_between : Kind → Bool) (again again' : List Kind → Res (List A)) (x : A) (us : List Kind) → ((vs : List Kind) → Same (again vs) (again' vs))
    → Same (more_of is_between again x us) (more_of is_between again' x us)
more_grows is_between again again' x [] h = refl
more_grows is_between again again' x (k ∷ us) h =
    same_if (is_between k) (res_map (λ xs. x ∷ xs) (again us)) (res_map (λ xs. x ∷ xs) (again' us)) (Ok (x ∷ [], k ∷ us)) (Ok (x ∷ [], k ∷ us))
    (same_map (again us) (again' us) (λ xs. x ∷ xs) (h us)) refl

separated_grows : {A : Type 0} (is_between : Kind → Bool) (read read' : List Kind → Res A) → ((us : List Kind) → Same (read us) (read' us))
    → (n : ℕ) (us : List Kind) → Same (separated is_between read n us) (separated is_between read' n us)
unfolding separated
separated_grows is_between read read' h zero us = refl
separated_grows is_between read read' h (suc n) us =
    same_then (read us) (read' us) (more_of is_between (separated is_between read n)) (more_of is_between (separated is_between read' n)) (h us)
    (λ x vs. more_grows is_between (separated is_between read n) (separated is_between read' n) x vs (separated_grows is_between read read' h n))

-- loops over operands
module _ (read read' : ℕ → List Kind → Res Tree) (h : (l m : ℕ) (us : List Kind) → l ≤ m → Same (read l us) (read' m us)) where
  turn_grows : (l m : ℕ) (again again' : Tree → List Kind → Res Tree) (a : Tree) (o : Option MathOp) (k : Kind) (us : List Kind) → l ≤ m
      → ((b : Tree) (vs : List Kind) → Same (again b vs) (again' b vs)) → Same (chain_on read l again a o k us) (chain_on read' m again' a o k us)
  turn_grows l m again again' a None k us i g = refl
  turn_grows l m again again' a (Some o) k us i g =
      same_above l m a (suc (length us)) (then_do (read (l - 1) us) (λ b vs. again (t.math o a b) vs)) (then_do (read' (m - 1) us) (λ b vs. again' (t.math o a b) vs)) i
      (same_then (read (l - 1) us) (read' (m - 1) us) (λ b vs. again (t.math o a b) vs) (λ b vs. again' (t.math o a b) vs) (h (l - 1) (m - 1) us (omega (arith, i))) (λ b vs. g (t.math o a b) vs))

  chain_from_grows : (operator : Kind → Option MathOp) (l m n : ℕ) (a : Tree) (us : List Kind) → l ≤ m → Same (chain_from operator read l n a us) (chain_from operator read' m n a us)
  unfolding chain_from
  chain_from_grows operator l m zero a us i = refl
  chain_from_grows operator l m (suc n) a [] i = refl
  chain_from_grows operator l m (suc n) a (k ∷ us) i =
      turn_grows l m (chain_from operator read l n) (chain_from operator read' m n) a (operator k) k us i (λ b vs. chain_from_grows operator l m n b vs i)

  chain_grows : (operator : Kind → Option MathOp) (l m : ℕ) (us : List Kind) → l ≤ m → Same (chain operator read l us) (chain operator read' m us)
  chain_grows operator l m us i =
      same_then (read l us) (read' m us) (λ a vs. chain_from operator read l (length vs) a vs) (λ a vs. chain_from operator read' m (length vs) a vs) (h l m us i)
      (λ a vs. chain_from_grows operator l m (length vs) a vs i)

  joined_grows : (is_between : Kind → Bool) (node : Trees → Tree) (l m : ℕ) (e : Tree) (us : List Kind) → l ≤ m → Same (joined_operands is_between node read l e us) (joined_operands is_between node read' m e us)
  joined_grows is_between node l m e [] i = refl
  joined_grows is_between node l m e (k ∷ us) i =
      let make : List Tree → Tree = λ es. node (more e (trees_of es)) in
      let some : Res (List Tree) = separated is_between (read (l - 1)) (length us) us in
      let some' : Res (List Tree) = separated is_between (read' (m - 1)) (length us) us in
      same_if (is_between k) (above l e (suc (length us)) (res_map make some)) (above m e (suc (length us)) (res_map make some')) (Ok (e, k ∷ us)) (Ok (e, k ∷ us))
      (same_above l m e (suc (length us)) (res_map make some) (res_map make some') i
      (same_map some some' make (separated_grows is_between (read (l - 1)) (read' (m - 1)) (λ vs. h (l - 1) (m - 1) vs (omega (arith, i))) (length us) us)))
      refl

module _ (room room' : Bool) (inner inner' : ℕ → List Kind → Res Tree) (h : room ≡ true → (room' ≡ true) × ((l m : ℕ) (us : List Kind) → l ≤ m → Same (inner l us) (inner' m us))) where
  enter_grows : {A : Type 0} (us : List Kind) (r s : Res A) → (room ≡ true → Same r s) → Same (enter room inner us r) (enter room' inner' us s)
  enter_grows us r s k = same_enter room room' (suc (length us)) r s (λ b. ((h b).0, k b))

  some_grow : room ≡ true → (l m : ℕ) (us : List Kind) → l ≤ m → Same (then_do (comma_list (inner l) us) closing) (then_do (comma_list (inner' m) us) closing)
  some_grow b l m us i =
      same_then (comma_list (inner l) us) (comma_list (inner' m) us) closing closing (separated_grows is_comma (inner l) (inner' m) (λ vs. (h b).1 l m vs i) (length us) us) (λ es vs. same (closing es vs))

  pub arguments_grow : room ≡ true → (l m : ℕ) (us : List Kind) → l ≤ m → Same (arguments room inner l us) (arguments room' inner' m us)
  arguments_grow b l m (close_ ∷ us) i = refl
  arguments_grow b l m us i = some_grow b l m us i

  patterns_grow : (us : List Kind) → Same (r.patterns room inner us) (r.patterns room' inner' us)
  patterns_grow (open_ ∷ us) = enter_grows us (then_do (comma_list text_at us) closing) (then_do (comma_list text_at us) closing) (λ b. same (then_do (comma_list text_at us) closing))
  patterns_grow us = same (r.patterns room inner us)

  members_grow : (us : List Kind) → Same (r.members room inner us) (r.members room' inner' us)
  members_grow (open_ ∷ us) = enter_grows us (then_do (comma_list literal us) closing) (then_do (comma_list literal us) closing) (λ b. same (then_do (comma_list literal us) closing))
  members_grow us = same (r.members room inner us)

  call_grows : (l m : ℕ) (w : List ℕ) (us : List Kind) → l ≤ m → Same (r.prim room inner l (name w ∷ open_ ∷ us)) (r.prim room' inner' m (name w ∷ open_ ∷ us))
  call_grows l m w us i =
      let go : List Tree → List Kind → Res Tree = call_of w (suc (suc (length us))) in
      let left : Res Tree = then_do (arguments room inner (l - 1) us) go in
      let right : Res Tree = then_do (arguments room' inner' (m - 1) us) go in
      same_at_level l m (suc (suc (length us))) (enter room inner us left) (enter room' inner' us right) i
      (enter_grows us left right
      (λ b. same_then (arguments room inner (l - 1) us) (arguments room' inner' (m - 1) us) go go (arguments_grow b (l - 1) (m - 1) us (omega (arith, i))) (λ es vs. same (go es vs))))

  folding_grows : (l m : ℕ) (w : List ℕ) (us : List Kind) → l ≤ m → Same (r.prim room inner l (folding w ∷ open_ ∷ us)) (r.prim room' inner' m (folding w ∷ open_ ∷ us))
  folding_grows l m w us i =
      let make : List Tree → Tree = λ es. t.call w true (trees_of es) in
      let left : Res Tree = res_map make (arguments room inner (l - 1) us) in
      let right : Res Tree = res_map make (arguments room' inner' (m - 1) us) in
      same_at_level l m (suc (suc (length us))) (enter room inner us left) (enter room' inner' us right) i
      (enter_grows us left right (λ b. same_map (arguments room inner (l - 1) us) (arguments room' inner' (m - 1) us) make (arguments_grow b (l - 1) (m - 1) us (omega (arith, i)))))

  leaf_grows : (l m place : ℕ) (s : Res Tree) → l ≤ m → Same (at_level l place s) (at_level m place s)
  leaf_grows l m place s i = same_at_level l m place s s i (same s)

  prim_grows : (l m : ℕ) (us : List Kind) → l ≤ m → Same (r.prim room inner l us) (r.prim room' inner' m us)
  prim_grows l m (null_ ∷ us) i = leaf_grows l m (suc (length us)) (Ok (t.null, us)) i
  prim_grows l m (true_ ∷ us) i = leaf_grows l m (suc (length us)) (Ok (t.bool true, us)) i
  prim_grows l m (false_ ∷ us) i = leaf_grows l m (suc (length us)) (Ok (t.bool false, us)) i
  prim_grows l m (number n ∷ us) i = leaf_grows l m (suc (length us)) (Ok (t.long n, us)) i
  prim_grows l m (text s ∷ us) i = leaf_grows l m (suc (length us)) (Ok (t.str s, us)) i
  prim_grows l m (name w ∷ open_ ∷ us) i = call_grows l m w us i
  prim_grows l m (name w ∷ us) i = leaf_grows l m (suc (length us)) (res_map field_tree (named_field false (name w ∷ us))) i
  prim_grows l m (back w ∷ us) i = leaf_grows l m (suc (length us)) (res_map field_tree (named_field false (back w ∷ us))) i
  prim_grows l m (question_ ∷ us) i = leaf_grows l m (suc (length us)) (res_map field_tree (named_field true us)) i
  prim_grows l m (folding w ∷ open_ ∷ us) i = folding_grows l m w us i
  prim_grows l m (folding w ∷ us) i = leaf_grows l m (suc (length us)) (Err (Syntax (length us))) i
  prim_grows l m (open_ ∷ us) i =
      enter_grows us (then_do (inner l us) closing) (then_do (inner' m us) closing) (λ b. same_then (inner l us) (inner' m us) closing closing ((h b).1 l m us i) (λ e vs. same (closing e vs)))
  prim_grows l m [] i = refl
  prim_grows l m (_ ∷ us) i = refl

  unary_grows : (l m : ℕ) (us : List Kind) → l ≤ m → Same (r.unary room inner l us) (r.unary room' inner' m us)
  unfolding r.unary
  unary_grows zero zero (adds Sub ∷ us) i = tt
  unary_grows zero zero us i = prim_grows zero zero us i
  unary_grows zero (suc m) (adds Sub ∷ us) i = tt
  unary_grows zero (suc m) us i = prim_grows zero (suc m) us i
  unary_grows (suc l) zero us i = absurd (omega (arith, i))
  unary_grows (suc l) (suc m) (adds Sub ∷ us) i = same_map (r.unary room inner l us) (r.unary room' inner' m us) t.neg (unary_grows l m us (omega (arith, i)))
  unary_grows (suc l) (suc m) us i = prim_grows (suc l) (suc m) us i

  prod_grows : (l m : ℕ) (us : List Kind) → l ≤ m → Same (r.prod room inner l us) (r.prod room' inner' m us)
  prod_grows = chain_grows (r.unary room inner) (r.unary room' inner') unary_grows multiplies_of

  sum_grows : (l m : ℕ) (us : List Kind) → l ≤ m → Same (r.sum room inner l us) (r.sum room' inner' m us)
  sum_grows = chain_grows (r.prod room inner) (r.prod room' inner') prod_grows adds_of

  behind_not_grows : (a : Tree) (us : List Kind) → Same (r.behind_not room inner a us) (r.behind_not room' inner' a us)
  behind_not_grows a (in_ f ∷ us) = same_map (r.members room inner us) (r.members room' inner' us) (t.member f true a) (members_grow us)
  behind_not_grows a us = same (r.behind_not room inner a us)

  behind_sum_grows : (l m : ℕ) (a : Tree) (us : List Kind) → l ≤ m → Same (r.behind_sum room inner l a us) (r.behind_sum room' inner' m a us)
  behind_sum_grows l m a (compares o ∷ us) i =
      same_above l m a (suc (length us)) (res_map (t.cmp o a) (r.sum room inner (l - 1) us)) (res_map (t.cmp o a) (r.sum room' inner' (m - 1) us)) i
      (same_map (r.sum room inner (l - 1) us) (r.sum room' inner' (m - 1) us) (t.cmp o a) (sum_grows (l - 1) (m - 1) us (omega (arith, i))))
  behind_sum_grows l m a (matches o ∷ us) i =
      same_above l m a (suc (length us)) (res_map (t.pattern o a) (r.patterns room inner us)) (res_map (t.pattern o a) (r.patterns room' inner' us)) i
      (same_map (r.patterns room inner us) (r.patterns room' inner' us) (t.pattern o a) (patterns_grow us))
  behind_sum_grows l m a (in_ f ∷ us) i =
      same_above l m a (suc (length us)) (res_map (t.member f false a) (r.members room inner us)) (res_map (t.member f false a) (r.members room' inner' us)) i
      (same_map (r.members room inner us) (r.members room' inner' us) (t.member f false a) (members_grow us))
  behind_sum_grows l m a (not_ ∷ us) i = same_above l m a (suc (length us)) (r.behind_not room inner a us) (r.behind_not room' inner' a us) i (behind_not_grows a us)
  behind_sum_grows l m a (regex_ false ∷ us) i = refl
  behind_sum_grows l m a (regex_ true ∷ us) i = refl
  behind_sum_grows l m a [] i = refl
  behind_sum_grows l m a (_ ∷ us) i = refl

  pred_grows : (l m : ℕ) (us : List Kind) → l ≤ m → Same (r.pred room inner l us) (r.pred room' inner' m us)
  pred_grows l m us i =
      same_then (r.sum room inner l us) (r.sum room' inner' m us) (r.behind_sum room inner l) (r.behind_sum room' inner' m) (sum_grows l m us i) (λ a vs. behind_sum_grows l m a vs i)

  neg_grows : (l m : ℕ) (us : List Kind) → l ≤ m → Same (r.neg room inner l us) (r.neg room' inner' m us)
  unfolding r.neg
  neg_grows zero zero (not_ ∷ us) i = tt
  neg_grows zero zero us i = pred_grows zero zero us i
  neg_grows zero (suc m) (not_ ∷ us) i = tt
  neg_grows zero (suc m) us i = pred_grows zero (suc m) us i
  neg_grows (suc l) zero us i = absurd (omega (arith, i))
  neg_grows (suc l) (suc m) (not_ ∷ us) i = same_map (r.neg room inner l us) (r.neg room' inner' m us) t.not (neg_grows l m us (omega (arith, i)))
  neg_grows (suc l) (suc m) us i = pred_grows (suc l) (suc m) us i

  conj_grows : (l m : ℕ) (us : List Kind) → l ≤ m → Same (r.conj room inner l us) (r.conj room' inner' m us)
  conj_grows l m us i =
      same_then (r.neg room inner l us) (r.neg room' inner' m us) (joined_operands is_and t.and (r.neg room inner) l) (joined_operands is_and t.and (r.neg room' inner') m) (neg_grows l m us i)
      (λ e vs. joined_grows (r.neg room inner) (r.neg room' inner') neg_grows is_and t.and l m e vs i)

  level_grows : (l m : ℕ) (us : List Kind) → l ≤ m → Same (r.level room inner l us) (r.level room' inner' m us)
  level_grows l m us i =
      same_then (r.conj room inner l us) (r.conj room' inner' m us) (joined_operands is_or t.or (r.conj room inner) l) (joined_operands is_or t.or (r.conj room' inner') m) (conj_grows l m us i)
      (λ e vs. joined_grows (r.conj room inner) (r.conj room' inner') conj_grows is_or t.or l m e vs i)

pub expr_grows : (d e l m : ℕ) (us : List Kind) → d ≤ e → l ≤ m → Same (expr d l us) (expr e m us)
unfolding expr
expr_grows zero zero l m us h i = level_grows false false (λ _ vs. Err (Syntax (length vs))) (λ _ vs. Err (Syntax (length vs))) (λ b. absurd cc) l m us i
expr_grows zero (suc e) l m us h i = level_grows false true (λ _ vs. Err (Syntax (length vs))) (expr e) (λ b. absurd cc) l m us i
expr_grows (suc d) zero l m us h i = absurd (omega (arith, h))
expr_grows (suc d) (suc e) l m us h i = level_grows true true (expr d) (expr e) (λ b. (refl, λ k n vs j. expr_grows d e k n vs (omega (arith, h)) j)) l m us i
