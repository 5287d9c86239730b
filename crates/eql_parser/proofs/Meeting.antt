-- Two runs of the descent, over tokens that begin alike. The first goes on with a form that the grammar has, and the second with a left-out form in its
-- place: where the first reads on, the second stops at the left-out form.
use Rattle.std.proofs.Common.{◌≡◌, ℕ, zero, suc, ◌-◌, ◌<◌, ◌≤◌, nat_lt, Bool, true, false, if◌then◌else◌, ◌⊎◌, ⊎_elim, inl, inr, List, [], ◌∷◌, ◌++◌, length, Option, Some, None, Ok, Err, refl, sym, ap, subst, arith, length-append, codes}
use Rattle.std.specs.Prelude.{ℤ, neg_ℤ}
use Rattle.eql_values.specs.declared.value.Value.TheVariants as value
use Rattle.eql_query.specs.declared.expr.PatOp.TheVariants.{Colon}
use Rattle.eql_query.specs.declared.expr.MathOp.{MathOp}
use Rattle.eql_query.specs.declared.expr.MathOp.TheVariants.{Sub}
use Rattle.std.specs.Str.{bytes_eq}
use Rattle.eql_query.specs.Tree.{Tree, Trees, none, more}
use Rattle.eql_query.specs.Tree as t
use Rattle.eql_query.specs.View.{trees_of}
use Rattle.eql_parser.specs.Kinds.{Kind, any_, assign_, bang_, bar_, close_item_, false_, matches, null_, open_item_, regex_, true_, where_, with_, name, folding, text, number, open_, close_, dot_, question_, adds}
use Rattle.eql_parser.specs.Grammar.{first_part, part, is_left_out_call, IsArguments}
use Rattle.eql_parser.specs.QueryGrammar.{is_fine_unit, pipe_of}
use Rattle.eql_parser.specs.Limits.{depth}
use Rattle.eql_parser.specs.Reading.{Fail, LeftOut, TooDeep, TooOpen, Res, then_do, res_map, closing, is_comma, more_of, separated, comma_list, dotted_part, behind_dot, dotted, named_by, named_field, field, text_at, negative_at, literal, at_level, above, chain_on, chain_from, chain, joined_operands, call_of}
use Rattle.eql_parser.proofs.Told.{Told, told_more, told_separated, told_chain_from, room_for}
use Rattle.eql_parser.proofs.Agrees.{Short, short, short_closing, longer}

-- what goes on with a form that the grammar has, what goes on with a left-out form in its place, and how the descent stops there
pub data Instead : (has lacks : List Kind) → Fail → Type 0 where
  for_regex : {c b : List Kind} → Instead (matches Colon ∷ c) (regex_ false ∷ b) (LeftOut (codes "regex") (suc (length b)))
  for_folding_regex : {c b : List Kind} → Instead (matches Colon ∷ c) (regex_ true ∷ b) (LeftOut (codes "regex~") (suc (length b)))
  for_missing : {c b : List Kind} → Instead (open_item_ ∷ any_ ∷ where_ ∷ null_ ∷ close_item_ ∷ with_ ∷ c) (bang_ ∷ open_item_ ∷ b) (LeftOut (codes "!") (suc (suc (length b))))
  for_unit : {c b : List Kind} {n : ℤ} {w : List ℕ} → is_fine_unit w ≡ true → Instead (assign_ ∷ number n ∷ name (codes "s") ∷ c) (assign_ ∷ number n ∷ name w ∷ b) (LeftOut w (suc (length b)))
  for_pipe : {c b : List Kind} {w : List ℕ} → pipe_of w ≡ None → Instead (bar_ ∷ name (codes "head") ∷ c) (bar_ ∷ name w ∷ b) (LeftOut w (suc (length b)))
  for_number : {w : List ℕ} {first second : Tree} (call c b : List Kind) → bytes_eq w (codes "number") ≡ true → ((others : List Kind) → IsArguments (call ++ others) (more first (more second none)) others)
      → Instead (folding w ∷ open_ ∷ (call ++ c)) (name w ∷ open_ ∷ (call ++ b)) (LeftOut (codes "number") (suc (suc (length (call ++ b)))))

-- where the first run reads on to its end, the second does, or it stops at the left-out form
abbrev pub Met : (x y : List Kind) → Fail → {A : Type 0} → Res A → Res A → Type 0
Met x y e (Ok p) s = ((m : List Kind) × (p.1 ≡ m ++ x) × (s ≡ Ok (p.0, m ++ y))) ⊎ (s ≡ Err e)
Met x y e (Err f) s = Unit {0}

pub x_full : (x y : List Kind) (e : Fail) → Instead x y e → 0 < length x
x_full _ _ _ for_regex = omega arith
x_full _ _ _ for_folding_regex = omega arith
x_full _ _ _ for_missing = omega arith
x_full _ _ _ (for_unit h) = omega arith
x_full _ _ _ (for_pipe h) = omega arith
x_full _ _ _ (for_number call c b h args) = omega arith

pub y_full : (x y : List Kind) (e : Fail) → Instead x y e → 0 < length y
y_full _ _ _ for_regex = omega arith
y_full _ _ _ for_folding_regex = omega arith
y_full _ _ _ for_missing = omega arith
y_full _ _ _ (for_unit h) = omega arith
y_full _ _ _ (for_pipe h) = omega arith
y_full _ _ _ (for_number call c b h args) = omega arith

-- a reader that takes no such token
at_closing : {A : Type 0} (a : A) (x y : List Kind) (e : Fail) → Instead x y e → Met x y e (closing a x) (closing a y)
at_closing a _ _ _ for_regex = tt
at_closing a _ _ _ for_folding_regex = tt
at_closing a _ _ _ for_missing = tt
at_closing a _ _ _ (for_unit h) = tt
at_closing a _ _ _ (for_pipe h) = tt
at_closing a _ _ _ (for_number call c b h args) = tt

at_dot : (go go' : List ℕ → List Kind → Res (List ℕ)) (w : List ℕ) (x y : List Kind) (e : Fail) → Instead x y e → Met x y e (behind_dot go w x) (behind_dot go' w y)
at_dot go go' w _ _ _ for_regex = tt
at_dot go go' w _ _ _ for_folding_regex = tt
at_dot go go' w _ _ _ for_missing = tt
at_dot go go' w _ _ _ (for_unit h) = tt
at_dot go go' w _ _ _ (for_pipe h) = tt
at_dot go go' w _ _ _ (for_number call c b h args) = tt

at_dotted : (n n' : ℕ) (w : List ℕ) (x y : List Kind) (e : Fail) → Instead x y e → Met x y e (dotted (suc n) w x) (dotted (suc n') w y)
unfolding dotted
at_dotted n n' w _ _ _ for_regex = inl ([], refl, refl)
at_dotted n n' w _ _ _ for_folding_regex = inl ([], refl, refl)
at_dotted n n' w _ _ _ for_missing = inl ([], refl, refl)
at_dotted n n' w _ _ _ (for_unit h) = inl ([], refl, refl)
at_dotted n n' w _ _ _ (for_pipe h) = inl ([], refl, refl)
at_dotted n n' w _ _ _ (for_number call c b h args) = inl ([], refl, refl)

at_named : (o : Bool) (x y : List Kind) (e : Fail) → Instead x y e → Met x y e (named_field o x) (named_field o y)
at_named o _ _ _ for_regex = tt
at_named o _ _ _ for_folding_regex = tt
at_named o _ _ _ for_missing = tt
at_named o _ _ _ (for_unit h) = tt
at_named o _ _ _ (for_pipe h) = tt
at_named o _ _ _ (for_number call c b h args) = tt

at_field : (x y : List Kind) (e : Fail) → Instead x y e → Met x y e (field x) (field y)
at_field _ _ _ for_regex = tt
at_field _ _ _ for_folding_regex = tt
at_field _ _ _ for_missing = tt
at_field _ _ _ (for_unit h) = tt
at_field _ _ _ (for_pipe h) = tt
at_field _ _ _ (for_number call c b h args) = tt

at_text : (x y : List Kind) (e : Fail) → Instead x y e → Met x y e (text_at x) (text_at y)
at_text _ _ _ for_regex = tt
at_text _ _ _ for_folding_regex = tt
at_text _ _ _ for_missing = tt
at_text _ _ _ (for_unit h) = tt
at_text _ _ _ (for_pipe h) = tt
at_text _ _ _ (for_number call c b h args) = tt

at_negative : (x y : List Kind) (e : Fail) → Instead x y e → Met x y e (negative_at x) (negative_at y)
at_negative _ _ _ for_regex = tt
at_negative _ _ _ for_folding_regex = tt
at_negative _ _ _ for_missing = tt
at_negative _ _ _ (for_unit h) = tt
at_negative _ _ _ (for_pipe h) = tt
at_negative _ _ _ (for_number call c b h args) = tt

at_literal : (x y : List Kind) (e : Fail) → Instead x y e → Met x y e (literal x) (literal y)
at_literal _ _ _ for_regex = tt
at_literal _ _ _ for_folding_regex = tt
at_literal _ _ _ for_missing = tt
at_literal _ _ _ (for_unit h) = tt
at_literal _ _ _ (for_pipe h) = tt
at_literal _ _ _ (for_number call c b h args) = tt

-- what stands between operands is none of these tokens
abbrev pub Between : (Kind → Bool) → Type 0
Between is = (is (matches Colon) ≡ false) × (is (regex_ false) ≡ false) × (is (regex_ true) ≡ false) × (is open_item_ ≡ false) × (is bang_ ≡ false) × (is assign_ ≡ false) × (is bar_ ≡ false) × ((w : List ℕ) → is (folding w) ≡ false) × ((w : List ℕ) → is (name w) ≡ false)

abbrev pub Operator : (Kind → Option MathOp) → Type 0
Operator of = (of (matches Colon) ≡ None) × (of (regex_ false) ≡ None) × (of (regex_ true) ≡ None) × (of open_item_ ≡ None) × (of bang_ ≡ None) × (of assign_ ≡ None) × (of bar_ ≡ None) × ((w : List ℕ) → of (folding w) ≡ None) × ((w : List ℕ) → of (name w) ≡ None)

both_end : {A : Type 0} (x y : List Kind) (e : Fail) (b c : Bool) (r s : Res A) (a : A) → b ≡ false → c ≡ false → Met x y e (if b then r else Ok (a, x)) (if c then s else Ok (a, y))
both_end x y e false false r s a h k = inl ([], refl, refl)
both_end x y e false true r s a h k = absurd cc
both_end x y e true c r s a h k = absurd cc

no_operator : (x y : List Kind) (e : Fail) (p q : Option MathOp) (read read' : ℕ → List Kind → Res Tree) (l : ℕ) (again again' : Tree → List Kind → Res Tree) (a : Tree) (k k' : Kind) (c b : List Kind)
    → p ≡ None → q ≡ None → Met (k ∷ c) (k' ∷ b) e (chain_on read l again a p k c) (chain_on read' l again' a q k' b)
no_operator x y e None None read read' l again again' a k k' c b h i = inl ([], refl, refl)
no_operator x y e None (Some o) read read' l again again' a k k' c b h i = absurd cc
no_operator x y e (Some o) q read read' l again again' a k k' c b h i = absurd cc

at_more : {A : Type 0} (is : Kind → Bool) → Between is → (again again' : List Kind → Res (List A)) (a : A) (x y : List Kind) (e : Fail) → Instead x y e → Met x y e (more_of is again a x) (more_of is again' a y)
at_more is z again again' a _ _ _ for_regex = both_end _ _ _ _ _ _ _ (a ∷ []) z.0 z.1
at_more is z again again' a _ _ _ for_folding_regex = both_end _ _ _ _ _ _ _ (a ∷ []) z.0 z.2
at_more is z again again' a _ _ _ for_missing = both_end _ _ _ _ _ _ _ (a ∷ []) z.3 z.4
at_more is z again again' a _ _ _ (for_unit h) = both_end _ _ _ _ _ _ _ (a ∷ []) z.5 z.5
at_more is z again again' a _ _ _ (for_pipe h) = both_end _ _ _ _ _ _ _ (a ∷ []) z.6 z.6
at_more is z again again' a _ _ _ (for_number {w = w} call c b h args) = both_end _ _ _ _ _ _ _ (a ∷ []) (z.7 w) (z.8 w)

at_joined : (is : Kind → Bool) → Between is → (node : Trees → Tree) (read read' : ℕ → List Kind → Res Tree) (l : ℕ) (a : Tree) (x y : List Kind) (e : Fail) → Instead x y e → Met x y e (joined_operands is node read l a x) (joined_operands is node read' l a y)
at_joined is z node read read' l a _ _ _ for_regex = both_end _ _ _ _ _ _ _ a z.0 z.1
at_joined is z node read read' l a _ _ _ for_folding_regex = both_end _ _ _ _ _ _ _ a z.0 z.2
at_joined is z node read read' l a _ _ _ for_missing = both_end _ _ _ _ _ _ _ a z.3 z.4
at_joined is z node read read' l a _ _ _ (for_unit h) = both_end _ _ _ _ _ _ _ a z.5 z.5
at_joined is z node read read' l a _ _ _ (for_pipe h) = both_end _ _ _ _ _ _ _ a z.6 z.6
at_joined is z node read read' l a _ _ _ (for_number {w = w} call c b h args) = both_end _ _ _ _ _ _ _ a (z.7 w) (z.8 w)

at_chain : (of : Kind → Option MathOp) → Operator of → (read read' : ℕ → List Kind → Res Tree) (l n n' : ℕ) (a : Tree) (x y : List Kind) (e : Fail) → Instead x y e → Met x y e (chain_from of read l (suc n) a x) (chain_from of read' l (suc n') a y)
unfolding chain_from
at_chain of z read read' l n n' a _ _ _ (for_regex {c = c} {b = b}) =
    no_operator (matches Colon ∷ c) (regex_ false ∷ b) (LeftOut (codes "regex") (suc (length b))) (of (matches Colon)) (of (regex_ false)) read read' l (chain_from of read l n) (chain_from of read' l n') a (matches Colon) (regex_ false) (c) (b) z.0 z.1
at_chain of z read read' l n n' a _ _ _ (for_folding_regex {c = c} {b = b}) =
    no_operator (matches Colon ∷ c) (regex_ true ∷ b) (LeftOut (codes "regex~") (suc (length b))) (of (matches Colon)) (of (regex_ true)) read read' l (chain_from of read l n) (chain_from of read' l n') a (matches Colon) (regex_ true) (c) (b) z.0 z.2
at_chain of z read read' l n n' a _ _ _ (for_missing {c = c} {b = b}) =
    no_operator (open_item_ ∷ any_ ∷ where_ ∷ null_ ∷ close_item_ ∷ with_ ∷ c) (bang_ ∷ open_item_ ∷ b) (LeftOut (codes "!") (suc (suc (length b)))) (of (open_item_)) (of (bang_)) read read' l (chain_from of read l n) (chain_from of read' l n') a (open_item_) (bang_) (any_ ∷ where_ ∷ null_ ∷ close_item_ ∷ with_ ∷ c) (open_item_ ∷ b) z.3 z.4
at_chain of z read read' l n n' a _ _ _ (for_unit {c = c} {b = b} {n = v} {w = w} h) =
    no_operator (assign_ ∷ number v ∷ name (codes "s") ∷ c) (assign_ ∷ number v ∷ name w ∷ b) (LeftOut w (suc (length b))) (of (assign_)) (of (assign_)) read read' l (chain_from of read l n) (chain_from of read' l n') a (assign_) (assign_) (number v ∷ name (codes "s") ∷ c) (number v ∷ name w ∷ b) z.5 z.5
at_chain of z read read' l n n' a _ _ _ (for_pipe {c = c} {b = b} {w = w} h) =
    no_operator (bar_ ∷ name (codes "head") ∷ c) (bar_ ∷ name w ∷ b) (LeftOut w (suc (length b))) (of (bar_)) (of (bar_)) read read' l (chain_from of read l n) (chain_from of read' l n') a (bar_) (bar_) (name (codes "head") ∷ c) (name w ∷ b) z.6 z.6
at_chain of z read read' l n n' a _ _ _ (for_number {w = w} call c b h args) =
    no_operator (folding w ∷ open_ ∷ (call ++ c)) (name w ∷ open_ ∷ (call ++ b)) (LeftOut (codes "number") (suc (suc (length (call ++ b))))) (of (folding w)) (of (name w)) read read' l (chain_from of read l n) (chain_from of read' l n') a (folding w) (name w) (open_ ∷ (call ++ c)) (open_ ∷ (call ++ b)) (z.7 w) (z.8 w)

pub met_stop : (x y : List Kind) (e : Fail) {A : Type 0} (r : Res A) → Met x y e r (Err e)
met_stop x y e (Ok p) = inr refl
met_stop x y e (Err f) = tt

pub met_so : (x y : List Kind) (e : Fail) {A : Type 0} (r s : Res A) → s ≡ Err e → Met x y e r s
met_so x y e r s h = subst (λ v. Met x y e r v) (sym h) (met_stop x y e r)

module _ (x y : List Kind) (e : Fail) (st : Instead x y e) where
  met_at : {A B : Type 0} (a : A) (us m : List Kind) (s : Res A) (f g : A → List Kind → Res B) → us ≡ m ++ x → s ≡ Ok (a, m ++ y) → Met x y e (f a (m ++ x)) (g a (m ++ y))
      → Met x y e (f a us) (then_do s g)
  met_at a us m s f g c d h =
      let here : Met x y e (f a us) (g a (m ++ y)) = subst (λ v. Met x y e (f a v) (g a (m ++ y))) (sym c) h in
      subst (λ r. Met x y e (f a us) (then_do r g)) (sym d) here

  -- l bounds what the first part leaves
  pub met_then : {A B : Type 0} (l : ℕ) (r s : Res A) (f g : A → List Kind → Res B) → Short l r → Met x y e r s
      → ((a : A) (m : List Kind) → length (m ++ x) ≤ l → Met x y e (f a (m ++ x)) (g a (m ++ y))) → ((a : A) (us : List Kind) → Short (length us) (f a us))
      → Met x y e (then_do r f) (then_do s g)
  met_then l (Ok p) s f g v h k w =
      ⊎_elim (λ at. met_at p.0 p.1 at.0 s f g at.1 at.2 (k p.0 at.0 (omega (arith, v, ap length at.1)))) (λ stop. met_so x y e (f p.0 p.1) (then_do s g) (ap (λ r. then_do r g) stop)) h
  met_then l (Err f') s f g v h k w = tt

  pub met_map : {A B : Type 0} (f : A → B) (r s : Res A) → Met x y e r s → Met x y e (res_map f r) (res_map f s)
  met_map f (Ok p) s h = ⊎_elim (λ at. inl (at.0, at.1, ap (res_map f) at.2)) (λ stop. inr (ap (res_map f) stop)) h
  met_map f (Err e') s h = tt

  pub stays : {A : Type 0} (a : A) (m : List Kind) → Met x y e (Ok (a, m ++ x)) (Ok (a, m ++ y))
  stays a m = inl (m, refl, refl)

  pub met_if : {A : Type 0} (b : Bool) (r r' s s' : Res A) → Met x y e r r' → Met x y e s s' → Met x y e (if b then r else s) (if b then r' else s')
  met_if true r r' s s' h k = h
  met_if false r r' s s' h k = k

  pub met_at_level : {A : Type 0} (l place place' : ℕ) (r s : Res A) → Met x y e r s → Met x y e (at_level l place r) (at_level l place' s)
  met_at_level zero place place' r s h = tt
  met_at_level (suc l) place place' r s h = h

  pub met_above : {A : Type 0} (l : ℕ) (a : Tree) (place place' : ℕ) (r s : Res A) → Met x y e r s → Met x y e (above l a place r) (above l a place' s)
  met_above l a place place' r s h = met_if (nat_lt (depth a) l) r s (Err (TooDeep place)) (Err (TooDeep place')) h tt

  pub met_closing : {A : Type 0} (a : A) (m : List Kind) → Met x y e (closing a (m ++ x)) (closing a (m ++ y))
  met_closing a [] = at_closing a x y e st
  met_closing a (close_ ∷ m) = stays a m
  met_closing a (k ∷ m) = tt

  pub met_closed : {A : Type 0} (l : ℕ) (r s : Res A) → Short l r → Met x y e r s → Met x y e (then_do r closing) (then_do s closing)
  met_closed l r s w h = met_then l r s closing closing w h (λ a m b. met_closing a m) short_closing

  -- where the first may open a parenthesis, the second may
  pub met_enter : {A : Type 0} (d d' : ℕ) (place place' : ℕ) (r s : Res A) → d ≤ d' → (0 < d → Met x y e r s)
      → Met x y e (if room_for d then r else Err (TooOpen place)) (if room_for d' then s else Err (TooOpen place'))
  met_enter zero d' place place' r s le h = tt
  met_enter (suc d) zero place place' r s le h = absurd (omega (arith, le))
  met_enter (suc d) (suc d') place place' r s le h = h (omega arith)

  met_part : (again again' : List ℕ → List Kind → Res (List ℕ)) (n n' : ℕ) (w : List ℕ) (p : Option (List ℕ)) (m : List Kind)
      → ((v : List ℕ) (q : List Kind) → length (q ++ x) ≤ n → length (q ++ y) ≤ n' → Met x y e (again v (q ++ x)) (again' v (q ++ y)))
      → length (m ++ x) ≤ n → length (m ++ y) ≤ n' → Met x y e (dotted_part again w p (m ++ x)) (dotted_part again' w p (m ++ y))
  met_part again again' n n' w None m h k l = tt
  met_part again again' n n' w (Some p) m h k l = h (w ++ 46 ∷ p) m k l

  met_dot : (n n' : ℕ) (w : List ℕ) (m : List Kind)
      → ((v : List ℕ) (q : List Kind) → length (q ++ x) ≤ n → length (q ++ y) ≤ n' → Met x y e (dotted n v (q ++ x)) (dotted n' v (q ++ y)))
      → length (m ++ x) ≤ suc n → length (m ++ y) ≤ suc n' → Met x y e (behind_dot (dotted n) w (m ++ x)) (behind_dot (dotted n') w (m ++ y))
  met_dot n n' w [] h k l = at_dot (dotted n) (dotted n') w x y e st
  met_dot n n' w (k' ∷ m) h k l = met_part (dotted n) (dotted n') n n' w (part k') m h (omega (arith, k)) (omega (arith, l))

  met_dotted : (n n' : ℕ) (w : List ℕ) (m : List Kind) → length (m ++ x) ≤ n → length (m ++ y) ≤ n' → Met x y e (dotted n w (m ++ x)) (dotted n' w (m ++ y))
  unfolding dotted
  met_dotted zero n' w m k l = absurd (omega (arith, k, x_full x y e st, length-append m x))
  met_dotted (suc n) zero w m k l = absurd (omega (arith, l, y_full x y e st, length-append m y))
  met_dotted (suc n) (suc n') w [] k l = at_dotted n n' w x y e st
  met_dotted (suc n) (suc n') w (dot_ ∷ m) k l = met_dot n n' w m (λ v q. met_dotted n n' v q) (omega (arith, k)) (omega (arith, l))
  met_dotted (suc n) (suc n') w (k' ∷ m) k l = stays w (k' ∷ m)

  pub met_named_by : (optional : Bool) (p : Option (List ℕ)) (m : List Kind) → Met x y e (named_by optional p (m ++ x)) (named_by optional p (m ++ y))
  met_named_by optional None m = tt
  met_named_by optional (Some w) m =
      met_map (λ n. record { name = n; optional = optional }) (dotted (length (m ++ x)) w (m ++ x)) (dotted (length (m ++ y)) w (m ++ y))
      (met_dotted (length (m ++ x)) (length (m ++ y)) w m (omega arith) (omega arith))

  pub met_named : (optional : Bool) (m : List Kind) → Met x y e (named_field optional (m ++ x)) (named_field optional (m ++ y))
  met_named optional [] = at_named optional x y e st
  met_named optional (k ∷ m) = met_named_by optional (first_part k) m

  pub met_field : (m : List Kind) → Met x y e (field (m ++ x)) (field (m ++ y))
  met_field [] = at_field x y e st
  met_field (question_ ∷ m) = met_named true m
  met_field (k ∷ m) = met_named false (k ∷ m)

  pub met_text : (m : List Kind) → Met x y e (text_at (m ++ x)) (text_at (m ++ y))
  met_text [] = at_text x y e st
  met_text (text s ∷ m) = stays s m
  met_text (_ ∷ m) = tt

  met_negative : (m : List Kind) → Met x y e (negative_at (m ++ x)) (negative_at (m ++ y))
  met_negative [] = at_negative x y e st
  met_negative (number n ∷ m) = stays (value.Long (neg_ℤ n)) m
  met_negative (_ ∷ m) = tt

  pub met_literal : (m : List Kind) → Met x y e (literal (m ++ x)) (literal (m ++ y))
  met_literal [] = at_literal x y e st
  met_literal (number n ∷ m) = stays (value.Long n) m
  met_literal (adds Sub ∷ m) = met_negative m
  met_literal (text s ∷ m) = stays (value.Text s) m
  met_literal (true_ ∷ m) = stays (value.Bool true) m
  met_literal (false_ ∷ m) = stays (value.Bool false) m
  met_literal (_ ∷ m) = tt

  pub met_call_of : (w : List ℕ) (place place' : ℕ) (es : List Tree) (m : List Kind) → Met x y e (call_of w place es (m ++ x)) (call_of w place' es (m ++ y))
  met_call_of w place place' es m =
      met_if (is_left_out_call w (trees_of es)) _ _ (Ok (t.call w false (trees_of es), m ++ x)) (Ok (t.call w false (trees_of es), m ++ y)) tt (stays (t.call w false (trees_of es)) m)

-- several with something between
module _ (x y : List Kind) (e : Fail) (st : Instead x y e) {A : Type 0} (d : ℕ) (is : Kind → Bool) (o : is open_ ≡ false) (c : is close_ ≡ false) (z : Between is) (read read' : List Kind → Res A)
    (told : (us : List Kind) → Told d us (read us)) (agrees : (m : List Kind) → Met x y e (read (m ++ x)) (read' (m ++ y))) where
  short_more : (n : ℕ) (a : A) (us : List Kind) → Short (length us) (more_of is (separated is read n) a us)
  short_more n a us = short d us (more_of is (separated is read n) a us) (told_more d is (separated is read n) a us o c (λ vs. told_separated d is read n vs o c told))

  met_more : (n n' : ℕ) (a : A) (m : List Kind)
      → ((p : List Kind) → length (p ++ x) ≤ n → length (p ++ y) ≤ n' → Met x y e (separated is read n (p ++ x)) (separated is read' n' (p ++ y)))
      → length (m ++ x) ≤ suc n → length (m ++ y) ≤ suc n' → Met x y e (more_of is (separated is read n) a (m ++ x)) (more_of is (separated is read' n') a (m ++ y))
  met_more n n' a [] h k l = at_more is z (separated is read n) (separated is read' n') a x y e st
  met_more n n' a (k' ∷ m) h k l =
      met_if x y e st (is k') (res_map (λ xs. a ∷ xs) (separated is read n (m ++ x))) (res_map (λ xs. a ∷ xs) (separated is read' n' (m ++ y))) (Ok (a ∷ [], k' ∷ (m ++ x))) (Ok (a ∷ [], k' ∷ (m ++ y)))
      (met_map x y e st (λ xs. a ∷ xs) (separated is read n (m ++ x)) (separated is read' n' (m ++ y)) (h m (omega (arith, k)) (omega (arith, l))))
      (stays x y e st (a ∷ []) (k' ∷ m))

  pub met_separated : (n n' : ℕ) (m : List Kind) → length (m ++ x) ≤ n → length (m ++ y) ≤ n' → Met x y e (separated is read n (m ++ x)) (separated is read' n' (m ++ y))
  unfolding separated
  met_separated zero n' m k l = tt
  met_separated (suc n) zero m k l = absurd (omega (arith, l, y_full x y e st, length-append m y))
  met_separated (suc n) (suc n') m k l =
      met_then x y e st (length (m ++ x)) (read (m ++ x)) (read' (m ++ y)) (more_of is (separated is read n)) (more_of is (separated is read' n')) (short d (m ++ x) (read (m ++ x)) (told (m ++ x))) (agrees m)
      (λ a p b. met_more n n' a p (met_separated n n') (omega (arith, b, k)) (longer x y m p (suc n') b l)) (short_more n)

  pub met_listed_by : (m : List Kind) → Met x y e (separated is read (length (m ++ x)) (m ++ x)) (separated is read' (length (m ++ y)) (m ++ y))
  met_listed_by m = met_separated (length (m ++ x)) (length (m ++ y)) m (omega arith) (omega arith)

pub met_listed : (x y : List Kind) (e : Fail) → Instead x y e → {A : Type 0} (d : ℕ) (read read' : List Kind → Res A) → ((us : List Kind) → Told d us (read us))
    → ((m : List Kind) → Met x y e (read (m ++ x)) (read' (m ++ y))) → (m : List Kind) → Met x y e (comma_list read (m ++ x)) (comma_list read' (m ++ y))
met_listed x y e st d read read' told agrees m =
    met_listed_by x y e st d is_comma refl refl (refl, refl, refl, refl, refl, refl, refl, λ w. refl, λ w. refl) read read' told agrees m

-- operands from the left, and one operand or several joined in one node
module _ (x y : List Kind) (e : Fail) (st : Instead x y e) (d : ℕ) (read read' : ℕ → List Kind → Res Tree) (told : (l : ℕ) (us : List Kind) → Told d us (read l us))
    (agrees : (l : ℕ) (m : List Kind) → Met x y e (read l (m ++ x)) (read' l (m ++ y))) where
  short_read : (l : ℕ) (us : List Kind) → Short (length us) (read l us)
  short_read l us = short d us (read l us) (told l us)

  met_chain_on : (l : ℕ) (again again' : Tree → List Kind → Res Tree) (n n' : ℕ) (a : Tree) (p : Option MathOp) (k : Kind) (m : List Kind)
      → ((b : Tree) (q : List Kind) → length (q ++ x) ≤ n → length (q ++ y) ≤ n' → Met x y e (again b (q ++ x)) (again' b (q ++ y))) → ((b : Tree) (us : List Kind) → Short (length us) (again b us))
      → length (m ++ x) ≤ n → length (m ++ y) ≤ n' → Met x y e (chain_on read l again a p k (m ++ x)) (chain_on read' l again' a p k (m ++ y))
  met_chain_on l again again' n n' a None k m h w i j = stays x y e st a (k ∷ m)
  met_chain_on l again again' n n' a (Some o) k m h w i j =
      met_above x y e st l a (suc (length (m ++ x))) (suc (length (m ++ y))) (then_do (read (l - 1) (m ++ x)) (λ b vs. again (t.math o a b) vs)) (then_do (read' (l - 1) (m ++ y)) (λ b vs. again' (t.math o a b) vs))
      (met_then x y e st (length (m ++ x)) (read (l - 1) (m ++ x)) (read' (l - 1) (m ++ y)) (λ b vs. again (t.math o a b) vs) (λ b vs. again' (t.math o a b) vs) (short_read (l - 1) (m ++ x)) (agrees (l - 1) m)
      (λ b q e. h (t.math o a b) q (omega (arith, e, i)) (longer x y m q n' e j)) (λ b vs. w (t.math o a b) vs))

  short_chain : (operator : Kind → Option MathOp) (o : operator open_ ≡ None) (c : operator close_ ≡ None) (l n : ℕ) (a : Tree) (us : List Kind) → Short (length us) (chain_from operator read l n a us)
  short_chain operator o c l n a us = short d us (chain_from operator read l n a us) (told_chain_from d operator read o c told l n a us)

  met_chain_from : (operator : Kind → Option MathOp) (o : operator open_ ≡ None) (c : operator close_ ≡ None) (z : Operator operator) (l n n' : ℕ) (a : Tree) (m : List Kind)
      → length (m ++ x) ≤ n → length (m ++ y) ≤ n' → Met x y e (chain_from operator read l n a (m ++ x)) (chain_from operator read' l n' a (m ++ y))
  unfolding chain_from
  met_chain_from operator o c z l zero n' a m k j = absurd (omega (arith, k, x_full x y e st, length-append m x))
  met_chain_from operator o c z l (suc n) zero a m k j = absurd (omega (arith, j, y_full x y e st, length-append m y))
  met_chain_from operator o c z l (suc n) (suc n') a [] k j = at_chain operator z read read' l n n' a x y e st
  met_chain_from operator o c z l (suc n) (suc n') a (k' ∷ m) k j =
      met_chain_on l (chain_from operator read l n) (chain_from operator read' l n') n n' a (operator k') k' m (λ b q. met_chain_from operator o c z l n n' b q)
      (λ b us. short_chain operator o c l n b us) (omega (arith, k)) (omega (arith, j))

  pub met_chain : (operator : Kind → Option MathOp) (o : operator open_ ≡ None) (c : operator close_ ≡ None) (z : Operator operator) (l : ℕ) (m : List Kind) → Met x y e (chain operator read l (m ++ x)) (chain operator read' l (m ++ y))
  met_chain operator o c z l m =
      met_then x y e st (length (m ++ x)) (read l (m ++ x)) (read' l (m ++ y)) (λ a us. chain_from operator read l (length us) a us) (λ a us. chain_from operator read' l (length us) a us) (short_read l (m ++ x)) (agrees l m)
      (λ a p b. met_chain_from operator o c z l (length (p ++ x)) (length (p ++ y)) a p (omega arith) (omega arith)) (λ a us. short_chain operator o c l (length us) a us)

  pub met_joined : (is : Kind → Bool) (node : Trees → Tree) (o : is open_ ≡ false) (c : is close_ ≡ false) (z : Between is) (l : ℕ) (a : Tree) (m : List Kind)
      → Met x y e (joined_operands is node read l a (m ++ x)) (joined_operands is node read' l a (m ++ y))
  met_joined is node o c z l a [] = at_joined is z node read read' l a x y e st
  met_joined is node o c z l a (k ∷ m) =
      met_if x y e st (is k) (above l a (suc (length (m ++ x))) (res_map (λ es. node (more a (trees_of es))) (separated is (read (l - 1)) (length (m ++ x)) (m ++ x))))
      (above l a (suc (length (m ++ y))) (res_map (λ es. node (more a (trees_of es))) (separated is (read' (l - 1)) (length (m ++ y)) (m ++ y)))) (Ok (a, k ∷ (m ++ x))) (Ok (a, k ∷ (m ++ y)))
      (met_above x y e st l a (suc (length (m ++ x))) (suc (length (m ++ y))) (res_map (λ es. node (more a (trees_of es))) (separated is (read (l - 1)) (length (m ++ x)) (m ++ x)))
      (res_map (λ es. node (more a (trees_of es))) (separated is (read' (l - 1)) (length (m ++ y)) (m ++ y)))
      (met_map x y e st (λ es. node (more a (trees_of es))) (separated is (read (l - 1)) (length (m ++ x)) (m ++ x)) (separated is (read' (l - 1)) (length (m ++ y)) (m ++ y))
      (met_listed_by x y e st d is o c z (read (l - 1)) (read' (l - 1)) (told (l - 1)) (agrees (l - 1)) m)))
      (stays x y e st a (k ∷ m))
