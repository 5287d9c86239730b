-- Two runs of the descent over queries that begin alike, where the second goes on with a left-out form: it stops there where the first is read to its end.
use Rattle.std.proofs.Common.{◌≡◌, ℕ, zero, suc, ◌<◌, ◌≤◌, Bool, true, false, if◌then◌else◌, ◌||◌, ◌⊎◌, ⊎_elim, inl, inr, List, [], ◌∷◌, ◌++◌, length, Option, Some, None, Ok, Err, refl, sym, ap, subst, ◌∙◌, arith, length-append, codes}
use Rattle.std.specs.Prelude.{ℤ, pos}
use Rattle.std.specs.Str.{bytes_eq}
use Rattle.std.proofs.lemmas.Slice.Eq.{bytes_eq-Decides}
use Rattle.eql_query.specs.declared.expr.FieldRef.{FieldRef}
use Rattle.eql_query.specs.declared.query.Span.{Span}
use Rattle.eql_query.specs.declared.query.Unit.{Unit as TimeUnit}
use Rattle.eql_query.specs.declared.query.PipeText.{PipeText}
use Rattle.eql_query.specs.Tree.{Tree}
use Rattle.eql_query.specs.Tree as t
use Rattle.eql_query.specs.QueryTree.{TermTree, BodyTree, event, sequence, QueryTree}
use Rattle.eql_parser.specs.Kinds.{Kind, any_, assign_, bang_, bar_, by_, close_item_, join_, matches, null_, sample_, sequence_, until_, where_, with_, name, folding, number, open_item_}
use Rattle.eql_parser.specs.QueryGrammar.{category, is_fine_unit, pipe_of, unit_of}
use Rattle.eql_query.specs.declared.expr.PatOp.TheVariants.{Colon}
use Rattle.eql_parser.specs.Reading.{Fail, Syntax, LeftOut, TooDeep, Res, then_do, res_map, field, expr, chain_from, unary, neg}
use Rattle.eql_parser.specs.QueryReading as q
use Rattle.eql_parser.specs.QueryReading.{Conditioned, behind_expected, is_where, is_maxspan, is_runs, is_assign, is_open_item, is_close_item, number_at, term_tree_of, items_more, unit_named, unit_at, pipe_named, behind_term, behind_body}
use Rattle.eql_parser.proofs.Told.{told_field}
use Rattle.eql_parser.proofs.ToldExpr.{expr_told}
use Rattle.eql_parser.proofs.Agrees.{short_map, longer}
use Rattle.eql_parser.proofs.AgreesExpr.{expr_agrees}
use Rattle.eql_parser.proofs.Local.{Left, left_item, short_pipe, short_pipes}
use Rattle.eql_parser.proofs.Meeting.{Instead, for_regex, for_folding_regex, for_missing, for_unit, for_pipe, for_number, x_full, y_full, Met, met_so, met_then, met_map, met_if, stays, met_field, met_listed}
use Rattle.eql_parser.proofs.MeetingExpr.{expr_met}

-- nothing of a query but pipes may follow, and no pipe does
abbrev pub Stuck : List Kind → Type 0
Stuck (name w ∷ ts) = Unit {0}
Stuck (with_ ∷ ts) = Unit {0}
Stuck _ = ⊥

-- As `Met`, but the first run may also have read to where it can't go on.
abbrev pub Meets : (x y : List Kind) → Fail → {A : Type 0} → Res A → Res A → Type 0
Meets x y e (Ok p) s = ((m : List Kind) × (p.1 ≡ m ++ x) × (s ≡ Ok (p.0, m ++ y))) ⊎ ((s ≡ Err e) ⊎ Stuck p.1)
Meets x y e (Err f) s = Unit {0}

meets : (x y : List Kind) (e : Fail) {A : Type 0} (r s : Res A) → Met x y e r s → Meets x y e r s
meets x y e (Ok p) s h = ⊎_elim (λ at. inl at) (λ stop. inr (inl stop)) h
meets x y e (Err f) s h = tt

meets_stop : (x y : List Kind) (e : Fail) {A : Type 0} (r s : Res A) → s ≡ Err e → Meets x y e r s
meets_stop x y e r s h = meets x y e r s (met_so x y e r s h)

meets_map : (x y : List Kind) (e : Fail) {A B : Type 0} (f : A → B) (r s : Res A) → Meets x y e r s → Meets x y e (res_map f r) (res_map f s)
meets_map x y e f (Ok p) s h =
    ⊎_elim (λ at. inl (at.0, at.1, ap (res_map f) at.2)) (λ other. ⊎_elim (λ stop. inr (inl (ap (res_map f) stop))) (λ stuck. inr (inr stuck)) other) h
meets_map x y e f (Err f') s h = tt

meets_at : (x y : List Kind) (e : Fail) {A B : Type 0} (a : A) (us m : List Kind) (s : Res A) (f g : A → List Kind → Res B) → us ≡ m ++ x → s ≡ Ok (a, m ++ y)
    → Meets x y e (f a (m ++ x)) (g a (m ++ y)) → Meets x y e (f a us) (then_do s g)
meets_at x y e a us m s f g c d h =
    let here : Meets x y e (f a us) (g a (m ++ y)) = subst (λ v. Meets x y e (f a v) (g a (m ++ y))) (sym c) h in
    subst (λ r. Meets x y e (f a us) (then_do r g)) (sym d) here

-- l bounds what the first part leaves
meets_then : (x y : List Kind) (e : Fail) {A B : Type 0} (l : ℕ) (r s : Res A) (f g : A → List Kind → Res B) → Left l r → Meets x y e r s
    → ((a : A) (m : List Kind) → length (m ++ x) ≤ l → Meets x y e (f a (m ++ x)) (g a (m ++ y))) → ((a : A) (us : List Kind) (t : Res B) → Stuck us → Meets x y e (f a us) t)
    → Meets x y e (then_do r f) (then_do s g)
meets_then x y e l (Ok p) s f g v h k w =
    ⊎_elim (λ at. meets_at x y e p.0 p.1 at.0 s f g at.1 at.2 (k p.0 at.0 (omega (arith, v, ap length at.1))))
    (λ other. ⊎_elim (λ stop. meets_stop x y e (f p.0 p.1) (then_do s g) (ap (λ r. then_do r g) stop)) (λ stuck. w p.0 p.1 (then_do s g) stuck) other) h
meets_then x y e l (Err f') s f g v h k w = tt

-- with no bound
then_meets : (x y : List Kind) (e : Fail) {A B : Type 0} (r s : Res A) (f g : A → List Kind → Res B) → Meets x y e r s
    → ((a : A) (m : List Kind) → Meets x y e (f a (m ++ x)) (g a (m ++ y))) → ((a : A) (us : List Kind) (t : Res B) → Stuck us → Meets x y e (f a us) t)
    → Meets x y e (then_do r f) (then_do s g)
then_meets x y e (Ok p) s f g h k w =
    ⊎_elim (λ at. meets_at x y e p.0 p.1 at.0 s f g at.1 at.2 (k p.0 at.0))
    (λ other. ⊎_elim (λ stop. meets_stop x y e (f p.0 p.1) (then_do s g) (ap (λ r. then_do r g) stop)) (λ stuck. w p.0 p.1 (then_do s g) stuck) other) h
then_meets x y e (Err f') s f g h k w = tt

met_meets : (x y : List Kind) (e : Fail) {A B : Type 0} (r s : Res A) (f g : A → List Kind → Res B) → Met x y e r s
    → ((a : A) (m : List Kind) → Meets x y e (f a (m ++ x)) (g a (m ++ y))) → Meets x y e (then_do r f) (then_do s g)
met_meets x y e (Ok p) s f g h k =
    ⊎_elim (λ at. meets_at x y e p.0 p.1 at.0 s f g at.1 at.2 (k p.0 at.0)) (λ stop. meets_stop x y e (f p.0 p.1) (then_do s g) (ap (λ r. then_do r g) stop)) h
met_meets x y e (Err f') s f g h k = tt

then_met : (x y : List Kind) (e : Fail) {A B : Type 0} (r s : Res A) (f g : A → List Kind → Res B) → Met x y e r s
    → ((a : A) (m : List Kind) → Met x y e (f a (m ++ x)) (g a (m ++ y))) → Met x y e (then_do r f) (then_do s g)
then_met x y e (Ok p) s f g h k =
    ⊎_elim
    (λ at. subst (λ t. Met x y e (f p.0 p.1) (then_do t g)) (sym at.2) (subst (λ v. Met x y e (f p.0 v) (g p.0 (at.0 ++ y))) (sym at.1) (k p.0 at.0)))
    (λ stop. met_so x y e (f p.0 p.1) (then_do s g) (ap (λ r. then_do r g) stop)) h
then_met x y e (Err f') s f g h k = tt

-- a unit that is left out is none of those that are read
fine_word : (w : List ℕ) → is_fine_unit w ≡ true → unit_of w ≡ None
fine_word w h = either (bytes_eq w (codes "micros")) (bytes_eq w (codes "nanos")) refl refl h
  where
    either : (a b : Bool) → bytes_eq w (codes "micros") ≡ a → bytes_eq w (codes "nanos") ≡ b → a || b ≡ true → unit_of w ≡ None
    either true b p q r = ap unit_of ((bytes_eq-Decides w (codes "micros")).0 p)
    either false true p q r = ap unit_of ((bytes_eq-Decides w (codes "nanos")).0 q)
    either false false p q r = absurd cc

left_out_unit : (n : ℤ) (w : List ℕ) (b : List Kind) → is_fine_unit w ≡ true → unit_named n w (unit_of w) b ≡ Err (LeftOut w (suc (length b)))
left_out_unit n w b h = ap (λ u. unit_named n w u b) (fine_word w h) ∙ ap (λ f. Err (if f then LeftOut w (suc (length b)) else Syntax (suc (length b)))) h

left_out_pipe : (w : List ℕ) (b : List Kind) → pipe_of w ≡ None → pipe_named w (pipe_of w) b ≡ Err (LeftOut w (suc (length b)))
left_out_pipe w b h = ap (λ p. pipe_named w p b) h

if_not : (x y : List Kind) (e : Fail) {A : Type 0} (b : Bool) (r s : Res A) (f : Fail) → b ≡ false → Met x y e (if b then r else Err f) s
if_not x y e false r s f h = tt
if_not x y e true r s f h = absurd cc

abbrev Unasked : (Kind → Bool) → Type 0
Unasked is = (is (matches Colon) ≡ false) × (is open_item_ ≡ false) × (is assign_ ≡ false) × (is bar_ ≡ false) × ((w : List ℕ) → is (folding w) ≡ false)

at_expected : {A : Type 0} (is : Kind → Bool) → Unasked is → (go go' : List Kind → Res A) (x y : List Kind) (e : Fail) → Instead x y e → Met x y e (behind_expected is go x) (behind_expected is go' y)
at_expected is z go go' _ _ _ for_regex = if_not _ _ _ _ (go _) _ _ z.0
at_expected is z go go' _ _ _ for_folding_regex = if_not _ _ _ _ (go _) _ _ z.0
at_expected is z go go' _ _ _ for_missing = if_not _ _ _ _ (go _) _ _ z.1
at_expected is z go go' _ _ _ (for_unit h) = if_not _ _ _ _ (go _) _ _ z.2
at_expected is z go go' _ _ _ (for_pipe h) = if_not _ _ _ _ (go _) _ _ z.3
at_expected is z go go' _ _ _ (for_number {w = w} call c b h args) = if_not _ _ _ _ (go _) _ _ (z.4 w)

at_number : (x y : List Kind) (e : Fail) → Instead x y e → Met x y e (number_at x) (number_at y)
at_number _ _ _ for_regex = tt
at_number _ _ _ for_folding_regex = tt
at_number _ _ _ for_missing = tt
at_number _ _ _ (for_unit h) = tt
at_number _ _ _ (for_pipe h) = tt
at_number _ _ _ (for_number call c b h args) = tt

at_unit : (n : ℤ) (x y : List Kind) (e : Fail) → Instead x y e → Met x y e (unit_at n x) (unit_at n y)
at_unit n _ _ _ for_regex = tt
at_unit n _ _ _ for_folding_regex = tt
at_unit n _ _ _ for_missing = tt
at_unit n _ _ _ (for_unit h) = tt
at_unit n _ _ _ (for_pipe h) = tt
at_unit n _ _ _ (for_number call c b h args) = tt

at_keys : (x y : List Kind) (e : Fail) → Instead x y e → Met x y e (q.keys x) (q.keys y)
at_keys _ _ _ for_regex = inl ([], refl, refl)
at_keys _ _ _ for_folding_regex = inl ([], refl, refl)
at_keys _ _ _ for_missing = inl ([], refl, refl)
at_keys _ _ _ (for_unit h) = inl ([], refl, refl)
at_keys _ _ _ (for_pipe h) = inl ([], refl, refl)
at_keys _ _ _ (for_number call c b h args) = inl ([], refl, refl)

at_runs : (x y : List Kind) (e : Fail) → Instead x y e → Meets x y e (q.runs x) (q.runs y)
at_runs _ _ _ for_regex = inl ([], refl, refl)
at_runs _ _ _ for_folding_regex = inl ([], refl, refl)
at_runs _ _ _ for_missing = inl ([], refl, refl)
at_runs _ _ _ (for_unit h) = inl ([], refl, refl)
at_runs _ _ _ (for_pipe h) = inl ([], refl, refl)
at_runs _ _ _ (for_number call c b h args) = inl ([], refl, refl)

-- behind `with runs` a number of runs is read where a length could be
at_assigned : (x y : List Kind) (e : Fail) → Instead x y e → Meets x y e (behind_expected is_assign number_at x) (behind_expected is_assign number_at y)
at_assigned _ _ _ for_regex = tt
at_assigned _ _ _ for_folding_regex = tt
at_assigned _ _ _ for_missing = tt
at_assigned _ _ _ (for_unit h) = inr (inr tt)
at_assigned _ _ _ (for_pipe h) = tt
at_assigned _ _ _ (for_number call c b h args) = tt

abbrev length_at : List Kind → Res (Option Span)
length_at us = then_do (number_at us) unit_at

at_length : (x y : List Kind) (e : Fail) → Instead x y e → Met x y e (behind_expected is_assign length_at x) (behind_expected is_assign length_at y)
at_length _ _ _ for_regex = tt
at_length _ _ _ for_folding_regex = tt
at_length _ _ _ for_missing = tt
at_length _ _ _ (for_unit {c = c} {b = b} {n = n} {w = w} h) =
    met_so (assign_ ∷ number n ∷ name (codes "s") ∷ c) (assign_ ∷ number n ∷ name w ∷ b) (LeftOut w (suc (length b))) (unit_named n (codes "s") (unit_of (codes "s")) c) (unit_named n w (unit_of w) b) (left_out_unit n w b h)
at_length _ _ _ (for_pipe h) = tt
at_length _ _ _ (for_number call c b h args) = tt

at_span : (x y : List Kind) (e : Fail) → Instead x y e → Met x y e (q.span x) (q.span y)
at_span _ _ _ for_regex = inl ([], refl, refl)
at_span _ _ _ for_folding_regex = inl ([], refl, refl)
at_span _ _ _ for_missing = inl ([], refl, refl)
at_span _ _ _ (for_unit h) = inl ([], refl, refl)
at_span _ _ _ (for_pipe h) = inl ([], refl, refl)
at_span _ _ _ (for_number call c b h args) = inl ([], refl, refl)

at_pipe : (x y : List Kind) (e : Fail) → Instead x y e → Met x y e (q.pipe x) (q.pipe y)
at_pipe _ _ _ for_regex = tt
at_pipe _ _ _ for_folding_regex = tt
at_pipe _ _ _ for_missing = tt
at_pipe _ _ _ (for_unit h) = tt
at_pipe _ _ _ (for_pipe h) = tt
at_pipe _ _ _ (for_number call c b h args) = tt

stop_pipe : (n : ℕ) (w : List ℕ) (b : List Kind) → pipe_of w ≡ None → q.pipes (suc n) (bar_ ∷ name w ∷ b) ≡ Err (LeftOut w (suc (length b)))
unfolding q.pipes
stop_pipe n w b h = ap (λ r. then_do r (λ p us. res_map (λ ps. p ∷ ps) (q.pipes n us))) (left_out_pipe w b h)

at_pipes : (n n' : ℕ) (x y : List Kind) (e : Fail) → Instead x y e → length y ≤ n' → Met x y e (q.pipes n x) (q.pipes n' y)
unfolding q.pipes
at_pipes n zero x y e st i = absurd (omega (arith, i, y_full x y e st))
at_pipes zero (suc n') _ _ _ for_regex i = tt
at_pipes zero (suc n') _ _ _ for_folding_regex i = tt
at_pipes zero (suc n') _ _ _ for_missing i = tt
at_pipes zero (suc n') _ _ _ (for_unit h) i = tt
at_pipes zero (suc n') _ _ _ (for_pipe h) i = tt
at_pipes zero (suc n') _ _ _ (for_number call c b h args) i = tt
at_pipes (suc n) (suc n') _ _ _ for_regex i = tt
at_pipes (suc n) (suc n') _ _ _ for_folding_regex i = tt
at_pipes (suc n) (suc n') _ _ _ for_missing i = tt
at_pipes (suc n) (suc n') _ _ _ (for_unit h) i = tt
at_pipes (suc n) (suc n') _ _ _ (for_pipe {c = c} {b = b} {w = w} h) i =
    met_so (bar_ ∷ name (codes "head") ∷ c) (bar_ ∷ name w ∷ b) (LeftOut w (suc (length b))) (q.pipes (suc n) (bar_ ∷ name (codes "head") ∷ c)) (q.pipes (suc n') (bar_ ∷ name w ∷ b)) (stop_pipe n' w b h)
at_pipes (suc n) (suc n') _ _ _ (for_number call c b h args) i = tt

at_items_more : (again again' : List Kind → Res (List TermTree)) (i : TermTree) (x y : List Kind) (e : Fail) → Instead x y e → Meets x y e (items_more again i x) (items_more again' i y)
at_items_more again again' i _ _ _ for_regex = inl ([], refl, refl)
at_items_more again again' i _ _ _ for_folding_regex = inl ([], refl, refl)
at_items_more again again' i _ _ _ (for_missing {c = c} {b = b}) =
    meets_stop (open_item_ ∷ any_ ∷ where_ ∷ null_ ∷ close_item_ ∷ with_ ∷ c) (bang_ ∷ open_item_ ∷ b) (LeftOut (codes "!") (suc (suc (length b)))) (items_more again i (open_item_ ∷ any_ ∷ where_ ∷ null_ ∷ close_item_ ∷ with_ ∷ c)) (items_more again' i (bang_ ∷ open_item_ ∷ b)) refl
at_items_more again again' i _ _ _ (for_unit h) = inl ([], refl, refl)
at_items_more again again' i _ _ _ (for_pipe h) = inl ([], refl, refl)
at_items_more again again' i _ _ _ (for_number call c b h args) = inl ([], refl, refl)

at_bang : (again again' : List Kind → Res (List TermTree)) (i : TermTree) (x y : List Kind) (e : Fail) → Instead x y e → Meets x y e (items_more again i (bang_ ∷ x)) (items_more again' i (bang_ ∷ y))
at_bang again again' i _ _ _ for_regex = inl (bang_ ∷ [], refl, refl)
at_bang again again' i _ _ _ for_folding_regex = inl (bang_ ∷ [], refl, refl)
at_bang again again' i _ _ _ for_missing = tt
at_bang again again' i _ _ _ (for_unit h) = inl (bang_ ∷ [], refl, refl)
at_bang again again' i _ _ _ (for_pipe h) = inl (bang_ ∷ [], refl, refl)
at_bang again again' i _ _ _ (for_number call c b h args) = inl (bang_ ∷ [], refl, refl)

-- what is stuck stays so, up to the pipes
stuck_more : (x y : List Kind) (e : Fail) (again : List Kind → Res (List TermTree)) (i : TermTree) (us : List Kind) (t : Res (List TermTree)) → Stuck us → Meets x y e (items_more again i us) t
stuck_more x y e again i (name w ∷ us) t h = inr (inr tt)
stuck_more x y e again i (with_ ∷ us) t h = inr (inr tt)
stuck_more x y e again i [] t h = absurd h
stuck_more x y e again i (_ ∷ us) t h = absurd h

stuck_body : (x y : List Kind) (e : Fail) (b : BodyTree) (us : List Kind) (t : Res QueryTree) → Stuck us → Meets x y e (behind_body b us) t
unfolding q.pipes
stuck_body x y e b (name w ∷ us) t h = tt
stuck_body x y e b (with_ ∷ us) t h = tt
stuck_body x y e b [] t h = absurd h
stuck_body x y e b (_ ∷ us) t h = absurd h

module _ (x y : List Kind) (e : Fail) (st : Instead x y e) where
  met_expected : {A : Type 0} (is : Kind → Bool) (go go' : List Kind → Res A) (m : List Kind) → Met x y e (behind_expected is go x) (behind_expected is go' y)
      → ((p : List Kind) → Met x y e (go (p ++ x)) (go' (p ++ y))) → Met x y e (behind_expected is go (m ++ x)) (behind_expected is go' (m ++ y))
  met_expected is go go' [] w h = w
  met_expected is go go' (k ∷ m) w h = met_if x y e st (is k) (go (m ++ x)) (go' (m ++ y)) (Err (Syntax (suc (length (m ++ x))))) (Err (Syntax (suc (length (m ++ y))))) (h m) tt

  meets_if : {A : Type 0} (b : Bool) (r r' : Res A) (f f' : Fail) → Meets x y e r r' → Meets x y e (if b then r else Err f) (if b then r' else Err f')
  meets_if true r r' f f' h = h
  meets_if false r r' f f' h = tt

  meets_expected : {A : Type 0} (is : Kind → Bool) (go go' : List Kind → Res A) (m : List Kind) → Meets x y e (behind_expected is go x) (behind_expected is go' y)
      → ((p : List Kind) → Meets x y e (go (p ++ x)) (go' (p ++ y))) → Meets x y e (behind_expected is go (m ++ x)) (behind_expected is go' (m ++ y))
  meets_expected is go go' [] w h = w
  meets_expected is go go' (k ∷ m) w h = meets_if (is k) (go (m ++ x)) (go' (m ++ y)) (Syntax (suc (length (m ++ x)))) (Syntax (suc (length (m ++ y)))) (h m)

  met_number : (m : List Kind) → Met x y e (number_at (m ++ x)) (number_at (m ++ y))
  met_number [] = at_number x y e st
  met_number (number n ∷ m) = stays x y e st n m
  met_number (_ ∷ m) = tt

  met_keys : (m : List Kind) → Met x y e (q.keys (m ++ x)) (q.keys (m ++ y))
  met_keys [] = at_keys x y e st
  met_keys (by_ ∷ m) = met_listed x y e st 0 field field (told_field 0) (met_field x y e st) m
  met_keys (k ∷ m) = stays x y e st {A = List FieldRef} [] (k ∷ m)

  meets_runs : (m : List Kind) → Meets x y e (q.runs (m ++ x)) (q.runs (m ++ y))
  meets_runs [] = at_runs x y e st
  meets_runs (with_ ∷ m) =
      meets_expected is_runs (behind_expected is_assign number_at) (behind_expected is_assign number_at) m
      (meets x y e (behind_expected is_runs (behind_expected is_assign number_at) x) (behind_expected is_runs (behind_expected is_assign number_at) y) (at_expected is_runs (refl, refl, refl, refl, λ w. refl) (behind_expected is_assign number_at) (behind_expected is_assign number_at) x y e st))
      (λ p. meets_expected is_assign number_at number_at p (at_assigned x y e st) (λ r. meets x y e (number_at (r ++ x)) (number_at (r ++ y)) (met_number r)))
  meets_runs (k ∷ m) = inl (k ∷ m, refl, refl)

  met_behind_term : (c : Conditioned) (m : List Kind) → Met x y e (behind_term c (m ++ x)) (behind_term c (m ++ y))
  met_behind_term c m =
      met_expected is_close_item (λ us. res_map (λ fs. (c, fs)) (q.keys us)) (λ us. res_map (λ fs. (c, fs)) (q.keys us)) m
      (at_expected is_close_item (refl, refl, refl, refl, λ w. refl) (λ us. res_map (λ fs. (c, fs)) (q.keys us)) (λ us. res_map (λ fs. (c, fs)) (q.keys us)) x y e st)
      (λ p. met_map x y e st (λ fs. (c, fs)) (q.keys (p ++ x)) (q.keys (p ++ y)) (met_keys p))

  met_unit_named : (n : ℤ) (w : List ℕ) (u : Option TimeUnit) (m : List Kind) → Met x y e (unit_named n w u (m ++ x)) (unit_named n w u (m ++ y))
  met_unit_named n w (Some u) m = stays x y e st {A = Option Span} (Some (record { count = n; unit = u })) m
  met_unit_named n w None m = tt

  met_unit : (n : ℤ) (m : List Kind) → Met x y e (unit_at n (m ++ x)) (unit_at n (m ++ y))
  met_unit n [] = at_unit n x y e st
  met_unit n (name w ∷ m) = met_unit_named n w (unit_of w) m
  met_unit n (_ ∷ m) = tt

  met_length : (m : List Kind) → Met x y e (length_at (m ++ x)) (length_at (m ++ y))
  met_length m = then_met x y e (number_at (m ++ x)) (number_at (m ++ y)) unit_at unit_at (met_number m) (λ n p. met_unit n p)

  met_span : (m : List Kind) → Met x y e (q.span (m ++ x)) (q.span (m ++ y))
  met_span [] = at_span x y e st
  met_span (with_ ∷ m) =
      met_expected is_maxspan (behind_expected is_assign length_at) (behind_expected is_assign length_at) m
      (at_expected is_maxspan (refl, refl, refl, refl, λ w. refl) (behind_expected is_assign length_at) (behind_expected is_assign length_at) x y e st)
      (λ p. met_expected is_assign length_at length_at p (at_length x y e st) met_length)
  met_span (k ∷ m) = stays x y e st {A = Option Span} None (k ∷ m)

  met_pipe_named : (w : List ℕ) (p : Option (ℤ → PipeText)) (m : List Kind) → Met x y e (pipe_named w p (m ++ x)) (pipe_named w p (m ++ y))
  met_pipe_named w (Some make) m = met_map x y e st make (number_at (m ++ x)) (number_at (m ++ y)) (met_number m)
  met_pipe_named w None m = tt

  met_pipe : (m : List Kind) → Met x y e (q.pipe (m ++ x)) (q.pipe (m ++ y))
  met_pipe [] = at_pipe x y e st
  met_pipe (name w ∷ m) = met_pipe_named w (pipe_of w) m
  met_pipe (_ ∷ m) = tt

  met_pipes : (n n' : ℕ) (m : List Kind) → length (m ++ x) ≤ n → length (m ++ y) ≤ n' → Met x y e (q.pipes n (m ++ x)) (q.pipes n' (m ++ y))
  unfolding q.pipes
  met_pipes n n' [] k l = at_pipes n n' x y e st l
  met_pipes zero n' (k' ∷ m) k l = absurd (omega (arith, k))
  met_pipes (suc n) zero (k' ∷ m) k l = absurd (omega (arith, l))
  met_pipes (suc n) (suc n') (bar_ ∷ m) k l =
      met_then x y e st (length (m ++ x)) (q.pipe (m ++ x)) (q.pipe (m ++ y)) (λ p us. res_map (λ ps. p ∷ ps) (q.pipes n us)) (λ p us. res_map (λ ps. p ∷ ps) (q.pipes n' us)) (short_pipe ⊥ [] [] (m ++ x)) (met_pipe m)
      (λ p r b. met_map x y e st (λ ps. p ∷ ps) (q.pipes n (r ++ x)) (q.pipes n' (r ++ y)) (met_pipes n n' r (omega (arith, b, k)) (longer x y m r n' b (omega (arith, l)))))
      (λ p us. short_map (length us) (λ ps. p ∷ ps) (q.pipes n us) (short_pipes ⊥ [] [] n us))
  met_pipes (suc n) (suc n') (k' ∷ m) k l = tt

  met_behind_body : (b : BodyTree) (m : List Kind) → Met x y e (behind_body b (m ++ x)) (behind_body b (m ++ y))
  met_behind_body b m =
      met_map x y e st (λ ps. record { body = b; pipes = ps }) (q.pipes (length (m ++ x)) (m ++ x)) (q.pipes (length (m ++ y)) (m ++ y))
      (met_pipes (length (m ++ x)) (length (m ++ y)) m (omega arith) (omega arith))

-- a condition that is one `null`
null_read : (d l : ℕ) (us : List Kind) → ((f : Fail) × (expr d l (null_ ∷ close_item_ ∷ us) ≡ Err f)) ⊎ ((c : Tree) × (expr d l (null_ ∷ close_item_ ∷ us) ≡ Ok (c, close_item_ ∷ us)))
unfolding expr neg unary chain_from
null_read zero zero us = inl (TooDeep (suc (suc (length us))), refl)
null_read zero (suc l) us = inr (t.null, refl)
null_read (suc d) zero us = inl (TooDeep (suc (suc (length us))), refl)
null_read (suc d) (suc l) us = inr (t.null, refl)

null_stuck : (d l : ℕ) (x y : List Kind) (e : Fail) (us : List Kind) (s : Res (Conditioned × List FieldRef))
    → Meets x y e (q.bracketed_term (expr d l) (open_item_ ∷ any_ ∷ where_ ∷ null_ ∷ close_item_ ∷ with_ ∷ us)) s
null_stuck d l x y e us s =
    let make : Tree → Conditioned = λ c. (None, c) in
    ⊎_elim
    (λ f. subst (λ r. Meets x y e (then_do (res_map make r) behind_term) s) (sym f.1) tt)
    (λ c. subst (λ r. Meets x y e (then_do (res_map make r) behind_term) s) (sym c.1) (inr (inr tt))) (null_read d l (with_ ∷ us))

at_bracketed : (d d' l : ℕ) (x y : List Kind) (e : Fail) → Instead x y e → Meets x y e (q.bracketed_term (expr d l) x) (q.bracketed_term (expr d' l) y)
at_bracketed d d' l _ _ _ for_regex = tt
at_bracketed d d' l _ _ _ for_folding_regex = tt
at_bracketed d d' l _ _ _ (for_missing {c = c} {b = b}) = null_stuck d l (open_item_ ∷ any_ ∷ where_ ∷ null_ ∷ close_item_ ∷ with_ ∷ c) (bang_ ∷ open_item_ ∷ b) (LeftOut (codes "!") (suc (suc (length b)))) c (q.bracketed_term (expr d' l) (bang_ ∷ open_item_ ∷ b))
at_bracketed d d' l _ _ _ (for_unit h) = tt
at_bracketed d d' l _ _ _ (for_pipe h) = tt
at_bracketed d d' l _ _ _ (for_number call c b h args) = tt

at_term : (d d' l : ℕ) (x y : List Kind) (e : Fail) → Instead x y e → Met x y e (q.term (expr d l) x) (q.term (expr d' l) y)
at_term d d' l _ _ _ for_regex = tt
at_term d d' l _ _ _ for_folding_regex = tt
at_term d d' l _ _ _ (for_missing {c = c} {b = b}) = tt
at_term d d' l _ _ _ (for_unit h) = tt
at_term d d' l _ _ _ (for_pipe h) = tt
at_term d d' l _ _ _ (for_number call c b h args) = tt

at_item : (d d' l : ℕ) (x y : List Kind) (e : Fail) → Instead x y e → Meets x y e (q.item (expr d l) x) (q.item (expr d' l) y)
at_item d d' l _ _ _ for_regex = tt
at_item d d' l _ _ _ for_folding_regex = tt
at_item d d' l _ _ _ (for_missing {c = c} {b = b}) = meets_stop (open_item_ ∷ any_ ∷ where_ ∷ null_ ∷ close_item_ ∷ with_ ∷ c) (bang_ ∷ open_item_ ∷ b) (LeftOut (codes "!") (suc (suc (length b)))) (q.item (expr d l) (open_item_ ∷ any_ ∷ where_ ∷ null_ ∷ close_item_ ∷ with_ ∷ c)) (q.item (expr d' l) (bang_ ∷ open_item_ ∷ b)) refl
at_item d d' l _ _ _ (for_unit h) = tt
at_item d d' l _ _ _ (for_pipe h) = tt
at_item d d' l _ _ _ (for_number call c b h args) = tt

at_items : (n n' : ℕ) (d d' l : ℕ) (x y : List Kind) (e : Fail) → Instead x y e → Meets x y e (q.items (expr d l) (suc n) x) (q.items (expr d' l) (suc n') y)
unfolding q.items
at_items n n' d d' l _ _ _ for_regex = tt
at_items n n' d d' l _ _ _ for_folding_regex = tt
at_items n n' d d' l _ _ _ (for_missing {c = c} {b = b}) = meets_stop (open_item_ ∷ any_ ∷ where_ ∷ null_ ∷ close_item_ ∷ with_ ∷ c) (bang_ ∷ open_item_ ∷ b) (LeftOut (codes "!") (suc (suc (length b)))) (q.items (expr d l) (suc n) (open_item_ ∷ any_ ∷ where_ ∷ null_ ∷ close_item_ ∷ with_ ∷ c)) (q.items (expr d' l) (suc n') (bang_ ∷ open_item_ ∷ b)) refl
at_items n n' d d' l _ _ _ (for_unit h) = tt
at_items n n' d d' l _ _ _ (for_pipe h) = tt
at_items n n' d d' l _ _ _ (for_number call c b h args) = tt

at_until : (d d' l : ℕ) (x y : List Kind) (e : Fail) → Instead x y e → Meets x y e (q.until (expr d l) x) (q.until (expr d' l) y)
at_until d d' l _ _ _ for_regex = inl ([], refl, refl)
at_until d d' l _ _ _ for_folding_regex = inl ([], refl, refl)
at_until d d' l _ _ _ (for_missing {c = c} {b = b}) = inl ([], refl, refl)
at_until d d' l _ _ _ (for_unit h) = inl ([], refl, refl)
at_until d d' l _ _ _ (for_pipe h) = inl ([], refl, refl)
at_until d d' l _ _ _ (for_number call c b h args) = inl ([], refl, refl)

at_query : (d d' l : ℕ) (x y : List Kind) (e : Fail) → Instead x y e → Meets x y e (q.query_by (expr d l) x) (q.query_by (expr d' l) y)
at_query d d' l _ _ _ for_regex = tt
at_query d d' l _ _ _ for_folding_regex = tt
at_query d d' l _ _ _ (for_missing {c = c} {b = b}) = tt
at_query d d' l _ _ _ (for_unit h) = tt
at_query d d' l _ _ _ (for_pipe h) = tt
at_query d d' l _ _ _ (for_number call c b h args) = tt

module _ (x y : List Kind) (e : Fail) (st : Instead x y e) (d d' l : ℕ) (le : d ≤ d') where
  met_term_of : (c : Option (Option (List ℕ))) (m : List Kind) → Met x y e (q.term_of (expr d l) c (m ++ x)) (q.term_of (expr d' l) c (m ++ y))
  met_term_of None m = tt
  met_term_of (Some c) m =
      met_expected x y e st is_where (λ us. res_map (λ t. (c, t)) ((expr d l) us)) (λ us. res_map (λ t. (c, t)) ((expr d' l) us)) m
      (at_expected is_where (refl, refl, refl, refl, λ w. refl) (λ us. res_map (λ t. (c, t)) ((expr d l) us)) (λ us. res_map (λ t. (c, t)) ((expr d' l) us)) x y e st)
      (λ p. met_map x y e st (λ t. (c, t)) ((expr d l) (p ++ x)) ((expr d' l) (p ++ y)) (expr_met x y e st d d' l p le))

  met_term : (m : List Kind) → Met x y e (q.term (expr d l) (m ++ x)) (q.term (expr d' l) (m ++ y))
  met_term [] = at_term d d' l x y e st
  met_term (k ∷ m) = met_term_of (category k) m

  met_bracketed : (k : Kind) (m : List Kind) → Met x y e (q.bracketed_term (expr d l) (k ∷ (m ++ x))) (q.bracketed_term (expr d' l) (k ∷ (m ++ y)))
  met_bracketed k m =
      met_if x y e st (is_open_item k) (then_do (q.term (expr d l) (m ++ x)) behind_term) (then_do (q.term (expr d' l) (m ++ y)) behind_term) (Err (Syntax (suc (length (m ++ x))))) (Err (Syntax (suc (length (m ++ y)))))
      (then_met x y e (q.term (expr d l) (m ++ x)) (q.term (expr d' l) (m ++ y)) behind_term behind_term (met_term m) (λ c p. met_behind_term x y e st c p)) tt

  meets_bracketed : (m : List Kind) → Meets x y e (q.bracketed_term (expr d l) (m ++ x)) (q.bracketed_term (expr d' l) (m ++ y))
  meets_bracketed [] = at_bracketed d d' l x y e st
  meets_bracketed (k ∷ m) = meets x y e (q.bracketed_term (expr d l) (k ∷ (m ++ x))) (q.bracketed_term (expr d' l) (k ∷ (m ++ y))) (met_bracketed k m)

  meets_item_here : (k : Kind) (m : List Kind)
      → Meets x y e (then_do (q.bracketed_term (expr d l) (k ∷ (m ++ x))) (λ c us. res_map (term_tree_of c.0 c.1) (q.runs us))) (then_do (q.bracketed_term (expr d' l) (k ∷ (m ++ y))) (λ c us. res_map (term_tree_of c.0 c.1) (q.runs us)))
  meets_item_here k m =
      met_meets x y e (q.bracketed_term (expr d l) (k ∷ (m ++ x))) (q.bracketed_term (expr d' l) (k ∷ (m ++ y))) (λ c us. res_map (term_tree_of c.0 c.1) (q.runs us)) (λ c us. res_map (term_tree_of c.0 c.1) (q.runs us)) (met_bracketed k m)
      (λ c p. meets_map x y e (term_tree_of c.0 c.1) (q.runs (p ++ x)) (q.runs (p ++ y)) (meets_runs x y e st p))

  bang_none : (us : List Kind) (s : Res TermTree) → Meets x y e (q.item (expr d l) (bang_ ∷ us)) s
  bang_none [] s = tt
  bang_none (open_item_ ∷ us) s = tt
  bang_none (_ ∷ us) s = tt

  meets_item : (m : List Kind) → Meets x y e (q.item (expr d l) (m ++ x)) (q.item (expr d' l) (m ++ y))
  meets_item [] = at_item d d' l x y e st
  meets_item (bang_ ∷ m) = bang_none (m ++ x) (q.item (expr d' l) (bang_ ∷ (m ++ y)))
  meets_item (k ∷ m) = meets_item_here k m

  meets_items_more : (n n' : ℕ) (i : TermTree) (m : List Kind) → Meets x y e (q.items (expr d l) n (m ++ x)) (q.items (expr d' l) n' (m ++ y))
      → Meets x y e (items_more (q.items (expr d l) n) i (m ++ x)) (items_more (q.items (expr d' l) n') i (m ++ y))
  meets_items_more n n' i [] h = at_items_more (q.items (expr d l) n) (q.items (expr d' l) n') i x y e st
  meets_items_more n n' i (open_item_ ∷ m) h = meets_map x y e (λ is. i ∷ is) (q.items (expr d l) n (open_item_ ∷ (m ++ x))) (q.items (expr d' l) n' (open_item_ ∷ (m ++ y))) h
  meets_items_more n n' i (bang_ ∷ []) h = at_bang (q.items (expr d l) n) (q.items (expr d' l) n') i x y e st
  meets_items_more n n' i (bang_ ∷ open_item_ ∷ m) h = tt
  meets_items_more n n' i (bang_ ∷ k ∷ m) h = inl (bang_ ∷ k ∷ m, refl, refl)
  meets_items_more n n' i (k ∷ m) h = inl (k ∷ m, refl, refl)

  item_left : (k : Kind) (us : List Kind) → Left (length us) (q.item (expr d l) (k ∷ us))
  item_left k us = left_item ⊥ [] [] d (expr d l) (expr d l) (expr_told d l) (λ p. expr_agrees ⊥ [] [] d d l p (omega arith, λ e. absurd e)) k us

  meets_items : (n n' : ℕ) (m : List Kind) → length (m ++ x) ≤ n → length (m ++ y) ≤ n' → Meets x y e (q.items (expr d l) n (m ++ x)) (q.items (expr d' l) n' (m ++ y))
  unfolding q.items
  meets_items zero n' m k j = tt
  meets_items (suc n) zero m k j = absurd (omega (arith, j, y_full x y e st, length-append m y))
  meets_items (suc n) (suc n') [] k j = at_items n n' d d' l x y e st
  meets_items (suc n) (suc n') (k' ∷ m) k j =
      meets_then x y e (length (m ++ x)) (q.item (expr d l) (k' ∷ (m ++ x))) (q.item (expr d' l) (k' ∷ (m ++ y))) (items_more (q.items (expr d l) n)) (items_more (q.items (expr d' l) n')) (item_left k' (m ++ x)) (meets_item (k' ∷ m))
      (λ i p b. meets_items_more n n' i p (meets_items n n' p (omega (arith, b, k)) (longer x y m p n' b (omega (arith, j))))) (λ i us t s. stuck_more x y e (q.items (expr d l) n) i us t s)

  meets_until : (m : List Kind) → Meets x y e (q.until (expr d l) (m ++ x)) (q.until (expr d' l) (m ++ y))
  meets_until [] = at_until d d' l x y e st
  meets_until (until_ ∷ m) = meets_map x y e (λ c. Some (term_tree_of c.0 c.1 (pos 1))) (q.bracketed_term (expr d l) (m ++ x)) (q.bracketed_term (expr d' l) (m ++ y)) (meets_bracketed m)
  meets_until (k ∷ m) = inl (k ∷ m, refl, refl)

  meets_behind_items : (fs : List FieldRef) (s : Option Span) (is : List TermTree) (m : List Kind) → Meets x y e (q.behind_items (expr d l) fs s is (m ++ x)) (q.behind_items (expr d' l) fs s is (m ++ y))
  meets_behind_items fs s is m = meets_map x y e (λ u. sequence fs s is u) (q.until (expr d l) (m ++ x)) (q.until (expr d' l) (m ++ y)) (meets_until m)

  stuck_items : (fs : List FieldRef) (s : Option Span) (is : List TermTree) (us : List Kind) (t : Res BodyTree) → Stuck us → Meets x y e (q.behind_items (expr d l) fs s is us) t
  stuck_items fs s is (name w ∷ us) t h = inr (inr tt)
  stuck_items fs s is (with_ ∷ us) t h = inr (inr tt)
  stuck_items fs s is [] t h = absurd h
  stuck_items fs s is (_ ∷ us) t h = absurd h

  meets_behind_span : (fs : List FieldRef) (s : Option Span) (m : List Kind) → Meets x y e (q.behind_span (expr d l) fs s (m ++ x)) (q.behind_span (expr d' l) fs s (m ++ y))
  meets_behind_span fs s m =
      then_meets x y e (q.items (expr d l) (length (m ++ x)) (m ++ x)) (q.items (expr d' l) (length (m ++ y)) (m ++ y)) (q.behind_items (expr d l) fs s) (q.behind_items (expr d' l) fs s)
      (meets_items (length (m ++ x)) (length (m ++ y)) m (omega arith) (omega arith)) (λ is p. meets_behind_items fs s is p) (λ is us t h. stuck_items fs s is us t h)

  meets_behind_keys : (fs : List FieldRef) (m : List Kind) → Meets x y e (q.behind_keys (expr d l) fs (m ++ x)) (q.behind_keys (expr d' l) fs (m ++ y))
  meets_behind_keys fs m = met_meets x y e (q.span (m ++ x)) (q.span (m ++ y)) (q.behind_span (expr d l) fs) (q.behind_span (expr d' l) fs) (met_span x y e st m) (λ s p. meets_behind_span fs s p)

  meets_sequence : (m : List Kind) → Meets x y e (then_do (q.keys (m ++ x)) (q.behind_keys (expr d l))) (then_do (q.keys (m ++ y)) (q.behind_keys (expr d' l)))
  meets_sequence m = met_meets x y e (q.keys (m ++ x)) (q.keys (m ++ y)) (q.behind_keys (expr d l)) (q.behind_keys (expr d' l)) (met_keys x y e st m) (λ fs p. meets_behind_keys fs p)

  meets_body : (b : BodyTree) (m : List Kind) → Meets x y e (behind_body b (m ++ x)) (behind_body b (m ++ y))
  meets_body b m = meets x y e (behind_body b (m ++ x)) (behind_body b (m ++ y)) (met_behind_body x y e st b m)

  meets_event : (m : List Kind)
      → Meets x y e (then_do (res_map (λ c. event (term_tree_of c [] (pos 1))) (q.term (expr d l) (m ++ x))) behind_body) (then_do (res_map (λ c. event (term_tree_of c [] (pos 1))) (q.term (expr d' l) (m ++ y))) behind_body)
  meets_event m =
      met_meets x y e (res_map (λ c. event (term_tree_of c [] (pos 1))) (q.term (expr d l) (m ++ x))) (res_map (λ c. event (term_tree_of c [] (pos 1))) (q.term (expr d' l) (m ++ y))) behind_body behind_body
      (met_map x y e st (λ c. event (term_tree_of c [] (pos 1))) (q.term (expr d l) (m ++ x)) (q.term (expr d' l) (m ++ y)) (met_term m)) meets_body

  meets_query : (m : List Kind) → Meets x y e (q.query_by (expr d l) (m ++ x)) (q.query_by (expr d' l) (m ++ y))
  meets_query [] = at_query d d' l x y e st
  meets_query (sample_ ∷ m) = tt
  meets_query (join_ ∷ m) = tt
  meets_query (sequence_ ∷ m) =
      then_meets x y e (then_do (q.keys (m ++ x)) (q.behind_keys (expr d l))) (then_do (q.keys (m ++ y)) (q.behind_keys (expr d' l))) behind_body behind_body (meets_sequence m) meets_body
      (λ b us t h. stuck_body x y e b us t h)
  meets_query (k ∷ m) = meets_event (k ∷ m)

none_left : (x : List Kind) (m : List Kind) → 0 < length x → [] ≡ m ++ x → ⊥
none_left x m f h = omega (arith, f, ap length h, length-append m x)

-- What is read to its end with the form that the grammar has stops at the left-out form in its place.
pub stops_there : (x y : List Kind) (e : Fail) → Instead x y e → (d l : ℕ) (m : List Kind) (tree : QueryTree) → q.query_by (expr d l) (m ++ x) ≡ Ok (tree, []) → q.query_by (expr d l) (m ++ y) ≡ Err e
stops_there x y e st d l m tree h =
    let met : Meets x y e (Ok (tree, [])) (q.query_by (expr d l) (m ++ y)) = subst (λ r. Meets x y e r (q.query_by (expr d l) (m ++ y))) h (meets_query x y e st d d l (omega arith) m) in
    ⊎_elim (λ at. absurd (none_left x at.0 (x_full x y e st) at.1)) (λ other. ⊎_elim (λ stop. stop) (λ stuck. absurd stuck) other) met
