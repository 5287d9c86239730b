-- What the descent returns, against the tokens that it was given: what it read is a front of them, and each refusal has its place in them.
use Rattle.std.proofs.Common.{◌≡◌, ℕ, zero, suc, ◌+◌, ◌-◌, ◌<◌, ◌≤◌, nat_lt, Bool, true, false, if◌then◌else◌, List, [], ◌∷◌, ◌++◌, length, Option, Some, None, Ok, Err, refl, sym, ap, subst, ◌∙◌, arith, length-append, append_assoc, codes}
use Rattle.std.specs.Prelude.{neg_ℤ}
use Rattle.eql_values.specs.declared.value.Value.TheVariants as value
use Rattle.eql_query.specs.declared.expr.MathOp.{MathOp}
use Rattle.eql_query.specs.declared.expr.MathOp.TheVariants.{Sub}
use Rattle.eql_query.specs.Tree.{Tree, Trees, none, more}
use Rattle.eql_query.specs.Tree as t
use Rattle.eql_query.specs.View.{trees_of}
use Rattle.eql_parser.specs.Kinds.{Kind, false_, true_, name, text, number, open_, close_, dot_, question_, adds}
use Rattle.eql_parser.specs.Grammar.{first_part, part, is_left_out_call}
use Rattle.eql_parser.specs.Limits.{depth, open_behind}
use Rattle.eql_parser.specs.Reading.{Fail, Syntax, LeftOut, TooDeep, TooOpen, Res, then_do, res_map, closing, is_comma, more_of, separated, comma_list, dotted_part, behind_dot, dotted, named_by, named_field, field, text_at, negative_at, literal, at_level, above, chain_on, chain_from, chain, joined_operands, call_of}
use Rattle.eql_parser.proofs.Opens.{Plain, plain_true, plain_some, Under, Calm, calm_none, calm_both, calm_plain, calm_inside, open_behind_both, under_none, under_calm, under_behind, under_inside}

-- behind a front of the tokens, in which d parentheses stay open, another one opens
abbrev pub TooOpenIn : ℕ → List Kind → ℕ → Type 0
TooOpenIn d ts n = (front : List Kind) × (behind : List Kind) × (ts ≡ front ++ open_ ∷ behind) × (suc (length behind) ≡ n) × ((o : ℕ) → open_behind o front ≡ o + d) × Under d front

-- up to where n tokens are left, nowhere more than d parentheses stand open
abbrev pub Upto : ℕ → List Kind → ℕ → Type 0
Upto d ts n = (front : List Kind) × (behind : List Kind) × (ts ≡ front ++ behind) × (length behind ≡ n) × Under d front

pub upto_here : (d : ℕ) (ts : List Kind) → Upto d ts (length ts)
upto_here d ts = ([], ts, refl, refl, under_none d)

pub upto_behind : (d : ℕ) (k : Kind) (ts : List Kind) → Plain k → Upto d (k ∷ ts) (length ts)
upto_behind d k ts p = (k ∷ [], ts, refl, refl, under_calm d (k ∷ []) (calm_plain d k [] p (calm_none d)))

upto_more : (d : ℕ) (m ts : List Kind) (n : ℕ) → Calm d m → Upto d ts n → Upto d (m ++ ts) n
upto_more d m ts n c h = (m ++ h.0, h.1, ap (λ l. m ++ l) h.2 ∙ sym (append_assoc m h.0 h.1), h.3, under_behind d m h.0 c h.4)

upto_inside : (d : ℕ) (ts : List Kind) (n : ℕ) → Upto d ts n → Upto (suc d) (open_ ∷ ts) n
upto_inside d ts n h = (open_ ∷ h.0, h.1, ap (λ l. open_ ∷ l) h.2, h.3, under_inside d h.0 h.4)

-- no more tokens are left than were given
pub upto_within : (d : ℕ) (ts : List Kind) (n : ℕ) → Upto d ts n → n ≤ length ts
upto_within d ts n h = omega (arith, ap length h.2, length-append h.0 h.1, h.3)

abbrev pub Because : ℕ → List Kind → Fail → Type 0
Because d ts (Syntax n) = Upto d ts n
Because d ts (LeftOut w n) = (0 < n) × Upto d ts n
Because d ts (TooDeep n) = (0 < n) × Upto d ts n
Because d ts (TooOpen n) = TooOpenIn d ts n

-- what an answer says of the tokens, where d parentheses may be opened
abbrev pub Told : ℕ → List Kind → {A : Type 0} → Res A → Type 0
Told d ts (Ok p) = (front : List Kind) × (ts ≡ front ++ p.1) × Calm d front
Told d ts (Err e) = Because d ts e

because_behind : (d : ℕ) (m us : List Kind) (e : Fail) → Calm d m → Because d us e → Because d (m ++ us) e
because_behind d m us (Syntax n) c h = upto_more d m us n c h
because_behind d m us (LeftOut w n) c h = (h.0, upto_more d m us n c h.1)
because_behind d m us (TooDeep n) c h = (h.0, upto_more d m us n c h.1)
because_behind d m us (TooOpen n) c h = (
  m ++ h.0,
  h.1,
  ap (λ l. m ++ l) h.2 ∙ sym (append_assoc m h.0 (open_ ∷ h.1)),
  h.3,
  λ o. open_behind_both o m h.0 ∙ ap (λ n. open_behind n h.0) (c o).0 ∙ h.4 o,
  under_behind d m h.0 c h.5,
)

told_behind : {A : Type 0} (d : ℕ) (m us : List Kind) (r : Res A) → Calm d m → Told d us r → Told d (m ++ us) r
told_behind d m us (Ok p) c h = (m ++ h.0, ap (λ l. m ++ l) h.1 ∙ sym (append_assoc m h.0 p.1), calm_both d m h.0 c h.2)
told_behind d m us (Err e) c h = because_behind d m us e c h

pub told_then : {A B : Type 0} (d : ℕ) (ts : List Kind) (r : Res A) (f : A → List Kind → Res B) → Told d ts r → ((a : A) (us : List Kind) → Told d us (f a us)) → Told d ts (then_do r f)
told_then d ts (Ok p) f h k = subst (λ l. Told d l (f p.0 p.1)) (sym h.1) (told_behind d h.0 p.1 (f p.0 p.1) h.2 (k p.0 p.1))
told_then d ts (Err e) f h k = h

pub told_map : {A B : Type 0} (d : ℕ) (ts : List Kind) (f : A → B) (r : Res A) → Told d ts r → Told d ts (res_map f r)
told_map d ts f (Ok p) h = h
told_map d ts f (Err e) h = h

pub told_here : {A : Type 0} (d : ℕ) (a : A) (ts : List Kind) → Told d ts (Ok (a, ts))
told_here d a ts = ([], refl, calm_none d)

-- a run behind a token that is no parenthesis
pub told_plain : {A : Type 0} (d : ℕ) (k : Kind) (ts : List Kind) (r : Res A) → Plain k → Told d ts r → Told d (k ∷ ts) r
told_plain d k ts r p h = told_behind d (k ∷ []) ts r (calm_plain d k [] p (calm_none d)) h

-- one token
pub told_one : {A : Type 0} (d : ℕ) (k : Kind) (a : A) (ts : List Kind) → Plain k → Told d (k ∷ ts) (Ok (a, ts))
told_one d k a ts p = told_plain d k ts (Ok (a, ts)) p (told_here d a ts)

because_inside : (d : ℕ) (ts : List Kind) (e : Fail) → Because d ts e → Because (suc d) (open_ ∷ ts) e
because_inside d ts (Syntax n) h = upto_inside d ts n h
because_inside d ts (LeftOut w n) h = (h.0, upto_inside d ts n h.1)
because_inside d ts (TooDeep n) h = (h.0, upto_inside d ts n h.1)
because_inside d ts (TooOpen n) h = (open_ ∷ h.0, h.1, ap (λ l. open_ ∷ l) h.2, h.3, λ o. h.4 (suc o) ∙ omega arith, under_inside d h.0 h.5)

behind_closing : {A : Type 0} (d : ℕ) (a : A) (m us : List Kind) → Calm d m → Told (suc d) (open_ ∷ (m ++ us)) (closing a us)
behind_closing d a m [] c = (open_ ∷ m, [], refl, refl, under_inside d m (under_calm d m c))
behind_closing d a m (close_ ∷ us) c = (open_ ∷ (m ++ close_ ∷ []), ap (λ l. open_ ∷ l) (sym (append_assoc m (close_ ∷ []) us)), calm_inside d m c)
behind_closing d a m (k ∷ us) c = (open_ ∷ m, k ∷ us, refl, refl, under_inside d m (under_calm d m c))

inside_closes : {A : Type 0} (d : ℕ) (ts : List Kind) (r : Res A) → Told d ts r → Told (suc d) (open_ ∷ ts) (then_do r closing)
inside_closes d ts (Ok p) h = subst (λ l. Told (suc d) (open_ ∷ l) (closing p.0 p.1)) (sym h.1) (behind_closing d p.0 h.0 p.1 h.2)
inside_closes d ts (Err e) h = because_inside d ts e h

-- whether a parenthesis may be opened, and how many inside it
abbrev pub room_for : ℕ → Bool
room_for zero = false
room_for (suc d) = true

abbrev pub inside : ℕ → ℕ
inside zero = zero
inside (suc d) = d

-- a run in parentheses, up to the one that closes
pub told_closing : {A : Type 0} (d : ℕ) (ts : List Kind) (r : Res A) → 0 < d → Told (inside d) ts r → Told d (open_ ∷ ts) (then_do r closing)
told_closing zero ts r p h = absurd (omega (arith, p))
told_closing (suc d) ts r p h = inside_closes d ts r h

pub told_pair : {A : Type 0} (d : ℕ) (a : A) (ts : List Kind) → 0 < d → Told d (open_ ∷ close_ ∷ ts) (Ok (a, ts))
told_pair zero a ts p = absurd (omega (arith, p))
told_pair (suc d) a ts p = (open_ ∷ close_ ∷ [], refl, calm_inside d [] (calm_none d))

pub told_enter : {A : Type 0} (d : ℕ) (ts : List Kind) (r : Res A) → (0 < d → Told d (open_ ∷ ts) r) → Told d (open_ ∷ ts) (if room_for d then r else Err (TooOpen (suc (length ts))))
told_enter zero ts r h = ([], ts, refl, refl, λ o. omega arith, under_none zero)
told_enter (suc d) ts r h = h (omega arith)

-- the parenthesis behind a name
pub told_enter_behind : {A : Type 0} (d : ℕ) (k : Kind) (ts : List Kind) (r : Res A) → Plain k → (0 < d → Told d (k ∷ open_ ∷ ts) r)
    → Told d (k ∷ open_ ∷ ts) (if room_for d then r else Err (TooOpen (suc (length ts))))
told_enter_behind {A = A} zero k ts r p h = told_behind {A = A} zero (k ∷ []) (open_ ∷ ts) (Err (TooOpen (suc (length ts)))) (calm_plain zero k [] p (calm_none zero)) ([], ts, refl, refl, λ o. omega arith, under_none zero)
told_enter_behind (suc d) k ts r p h = h (omega arith)

pub told_if : {A : Type 0} (d : ℕ) (ts : List Kind) (b : Bool) (r s : Res A) → (b ≡ true → Told d ts r) → (b ≡ false → Told d ts s) → Told d ts (if b then r else s)
told_if d ts true r s h k = h refl
told_if d ts false r s h k = k refl

pub told_at_level : {A : Type 0} (d : ℕ) (ts : List Kind) (l place : ℕ) (r : Res A) → 0 < place → Upto d ts place → Told d ts r → Told d ts (at_level l place r)
told_at_level d ts zero place r p q h = (p, q)
told_at_level d ts (suc l) place r p q h = h

pub told_above : {A : Type 0} (d : ℕ) (ts : List Kind) (l : ℕ) (a : Tree) (place : ℕ) (r : Res A) → 0 < place → Upto d ts place → Told d ts r → Told d ts (above l a place r)
told_above d ts l a place r p q h = told_if d ts (nat_lt (depth a) l) r (Err (TooDeep place)) (λ e. h) (λ e. (p, q))

pub told_more : {A : Type 0} (d : ℕ) (is : Kind → Bool) (again : List Kind → Res (List A)) (x : A) (us : List Kind) → is open_ ≡ false → is close_ ≡ false
    → ((vs : List Kind) → Told d vs (again vs)) → Told d us (more_of is again x us)
told_more d is again x [] o c h = told_here d (x ∷ []) []
told_more d is again x (k ∷ us) o c h =
    told_if d (k ∷ us) (is k) (res_map (λ xs. x ∷ xs) (again us)) (Ok (x ∷ [], k ∷ us))
    (λ e. told_plain d k us (res_map (λ xs. x ∷ xs) (again us)) (plain_true is o c k e) (told_map d us (λ xs. x ∷ xs) (again us) (h us)))
    (λ e. told_here d (x ∷ []) (k ∷ us))

pub told_separated : {A : Type 0} (d : ℕ) (is : Kind → Bool) (read : List Kind → Res A) (n : ℕ) (us : List Kind) → is open_ ≡ false → is close_ ≡ false
    → ((vs : List Kind) → Told d vs (read vs)) → Told d us (separated is read n us)
unfolding separated
told_separated d is read zero us o c h = upto_here d _
told_separated d is read (suc n) us o c h =
    told_then d us (read us) (more_of is (separated is read n)) (h us)
    (λ x vs. told_more d is (separated is read n) x vs o c (λ ws. told_separated d is read n ws o c h))

pub told_listed : {A : Type 0} (d : ℕ) (read : List Kind → Res A) (us : List Kind) → ((vs : List Kind) → Told d vs (read vs)) → Told d us (comma_list read us)
told_listed d read us h = told_separated d is_comma read (length us) us refl refl h

pub told_part : (d : ℕ) (again : List ℕ → List Kind → Res (List ℕ)) (w : List ℕ) (k : Kind) (us : List Kind) (p : Option (List ℕ)) → part k ≡ p
    → ((v : List ℕ) (vs : List Kind) → Told d vs (again v vs)) → Told d (k ∷ us) (dotted_part again w p us)
told_part d again w k us None e h = upto_here d _
told_part d again w k us (Some p) e h = told_plain d k us (again (w ++ 46 ∷ p) us) (plain_some part refl refl k p e) (h (w ++ 46 ∷ p) us)

pub told_dot : (d : ℕ) (again : List ℕ → List Kind → Res (List ℕ)) (w : List ℕ) (us : List Kind) → ((v : List ℕ) (vs : List Kind) → Told d vs (again v vs)) → Told d us (behind_dot again w us)
told_dot d again w [] h = upto_here d _
told_dot d again w (k ∷ us) h = told_part d again w k us (part k) refl h

pub told_dotted : (d n : ℕ) (w : List ℕ) (us : List Kind) → Told d us (dotted n w us)
unfolding dotted
told_dotted d zero w us = told_here d w us
told_dotted d (suc n) w (dot_ ∷ us) = told_plain d dot_ us (behind_dot (dotted n) w us) tt (told_dot d (dotted n) w us (λ v vs. told_dotted d n v vs))
told_dotted d (suc n) w us = told_here d w us

pub told_named_by : (d : ℕ) (optional : Bool) (k : Kind) (us : List Kind) (p : Option (List ℕ)) → first_part k ≡ p → Told d (k ∷ us) (named_by optional p us)
told_named_by d optional k us None e = upto_here d _
told_named_by d optional k us (Some w) e =
    told_plain d k us (res_map (λ n. record { name = n; optional = optional }) (dotted (length us) w us)) (plain_some first_part refl refl k w e)
    (told_map d us (λ n. record { name = n; optional = optional }) (dotted (length us) w us) (told_dotted d (length us) w us))

pub told_named : (d : ℕ) (optional : Bool) (us : List Kind) → Told d us (named_field optional us)
told_named d optional [] = upto_here d _
told_named d optional (k ∷ us) = told_named_by d optional k us (first_part k) refl

pub told_field : (d : ℕ) (us : List Kind) → Told d us (field us)
told_field d (question_ ∷ us) = told_plain d question_ us (named_field true us) tt (told_named d true us)
told_field d us = told_named d false us

pub told_text : (d : ℕ) (us : List Kind) → Told d us (text_at us)
told_text d (text s ∷ us) = told_one d (text s) s us tt
told_text d [] = upto_here d _
told_text d (_ ∷ us) = upto_here d _

pub told_negative : (d : ℕ) (us : List Kind) → Told d us (negative_at us)
told_negative d (number n ∷ us) = told_one d (number n) (value.Long (neg_ℤ n)) us tt
told_negative d [] = upto_here d _
told_negative d (_ ∷ us) = upto_here d _

pub told_literal : (d : ℕ) (us : List Kind) → Told d us (literal us)
told_literal d (number n ∷ us) = told_one d (number n) (value.Long n) us tt
told_literal d (adds Sub ∷ us) = told_plain d (adds Sub) us (negative_at us) tt (told_negative d us)
told_literal d (text s ∷ us) = told_one d (text s) (value.Text s) us tt
told_literal d (true_ ∷ us) = told_one d true_ (value.Bool true) us tt
told_literal d (false_ ∷ us) = told_one d false_ (value.Bool false) us tt
told_literal d [] = upto_here d _
told_literal d (_ ∷ us) = upto_here d _

-- operands from the left
module _ (d : ℕ) (operator : Kind → Option MathOp) (read : ℕ → List Kind → Res Tree) (o : operator open_ ≡ None) (c : operator close_ ≡ None)
    (told : (l : ℕ) (us : List Kind) → Told d us (read l us)) where
  told_chain_on : (l : ℕ) (again : Tree → List Kind → Res Tree) (a : Tree) (p : Option MathOp) (k : Kind) (us : List Kind) → operator k ≡ p
      → ((b : Tree) (vs : List Kind) → Told d vs (again b vs)) → Told d (k ∷ us) (chain_on read l again a p k us)
  told_chain_on l again a None k us e h = told_here d a (k ∷ us)
  told_chain_on l again a (Some p) k us e h =
      told_above d (k ∷ us) l a (suc (length us)) (then_do (read (l - 1) us) (λ b vs. again (t.math p a b) vs)) (omega arith) (upto_here d _)
      (told_plain d k us (then_do (read (l - 1) us) (λ b vs. again (t.math p a b) vs)) (plain_some operator o c k p e)
      (told_then d us (read (l - 1) us) (λ b vs. again (t.math p a b) vs) (told (l - 1) us) (λ b vs. h (t.math p a b) vs)))

  pub told_chain_from : (l n : ℕ) (a : Tree) (us : List Kind) → Told d us (chain_from operator read l n a us)
  unfolding chain_from
  told_chain_from l zero a us = told_here d a us
  told_chain_from l (suc n) a [] = told_here d a []
  told_chain_from l (suc n) a (k ∷ us) = told_chain_on l (chain_from operator read l n) a (operator k) k us refl (λ b vs. told_chain_from l n b vs)

  pub told_chain : (l : ℕ) (us : List Kind) → Told d us (chain operator read l us)
  told_chain l us = told_then d us (read l us) (λ a vs. chain_from operator read l (length vs) a vs) (told l us) (λ a vs. told_chain_from l (length vs) a vs)

-- one operand, or several joined in one node
pub told_joined : (d : ℕ) (is : Kind → Bool) (node : Trees → Tree) (read : ℕ → List Kind → Res Tree) (l : ℕ) (e : Tree) (us : List Kind) → is open_ ≡ false → is close_ ≡ false
    → ((k : ℕ) (vs : List Kind) → Told d vs (read k vs)) → Told d us (joined_operands is node read l e us)
told_joined d is node read l e [] o c h = told_here d e []
told_joined d is node read l e (k ∷ us) o c h =
    told_if d (k ∷ us) (is k) (above l e (suc (length us)) (res_map (λ es. node (more e (trees_of es))) (separated is (read (l - 1)) (length us) us))) (Ok (e, k ∷ us))
    (λ i. told_above d (k ∷ us) l e (suc (length us)) (res_map (λ es. node (more e (trees_of es))) (separated is (read (l - 1)) (length us) us)) (omega arith) (upto_here d _)
    (told_plain d k us (res_map (λ es. node (more e (trees_of es))) (separated is (read (l - 1)) (length us) us)) (plain_true is o c k i)
    (told_map d us (λ es. node (more e (trees_of es))) (separated is (read (l - 1)) (length us) us) (told_separated d is (read (l - 1)) (length us) us o c (h (l - 1))))))
    (λ i. told_here d e (k ∷ us))

call_told : (d : ℕ) (w : List ℕ) (ts : List Kind) (es : List Tree) (us : List Kind) (m : List Kind) → open_ ∷ ts ≡ m ++ us → Calm d m
    → Told d (name w ∷ open_ ∷ ts) (call_of w (suc (suc (length ts))) es us)
call_told d w ts es us m e c =
    told_if d (name w ∷ open_ ∷ ts) (is_left_out_call w (trees_of es)) (Err (LeftOut (codes "number") (suc (suc (length ts))))) (Ok (t.call w false (trees_of es), us))
    (λ i. (omega arith, upto_here d _))
    (λ i. (name w ∷ m, ap (λ l. name w ∷ l) e, calm_plain d (name w) m tt c))

pub told_call : (d : ℕ) (w : List ℕ) (ts : List Kind) (r : Res (List Tree)) → Told d (open_ ∷ ts) r → Told d (name w ∷ open_ ∷ ts) (then_do r (call_of w (suc (suc (length ts)))))
told_call d w ts (Ok p) h = call_told d w ts p.0 p.1 h.0 h.1 h.2
told_call d w ts (Err e) h = because_behind d (name w ∷ []) (open_ ∷ ts) e (calm_plain d (name w) [] tt (calm_none d)) h
