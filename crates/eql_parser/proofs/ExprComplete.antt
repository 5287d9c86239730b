-- A condition of the grammar is returned, with enough parentheses and levels allowed.
use Rattle.std.proofs.Common.{◌≡◌, ℕ, zero, suc, ◌-◌, ◌<◌, ◌≤◌, ◌==◌, ℤ, pos, negsuc, inl, inr, Bool, true, false, if◌then◌else◌, List, [], ◌∷◌, ◌++◌, length, Some, Ok, Err, refl, sym, ap, ◌∙◌, subst, le_refl, arith}
use Rattle.eql_values.specs.declared.value.Value.{Value}
use Rattle.eql_query.specs.declared.expr.FieldRef.{FieldRef}
use Rattle.eql_query.specs.declared.expr.MathOp.TheVariants.{Sub}
use Rattle.eql_query.specs.Tree.{Tree, Trees, none, more}
use Rattle.eql_query.specs.Tree as t
use Rattle.eql_query.specs.View.{trees_of}
use Rattle.eql_parser.specs.Kinds.{Kind, and_, false_, in_, matches, not_, null_, or_, regex_, true_, name, folding, back, text, number, open_, close_, dot_, question_, compares, adds, multiplies}
use Rattle.eql_parser.specs.Grammar.{first_part, IsDotted, ends, goes_on, IsField, required, optional, IsText, a_text, IsPatterns, one_text, some_texts, IsLiteral, is_number, is_negative, is_text, is_true, is_false, IsMembers, members, is_left_out_call, Joint, by_or, by_and, by_comma, between, IsExpr, conj, any_of, IsConj, neg, all_of, IsOperands, last, next, IsOperand, of_or, of_and, of_comma, IsNeg, negated, pred, IsPred, sum, compared, matched, is_in, is_not_in, IsSum, prod, added, IsProd, unary, multiplied, IsUnary, minus, prim, IsPrim, is_null, is_yes, is_no, is_long, is_str, is_field, is_call, is_folding_call, inside, IsArguments, no_arguments, some_arguments}
use Rattle.eql_parser.specs.QueryGrammar.{IsKey, a_key}
use Rattle.eql_parser.specs.Limits.{depth, deepest, depth_but, deepest_but}
use Rattle.eql_parser.specs.Reading.{Syntax, TooDeep, Res, then_do, res_map, closing, is_or, is_and, is_comma, adds_of, multiplies_of, separated, comma_list, dotted_part, behind_dot, dotted, named_by, named_field, field, field_tree, text_at, literal, at_level, above, chain_from, joined_operands, call_of, arguments, expr}
use Rattle.eql_parser.specs.Reading as r
use Rattle.eql_parser.proofs.Rows.{Row, last_of, next_of}
use Rattle.eql_parser.proofs.Eventually.{Eventually, at_once, if_false, at_level_ok, Ends, listed_all, Stops, chain_ends, joined_one}
use Rattle.eql_parser.proofs.Reaches.{Reaches, reaches_now, reaches_at_once, reaches_same, reaches_then, reaches_map, reaches_above, Part, row_reaches, reaches_turn, reaches_joined}
use Rattle.eql_parser.proofs.New.{above_all, above_new, Late, late_never}
use Rattle.eql_parser.proofs.Kept.{same_number, conj_kept, operand_kept, neg_kept, sum_kept, prod_kept}
use Rattle.eql_parser.proofs.Levels.{but_deepest}
use Rattle.eql_parser.proofs.Shorter.{field_short, operand_short, prod_short, unary_short}

-- how tightly what follows goes on: 1 `or`, 2 `and`, 3 a test, 4 a sum, 5 a product, 6 a dot or a parenthesis behind a name
abbrev pub strength : List Kind → ℕ
strength [] = 0
strength (or_ ∷ ts) = 1
strength (and_ ∷ ts) = 2
strength (compares o ∷ ts) = 3
strength (matches o ∷ ts) = 3
strength (in_ f ∷ ts) = 3
strength (not_ ∷ ts) = 3
strength (regex_ f ∷ ts) = 3
strength (adds o ∷ ts) = 4
strength (multiplies o ∷ ts) = 5
strength (dot_ ∷ ts) = 6
strength (open_ ∷ ts) = 6
strength (_ ∷ ts) = 0

or_ends : (rest : List Kind) → strength rest < 1 → Ends is_or rest
or_ends [] s = tt
or_ends (or_ ∷ us) s = absurd (omega (arith, s))
or_ends (_ ∷ us) s = refl

and_ends : (rest : List Kind) → strength rest < 2 → Ends is_and rest
and_ends [] s = tt
and_ends (and_ ∷ us) s = absurd (omega (arith, s))
and_ends (_ ∷ us) s = refl

adds_stop : (rest : List Kind) → strength rest < 4 → Stops adds_of rest
adds_stop [] s = tt
adds_stop (adds o ∷ us) s = absurd (omega (arith, s))
adds_stop (_ ∷ us) s = refl

multiplies_stop : (rest : List Kind) → strength rest < 5 → Stops multiplies_of rest
multiplies_stop [] s = tt
multiplies_stop (multiplies o ∷ us) s = absurd (omega (arith, s))
multiplies_stop (_ ∷ us) s = refl

sum_ends : (inner : ℕ → List Kind → Res Tree) (l : ℕ) (a : Tree) (rest : List Kind) → strength rest < 3 → r.behind_sum true inner l a rest ≡ Ok (a, rest)
sum_ends inner l a [] s = refl
sum_ends inner l a (compares o ∷ us) s = absurd (omega (arith, s))
sum_ends inner l a (matches o ∷ us) s = absurd (omega (arith, s))
sum_ends inner l a (in_ f ∷ us) s = absurd (omega (arith, s))
sum_ends inner l a (not_ ∷ us) s = absurd (omega (arith, s))
sum_ends inner l a (regex_ false ∷ us) s = absurd (omega (arith, s))
sum_ends inner l a (regex_ true ∷ us) s = absurd (omega (arith, s))
sum_ends inner l a (_ ∷ us) s = refl

-- fields
abbrev pub NoDot : List Kind → Type 0
NoDot (dot_ ∷ ts) = ⊥
NoDot _ = Unit {0}

abbrev NoOpen : List Kind → Type 0
NoOpen (open_ ∷ ts) = ⊥
NoOpen _ = Unit {0}

no_dot : (rest : List Kind) → strength rest < 6 → NoDot rest
no_dot [] s = tt
no_dot (dot_ ∷ us) s = absurd (omega (arith, s))
no_dot (_ ∷ us) s = tt

no_open : (rest : List Kind) → strength rest < 6 → NoOpen rest
no_open [] s = tt
no_open (open_ ∷ us) s = absurd (omega (arith, s))
no_open (_ ∷ us) s = tt

dotted_ends : (n : ℕ) (w : List ℕ) (rest : List Kind) → NoDot rest → dotted n w rest ≡ Ok (w, rest)
unfolding dotted
dotted_ends zero w rest h = refl
dotted_ends (suc n) w [] h = refl
dotted_ends (suc n) w (dot_ ∷ us) h = absurd h
dotted_ends (suc n) w (_ ∷ us) h = refl

dotted_all : (m : ℕ) (w : List ℕ) (ts : List Kind) (n : List ℕ) (rest : List Kind) → IsDotted w ts n rest → NoDot rest → length ts ≤ m → dotted m w ts ≡ Ok (n, rest)
unfolding dotted
dotted_all m w _ _ rest ends g i = dotted_ends m w rest g
dotted_all zero w _ n rest (goes_on e h) g i = absurd (omega (arith, i))
dotted_all (suc m) w _ n rest (goes_on {p = p} {k = k} {ts = ts} e h) g i =
    ap (λ o. dotted_part (dotted m) w o ts) e ∙ dotted_all m (w ++ 46 ∷ p) ts n rest h g (omega (arith, i))

named_all : (o : Bool) (k : Kind) (w n : List ℕ) (ts rest : List Kind) → first_part k ≡ Some w → IsDotted w ts n rest → NoDot rest → named_field o (k ∷ ts) ≡ Ok (record { name = n; optional = o }, rest)
named_all o k w n ts rest e h g = ap (λ p. named_by o p ts) e ∙ ap (res_map (λ m. record { name = m; optional = o })) (dotted_all (length ts) w ts n rest h g (le_refl (length ts)))

-- a part that comes first is no mark
first_named : (k : Kind) (w : List ℕ) (ts : List Kind) → first_part k ≡ Some w → field (k ∷ ts) ≡ named_field false (k ∷ ts)
first_named (name v) w ts e = refl
first_named (back v) w ts e = refl
first_named question_ w ts e = absurd cc
first_named _ w ts e = refl

pub key_all : (ts : List Kind) (f : FieldRef) (rest : List Kind) → IsKey ts f rest → NoDot rest → (field ts ≡ Ok (f, rest)) × (length rest < length ts)
key_all _ _ rest (a_key (required {k = k} {w = w} {n = n} {ts = ts} e h)) g = (first_named k w ts e ∙ named_all false k w n ts rest e h g, field_short _ _ _ _ (required e h))
key_all _ _ rest (a_key (optional {k = k} {w = w} {n = n} {ts = ts} e h)) g = (named_all true k w n ts rest e h g, field_short _ _ _ _ (optional e h))

-- behind the part that comes first no parenthesis opens
no_call : (w : List ℕ) (ts : List Kind) (n : List ℕ) (rest : List Kind) → IsDotted w ts n rest → NoOpen rest → NoOpen ts
no_call w _ _ rest ends g = g
no_call w _ n rest (goes_on e h) g = tt

abbrev field_at : ℕ → Bool → List Kind → ℕ → Res Tree
field_at l o ts place = at_level l place (res_map field_tree (named_field o ts))

prim_first : (inner : ℕ → List Kind → Res Tree) (l : ℕ) (k : Kind) (w : List ℕ) (ts : List Kind) → first_part k ≡ Some w → NoOpen ts → r.prim true inner l (k ∷ ts) ≡ field_at l false (k ∷ ts) (suc (length ts))
prim_first inner l (name v) w [] e g = refl
prim_first inner l (name v) w (open_ ∷ ts) e g = absurd g
prim_first inner l (name v) w (_ ∷ ts) e g = refl
prim_first inner l (back v) w ts e g = refl
prim_first inner l and_ w ts e g = absurd cc
prim_first inner l _ w ts e g = absurd cc

field_prim : (inner : ℕ → List Kind → Res Tree) (l : ℕ) (ts : List Kind) (n : List ℕ) (o : Bool) (rest : List Kind) → IsField ts n o rest → strength rest < 6 → 1 ≤ l
    → r.prim true inner l ts ≡ Ok (t.field n o, rest)
field_prim inner l _ n _ rest (required {k = k} {w = w} {ts = ts} e h) s i =
    prim_first inner l k w ts e (no_call w ts n rest h (no_open rest s)) ∙ at_level_ok l (suc (length ts)) (res_map field_tree (named_field false (k ∷ ts))) i
    ∙ ap (res_map field_tree) (named_all false k w n ts rest e h (no_dot rest s))
field_prim inner l _ n _ rest (optional {k = k} {w = w} {ts = ts} e h) s i =
    at_level_ok l (suc (suc (length ts))) (res_map field_tree (named_field true (k ∷ ts))) i ∙ ap (res_map field_tree) (named_all true k w n ts rest e h (no_dot rest s))

-- lists of texts and of literals
text_all : (ts : List Kind) (s : List ℕ) (rest : List Kind) → IsText ts s rest → Unit {0} → (text_at ts ≡ Ok (s, rest)) × (length rest < length ts)
text_all _ _ rest a_text g = (refl, omega arith)

literal_all : (ts : List Kind) (v : Value) (rest : List Kind) → IsLiteral ts v rest → Unit {0} → (literal ts ≡ Ok (v, rest)) × (length rest < length ts)
literal_all _ _ rest is_number g = (refl, omega arith)
literal_all _ _ rest is_negative g = (refl, omega arith)
literal_all _ _ rest is_text g = (refl, omega arith)
literal_all _ _ rest is_true g = (refl, omega arith)
literal_all _ _ rest is_false g = (refl, omega arith)

patterns_all : (inner : ℕ → List Kind → Res Tree) (ts : List Kind) (ss : List (List ℕ)) (rest : List Kind) → IsPatterns ts ss rest → r.patterns true inner ts ≡ Ok (ss, rest)
patterns_all inner _ _ rest one_text = refl
patterns_all inner _ ss rest (some_texts {ts = ts} h) = ap (λ x. then_do x closing) (listed_all IsText (λ us. Unit {0}) text_at (λ us. tt) text_all ts ss (close_ ∷ rest) h tt refl)

members_all : (inner : ℕ → List Kind → Res Tree) (ts : List Kind) (vs : List Value) (rest : List Kind) → IsMembers ts vs rest → r.members true inner ts ≡ Ok (vs, rest)
members_all inner _ vs rest (members {ts = ts} h) = ap (λ x. then_do x closing) (listed_all IsLiteral (λ us. Unit {0}) literal (λ us. tt) literal_all ts vs (close_ ∷ rest) h tt refl)

-- anything but Syntax
abbrev NoSyntax : {A : Type 0} → Res A → Type 0
NoSyntax (Err (Syntax n)) = ⊥
NoSyntax _ = Unit {0}

-- a run that is refused so at each number comes to nothing else
never_syntax : {A B : Type 0} (f : ℕ → Res A) (n : ℕ) (x : Res A) → NoSyntax x → ((d : ℕ) → f d ≡ Err (Syntax n)) → Eventually f x → B
never_syntax f n x is_other h k = absurd (subst NoSyntax (sym (k.1 k.0 (le_refl k.0)) ∙ h k.0) is_other)

-- no test begins with `not`, no operand of a product but a negation with `-`, and no condition with `)`
pred_not : (inner : ℕ → List Kind → Res Tree) (l : ℕ) (us : List Kind) → r.pred true inner l (not_ ∷ us) ≡ Err (Syntax (suc (length us)))
unfolding r.unary
pred_not inner zero us = refl
pred_not inner (suc l) us = refl

level_close : (room : Bool) (inner : ℕ → List Kind → Res Tree) (l : ℕ) (us : List Kind) → r.level room inner l (close_ ∷ us) ≡ Err (Syntax (suc (length us)))
unfolding r.unary r.neg
level_close room inner zero us = refl
level_close room inner (suc l) us = refl

expr_close : (d l : ℕ) (us : List Kind) → expr d l (close_ ∷ us) ≡ Err (Syntax (suc (length us)))
unfolding expr
expr_close zero l us = level_close false (λ _ vs. Err (Syntax (length vs))) l us
expr_close (suc d) l us = level_close true (expr d) l us

-- what is returned, other than Syntax, where neither `not` nor `-` comes first
neg_opens : (l : ℕ) (ts : List Kind) (x : Res Tree) → NoSyntax x → Eventually (λ d. r.pred true (expr d) l ts) x → Eventually (λ d. r.neg true (expr d) l ts) x
unfolding r.neg
neg_opens zero [] x is_other h = h
neg_opens zero (not_ ∷ us) x is_other h = never_syntax (λ d. r.pred true (expr d) zero (not_ ∷ us)) (suc (length us)) x is_other (λ d. pred_not (expr d) zero us) h
neg_opens zero (_ ∷ us) x is_other h = h
neg_opens (suc l) [] x is_other h = h
neg_opens (suc l) (not_ ∷ us) x is_other h = never_syntax (λ d. r.pred true (expr d) (suc l) (not_ ∷ us)) (suc (length us)) x is_other (λ d. pred_not (expr d) (suc l) us) h
neg_opens (suc l) (_ ∷ us) x is_other h = h

neg_reaches : (most l : ℕ) (ts : List Kind) (x : Tree × List Kind) → Reaches most (λ d. r.pred true (expr d) l ts) x → Reaches most (λ d. r.neg true (expr d) l ts) x
neg_reaches most l ts x (inl h) = inl (neg_opens l ts (Ok x) tt h)
neg_reaches most l ts x (inr (j, i, h)) = inr (j, i, neg_opens l ts (Err (TooDeep (suc j))) tt h)

unary_opens : (l : ℕ) (ts : List Kind) (x : Res Tree) → NoSyntax x → Eventually (λ d. r.prim true (expr d) l ts) x → Eventually (λ d. r.unary true (expr d) l ts) x
unfolding r.unary
unary_opens zero [] x is_other h = h
unary_opens zero (adds Sub ∷ us) x is_other h = never_syntax (λ d. r.prim true (expr d) zero (adds Sub ∷ us)) (suc (length us)) x is_other (λ d. refl) h
unary_opens zero (_ ∷ us) x is_other h = h
unary_opens (suc l) [] x is_other h = h
unary_opens (suc l) (adds Sub ∷ us) x is_other h = never_syntax (λ d. r.prim true (expr d) (suc l) (adds Sub ∷ us)) (suc (length us)) x is_other (λ d. refl) h
unary_opens (suc l) (_ ∷ us) x is_other h = h

unary_reaches : (most l : ℕ) (ts : List Kind) (x : Tree × List Kind) → Reaches most (λ d. r.prim true (expr d) l ts) x → Reaches most (λ d. r.unary true (expr d) l ts) x
unary_reaches most l ts x (inl h) = inl (unary_opens l ts (Ok x) tt h)
unary_reaches most l ts x (inr (j, i, h)) = inr (j, i, unary_opens l ts (Err (TooDeep (suc j))) tt h)

-- what the list returns, other than Syntax, up to the parenthesis that closes
arguments_open : (l : ℕ) (ts : List Kind) (x : Res (List Tree)) → NoSyntax x → Eventually (λ d. comma_list (expr d l) ts) x → Eventually (λ d. arguments true (expr d) l ts) (then_do x closing)
unfolding separated
arguments_open l (close_ ∷ us) x is_other h =
    never_syntax (λ d. comma_list (expr d l) (close_ ∷ us)) (suc (length us)) x is_other (λ d. ap (λ s. then_do s (r.more_of is_comma (separated is_comma (expr d l) (length us)))) (expr_close d l us)) h
arguments_open l [] x is_other h = (h.0, λ d i. ap (λ s. then_do s closing) (h.1 d i))
arguments_open l (k ∷ us) x is_other h = (h.0, λ d i. ap (λ s. then_do s closing) (h.1 d i))

arguments_reach : (most l : ℕ) (ts : List Kind) (es : List Tree) (rest : List Kind) → Reaches most (λ d. comma_list (expr d l) ts) (es, close_ ∷ rest) → Reaches most (λ d. arguments true (expr d) l ts) (es, rest)
arguments_reach most l ts es rest (inl h) = inl (arguments_open l ts (Ok (es, close_ ∷ rest)) tt h)
arguments_reach most l ts es rest (inr (j, i, h)) = inr (j, i, arguments_open l ts (Err (TooDeep (suc j))) tt h)

-- one parenthesis more
later_at : (l : ℕ) (ts : List Kind) (x : Res Tree) (k d : ℕ) → ((m : ℕ) → k ≤ m → r.level true (expr m) l ts ≡ x) → suc k ≤ d → expr d l ts ≡ x
unfolding expr
later_at l ts x k zero h i = absurd (omega (arith, i))
later_at l ts x k (suc d) h i = h d (omega (arith, i))

later : (l : ℕ) (ts : List Kind) (x : Res Tree) → Eventually (λ d. r.level true (expr d) l ts) x → Eventually (λ d. expr d l ts) x
later l ts x h = (suc h.0, λ d i. later_at l ts x h.0 d h.1 i)

reaches_later : (most l : ℕ) (ts : List Kind) (x : Tree × List Kind) → Reaches most (λ d. r.level true (expr d) l ts) x → Reaches most (λ d. expr d l ts) x
reaches_later most l ts x (inl h) = inl (later l ts (Ok x) h)
reaches_later most l ts x (inr (j, i, h)) = inr (j, i, later l ts (Err (TooDeep (suc j))) h)

-- the operands between `or`s, `and`s and commas
abbrev joint_reader : Joint → ℕ → ℕ → List Kind → Res Tree
joint_reader by_or l d = r.conj true (expr d) l
joint_reader by_and l d = r.neg true (expr d) l
joint_reader by_comma l d = expr d l

abbrev is_joint : Joint → Kind → Bool
is_joint by_or = is_or
is_joint by_and = is_and
is_joint by_comma = is_comma

abbrev joint_bound : Joint → ℕ
joint_bound by_or = 2
joint_bound by_and = 3
joint_bound by_comma = 1

between_is : (j : Joint) → is_joint j (between j) ≡ true
between_is by_or = refl
between_is by_and = refl
between_is by_comma = refl

between_weak : (j : Joint) (us : List Kind) → strength (between j ∷ us) < joint_bound j
between_weak by_or us = omega arith
between_weak by_and us = omega arith
between_weak by_comma us = omega arith

long_zero : (n hole : ℕ) (b : Bool) → (n == hole) ≡ b → (if b then 0 else 1) ≤ 0 → n ≡ hole
long_zero n hole true e i = same_number n hole e
long_zero n hole false e i = absurd (omega (arith, i))

-- The number `hole` counts as nothing, and stands only where at most `most` tokens are left.
module _ (hole most : ℕ) where
  abbrev Operands : Joint → ℕ → List Kind → Trees → List Kind → Type 0
  Operands j l ts es rest = (xs : List Tree) × (trees_of xs ≡ es) × Row (is_joint j) (Part most (λ d. joint_reader j l d)) ts xs rest

  minus_step : (l : ℕ) (ts : List Kind) (e : Tree) (rest : List Kind) → depth_but hole (t.neg e) ≤ l → ((m : ℕ) → l ≡ suc m → Reaches most (λ d. r.unary true (expr d) m ts) (e, rest))
      → Reaches most (λ d. r.unary true (expr d) l (adds Sub ∷ ts)) (t.neg e, rest)
  unfolding r.unary
  minus_step zero ts e rest i h = absurd (omega (arith, i))
  minus_step (suc l) ts e rest i h = reaches_map most (λ d. r.unary true (expr d) l ts) t.neg e rest (h l refl)

  not_step : (l : ℕ) (ts : List Kind) (e : Tree) (rest : List Kind) → depth_but hole (t.not e) ≤ l → ((m : ℕ) → l ≡ suc m → Reaches most (λ d. r.neg true (expr d) m ts) (e, rest))
      → Reaches most (λ d. r.neg true (expr d) l (not_ ∷ ts)) (t.not e, rest)
  unfolding r.neg
  not_step zero ts e rest i h = absurd (omega (arith, i))
  not_step (suc l) ts e rest i h = reaches_map most (λ d. r.neg true (expr d) l ts) t.not e rest (h l refl)

  leaf : (l : ℕ) (ts : List Kind) (e : Tree) (place : ℕ) (rest : List Kind) → ((d : ℕ) → r.prim true (expr d) l ts ≡ at_level l place (Ok (e, rest))) → 1 ≤ l
      → Reaches most (λ d. r.prim true (expr d) l ts) (e, rest)
  leaf l ts e place rest h i = reaches_at_once most (λ d. r.prim true (expr d) l ts) (e, rest) (λ d. h d ∙ at_level_ok l place (Ok (e, rest)) i)

  -- where no level is left, a number is the one that counts as nothing
  long_leaf : (l : ℕ) (n : ℤ) (rest : List Kind) → Late hole most (number n ∷ rest) → depth_but hole (t.long n) ≤ l → Reaches most (λ d. r.prim true (expr d) l (number n ∷ rest)) (t.long n, rest)
  long_leaf zero (pos n) rest late i =
      let here = late.0 (ap (λ m. number (pos m)) (long_zero n hole (n == hole) refl i)) in
      inr (length rest, here, at_once (λ d. r.prim true (expr d) zero (number (pos n) ∷ rest)) (Err (TooDeep (suc (length rest)))) (λ d. refl))
  long_leaf zero (negsuc n) rest late i = absurd (omega (arith, i))
  long_leaf (suc l) n rest late i = leaf (suc l) (number n ∷ rest) (t.long n) (suc (length rest)) rest (λ d. refl) (omega arith)

  call_step : (l : ℕ) (w : List ℕ) (us : List Kind) (es : Trees) (rest : List Kind) → 1 ≤ l → is_left_out_call w es ≡ false
      → (xs : List Tree) × (trees_of xs ≡ es) × Reaches most (λ d. arguments true (expr d) (l - 1) us) (xs, rest)
      → Reaches most (λ d. r.prim true (expr d) l (name w ∷ open_ ∷ us)) (t.call w false es, rest)
  call_step l w us es rest i e h =
      let place : ℕ = suc (suc (length us)) in
      reaches_same most (λ d. then_do (arguments true (expr d) (l - 1) us) (call_of w place)) (λ d. r.prim true (expr d) l (name w ∷ open_ ∷ us)) (t.call w false es, rest)
      (λ d. at_level_ok l place (then_do (arguments true (expr d) (l - 1) us) (call_of w place)) i)
      (reaches_then most (λ d. arguments true (expr d) (l - 1) us) (λ d. call_of w place) h.0 rest (t.call w false es, rest) h.2
      (reaches_at_once most (λ d. call_of w place h.0 rest) (t.call w false es, rest)
      (λ d. if_false (is_left_out_call w (trees_of h.0)) _ (Ok (t.call w false (trees_of h.0), rest)) (ap (is_left_out_call w) h.1 ∙ e) ∙ ap (λ ys. Ok (t.call w false ys, rest)) h.1)))

  folding_step : (l : ℕ) (w : List ℕ) (us : List Kind) (es : Trees) (rest : List Kind) → 1 ≤ l
      → (xs : List Tree) × (trees_of xs ≡ es) × Reaches most (λ d. arguments true (expr d) (l - 1) us) (xs, rest)
      → Reaches most (λ d. r.prim true (expr d) l (folding w ∷ open_ ∷ us)) (t.call w true es, rest)
  folding_step l w us es rest i h =
      let place : ℕ = suc (suc (length us)) in
      let make : List Tree → Tree = λ xs. t.call w true (trees_of xs) in
      reaches_same most (λ d. res_map make (arguments true (expr d) (l - 1) us)) (λ d. r.prim true (expr d) l (folding w ∷ open_ ∷ us)) (t.call w true es, rest)
      (λ d. at_level_ok l place (res_map make (arguments true (expr d) (l - 1) us)) i)
      (subst (λ ys. Reaches most (λ d. res_map make (arguments true (expr d) (l - 1) us)) (t.call w true ys, rest)) h.1
      (reaches_map most (λ d. arguments true (expr d) (l - 1) us) make h.0 rest h.2))

  -- a test behind the sum on its left
  test_step : (l : ℕ) (ts us : List Kind) (a : Tree) (j : ℕ) (x : ℕ → Res Tree) (y : Tree × List Kind) → (most ≤ suc j → depth a < l) → Reaches most (λ d. r.sum true (expr d) l ts) (a, us)
      → ((d : ℕ) → r.behind_sum true (expr d) l a us ≡ above l a (suc j) (x d)) → Reaches most x y → Reaches most (λ d. r.pred true (expr d) l ts) y
  test_step l ts us a j x y less h e k =
      reaches_then most (λ d. r.sum true (expr d) l ts) (λ d. r.behind_sum true (expr d) l) a us y h
      (reaches_same most (λ d. above l a (suc j) (x d)) (λ d. r.behind_sum true (expr d) l a us) y e (reaches_above most l a j x y less k))

  joined_step : (j : Joint) (l : ℕ) (node : Trees → Tree) (ts us : List Kind) (e : Tree) (es : Trees) (rest : List Kind) → (most ≤ suc (length us) → depth e < l)
      → Reaches most (λ d. joint_reader j l d ts) (e, between j ∷ us) → Operands j (l - 1) us es rest → Ends (is_joint j) rest
      → Reaches most (λ d. then_do (joint_reader j l d ts) (joined_operands (is_joint j) node (λ m. joint_reader j m d) l)) (node (more e es), rest)
  joined_step j l node ts us e es rest less h row s =
      reaches_then most (λ d. joint_reader j l d ts) (λ d. joined_operands (is_joint j) node (λ m. joint_reader j m d) l) e (between j ∷ us) (node (more e es), rest) h
      (subst (λ ys. Reaches most (λ d. joined_operands (is_joint j) node (λ m. joint_reader j m d) l e (between j ∷ us)) (node (more e ys), rest)) row.1
      (reaches_joined most (is_joint j) node (λ d m. joint_reader j m d) l e (between j) us row.0 rest (between_is j) less
      (row_reaches most (is_joint j) (λ d. joint_reader j (l - 1) d) (length us) us row.0 rest row.2 s (le_refl (length us)))))

  alone_step : (j : Joint) (l : ℕ) (node : Trees → Tree) (ts : List Kind) (e : Tree) (rest : List Kind) → Reaches most (λ d. joint_reader j l d ts) (e, rest) → Ends (is_joint j) rest
      → Reaches most (λ d. then_do (joint_reader j l d ts) (joined_operands (is_joint j) node (λ m. joint_reader j m d) l)) (e, rest)
  alone_step j l node ts e rest h s =
      reaches_then most (λ d. joint_reader j l d ts) (λ d. joined_operands (is_joint j) node (λ m. joint_reader j m d) l) e rest (e, rest) h
      (reaches_at_once most (λ d. joined_operands (is_joint j) node (λ m. joint_reader j m d) l e rest) (e, rest) (λ d. joined_one (is_joint j) node (λ m. joint_reader j m d) l e rest s))

  -- no operator of a sum or of a product follows
  sum_stops : (l : ℕ) (a : Tree) (rest : List Kind) → strength rest < 4 → (n : ℕ) → length rest ≤ n → Reaches most (λ d. chain_from adds_of (r.prod true (expr d)) l n a rest) (a, rest)
  sum_stops l a rest s n q =
      reaches_at_once most (λ d. chain_from adds_of (r.prod true (expr d)) l n a rest) (a, rest) (λ d. chain_ends adds_of (r.prod true (expr d)) l n a rest (adds_stop rest s))

  prod_stops : (l : ℕ) (a : Tree) (rest : List Kind) → strength rest < 5 → (n : ℕ) → length rest ≤ n → Reaches most (λ d. chain_from multiplies_of (r.unary true (expr d)) l n a rest) (a, rest)
  prod_stops l a rest s n q =
      reaches_at_once most (λ d. chain_from multiplies_of (r.unary true (expr d)) l n a rest) (a, rest) (λ d. chain_ends multiplies_of (r.unary true (expr d)) l n a rest (multiplies_stop rest s))

  mutual
    pub expr_all : (l : ℕ) (ts : List Kind) (e : Tree) (rest : List Kind) → IsExpr ts e rest → Late hole most ts → depth_but hole e ≤ l → strength rest < 1 → Reaches most (λ d. expr d l ts) (e, rest)
    expr_all l ts e rest (conj h) late i s = reaches_later most l ts (e, rest) (alone_step by_or l t.or ts e rest (conj_all l ts e rest h late i (omega (arith, s))) (or_ends rest s))
    expr_all l ts _ rest (any_of {us = us} {e = e} {es = es} h k) late i s =
        let kept = conj_kept hole most ts e (or_ ∷ us) h late in
        reaches_later most l ts (t.or (more e es), rest)
        (joined_step by_or l t.or ts us e es rest (λ q. omega (arith, i, kept.1 q)) (conj_all l ts e (or_ ∷ us) h late (omega (arith, i)) (omega arith))
        (operands_all (l - 1) by_or us es rest k kept.0.1 (omega (arith, i)) (omega (arith, s))) (or_ends rest s))

    conj_all : (l : ℕ) (ts : List Kind) (e : Tree) (rest : List Kind) → IsConj ts e rest → Late hole most ts → depth_but hole e ≤ l → strength rest < 2
        → Reaches most (λ d. r.conj true (expr d) l ts) (e, rest)
    conj_all l ts e rest (neg h) late i s = alone_step by_and l t.and ts e rest (neg_all l ts e rest h late i (omega (arith, s))) (and_ends rest s)
    conj_all l ts _ rest (all_of {us = us} {e = e} {es = es} h k) late i s =
        let kept = neg_kept hole most ts e (and_ ∷ us) h late in
        joined_step by_and l t.and ts us e es rest (λ q. omega (arith, i, kept.1 q)) (neg_all l ts e (and_ ∷ us) h late (omega (arith, i)) (omega arith))
        (operands_all (l - 1) by_and us es rest k kept.0.1 (omega (arith, i)) (omega (arith, s))) (and_ends rest s)

    operands_all : (l : ℕ) (j : Joint) (ts : List Kind) (es : Trees) (rest : List Kind) → IsOperands j ts es rest → Late hole most ts → deepest_but hole es ≤ l → strength rest < joint_bound j
        → Operands j l ts es rest
    operands_all l j ts _ rest (last {e = e} h) late i s = (e ∷ [], refl, last_of (operand_all l j ts e rest h late (omega (arith, i)) s, operand_short j ts e rest h))
    operands_all l j ts _ rest (next {us = us} {e = e} {es = es} h k) late i s =
        let o = operands_all l j us es rest k (operand_kept hole most j ts e (between j ∷ us) h late).0.1 (omega (arith, i)) s in (
          e ∷ o.0,
          ap (more e) o.1,
          next_of {k = between j} (between_is j) (operand_all l j ts e (between j ∷ us) h late (omega (arith, i)) (between_weak j us), operand_short j ts e (between j ∷ us) h) o.2,
        )

    operand_all : (l : ℕ) (j : Joint) (ts : List Kind) (e : Tree) (rest : List Kind) → IsOperand j ts e rest → Late hole most ts → depth_but hole e ≤ l → strength rest < joint_bound j
        → Reaches most (λ d. joint_reader j l d ts) (e, rest)
    operand_all l _ ts e rest (of_or h) late i s = conj_all l ts e rest h late i s
    operand_all l _ ts e rest (of_and h) late i s = neg_all l ts e rest h late i s
    operand_all l _ ts e rest (of_comma h) late i s = expr_all l ts e rest h late i s

    neg_all : (l : ℕ) (ts : List Kind) (e : Tree) (rest : List Kind) → IsNeg ts e rest → Late hole most ts → depth_but hole e ≤ l → strength rest < 3
        → Reaches most (λ d. r.neg true (expr d) l ts) (e, rest)
    neg_all l _ _ rest (negated {ts = ts} {e = e} h) late i s = not_step l ts e rest i (λ m q. neg_all m ts e rest h late.1 (omega (arith, i, q)) s)
    neg_all l ts e rest (pred h) late i s = neg_reaches most l ts (e, rest) (pred_all l ts e rest h late i s)

    pred_all : (l : ℕ) (ts : List Kind) (e : Tree) (rest : List Kind) → IsPred ts e rest → Late hole most ts → depth_but hole e ≤ l → strength rest < 3
        → Reaches most (λ d. r.pred true (expr d) l ts) (e, rest)
    pred_all l ts e rest (sum h) late i s =
        reaches_then most (λ d. r.sum true (expr d) l ts) (λ d. r.behind_sum true (expr d) l) e rest (e, rest)
        (sum_all l (e, rest) ts e rest h late i (omega (arith, s)) (sum_stops l e rest (omega (arith, s))))
        (reaches_at_once most (λ d. r.behind_sum true (expr d) l e rest) (e, rest) (λ d. sum_ends (expr d) l e rest s))
    pred_all l ts _ rest (compared {us = us} {o = o} {a = a} {b = b} h k) late i s =
        let kept = sum_kept hole most ts a (compares o ∷ us) h late in
        test_step l ts (compares o ∷ us) a (length us) (λ d. res_map (t.cmp o a) (r.sum true (expr d) (l - 1) us)) (t.cmp o a b, rest) (λ q. omega (arith, i, kept.1 q))
        (sum_all l (a, compares o ∷ us) ts a (compares o ∷ us) h late (omega (arith, i)) (omega arith) (sum_stops l a (compares o ∷ us) (omega arith)))
        (λ d. refl)
        (reaches_map most (λ d. r.sum true (expr d) (l - 1) us) (t.cmp o a) b rest
        (sum_all (l - 1) (b, rest) us b rest k kept.0.1 (omega (arith, i)) (omega (arith, s)) (sum_stops (l - 1) b rest (omega (arith, s)))))
    pred_all l ts _ rest (matched {us = us} {o = o} {a = a} {ss = ss} h k) late i s =
        let kept = sum_kept hole most ts a (matches o ∷ us) h late in
        test_step l ts (matches o ∷ us) a (length us) (λ d. res_map (t.pattern o a) (r.patterns true (expr d) us)) (t.pattern o a ss, rest) (λ q. omega (arith, i, kept.1 q))
        (sum_all l (a, matches o ∷ us) ts a (matches o ∷ us) h late (omega (arith, i)) (omega arith) (sum_stops l a (matches o ∷ us) (omega arith)))
        (λ d. refl)
        (reaches_at_once most (λ d. res_map (t.pattern o a) (r.patterns true (expr d) us)) (t.pattern o a ss, rest) (λ d. ap (res_map (t.pattern o a)) (patterns_all (expr d) us ss rest k)))
    pred_all l ts _ rest (is_in {us = us} {f = f} {a = a} {vs = vs} h k) late i s =
        let kept = sum_kept hole most ts a (in_ f ∷ us) h late in
        test_step l ts (in_ f ∷ us) a (length us) (λ d. res_map (t.member f false a) (r.members true (expr d) us)) (t.member f false a vs, rest) (λ q. omega (arith, i, kept.1 q))
        (sum_all l (a, in_ f ∷ us) ts a (in_ f ∷ us) h late (omega (arith, i)) (omega arith) (sum_stops l a (in_ f ∷ us) (omega arith)))
        (λ d. refl)
        (reaches_at_once most (λ d. res_map (t.member f false a) (r.members true (expr d) us)) (t.member f false a vs, rest) (λ d. ap (res_map (t.member f false a)) (members_all (expr d) us vs rest k)))
    pred_all l ts _ rest (is_not_in {us = us} {f = f} {a = a} {vs = vs} h k) late i s =
        let kept = sum_kept hole most ts a (not_ ∷ in_ f ∷ us) h late in
        test_step l ts (not_ ∷ in_ f ∷ us) a (suc (length us)) (λ d. res_map (t.member f true a) (r.members true (expr d) us)) (t.member f true a vs, rest) (λ q. omega (arith, i, kept.1 q))
        (sum_all l (a, not_ ∷ in_ f ∷ us) ts a (not_ ∷ in_ f ∷ us) h late (omega (arith, i)) (omega arith) (sum_stops l a (not_ ∷ in_ f ∷ us) (omega arith)))
        (λ d. refl)
        (reaches_at_once most (λ d. res_map (t.member f true a) (r.members true (expr d) us)) (t.member f true a vs, rest) (λ d. ap (res_map (t.member f true a)) (members_all (expr d) us vs rest k)))

    -- what the loop makes of what follows is what the sum makes of the whole
    sum_all : (l : ℕ) (y : Tree × List Kind) (ts : List Kind) (a : Tree) (rest : List Kind) → IsSum ts a rest → Late hole most ts → depth_but hole a ≤ l → strength rest < 5
        → ((n : ℕ) → length rest ≤ n → Reaches most (λ d. chain_from adds_of (r.prod true (expr d)) l n a rest) y) → Reaches most (λ d. r.sum true (expr d) l ts) y
    sum_all l y ts a rest (prod h) late i s k =
        reaches_then most (λ d. r.prod true (expr d) l ts) (λ d b us. chain_from adds_of (r.prod true (expr d)) l (length us) b us) a rest y
        (prod_all l (a, rest) ts a rest h late i (omega (arith, s)) (prod_stops l a rest s)) (k (length rest) (le_refl (length rest)))
    sum_all l y ts _ rest (added {us = us} {o = o} {a = a} {b = b} h p) late i s k =
        let kept = sum_kept hole most ts a (adds o ∷ us) h late in
        sum_all l y ts a (adds o ∷ us) h late (omega (arith, i)) (omega arith)
        (λ n q. reaches_turn most adds_of (λ d. r.prod true (expr d)) l n us (adds o) o a b rest y refl (λ x. omega (arith, i, kept.1 x))
        (prod_all (l - 1) (b, rest) us b rest p kept.0.1 (omega (arith, i)) (omega (arith, s)) (prod_stops (l - 1) b rest s))
        q (λ m x. k m (omega (arith, q, x, prod_short us b rest p))))

    prod_all : (l : ℕ) (y : Tree × List Kind) (ts : List Kind) (a : Tree) (rest : List Kind) → IsProd ts a rest → Late hole most ts → depth_but hole a ≤ l → strength rest < 6
        → ((n : ℕ) → length rest ≤ n → Reaches most (λ d. chain_from multiplies_of (r.unary true (expr d)) l n a rest) y) → Reaches most (λ d. r.prod true (expr d) l ts) y
    prod_all l y ts a rest (unary h) late i s k =
        reaches_then most (λ d. r.unary true (expr d) l ts) (λ d b us. chain_from multiplies_of (r.unary true (expr d)) l (length us) b us) a rest y
        (unary_all l ts a rest h late i s) (k (length rest) (le_refl (length rest)))
    prod_all l y ts _ rest (multiplied {us = us} {o = o} {a = a} {b = b} h p) late i s k =
        let kept = prod_kept hole most ts a (multiplies o ∷ us) h late in
        prod_all l y ts a (multiplies o ∷ us) h late (omega (arith, i)) (omega arith)
        (λ n q. reaches_turn most multiplies_of (λ d. r.unary true (expr d)) l n us (multiplies o) o a b rest y refl (λ x. omega (arith, i, kept.1 x))
        (unary_all (l - 1) us b rest p kept.0.1 (omega (arith, i)) s)
        q (λ m x. k m (omega (arith, q, x, unary_short us b rest p))))

    unary_all : (l : ℕ) (ts : List Kind) (e : Tree) (rest : List Kind) → IsUnary ts e rest → Late hole most ts → depth_but hole e ≤ l → strength rest < 6
        → Reaches most (λ d. r.unary true (expr d) l ts) (e, rest)
    unary_all l _ _ rest (minus {ts = ts} {e = e} h) late i s = minus_step l ts e rest i (λ m q. unary_all m ts e rest h late.1 (omega (arith, i, q)) s)
    unary_all l ts e rest (prim h) late i s = unary_reaches most l ts (e, rest) (prim_all l ts e rest h late i s)

    prim_all : (l : ℕ) (ts : List Kind) (e : Tree) (rest : List Kind) → IsPrim ts e rest → Late hole most ts → depth_but hole e ≤ l → strength rest < 6
        → Reaches most (λ d. r.prim true (expr d) l ts) (e, rest)
    prim_all l _ _ rest is_null late i s = leaf l (null_ ∷ rest) t.null (suc (length rest)) rest (λ d. refl) i
    prim_all l _ _ rest is_yes late i s = leaf l (true_ ∷ rest) (t.bool true) (suc (length rest)) rest (λ d. refl) i
    prim_all l _ _ rest is_no late i s = leaf l (false_ ∷ rest) (t.bool false) (suc (length rest)) rest (λ d. refl) i
    prim_all l _ _ rest (is_long {n = n}) late i s = long_leaf l n rest late i
    prim_all l _ _ rest (is_str {s = c}) late i s = leaf l (text c ∷ rest) (t.str c) (suc (length rest)) rest (λ d. refl) i
    prim_all l ts _ rest (is_field {n = n} {o = o} h) late i s = reaches_at_once most (λ d. r.prim true (expr d) l ts) (t.field n o, rest) (λ d. field_prim (expr d) l ts n o rest h s i)
    prim_all l _ _ rest (is_call {w = w} {us = us} {es = es} h e) late i s =
        call_step l w us es rest (omega (arith, i)) e (arguments_reached (l - 1) us es rest h late.1.1 (omega (arith, i)))
    prim_all l _ _ rest (is_folding_call {w = w} {us = us} {es = es} h) late i s =
        folding_step l w us es rest (omega (arith, i)) (arguments_reached (l - 1) us es rest h late.1.1 (omega (arith, i)))
    prim_all l _ e rest (inside {us = us} h) late i s =
        reaches_then most (λ d. expr d l us) (λ d. closing) e (close_ ∷ rest) (e, rest) (expr_all l us e (close_ ∷ rest) h late.1 i (omega arith))
        (reaches_at_once most (λ d. closing e (close_ ∷ rest)) (e, rest) (λ d. refl))

    arguments_reached : (l : ℕ) (ts : List Kind) (es : Trees) (rest : List Kind) → IsArguments ts es rest → Late hole most ts → deepest_but hole es ≤ l
        → (xs : List Tree) × (trees_of xs ≡ es) × Reaches most (λ d. arguments true (expr d) l ts) (xs, rest)
    arguments_reached l _ _ rest no_arguments late i = ([], refl, inl (at_once _ _ (λ d. refl)))
    arguments_reached l ts es rest (some_arguments h) late i =
        let o = operands_all l by_comma ts es (close_ ∷ rest) h late i (omega arith) in
        (o.0, o.1, arguments_reach most l ts o.0 rest (row_reaches most is_comma (λ d. expr d l) (length ts) ts o.0 (close_ ∷ rest) o.2 refl (le_refl (length ts))))

-- where no number counts as nothing
pub arguments_all : (l : ℕ) (ts : List Kind) (es : Trees) (rest : List Kind) → IsArguments ts es rest → deepest es ≤ l
    → (xs : List Tree) × (trees_of xs ≡ es) × Eventually (λ d. arguments true (expr d) l ts) (Ok (xs, rest))
arguments_all l ts es rest h i =
    let all = arguments_reached (above_all ts) 0 l ts es rest h (late_never (above_all ts) ts (above_new ts)) (omega (arith, i, but_deepest (above_all ts) es)) in
    (all.0, all.1, reaches_now (λ d. arguments true (expr d) l ts) (all.0, rest) all.2)
