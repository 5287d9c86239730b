-- How many parentheses stand open in some tokens, part by part.
use Rattle.std.proofs.Common.{◌≡◌, ℕ, suc, ◌+◌, ◌-◌, ◌≤◌, Bool, true, false, List, [], ◌∷◌, ◌++◌, Option, Some, None, refl, sym, ap, subst, ◌∙◌, arith}
use Rattle.eql_parser.specs.Kinds.{Kind, open_, close_}
use Rattle.eql_parser.specs.Limits.{open_behind}

-- a token that is no parenthesis
abbrev pub Plain : Kind → Type 0
Plain open_ = ⊥
Plain close_ = ⊥
Plain _ = Unit {0}

pub plain_true : (is : Kind → Bool) → is open_ ≡ false → is close_ ≡ false → (k : Kind) → is k ≡ true → Plain k
plain_true is o c open_ h = absurd cc
plain_true is o c close_ h = absurd cc
plain_true is o c _ h = tt

pub plain_some : {A : Type 0} (of : Kind → Option A) → of open_ ≡ None → of close_ ≡ None → (k : Kind) (a : A) → of k ≡ Some a → Plain k
plain_some of o c open_ a h = absurd cc
plain_some of o c close_ a h = absurd cc
plain_some of o c _ a h = tt

-- nowhere more than so many stand open, with n before these tokens
abbrev pub OpenTo : (most n : ℕ) → List Kind → Type 0
OpenTo most n [] = n ≤ most
OpenTo most n (open_ ∷ ts) = (n ≤ most) × OpenTo most (suc n) ts
OpenTo most n (close_ ∷ ts) = (n ≤ most) × OpenTo most (n - 1) ts
OpenTo most n (_ ∷ ts) = OpenTo most n ts

-- each parenthesis that opens here closes again, and at most d stand open at once
abbrev pub Calm : ℕ → List Kind → Type 0
Calm d m = (o : ℕ) → (open_behind o m ≡ o) × ((most : ℕ) → o + d ≤ most → OpenTo most o m)

-- whatever stands open before these tokens, nowhere in them do more than d stand open beside
abbrev pub Under : ℕ → List Kind → Type 0
Under d m = (o most : ℕ) → o + d ≤ most → OpenTo most o m

pub open_behind_both : (o : ℕ) (m more : List Kind) → open_behind o (m ++ more) ≡ open_behind (open_behind o m) more
open_behind_both o [] more = refl
open_behind_both o (open_ ∷ m) more = open_behind_both (suc o) m more
open_behind_both o (close_ ∷ m) more = open_behind_both (o - 1) m more
open_behind_both o (k ∷ m) more = open_behind_both o m more

open_to_both : (most o : ℕ) (m more : List Kind) → OpenTo most o m → OpenTo most (open_behind o m) more → OpenTo most o (m ++ more)
open_to_both most o [] more h k = k
open_to_both most o (open_ ∷ m) more h k = (h.0, open_to_both most (suc o) m more h.1 k)
open_to_both most o (close_ ∷ m) more h k = (h.0, open_to_both most (o - 1) m more h.1 k)
open_to_both most o (_ ∷ m) more h k = open_to_both most o m more h k

open_to_now : (most o : ℕ) (m : List Kind) → OpenTo most o m → o ≤ most
open_to_now most o [] h = h
open_to_now most o (open_ ∷ m) h = h.0
open_to_now most o (close_ ∷ m) h = h.0
open_to_now most o (_ ∷ m) h = open_to_now most o m h

-- so at each place in them
pub open_to_front : (most o : ℕ) (before behind : List Kind) → OpenTo most o (before ++ behind) → open_behind o before ≤ most
open_to_front most o [] behind h = open_to_now most o behind h
open_to_front most o (open_ ∷ before) behind h = open_to_front most (suc o) before behind h.1
open_to_front most o (close_ ∷ before) behind h = open_to_front most (o - 1) before behind h.1
open_to_front most o (_ ∷ before) behind h = open_to_front most o before behind h

pub calm_none : (d : ℕ) → Calm d []
calm_none d = λ o. (refl, λ most h. omega (arith, h))

pub calm_both : (d : ℕ) (m more : List Kind) → Calm d m → Calm d more → Calm d (m ++ more)
calm_both d m more h k = λ o. (
  open_behind_both o m more ∙ ap (λ n. open_behind n more) (h o).0 ∙ (k o).0,
  λ most i. open_to_both most o m more ((h o).1 most i) (subst (λ n. OpenTo most n more) (sym (h o).0) ((k o).1 most i)),
)

calm_one : (d : ℕ) (k : Kind) → Plain k → Calm d (k ∷ [])
calm_one d open_ h = absurd h
calm_one d close_ h = absurd h
calm_one d _ h = λ o. (refl, λ most i. omega (arith, i))

pub calm_plain : (d : ℕ) (k : Kind) (m : List Kind) → Plain k → Calm d m → Calm d (k ∷ m)
calm_plain d k m h c = calm_both d (k ∷ []) m (calm_one d k h) c

pub calm_inside : (d : ℕ) (m : List Kind) → Calm d m → Calm (suc d) (open_ ∷ (m ++ close_ ∷ []))
calm_inside d m c = λ o. (
  open_behind_both (suc o) m (close_ ∷ []) ∙ ap (λ n. n - 1) (c (suc o)).0 ∙ omega arith,
  λ most i. (
    omega (arith, i),
    open_to_both most (suc o) m (close_ ∷ []) ((c (suc o)).1 most (omega (arith, i)))
        (subst (λ n. OpenTo most n (close_ ∷ [])) (sym (c (suc o)).0) (omega (arith, i), omega (arith, i))),
  ),
)

pub under_none : (d : ℕ) → Under d []
under_none d = λ o most h. omega (arith, h)

pub under_calm : (d : ℕ) (m : List Kind) → Calm d m → Under d m
under_calm d m c = λ o most h. (c o).1 most h

pub under_behind : (d : ℕ) (m more : List Kind) → Calm d m → Under d more → Under d (m ++ more)
under_behind d m more c u = λ o most h. open_to_both most o m more ((c o).1 most h) (subst (λ n. OpenTo most n more) (sym (c o).0) (u o most h))

pub under_inside : (d : ℕ) (m : List Kind) → Under d m → Under (suc d) (open_ ∷ m)
under_inside d m u = λ o most h. (omega (arith, h), u (suc o) most (omega (arith, h)))
