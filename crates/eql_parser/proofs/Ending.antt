-- What a reader has read where it stops can be ended as one of the things that it reads: what goes for every reader.
use Rattle.std.proofs.Common.{◌≡◌, ℕ, zero, suc, pos, ◌-◌, ◌<◌, ◌≤◌, nat_lt, Bool, true, false, if◌then◌else◌, List, [], ◌∷◌, ◌++◌, length, Option, Some, None, Ok, Err, refl, sym, ap, subst, ◌∙◌, append_assoc, ltb-true, arith}
use Rattle.eql_query.specs.declared.expr.MathOp.{MathOp}
use Rattle.eql_query.specs.Tree.{Tree, Trees, more}
use Rattle.eql_query.specs.Tree as t
use Rattle.eql_query.specs.View.{trees_of}
use Rattle.eql_parser.specs.Kinds.{Kind, number, close_}
use Rattle.eql_parser.specs.Limits.{depth, depth_but, deepest_but}
use Rattle.eql_parser.specs.Reading.{Fail, Syntax, TooDeep, Res, then_do, res_map, closing, more_of, separated, at_level, above, chain_on, chain_from, chain, joined_operands}
use Rattle.eql_parser.proofs.Levels.{but_less, nothing}
use Rattle.eql_parser.proofs.Rows.{Row, last_of, next_of, WithinBut}
use Rattle.eql_parser.proofs.Starts.{Free, Starts, TellsOf, Onto, fail_place, starts_behind, free_behind, starts_whole}

-- a reader stops behind tokens that can be ended
pub record Ended {A : Type 0} (Is : List Kind → A → List Kind → Type 0) (ts : List Kind) (e : Fail) : Type 0 where
  pub front : List Kind
  pub behind : List Kind
  pub cut : ts ≡ front ++ behind
  pub count : length behind ≡ fail_place e
  pub starts : Starts Is front

-- What an answer says: the front of the tokens is of one kind, or can be ended as one of another kind.
abbrev pub CanEndOf : {A : Type 0} → (Is Begun : List Kind → A → List Kind → Type 0) → List Kind → Res A → Type 0
CanEndOf Is Begun ts (Ok p) = (front : List Kind) × (ts ≡ front ++ p.1) × Free Is front p.0
CanEndOf Is Begun ts (Err e) = Ended Begun ts e

abbrev pub CanEnd : {A : Type 0} → (List Kind → A → List Kind → Type 0) → List Kind → Res A → Type 0
CanEnd Is = CanEndOf Is Is

-- what begins with more tokens begins with fewer
fewer : {A : Type 0} (Is : List Kind → A → List Kind → Type 0) (front follows : List Kind) → Starts Is (front ++ follows) → Starts Is front
fewer Is front follows s =
    (s.0, follows ++ s.1, λ rest. subst (λ l. Is l s.0 rest) (append_assoc front follows (s.1 ++ rest) ∙ ap (λ l. front ++ l) (sym (append_assoc follows s.1 rest))) (s.2 rest))

-- where no level is counted
pub from_tells : {A : Type 0} (Is Begun : List Kind → A → List Kind → Type 0) (ts : List Kind) (r : Res A) → TellsOf Is Begun ts r → CanEndOf Is Begun ts r
from_tells Is Begun ts (Ok p) h = h
from_tells Is Begun ts (Err e) h = record { front = h.front; behind = h.behind; cut = h.cut; count = h.count; starts = fewer Begun h.front h.follows h.starts }

-- a reader stops behind some tokens
pub ended_at : {A : Type 0} (Q : List Kind → A → List Kind → Type 0) (m us : List Kind) (e : Fail) → length us ≡ fail_place e → Starts Q m → Ended Q (m ++ us) e
ended_at Q m us e h s = record { front = m; behind = us; cut = refl; count = h; starts = s }

-- a form behind some tokens, in another form
pub ended_behind : {A B : Type 0} (P : List Kind → A → List Kind → Type 0) (Q : List Kind → B → List Kind → Type 0) (m : List Kind) (f : A → B)
    → ((us : List Kind) (x : A) (rest : List Kind) → P us x rest → Q (m ++ us) (f x) rest) → (ts : List Kind) (e : Fail) → Ended P ts e → Ended Q (m ++ ts) e
ended_behind P Q m f go ts e s = record {
  front = m ++ s.front;
  behind = s.behind;
  cut = ap (λ l. m ++ l) s.cut ∙ sym (append_assoc m s.front s.behind);
  count = s.count;
  starts = starts_behind P Q m f go s.front s.starts;
}

pub can_map : {A B : Type 0} (P : List Kind → A → List Kind → Type 0) (Q : List Kind → B → List Kind → Type 0) (ts : List Kind) (f : A → B) (r : Res A)
    → ((us : List Kind) (x : A) (rest : List Kind) → P us x rest → Q us (f x) rest) → CanEnd P ts r → CanEnd Q ts (res_map f r)
can_map P Q ts f (Ok p) go h = (h.0, h.1, λ rest. go (h.0 ++ rest) p.0 rest (h.2 rest))
can_map P Q ts f (Err e) go h = ended_behind P Q [] f go ts e h

-- a run behind some tokens
pub can_behind : {A : Type 0} (P Q S T : List Kind → A → List Kind → Type 0) (m : List Kind) (ts : List Kind) (r : Res A)
    → ((us : List Kind) (x : A) (rest : List Kind) → P us x rest → Q (m ++ us) x rest) → ((us : List Kind) (x : A) (rest : List Kind) → S us x rest → T (m ++ us) x rest)
    → CanEndOf P S ts r → CanEndOf Q T (m ++ ts) r
can_behind P Q S T m ts (Ok p) go begin h = (m ++ h.0, ap (λ l. m ++ l) h.1 ∙ sym (append_assoc m h.0 p.1), free_behind P Q m (λ x. x) go h.0 p.0 h.2)
can_behind P Q S T m ts (Err e) go begin h = ended_behind S T m (λ x. x) begin ts e h

pub can_also : {A : Type 0} (P Q : List Kind → A → List Kind → Type 0) (ts : List Kind) (r : Res A)
    → ((us : List Kind) (x : A) (rest : List Kind) → P us x rest → Q us x rest) → CanEnd P ts r → CanEnd Q ts r
can_also P Q ts r go h = can_behind P Q P Q [] ts r go go h

-- a run behind one token
pub can_token : {A : Type 0} (P Q : List Kind → A → List Kind → Type 0) (k : Kind) (ts : List Kind) (r : Res A)
    → ((us : List Kind) (x : A) (rest : List Kind) → P us x rest → Q (k ∷ us) x rest) → CanEnd P ts r → CanEnd Q (k ∷ ts) r
can_token P Q k ts r go h = can_behind P Q P Q (k ∷ []) ts r go go h

ended_whole : {A B : Type 0} (P : List Kind → A → List Kind → Type 0) (Q : List Kind → B → List Kind → Type 0) → ((x : A) → Starts (Onto P Q x) []) → (ts : List Kind) (e : Fail)
    → Ended P ts e → Ended Q ts e
ended_whole P Q complete ts e s = record { front = s.front; behind = s.behind; cut = s.cut; count = s.count; starts = starts_whole P Q complete s.front s.starts }

pub can_then_of : {A B : Type 0} (P : List Kind → A → List Kind → Type 0) (Q S : List Kind → B → List Kind → Type 0) (ts : List Kind) (r : Res A) (f : A → List Kind → Res B)
    → ((x : A) → Starts (Onto P S x) []) → CanEnd P ts r → ((x : A) (us : List Kind) → CanEndOf (Onto P Q x) (Onto P S x) us (f x us)) → CanEndOf Q S ts (then_do r f)
can_then_of P Q S ts (Ok p) f complete h k =
    subst (λ l. CanEndOf Q S l (f p.0 p.1)) (sym h.1)
    (can_behind (Onto P Q p.0) Q (Onto P S p.0) S h.0 p.1 (f p.0 p.1) (λ us y rest i. i (h.0 ++ us) (h.2 us)) (λ us y rest i. i (h.0 ++ us) (h.2 us)) (k p.0 p.1))
can_then_of P Q S ts (Err e) f complete h k = ended_whole P S complete ts e h

pub can_then : {A B : Type 0} (P : List Kind → A → List Kind → Type 0) (Q : List Kind → B → List Kind → Type 0) (ts : List Kind) (r : Res A) (f : A → List Kind → Res B)
    → ((x : A) → Starts (Onto P Q x) []) → CanEnd P ts r → ((x : A) (us : List Kind) → CanEnd (Onto P Q x) us (f x us)) → CanEnd Q ts (then_do r f)
can_then P Q ts r f complete h k = can_then_of P Q Q ts r f complete h k

-- nothing more is read
pub can_here : {A : Type 0} (Q S : List Kind → A → List Kind → Type 0) (x : A) (ts : List Kind) → Free Q [] x → CanEndOf Q S ts (Ok (x, ts))
can_here Q S x ts h = ([], refl, h)

pub can_one : {A : Type 0} (Q : List Kind → A → List Kind → Type 0) (k : Kind) (x : A) (ts : List Kind) → Free Q (k ∷ []) x → CanEnd Q (k ∷ ts) (Ok (x, ts))
can_one Q k x ts h = (k ∷ [], refl, h)

pub can_if : {A : Type 0} (Q S : List Kind → A → List Kind → Type 0) (ts : List Kind) (b : Bool) (r s : Res A) → (b ≡ true → CanEndOf Q S ts r) → (b ≡ false → CanEndOf Q S ts s)
    → CanEndOf Q S ts (if b then r else s)
can_if Q S ts true r s h k = h refl
can_if Q S ts false r s h k = k refl

pub can_at_level : {A : Type 0} (Q : List Kind → A → List Kind → Type 0) (k : Kind) (us : List Kind) (l : ℕ) (r : Res A) → Starts Q [] → (1 ≤ l → CanEnd Q (k ∷ us) r)
    → CanEnd Q (k ∷ us) (at_level l (suc (length us)) r)
can_at_level Q k us zero r s h = ended_at Q [] (k ∷ us) (TooDeep (suc (length us))) refl s
can_at_level Q k us (suc l) r s h = h (omega arith)

pub can_above : {A : Type 0} (Q : List Kind → A → List Kind → Type 0) (k : Kind) (us : List Kind) (l : ℕ) (a : Tree) (r : Res A) → Starts Q [] → (depth a < l → CanEnd Q (k ∷ us) r)
    → CanEnd Q (k ∷ us) (above l a (suc (length us)) r)
can_above Q k us l a r s h =
    can_if Q Q (k ∷ us) (nat_lt (depth a) l) r (Err (TooDeep (suc (length us)))) (λ e. h (ltb-true (depth a) l e)) (λ e. ended_at Q [] (k ∷ us) (TooDeep (suc (length us))) refl s)

-- up to one closing parenthesis
pub can_closing_of : {A : Type 0} (P Q S : List Kind → A → List Kind → Type 0) (ts : List Kind) (r : Res A) → ((us : List Kind) (x : A) (rest : List Kind) → P us x (close_ ∷ rest) → Q us x rest)
    → ((x : A) → Starts (Onto P S x) []) → CanEnd P ts r → CanEndOf Q S ts (then_do r closing)
can_closing_of {A = A} P Q S ts r closed complete h = can_then_of P Q S ts r closing complete h behind
  where
    behind : (x : A) (us : List Kind) → CanEndOf (Onto P Q x) (Onto P S x) us (closing x us)
    behind x (close_ ∷ us) = (close_ ∷ [], refl, λ rest ts i. closed ts x rest i)
    behind x us = ended_at (Onto P S x) [] us (Syntax (length us)) refl (complete x)

pub can_closing : {A : Type 0} (P Q : List Kind → A → List Kind → Type 0) (ts : List Kind) (r : Res A) → ((us : List Kind) (x : A) (rest : List Kind) → P us x (close_ ∷ rest) → Q us x rest)
    → CanEnd P ts r → CanEnd Q ts (then_do r closing)
can_closing P Q ts r closed h = can_closing_of P Q Q ts r closed (λ x. (x, close_ ∷ [], λ rest us i. closed us x rest i)) h

-- several with something between
module _ {A : Type 0} (is_between : Kind → Bool) (Is : List Kind → A → List Kind → Type 0) (read : List Kind → Res A) (can : (ts : List Kind) → CanEnd Is ts (read ts)) (one : Starts Is []) where
  row_starts : Starts (Row is_between Is) []
  row_starts = (one.0 ∷ [], one.1, λ rest. last_of (one.2 rest))

  can_more : (again : List Kind → Res (List A)) → ((ts : List Kind) → CanEnd (Row is_between Is) ts (again ts)) → (x : A) (us : List Kind)
      → CanEnd (Onto Is (Row is_between Is) x) us (more_of is_between again x us)
  can_more again h x [] = can_here (Onto Is (Row is_between Is) x) (Onto Is (Row is_between Is) x) (x ∷ []) [] (λ rest ts i. last_of i)
  can_more again h x (k ∷ us) =
      can_if (Onto Is (Row is_between Is) x) (Onto Is (Row is_between Is) x) (k ∷ us) (is_between k) (res_map (λ xs. x ∷ xs) (again us)) (Ok (x ∷ [], k ∷ us))
      (λ b. can_token (λ vs xs rest. (ts : List Kind) → Is ts x (k ∷ vs) → Row is_between Is ts xs rest) (Onto Is (Row is_between Is) x) k us (res_map (λ xs. x ∷ xs) (again us)) (λ vs xs rest i. i)
      (can_map (Row is_between Is) (λ vs xs rest. (ts : List Kind) → Is ts x (k ∷ vs) → Row is_between Is ts xs rest) us (λ xs. x ∷ xs) (again us) (λ vs xs rest i ts j. next_of b j i) (h us)))
      (λ b. can_here (Onto Is (Row is_between Is) x) (Onto Is (Row is_between Is) x) (x ∷ []) (k ∷ us) (λ rest ts i. last_of i))

  pub can_separated : (n : ℕ) (ts : List Kind) → CanEnd (Row is_between Is) ts (separated is_between read n ts)
  unfolding separated
  can_separated zero ts = ended_at (Row is_between Is) [] ts (Syntax (length ts)) refl row_starts
  can_separated (suc n) ts =
      can_then Is (Row is_between Is) ts (read ts) (more_of is_between (separated is_between read n)) (λ x. (x ∷ [], [], λ rest us i. last_of i)) (can ts)
      (can_more (separated is_between read n) (can_separated n))

-- One number counts as nothing: it stands for what hasn't begun yet.
module _ (h : ℕ) where
  -- a row of trees of at most so many levels
  pub row_plain : (is_between : Kind → Bool) (Is : List Kind → Tree → List Kind → Type 0) (l : ℕ) (ts : List Kind) (es : List Tree) (rest : List Kind) → Row is_between (WithinBut h Is l) ts es rest
      → Row is_between Is ts es rest
  row_plain is_between Is l ts _ rest (last_of i) = last_of i.0
  row_plain is_between Is l ts _ rest (next_of {us = us} {xs = es} b i row) = next_of b i.0 (row_plain is_between Is l us es rest row)

  pub row_deepest : (is_between : Kind → Bool) (Is : List Kind → Tree → List Kind → Type 0) (l : ℕ) (ts : List Kind) (es : List Tree) (rest : List Kind) → Row is_between (WithinBut h Is l) ts es rest
      → deepest_but h (trees_of es) ≤ l
  row_deepest is_between Is l ts _ rest (last_of i) = omega (arith, i.1)
  row_deepest is_between Is l ts _ rest (next_of {us = us} {xs = es} b i row) = omega (arith, i.1, row_deepest is_between Is l us es rest row)

  -- operands from the left
  module _ (operator : Kind → Option MathOp) (read : ℕ → List Kind → Res Tree) (One Whole : List Kind → Tree → List Kind → Type 0)
      (can : (l : ℕ) (ts : List Kind) → CanEnd (WithinBut h One l) ts (read l ts))
      (alone : (ts : List Kind) (a : Tree) (us : List Kind) → One ts a us → Whole ts a us)
      (next : (ts : List Kind) (a : Tree) (k : Kind) (o : MathOp) (us : List Kind) (b : Tree) (rest : List Kind) → operator k ≡ Some o → Whole ts a (k ∷ us) → One us b rest → Whole ts (t.math o a b) rest) where
    next_within : (l : ℕ) (ts : List Kind) (a : Tree) (k : Kind) (o : MathOp) (us : List Kind) (b : Tree) (rest : List Kind) → operator k ≡ Some o → depth a < l → WithinBut h Whole l ts a (k ∷ us)
        → WithinBut h One (l - 1) us b rest → WithinBut h Whole l ts (t.math o a b) rest
    next_within l ts a k o us b rest e d i j = (next ts a k o us b rest e i.0 j.0, omega (arith, d, but_less h a, j.1))

    -- what stands behind an operand and an operator
    abbrev Operand : ℕ → Tree → Kind → List Kind → Tree → List Kind → Type 0
    Operand l a k us c rest = (ts : List Kind) → WithinBut h Whole l ts a (k ∷ us) → WithinBut h Whole l ts c rest

    can_chain_on : (l : ℕ) (again : Tree → List Kind → Res Tree) (a : Tree) (p : Option MathOp) (k : Kind) (us : List Kind) → operator k ≡ p
        → ((b : Tree) (vs : List Kind) → CanEnd (Onto (WithinBut h Whole l) (WithinBut h Whole l) b) vs (again b vs)) → CanEnd (Onto (WithinBut h Whole l) (WithinBut h Whole l) a) (k ∷ us) (chain_on read l again a p k us)
    can_chain_on l again a None k us e g = can_here (Onto (WithinBut h Whole l) (WithinBut h Whole l) a) (Onto (WithinBut h Whole l) (WithinBut h Whole l) a) a (k ∷ us) (λ rest ts i. i)
    can_chain_on l again a (Some o) k us e g =
        can_above (Onto (WithinBut h Whole l) (WithinBut h Whole l) a) k us l a (then_do (read (l - 1) us) (λ b vs. again (t.math o a b) vs)) (a, [], λ rest ts i. i)
        (λ d. can_token (Operand l a k) (Onto (WithinBut h Whole l) (WithinBut h Whole l) a) k us (then_do (read (l - 1) us) (λ b vs. again (t.math o a b) vs)) (λ vs c rest i. i)
        (can_then (WithinBut h One (l - 1)) (Operand l a k) us (read (l - 1) us) (λ b vs. again (t.math o a b) vs) (λ b. (t.math o a b, [], λ rest vs i ts j. next_within l ts a k o vs b rest e d j i))
        (can (l - 1) us)
        (λ b vs. can_also (Onto (WithinBut h Whole l) (WithinBut h Whole l) (t.math o a b)) (Onto (WithinBut h One (l - 1)) (Operand l a k) b) vs (again (t.math o a b) vs)
        (λ ws c rest i xs j ts w. i ts (next_within l ts a k o xs b ws e d w j)) (g (t.math o a b) vs))))

    can_chain_from : (l n : ℕ) (a : Tree) (us : List Kind) → CanEnd (Onto (WithinBut h Whole l) (WithinBut h Whole l) a) us (chain_from operator read l n a us)
    unfolding chain_from
    can_chain_from l zero a us = can_here (Onto (WithinBut h Whole l) (WithinBut h Whole l) a) (Onto (WithinBut h Whole l) (WithinBut h Whole l) a) a us (λ rest ts i. i)
    can_chain_from l (suc n) a [] = can_here (Onto (WithinBut h Whole l) (WithinBut h Whole l) a) (Onto (WithinBut h Whole l) (WithinBut h Whole l) a) a [] (λ rest ts i. i)
    can_chain_from l (suc n) a (k ∷ us) = can_chain_on l (chain_from operator read l n) a (operator k) k us refl (can_chain_from l n)

    pub can_chain : (l : ℕ) (ts : List Kind) → CanEnd (WithinBut h Whole l) ts (chain operator read l ts)
    can_chain l ts =
        can_then (WithinBut h One l) (WithinBut h Whole l) ts (read l ts) (λ a us. chain_from operator read l (length us) a us) (λ a. (a, [], λ rest us i. (alone us a rest i.0, i.1))) (can l ts)
        (λ a us. can_also (Onto (WithinBut h Whole l) (WithinBut h Whole l) a) (Onto (WithinBut h One l) (WithinBut h Whole l) a) us (chain_from operator read l (length us) a us)
        (λ vs b rest i ws j. i ws (alone ws a vs j.0, j.1)) (can_chain_from l (length us) a us))

  -- one operand, or several joined in one node
  module _ (is_between : Kind → Bool) (node : Trees → Tree) (read : ℕ → List Kind → Res Tree) (One Whole : List Kind → Tree → List Kind → Type 0)
      (can : (l : ℕ) (ts : List Kind) → CanEnd (WithinBut h One l) ts (read l ts)) (one : Free One (number (pos h) ∷ []) (t.long (pos h)))
      (deep : (es : Trees) → depth_but h (node es) ≡ suc (deepest_but h es))
      (alone : (ts : List Kind) (a : Tree) (us : List Kind) → One ts a us → Whole ts a us)
      (several : (ts : List Kind) (e : Tree) (k : Kind) (us : List Kind) (es : List Tree) (rest : List Kind) → is_between k ≡ true → One ts e (k ∷ us) → Row is_between One us es rest
      → Whole ts (node (more e (trees_of es))) rest) where
    several_within : (l : ℕ) (ts : List Kind) (e : Tree) (k : Kind) (us : List Kind) (es : List Tree) (rest : List Kind) → is_between k ≡ true → depth e < l → WithinBut h One l ts e (k ∷ us)
        → Row is_between (WithinBut h One (l - 1)) us es rest → WithinBut h Whole l ts (node (more e (trees_of es))) rest
    several_within l ts e k us es rest b d g row = (
      several ts e k us es rest b g.0 (row_plain is_between One (l - 1) us es rest row),
      omega (arith, d, but_less h e, row_deepest is_between One (l - 1) us es rest row, deep (more e (trees_of es))),
    )

    can_joined_at : (l : ℕ) (e : Tree) (k : Kind) (us : List Kind) → is_between k ≡ true
        → CanEnd (Onto (WithinBut h One l) (WithinBut h Whole l) e) (k ∷ us) (above l e (suc (length us)) (res_map (λ es. node (more e (trees_of es))) (separated is_between (read (l - 1)) (length us) us)))
    can_joined_at l e k us b =
        can_above (Onto (WithinBut h One l) (WithinBut h Whole l) e) k us l e (res_map (λ es. node (more e (trees_of es))) (separated is_between (read (l - 1)) (length us) us))
        (e, [], λ rest ts i. (alone ts e rest i.0, i.1))
        (λ d. can_token (λ vs c rest. (ts : List Kind) → WithinBut h One l ts e (k ∷ vs) → WithinBut h Whole l ts c rest) (Onto (WithinBut h One l) (WithinBut h Whole l) e) k us
        (res_map (λ es. node (more e (trees_of es))) (separated is_between (read (l - 1)) (length us) us)) (λ vs c rest i. i)
        (can_map (Row is_between (WithinBut h One (l - 1))) (λ vs c rest. (ts : List Kind) → WithinBut h One l ts e (k ∷ vs) → WithinBut h Whole l ts c rest) us (λ es. node (more e (trees_of es)))
        (separated is_between (read (l - 1)) (length us) us) (λ vs es rest i ts j. several_within l ts e k vs es rest b d j i)
        (can_separated is_between (WithinBut h One (l - 1)) (read (l - 1)) (can (l - 1)) (t.long (pos h), number (pos h) ∷ [], λ rest. (one rest, omega (arith, nothing h))) (length us) us)))

    can_joined : (l : ℕ) (e : Tree) (us : List Kind) → CanEnd (Onto (WithinBut h One l) (WithinBut h Whole l) e) us (joined_operands is_between node read l e us)
    can_joined l e [] = can_here (Onto (WithinBut h One l) (WithinBut h Whole l) e) (Onto (WithinBut h One l) (WithinBut h Whole l) e) e [] (λ rest ts i. (alone ts e rest i.0, i.1))
    can_joined l e (k ∷ us) =
        can_if (Onto (WithinBut h One l) (WithinBut h Whole l) e) (Onto (WithinBut h One l) (WithinBut h Whole l) e) (k ∷ us) (is_between k)
        (above l e (suc (length us)) (res_map (λ es. node (more e (trees_of es))) (separated is_between (read (l - 1)) (length us) us))) (Ok (e, k ∷ us)) (can_joined_at l e k us)
        (λ b. can_here (Onto (WithinBut h One l) (WithinBut h Whole l) e) (Onto (WithinBut h One l) (WithinBut h Whole l) e) e (k ∷ us) (λ rest ts i. (alone ts e rest i.0, i.1)))

    pub can_level : (l : ℕ) (ts : List Kind) → CanEnd (WithinBut h Whole l) ts (then_do (read l ts) (joined_operands is_between node read l))
    can_level l ts =
        can_then (WithinBut h One l) (WithinBut h Whole l) ts (read l ts) (joined_operands is_between node read l) (λ e. (e, [], λ rest us i. (alone us e rest i.0, i.1))) (can l ts) (can_joined l)
