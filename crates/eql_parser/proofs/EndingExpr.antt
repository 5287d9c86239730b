-- What the descent has read of a condition where it stops can be ended as a condition of no more levels than were allowed, but for a number that counts as
-- nothing.
use Rattle.std.proofs.Common.{◌≡◌, ℕ, zero, suc, pos, ◌-◌, ◌<◌, ◌≤◌, Bool, true, false, List, [], ◌∷◌, ◌++◌, length, Ok, Err, refl, ap, subst, codes, arith}
use Rattle.eql_values.specs.declared.value.Value.TheVariants as value
use Rattle.eql_query.specs.declared.expr.MathOp.TheVariants.{Sub}
use Rattle.eql_query.specs.Tree.{Tree, none}
use Rattle.eql_query.specs.Tree as t
use Rattle.eql_query.specs.View.{trees_of}
use Rattle.eql_parser.specs.Kinds.{Kind, false_, in_, matches, not_, null_, regex_, true_, name, folding, back, text, number, open_, close_, comma_, question_, compares, adds}
use Rattle.eql_parser.specs.Grammar.{last_one, ends, required, IsPatterns, IsMembers, members, is_true, is_left_out_call, by_or, by_and, IsExpr, conj, any_of, IsConj, neg, all_of, of_or, of_and, IsNeg, negated, pred, IsPred, sum, compared, matched, is_in, is_not_in, IsSum, prod, added, IsProd, unary, multiplied, IsUnary, minus, prim, IsPrim, is_null, is_yes, is_no, is_long, is_str, is_field, is_call, is_folding_call, inside, IsArguments, no_arguments}
use Rattle.eql_parser.specs.Limits.{depth, deepest_but}
use Rattle.eql_parser.specs.Reading.{Syntax, LeftOut, TooDeep, TooOpen, Res, then_do, res_map, closing, is_or, is_and, is_comma, adds_of, multiplies_of, comma_list, named_field, field_tree, at_level, above, call_of, expr}
use Rattle.eql_parser.specs.Reading as r
use Rattle.eql_parser.proofs.Rows.{Row, last_of, next_of, or_only, and_only, WithinBut}
use Rattle.eql_parser.proofs.ExprSound.{marked, key_field, adds_only, multiplies_only}
use Rattle.eql_parser.proofs.Levels.{but_less, nothing}
use Rattle.eql_parser.proofs.Starts.{Free, Starts, Tells, Onto, stop_syntax}
use Rattle.eql_parser.proofs.StartsExpr.{IsNamed, row_in, row_both, not_left_out, row_arguments, an_expr, tells_named, tells_patterns, tells_members, expr_tells}
use Rattle.eql_parser.proofs.Ending.{CanEndOf, CanEnd, from_tells, ended_at, ended_behind, can_map, can_behind, can_also, can_token, can_then, can_here, can_one, can_if, can_at_level, can_above, can_closing, can_closing_of, can_separated, row_plain, row_deepest, can_chain, can_level}

module _ (h : ℕ) where
  -- the number, with no level left
  hole_prim : (l : ℕ) → Starts (WithinBut h IsPrim l) []
  hole_prim l = (t.long (pos h), number (pos h) ∷ [], λ rest. (is_long, omega (arith, nothing h)))

  hole_unary : (l : ℕ) → Starts (WithinBut h IsUnary l) []
  hole_unary l = (t.long (pos h), number (pos h) ∷ [], λ rest. (prim is_long, omega (arith, nothing h)))

  hole_neg : (rest : List Kind) → IsNeg (number (pos h) ∷ rest) (t.long (pos h)) rest
  hole_neg rest = pred (sum (prod (unary (prim is_long))))

  hole_negated : (l : ℕ) → Starts (WithinBut h IsNeg l) []
  hole_negated l = (t.long (pos h), number (pos h) ∷ [], λ rest. (hole_neg rest, omega (arith, nothing h)))

  hole_expr : (l : ℕ) (rest : List Kind) → WithinBut h IsExpr l (number (pos h) ∷ rest) (t.long (pos h)) rest
  hole_expr l rest = (conj (neg (hole_neg rest)), omega (arith, nothing h))

  pub hole_within : (l : ℕ) → Starts (WithinBut h IsExpr l) []
  hole_within l = (t.long (pos h), number (pos h) ∷ [], hole_expr l)

  -- arguments of at most so many levels, and those of a call that is not left out
  abbrev AreArguments : ℕ → List Kind → List Tree → List Kind → Type 0
  AreArguments l ts es rest = IsArguments ts (trees_of es) rest × (deepest_but h (trees_of es) ≤ l)

  abbrev AreMore : ℕ → List Kind → List Tree → List Kind → Type 0
  AreMore l ts es rest = IsArguments ts (trees_of es) rest × (deepest_but h (trees_of es) ≤ l) × ((w : List ℕ) → is_left_out_call w (trees_of es) ≡ false)

  hole_rows : (l : ℕ) (rest : List Kind)
      → Row is_comma (WithinBut h IsExpr l) (number (pos h) ∷ comma_ ∷ number (pos h) ∷ comma_ ∷ number (pos h) ∷ rest) (t.long (pos h) ∷ t.long (pos h) ∷ t.long (pos h) ∷ []) rest
  hole_rows l rest =
      next_of refl (hole_expr l (comma_ ∷ number (pos h) ∷ comma_ ∷ number (pos h) ∷ rest)) (next_of refl (hole_expr l (comma_ ∷ number (pos h) ∷ rest)) (last_of (hole_expr l rest)))

  -- three arguments more
  more_arguments : (l : ℕ) (es : List Tree) → Starts (Onto (Row is_comma (WithinBut h IsExpr l)) (AreMore l) es) []
  more_arguments l es = (
    es ++ t.long (pos h) ∷ t.long (pos h) ∷ t.long (pos h) ∷ [],
    comma_ ∷ number (pos h) ∷ comma_ ∷ number (pos h) ∷ comma_ ∷ number (pos h) ∷ close_ ∷ [],
    λ rest ts i.
        let all = es ++ t.long (pos h) ∷ t.long (pos h) ∷ t.long (pos h) ∷ [] in
        let row : Row is_comma (WithinBut h IsExpr l) ts all (close_ ∷ rest) =
        row_both (WithinBut h IsExpr l) ts (number (pos h) ∷ comma_ ∷ number (pos h) ∷ comma_ ∷ number (pos h) ∷ close_ ∷ rest) es (t.long (pos h) ∷ t.long (pos h) ∷ t.long (pos h) ∷ []) (close_ ∷ rest) i (hole_rows l (close_ ∷ rest)) in (
          row_arguments ts all rest (row_plain h is_comma IsExpr l ts all (close_ ∷ rest) row),
          row_deepest h is_comma IsExpr l ts all (close_ ∷ rest) row,
          λ w. not_left_out w es (t.long (pos h)) (t.long (pos h)) (t.long (pos h)),
        ),
  )

  can_call_of : (l : ℕ) → 1 ≤ l → (w : List ℕ) (ts : List Kind) (es : List Tree) (front us : List Kind) → ts ≡ front ++ us → Free (AreArguments (l - 1)) front es
      → CanEnd (WithinBut h IsPrim l) (name w ∷ open_ ∷ ts) (call_of w (suc (suc (length ts))) es us)
  can_call_of l p w ts es front us e g =
      can_if (WithinBut h IsPrim l) (WithinBut h IsPrim l) (name w ∷ open_ ∷ ts) (is_left_out_call w (trees_of es)) (Err (LeftOut (codes "number") (suc (suc (length ts))))) (Ok (t.call w false (trees_of es), us))
      (λ b. ended_at (WithinBut h IsPrim l) [] (name w ∷ open_ ∷ ts) (LeftOut (codes "number") (suc (suc (length ts)))) refl (hole_prim l))
      (λ b. (name w ∷ open_ ∷ front, ap (λ m. name w ∷ open_ ∷ m) e, λ rest. let i = g rest in (is_call i.0 b, omega (arith, p, i.1))))

  can_call : (l : ℕ) → 1 ≤ l → (w : List ℕ) (ts : List Kind) (s : Res (List Tree)) → CanEndOf (AreArguments (l - 1)) (AreMore (l - 1)) ts s
      → CanEnd (WithinBut h IsPrim l) (name w ∷ open_ ∷ ts) (then_do s (call_of w (suc (suc (length ts)))))
  can_call l p w ts (Ok q) g = can_call_of l p w ts q.0 g.0 q.1 g.1 g.2
  can_call l p w ts (Err e) g =
      ended_behind (AreMore (l - 1)) (WithinBut h IsPrim l) (name w ∷ open_ ∷ []) (λ es. t.call w false (trees_of es)) (λ us es rest i. (is_call i.0 (i.2 w), omega (arith, p, i.1))) ts e g

  can_folding : (l : ℕ) → 1 ≤ l → (w : List ℕ) (ts : List Kind) (s : Res (List Tree)) → CanEndOf (AreArguments (l - 1)) (AreMore (l - 1)) ts s
      → CanEnd (WithinBut h IsPrim l) (folding w ∷ open_ ∷ ts) (res_map (λ es. t.call w true (trees_of es)) s)
  can_folding l p w ts (Ok q) g = (folding w ∷ open_ ∷ g.0, ap (λ m. folding w ∷ open_ ∷ m) g.1, λ rest. let i = g.2 rest in (is_folding_call i.0, omega (arith, p, i.1)))
  can_folding l p w ts (Err e) g =
      ended_behind (AreMore (l - 1)) (WithinBut h IsPrim l) (folding w ∷ open_ ∷ []) (λ es. t.call w true (trees_of es)) (λ us es rest i. (is_folding_call i.0, omega (arith, p, i.1))) ts e g

  module _ (room : Bool) (inner : ℕ → List Kind → Res Tree) (tells : (l : ℕ) (ts : List Kind) → Tells IsExpr ts (inner l ts))
      (can : (l : ℕ) (ts : List Kind) → CanEnd (WithinBut h IsExpr l) ts (inner l ts)) where
    -- behind some tokens a parenthesis opens
    can_enter : {A : Type 0} (Q : List Kind → A → List Kind → Type 0) (m ts : List Kind) (s : Res A) → Starts Q m → CanEnd Q (m ++ open_ ∷ ts) s → CanEnd Q (m ++ open_ ∷ ts) (r.enter room inner ts s)
    can_enter Q m ts s begun g =
        can_if Q Q (m ++ open_ ∷ ts) room s (Err (TooOpen (suc (length ts)))) (λ b. g) (λ b. ended_at Q m (open_ ∷ ts) (TooOpen (suc (length ts))) refl begun)

    can_some : (l : ℕ) (ts : List Kind) → CanEndOf (AreArguments l) (AreMore l) ts (then_do (comma_list (inner l) ts) closing)
    can_some l ts =
        can_closing_of (Row is_comma (WithinBut h IsExpr l)) (AreArguments l) (AreMore l) ts (comma_list (inner l) ts)
        (λ us es rest i. (row_arguments us es rest (row_plain h is_comma IsExpr l us es (close_ ∷ rest) i), row_deepest h is_comma IsExpr l us es (close_ ∷ rest) i)) (more_arguments l)
        (can_separated is_comma (WithinBut h IsExpr l) (inner l) (can l) (hole_within l) (length ts) ts)

    can_arguments : (l : ℕ) (ts : List Kind) → CanEndOf (AreArguments l) (AreMore l) ts (r.arguments room inner l ts)
    can_arguments l (close_ ∷ ts) = (close_ ∷ [], refl, λ rest. (no_arguments, omega arith))
    can_arguments l ts = can_some l ts

    -- a leaf of one token
    can_leaf : (l : ℕ) (k : Kind) (e : Tree) (ts : List Kind) → Free IsPrim (k ∷ []) e → depth e ≡ 1 → CanEnd (WithinBut h IsPrim l) (k ∷ ts) (at_level l (suc (length ts)) (Ok (e, ts)))
    can_leaf l k e ts g d =
        can_at_level (WithinBut h IsPrim l) k ts l (Ok (e, ts)) (hole_prim l) (λ q. can_one (WithinBut h IsPrim l) k e ts (λ rest. (g rest, omega (arith, d, q, but_less h e))))

    can_named : (l : ℕ) → 1 ≤ l → (o : Bool) (ts : List Kind) → CanEnd (λ us e rest. WithinBut h IsPrim l (marked o us) e rest) ts (res_map field_tree (named_field o ts))
    can_named l q o ts =
        can_map (IsNamed o) (λ us e rest. WithinBut h IsPrim l (marked o us) e rest) ts field_tree (named_field o ts) (λ us f rest i. (is_field (key_field (marked o us) f rest i), q))
        (from_tells (IsNamed o) (IsNamed o) ts (named_field o ts) (tells_named o ts))

    can_name : (l : ℕ) (k : Kind) (ts : List Kind) → CanEnd (WithinBut h IsPrim l) (k ∷ ts) (at_level l (suc (length ts)) (res_map field_tree (named_field false (k ∷ ts))))
    can_name l k ts = can_at_level (WithinBut h IsPrim l) k ts l (res_map field_tree (named_field false (k ∷ ts))) (hole_prim l) (λ q. can_named l q false (k ∷ ts))

    can_prim : (l : ℕ) (ts : List Kind) → CanEnd (WithinBut h IsPrim l) ts (r.prim room inner l ts)
    can_prim l (null_ ∷ ts) = can_leaf l null_ t.null ts (λ rest. is_null) refl
    can_prim l (true_ ∷ ts) = can_leaf l true_ (t.bool true) ts (λ rest. is_yes) refl
    can_prim l (false_ ∷ ts) = can_leaf l false_ (t.bool false) ts (λ rest. is_no) refl
    can_prim l (number n ∷ ts) = can_leaf l (number n) (t.long n) ts (λ rest. is_long) refl
    can_prim l (text s ∷ ts) = can_leaf l (text s) (t.str s) ts (λ rest. is_str) refl
    can_prim l (name w ∷ open_ ∷ ts) =
        can_at_level (WithinBut h IsPrim l) (name w) (open_ ∷ ts) l (r.enter room inner ts (then_do (r.arguments room inner (l - 1) ts) (call_of w (suc (suc (length ts)))))) (hole_prim l)
        (λ q. can_enter (WithinBut h IsPrim l) (name w ∷ []) ts (then_do (r.arguments room inner (l - 1) ts) (call_of w (suc (suc (length ts))))) (t.field w false, [], λ rest. (is_field (required refl ends), q))
        (can_call l q w ts (r.arguments room inner (l - 1) ts) (can_arguments (l - 1) ts)))
    can_prim l (name w ∷ ts) = can_name l (name w) ts
    can_prim l (back w ∷ ts) = can_name l (back w) ts
    can_prim l (question_ ∷ ts) =
        can_at_level (WithinBut h IsPrim l) question_ ts l (res_map field_tree (named_field true ts)) (hole_prim l)
        (λ q. can_token (λ us e rest. WithinBut h IsPrim l (question_ ∷ us) e rest) (WithinBut h IsPrim l) question_ ts (res_map field_tree (named_field true ts)) (λ us e rest i. i) (can_named l q true ts))
    can_prim l (folding w ∷ open_ ∷ ts) =
        can_at_level (WithinBut h IsPrim l) (folding w) (open_ ∷ ts) l (r.enter room inner ts (res_map (λ es. t.call w true (trees_of es)) (r.arguments room inner (l - 1) ts))) (hole_prim l)
        (λ q. can_enter (WithinBut h IsPrim l) (folding w ∷ []) ts (res_map (λ es. t.call w true (trees_of es)) (r.arguments room inner (l - 1) ts))
        (t.call w true none, open_ ∷ close_ ∷ [], λ rest. (is_folding_call no_arguments, q))
        (can_folding l q w ts (r.arguments room inner (l - 1) ts) (can_arguments (l - 1) ts)))
    can_prim l (folding w ∷ ts) =
        can_at_level (WithinBut h IsPrim l) (folding w) ts l (Err (Syntax (length ts))) (hole_prim l)
        (λ q. ended_at (WithinBut h IsPrim l) (folding w ∷ []) ts (Syntax (length ts)) refl (t.call w true none, open_ ∷ close_ ∷ [], λ rest. (is_folding_call no_arguments, q)))
    can_prim l (open_ ∷ ts) =
        can_enter (WithinBut h IsPrim l) [] ts (then_do (inner l ts) closing) (hole_prim l)
        (can_token (λ us e rest. WithinBut h IsPrim l (open_ ∷ us) e rest) (WithinBut h IsPrim l) open_ ts (then_do (inner l ts) closing) (λ us e rest i. i)
        (can_closing (WithinBut h IsExpr l) (λ us e rest. WithinBut h IsPrim l (open_ ∷ us) e rest) ts (inner l ts) (λ us e rest i. (inside i.0, i.1)) (can l ts)))
    can_prim l ts = ended_at (WithinBut h IsPrim l) [] ts (Syntax (length ts)) refl (hole_prim l)

    prim_unary : (l : ℕ) (ts : List Kind) → CanEnd (WithinBut h IsUnary l) ts (r.prim room inner l ts)
    prim_unary l ts = can_also (WithinBut h IsPrim l) (WithinBut h IsUnary l) ts (r.prim room inner l ts) (λ us e rest i. (prim i.0, i.1)) (can_prim l ts)

    can_unary : (l : ℕ) (ts : List Kind) → CanEnd (WithinBut h IsUnary l) ts (r.unary room inner l ts)
    unfolding r.unary
    can_unary zero (adds Sub ∷ ts) = ended_at (WithinBut h IsUnary zero) [] (adds Sub ∷ ts) (TooDeep (suc (length ts))) refl (hole_unary zero)
    can_unary zero ts = prim_unary zero ts
    can_unary (suc l) (adds Sub ∷ ts) =
        can_token (λ us e rest. WithinBut h IsUnary (suc l) (adds Sub ∷ us) e rest) (WithinBut h IsUnary (suc l)) (adds Sub) ts (res_map t.neg (r.unary room inner l ts)) (λ us e rest i. i)
        (can_map (WithinBut h IsUnary l) (λ us e rest. WithinBut h IsUnary (suc l) (adds Sub ∷ us) e rest) ts t.neg (r.unary room inner l ts) (λ us e rest i. (minus i.0, omega (arith, i.1))) (can_unary l ts))
    can_unary (suc l) ts = prim_unary (suc l) ts

    can_prod : (l : ℕ) (ts : List Kind) → CanEnd (WithinBut h IsProd l) ts (r.prod room inner l ts)
    can_prod = can_chain h multiplies_of (r.unary room inner) IsUnary IsProd can_unary (λ ts a us g. unary g)
        (λ ts a k o us b rest e g i. multiplied (subst (λ j. IsProd ts a (j ∷ us)) (multiplies_only k o e) g) i)

    can_sum : (l : ℕ) (ts : List Kind) → CanEnd (WithinBut h IsSum l) ts (r.sum room inner l ts)
    can_sum = can_chain h adds_of (r.prod room inner) IsProd IsSum can_prod (λ ts a us g. prod g)
        (λ ts a k o us b rest e g i. added (subst (λ j. IsSum ts a (j ∷ us)) (adds_only k o e) g) i)

    -- a sum stands alone
    abbrev Behind : ℕ → Tree → List Kind → Tree → List Kind → Type 0
    Behind l a = Onto (WithinBut h IsSum l) (WithinBut h IsPred l) a

    alone : (l : ℕ) (a : Tree) → Starts (Behind l a) []
    alone l a = (a, [], λ rest us i. (sum i.0, i.1))

    -- a comparison behind its left side and an operator
    can_operator : {A : Type 0} (P : List Kind → A → List Kind → Type 0) (l : ℕ) (a : Tree) (k : Kind) (f : A → Tree) (ts : List Kind) (s : Res A)
        → (depth a < l → (us : List Kind) (x : A) (rest : List Kind) → P us x rest → Behind l a (k ∷ us) (f x) rest) → (depth a < l → CanEnd P ts s)
        → CanEnd (Behind l a) (k ∷ ts) (above l a (suc (length ts)) (res_map f s))
    can_operator P l a k f ts s go g =
        can_above (Behind l a) k ts l a (res_map f s) (alone l a)
        (λ d. can_token (λ us e rest. Behind l a (k ∷ us) e rest) (Behind l a) k ts (res_map f s) (λ us e rest i. i) (can_map P (λ us e rest. Behind l a (k ∷ us) e rest) ts f s (go d) (g d)))

    can_members : (ts : List Kind) → CanEnd IsMembers ts (r.members room inner ts)
    can_members ts = from_tells IsMembers IsMembers ts (r.members room inner ts) (tells_members room inner tells ts)

    can_behind_not : (l : ℕ) (a : Tree) → depth a < l → (ts : List Kind) → CanEnd (Behind l a) (not_ ∷ ts) (r.behind_not room inner a ts)
    can_behind_not l a d (in_ f ∷ ts) =
        can_behind (λ us e rest. Behind l a (not_ ∷ in_ f ∷ us) e rest) (Behind l a) (λ us e rest. Behind l a (not_ ∷ in_ f ∷ us) e rest) (Behind l a) (not_ ∷ in_ f ∷ []) ts
        (res_map (t.member f true a) (r.members room inner ts)) (λ us e rest i. i) (λ us e rest i. i)
        (can_map IsMembers (λ us e rest. Behind l a (not_ ∷ in_ f ∷ us) e rest) ts (t.member f true a) (r.members room inner ts) (λ us vs rest i xs g. (is_not_in g.0 i, omega (arith, d, but_less h a))) (can_members ts))
    can_behind_not l a d ts =
        ended_at (Behind l a) (not_ ∷ []) ts (Syntax (length ts)) refl
        (t.member false true a (value.Bool true ∷ []), in_ false ∷ open_ ∷ true_ ∷ close_ ∷ [], λ rest us g. (is_not_in g.0 (members (last_one is_true)), omega (arith, d, but_less h a)))

    can_behind_sum : (l : ℕ) → (a : Tree) (ts : List Kind) → CanEnd (Behind l a) ts (r.behind_sum room inner l a ts)
    can_behind_sum l a (compares o ∷ ts) =
        can_operator (WithinBut h IsSum (l - 1)) l a (compares o) (t.cmp o a) ts (r.sum room inner (l - 1) ts) (λ d us b rest i xs g. (compared g.0 i.0, omega (arith, d, i.1, but_less h a)))
        (λ d. can_sum (l - 1) ts)
    can_behind_sum l a (matches o ∷ ts) =
        can_operator IsPatterns l a (matches o) (t.pattern o a) ts (r.patterns room inner ts) (λ d us ss rest i xs g. (matched g.0 i, omega (arith, d, but_less h a)))
        (λ d. from_tells IsPatterns IsPatterns ts (r.patterns room inner ts) (tells_patterns room inner tells ts))
    can_behind_sum l a (in_ f ∷ ts) =
        can_operator IsMembers l a (in_ f) (t.member f false a) ts (r.members room inner ts) (λ d us vs rest i xs g. (is_in g.0 i, omega (arith, d, but_less h a))) (λ d. can_members ts)
    can_behind_sum l a (not_ ∷ ts) = can_above (Behind l a) not_ ts l a (r.behind_not room inner a ts) (alone l a) (λ d. can_behind_not l a d ts)
    can_behind_sum l a (regex_ false ∷ ts) = ended_at (Behind l a) [] (regex_ false ∷ ts) (LeftOut (codes "regex") (suc (length ts))) refl (alone l a)
    can_behind_sum l a (regex_ true ∷ ts) = ended_at (Behind l a) [] (regex_ true ∷ ts) (LeftOut (codes "regex~") (suc (length ts))) refl (alone l a)
    can_behind_sum l a ts = can_here (Behind l a) (Behind l a) a ts (λ rest xs g. (sum g.0, g.1))

    can_pred : (l : ℕ) (ts : List Kind) → CanEnd (WithinBut h IsPred l) ts (r.pred room inner l ts)
    can_pred l ts = can_then (WithinBut h IsSum l) (WithinBut h IsPred l) ts (r.sum room inner l ts) (r.behind_sum room inner l) (alone l) (can_sum l ts) (can_behind_sum l)

    pred_neg : (l : ℕ) (ts : List Kind) → CanEnd (WithinBut h IsNeg l) ts (r.pred room inner l ts)
    pred_neg l ts = can_also (WithinBut h IsPred l) (WithinBut h IsNeg l) ts (r.pred room inner l ts) (λ us e rest i. (pred i.0, i.1)) (can_pred l ts)

    can_neg : (l : ℕ) (ts : List Kind) → CanEnd (WithinBut h IsNeg l) ts (r.neg room inner l ts)
    unfolding r.neg
    can_neg zero (not_ ∷ ts) = ended_at (WithinBut h IsNeg zero) [] (not_ ∷ ts) (TooDeep (suc (length ts))) refl (hole_negated zero)
    can_neg zero ts = pred_neg zero ts
    can_neg (suc l) (not_ ∷ ts) =
        can_token (λ us e rest. WithinBut h IsNeg (suc l) (not_ ∷ us) e rest) (WithinBut h IsNeg (suc l)) not_ ts (res_map t.not (r.neg room inner l ts)) (λ us e rest i. i)
        (can_map (WithinBut h IsNeg l) (λ us e rest. WithinBut h IsNeg (suc l) (not_ ∷ us) e rest) ts t.not (r.neg room inner l ts) (λ us e rest i. (negated i.0, omega (arith, i.1))) (can_neg l ts))
    can_neg (suc l) ts = pred_neg (suc l) ts

    can_conj : (l : ℕ) (ts : List Kind) → CanEnd (WithinBut h IsConj l) ts (r.conj room inner l ts)
    can_conj = can_level h is_and t.and (r.neg room inner) IsNeg IsConj can_neg hole_neg (λ es. refl) (λ ts e us g. neg g)
        (λ ts e k us es rest b g i. all_of (subst (λ j. IsNeg ts e (j ∷ us)) (and_only k b) g) (row_in by_and is_and IsNeg and_only (λ xs x ys j. of_and j) us es rest i))

    can_or : (l : ℕ) (ts : List Kind) → CanEnd (WithinBut h IsExpr l) ts (r.level room inner l ts)
    can_or = can_level h is_or t.or (r.conj room inner) IsConj IsExpr can_conj (λ rest. neg (hole_neg rest)) (λ es. refl) (λ ts e us g. conj g)
        (λ ts e k us es rest b g i. any_of (subst (λ j. IsConj ts e (j ∷ us)) (or_only k b) g) (row_in by_or is_or IsConj or_only (λ xs x ys j. of_or j) us es rest i))

  -- what was read of a condition where the descent stops can be ended as one of at most l levels
  pub expr_can : (d l : ℕ) (ts : List Kind) → CanEnd (WithinBut h IsExpr l) ts (expr d l ts)
  unfolding expr
  expr_can zero l ts =
      can_or false (λ _ us. Err (Syntax (length us))) (λ _ us. stop_syntax IsExpr [] us an_expr) (λ k us. ended_at (WithinBut h IsExpr k) [] us (Syntax (length us)) refl (hole_within k)) l ts
  expr_can (suc d) l ts = can_or true (expr d) (expr_tells d) (expr_can d) l ts
