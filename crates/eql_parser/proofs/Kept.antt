-- What tokens without a number spell has as many levels where that number counts as nothing.
use Rattle.std.proofs.Common.{◌≡◌, ◌<◌, ◌≤◌, ◌==◌, ℕ, ℤ, pos, negsuc, Bool, true, false, if◌then◌else◌, List, length, refl, ap, arith}
use Rattle.std.proofs.lemmas.Bool.Decides.{nat_tests}
use Rattle.eql_values.specs.declared.value.Value.{Value}
use Rattle.eql_query.specs.Tree.{Tree, Trees}
use Rattle.eql_query.specs.Tree as t
use Rattle.eql_parser.specs.Kinds.{Kind, number}
use Rattle.eql_parser.specs.Grammar.{IsListed, last_one, next_one, IsDotted, ends, goes_on, IsField, required, optional, IsText, a_text, IsPatterns, one_text, some_texts, IsLiteral, is_number, is_negative, is_text, is_true, is_false, IsMembers, members, Joint, IsExpr, conj, any_of, IsConj, neg, all_of, IsOperands, last, next, IsOperand, of_or, of_and, of_comma, IsNeg, negated, pred, IsPred, sum, compared, matched, is_in, is_not_in, IsSum, prod, added, IsProd, unary, multiplied, IsUnary, minus, prim, IsPrim, is_null, is_yes, is_no, is_long, is_str, is_field, is_call, is_folding_call, inside, IsArguments, no_arguments, some_arguments}
use Rattle.eql_parser.specs.Limits.{depth, deepest, depth_but, deepest_but}
use Rattle.eql_parser.proofs.Shorter.{patterns_short, members_short, operands_short, sum_short, prod_short, unary_short}
use Rattle.eql_parser.proofs.New.{Late}

-- whether two numbers are one
pub same_number : (m n : ℕ) → (m == n) ≡ true → m ≡ n
same_number m n e = grind (arith, nat_tests)

-- The number `hole` stands only where at most `most` tokens are left.
module _ (hole most : ℕ) where
  pub listed_late : {A : Type 0} (Is : List Kind → A → List Kind → Type 0) → ((ts : List Kind) (x : A) (rest : List Kind) → Is ts x rest → Late hole most ts → Late hole most rest)
      → (ts : List Kind) (xs : List A) (rest : List Kind) → IsListed Is ts xs rest → Late hole most ts → Late hole most rest
  listed_late Is late ts _ rest (last_one {x = x} h) l = late ts x rest h l
  listed_late Is late ts _ rest (next_one {us = us} {x = x} {xs = xs} h k) l = listed_late Is late us xs rest k (late ts x _ h l).1

  dotted_late : (w : List ℕ) (ts : List Kind) (n : List ℕ) (rest : List Kind) → IsDotted w ts n rest → Late hole most ts → Late hole most rest
  dotted_late _ _ _ _ ends l = l
  dotted_late _ _ _ _ (goes_on e h) l = dotted_late _ _ _ _ h l.1.1

  pub field_late : (ts : List Kind) (n : List ℕ) (o : Bool) (rest : List Kind) → IsField ts n o rest → Late hole most ts → Late hole most rest
  field_late _ _ _ _ (required e h) l = dotted_late _ _ _ _ h l.1
  field_late _ _ _ _ (optional e h) l = dotted_late _ _ _ _ h l.1.1

  text_late : (ts : List Kind) (s : List ℕ) (rest : List Kind) → IsText ts s rest → Late hole most ts → Late hole most rest
  text_late _ _ _ a_text l = l.1

  literal_late : (ts : List Kind) (v : Value) (rest : List Kind) → IsLiteral ts v rest → Late hole most ts → Late hole most rest
  literal_late _ _ _ is_number l = l.1
  literal_late _ _ _ is_negative l = l.1.1
  literal_late _ _ _ is_text l = l.1
  literal_late _ _ _ is_true l = l.1
  literal_late _ _ _ is_false l = l.1

  patterns_late : (ts : List Kind) (ss : List (List ℕ)) (rest : List Kind) → IsPatterns ts ss rest → Late hole most ts → Late hole most rest
  patterns_late _ _ _ one_text l = l.1
  patterns_late _ _ _ (some_texts h) l = (listed_late IsText text_late _ _ _ h l.1).1

  members_late : (ts : List Kind) (vs : List Value) (rest : List Kind) → IsMembers ts vs rest → Late hole most ts → Late hole most rest
  members_late _ _ _ (members h) l = (listed_late IsLiteral literal_late _ _ _ h l.1).1

  -- behind a tree the number stands only there too, and where it stands there alone, the tree keeps its levels
  abbrev pub Kept : Tree → List Kind → Type 0
  Kept e rest = Late hole most rest × (most ≤ length rest → depth_but hole e ≡ depth e)

  abbrev pub AreKept : Trees → List Kind → Type 0
  AreKept es rest = Late hole most rest × (most ≤ length rest → deepest_but hole es ≡ deepest es)

  other_number : (n : ℕ) (b : Bool) → (n == hole) ≡ b → (n ≡ hole → ⊥) → ◌≡◌ {A = ℕ} (if b then 0 else 1) 1
  other_number n true e other = absurd (other (same_number n hole e))
  other_number n false e other = refl

  long_kept : (n : ℤ) (rest : List Kind) → (number n ≡ number (pos hole) → length rest < most) → most ≤ length rest → depth_but hole (t.long n) ≡ 1
  long_kept (pos n) rest late i = other_number n (n == hole) refl (λ e. let now = late (ap (λ m. number (pos m)) e) in omega (arith, i, now))
  long_kept (negsuc n) rest late i = refl

  mutual
    pub expr_kept : (ts : List Kind) (e : Tree) (rest : List Kind) → IsExpr ts e rest → Late hole most ts → Kept e rest
    expr_kept ts e rest (conj h) l = conj_kept ts e rest h l
    expr_kept ts _ rest (any_of {us = us} {e = e} {es = es} h k) l =
        let a = conj_kept ts e _ h l in
        let b = operands_kept _ us es rest k a.0.1 in
        (b.0, λ i. omega (arith, a.1 (omega (arith, i, operands_short _ _ _ _ k)), b.1 i))

    pub conj_kept : (ts : List Kind) (e : Tree) (rest : List Kind) → IsConj ts e rest → Late hole most ts → Kept e rest
    conj_kept ts e rest (neg h) l = neg_kept ts e rest h l
    conj_kept ts _ rest (all_of {us = us} {e = e} {es = es} h k) l =
        let a = neg_kept ts e _ h l in
        let b = operands_kept _ us es rest k a.0.1 in
        (b.0, λ i. omega (arith, a.1 (omega (arith, i, operands_short _ _ _ _ k)), b.1 i))

    pub operands_kept : (j : Joint) (ts : List Kind) (es : Trees) (rest : List Kind) → IsOperands j ts es rest → Late hole most ts → AreKept es rest
    operands_kept j ts _ rest (last {e = e} h) l = let a = operand_kept j ts e rest h l in (a.0, λ i. omega (arith, a.1 i))
    operands_kept j ts _ rest (next {us = us} {e = e} {es = es} h k) l =
        let a = operand_kept j ts e _ h l in
        let b = operands_kept j us es rest k a.0.1 in
        (b.0, λ i. omega (arith, a.1 (omega (arith, i, operands_short _ _ _ _ k)), b.1 i))

    pub operand_kept : (j : Joint) (ts : List Kind) (e : Tree) (rest : List Kind) → IsOperand j ts e rest → Late hole most ts → Kept e rest
    operand_kept _ ts e rest (of_or h) l = conj_kept ts e rest h l
    operand_kept _ ts e rest (of_and h) l = neg_kept ts e rest h l
    operand_kept _ ts e rest (of_comma h) l = expr_kept ts e rest h l

    pub neg_kept : (ts : List Kind) (e : Tree) (rest : List Kind) → IsNeg ts e rest → Late hole most ts → Kept e rest
    neg_kept _ _ rest (negated {ts = ts} {e = e} h) l = let a = neg_kept ts e rest h l.1 in (a.0, λ i. omega (arith, a.1 i))
    neg_kept ts e rest (pred h) l = pred_kept ts e rest h l

    pred_kept : (ts : List Kind) (e : Tree) (rest : List Kind) → IsPred ts e rest → Late hole most ts → Kept e rest
    pred_kept ts e rest (sum h) l = sum_kept ts e rest h l
    pred_kept ts _ rest (compared {us = us} {a = a} {b = b} h k) l =
        let x = sum_kept ts a _ h l in
        let y = sum_kept us b rest k x.0.1 in
        (y.0, λ i. omega (arith, x.1 (omega (arith, i, sum_short _ _ _ k)), y.1 i))
    pred_kept ts _ rest (matched {us = us} {a = a} h k) l =
        let x = sum_kept ts a _ h l in
        (patterns_late _ _ _ k x.0.1, λ i. omega (arith, x.1 (omega (arith, i, patterns_short _ _ _ k))))
    pred_kept ts _ rest (is_in {us = us} {a = a} h k) l =
        let x = sum_kept ts a _ h l in
        (members_late _ _ _ k x.0.1, λ i. omega (arith, x.1 (omega (arith, i, members_short _ _ _ k))))
    pred_kept ts _ rest (is_not_in {us = us} {a = a} h k) l =
        let x = sum_kept ts a _ h l in
        (members_late _ _ _ k x.0.1.1, λ i. omega (arith, x.1 (omega (arith, i, members_short _ _ _ k))))

    pub sum_kept : (ts : List Kind) (e : Tree) (rest : List Kind) → IsSum ts e rest → Late hole most ts → Kept e rest
    sum_kept ts e rest (prod h) l = prod_kept ts e rest h l
    sum_kept ts _ rest (added {us = us} {a = a} {b = b} h k) l =
        let x = sum_kept ts a _ h l in
        let y = prod_kept us b rest k x.0.1 in
        (y.0, λ i. omega (arith, x.1 (omega (arith, i, prod_short _ _ _ k)), y.1 i))

    pub prod_kept : (ts : List Kind) (e : Tree) (rest : List Kind) → IsProd ts e rest → Late hole most ts → Kept e rest
    prod_kept ts e rest (unary h) l = unary_kept ts e rest h l
    prod_kept ts _ rest (multiplied {us = us} {a = a} {b = b} h k) l =
        let x = prod_kept ts a _ h l in
        let y = unary_kept us b rest k x.0.1 in
        (y.0, λ i. omega (arith, x.1 (omega (arith, i, unary_short _ _ _ k)), y.1 i))

    unary_kept : (ts : List Kind) (e : Tree) (rest : List Kind) → IsUnary ts e rest → Late hole most ts → Kept e rest
    unary_kept _ _ rest (minus {ts = ts} {e = e} h) l = let a = unary_kept ts e rest h l.1 in (a.0, λ i. omega (arith, a.1 i))
    unary_kept ts e rest (prim h) l = prim_kept ts e rest h l

    prim_kept : (ts : List Kind) (e : Tree) (rest : List Kind) → IsPrim ts e rest → Late hole most ts → Kept e rest
    prim_kept _ _ rest is_null l = (l.1, λ i. refl)
    prim_kept _ _ rest is_yes l = (l.1, λ i. refl)
    prim_kept _ _ rest is_no l = (l.1, λ i. refl)
    prim_kept _ _ rest (is_long {n = n}) l = (l.1, long_kept n rest l.0)
    prim_kept _ _ rest is_str l = (l.1, λ i. refl)
    prim_kept ts _ rest (is_field h) l = (field_late _ _ _ _ h l, λ i. refl)
    prim_kept _ _ rest (is_call {us = us} {es = es} h e) l = let a = arguments_kept us es rest h l.1.1 in (a.0, λ i. omega (arith, a.1 i))
    prim_kept _ _ rest (is_folding_call {us = us} {es = es} h) l = let a = arguments_kept us es rest h l.1.1 in (a.0, λ i. omega (arith, a.1 i))
    prim_kept _ e rest (inside {us = us} h) l = let a = expr_kept us e _ h l.1 in (a.0.1, λ i. a.1 (omega (arith, i)))

    arguments_kept : (ts : List Kind) (es : Trees) (rest : List Kind) → IsArguments ts es rest → Late hole most ts → AreKept es rest
    arguments_kept _ _ rest no_arguments l = (l.1, λ i. refl)
    arguments_kept ts es rest (some_arguments h) l = let a = operands_kept _ ts es _ h l in (a.0.1, λ i. a.1 (omega (arith, i)))
