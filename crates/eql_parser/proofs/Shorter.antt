-- What the grammar reads is not empty.
use Rattle.std.proofs.Common.{ℕ, ◌<◌, ◌≤◌, Bool, List, length, arith}
use Rattle.eql_values.specs.declared.value.Value.{Value}
use Rattle.eql_query.specs.Tree.{Tree, Trees}
use Rattle.eql_parser.specs.Kinds.{Kind}
use Rattle.eql_parser.specs.Grammar.{IsListed, last_one, next_one, IsDotted, ends, goes_on, IsField, required, optional, IsText, a_text, IsPatterns, one_text, some_texts, IsLiteral, is_number, is_negative, is_text, is_true, is_false, IsMembers, members, Joint, IsExpr, conj, any_of, IsConj, neg, all_of, IsOperands, last, next, IsOperand, of_or, of_and, of_comma, IsNeg, negated, pred, IsPred, sum, compared, matched, is_in, is_not_in, IsSum, prod, added, IsProd, unary, multiplied, IsUnary, minus, prim, IsPrim, is_null, is_yes, is_no, is_long, is_str, is_field, is_call, is_folding_call, inside, IsArguments, no_arguments, some_arguments}

pub listed_short : {A : Type 0} (Is : List Kind → A → List Kind → Type 0) → ((ts : List Kind) (x : A) (rest : List Kind) → Is ts x rest → length rest < length ts)
    → (ts : List Kind) (xs : List A) (rest : List Kind) → IsListed Is ts xs rest → length rest < length ts
listed_short Is short ts _ rest (last_one {x = x} h) = short ts x rest h
listed_short Is short ts _ rest (next_one {us = us} {x = x} {xs = xs} h k) = omega (arith, short _ _ _ h, listed_short Is short us xs rest k)

dotted_short : (w : List ℕ) (ts : List Kind) (n : List ℕ) (rest : List Kind) → IsDotted w ts n rest → length rest ≤ length ts
dotted_short _ _ _ _ ends = omega arith
dotted_short _ _ _ _ (goes_on e h) = omega (arith, dotted_short _ _ _ _ h)

pub field_short : (ts : List Kind) (n : List ℕ) (o : Bool) (rest : List Kind) → IsField ts n o rest → length rest < length ts
field_short _ _ _ _ (required e h) = omega (arith, dotted_short _ _ _ _ h)
field_short _ _ _ _ (optional e h) = omega (arith, dotted_short _ _ _ _ h)

pub text_short : (ts : List Kind) (s : List ℕ) (rest : List Kind) → IsText ts s rest → length rest < length ts
text_short _ _ _ a_text = omega arith

pub literal_short : (ts : List Kind) (v : Value) (rest : List Kind) → IsLiteral ts v rest → length rest < length ts
literal_short _ _ _ is_number = omega arith
literal_short _ _ _ is_negative = omega arith
literal_short _ _ _ is_text = omega arith
literal_short _ _ _ is_true = omega arith
literal_short _ _ _ is_false = omega arith

pub patterns_short : (ts : List Kind) (ss : List (List ℕ)) (rest : List Kind) → IsPatterns ts ss rest → length rest < length ts
patterns_short _ _ _ one_text = omega arith
patterns_short _ _ _ (some_texts h) = omega (arith, listed_short IsText text_short _ _ _ h)

pub members_short : (ts : List Kind) (vs : List Value) (rest : List Kind) → IsMembers ts vs rest → length rest < length ts
members_short _ _ _ (members h) = omega (arith, listed_short IsLiteral literal_short _ _ _ h)

mutual
  pub expr_short : (ts : List Kind) (e : Tree) (rest : List Kind) → IsExpr ts e rest → length rest < length ts
  expr_short _ _ _ (conj h) = conj_short _ _ _ h
  expr_short _ _ _ (any_of h k) = omega (arith, conj_short _ _ _ h, operands_short _ _ _ _ k)

  pub conj_short : (ts : List Kind) (e : Tree) (rest : List Kind) → IsConj ts e rest → length rest < length ts
  conj_short _ _ _ (neg h) = neg_short _ _ _ h
  conj_short _ _ _ (all_of h k) = omega (arith, neg_short _ _ _ h, operands_short _ _ _ _ k)

  pub operands_short : (j : Joint) (ts : List Kind) (es : Trees) (rest : List Kind) → IsOperands j ts es rest → length rest < length ts
  operands_short _ _ _ _ (last h) = operand_short _ _ _ _ h
  operands_short _ _ _ _ (next h k) = omega (arith, operand_short _ _ _ _ h, operands_short _ _ _ _ k)

  pub operand_short : (j : Joint) (ts : List Kind) (e : Tree) (rest : List Kind) → IsOperand j ts e rest → length rest < length ts
  operand_short _ _ _ _ (of_or h) = conj_short _ _ _ h
  operand_short _ _ _ _ (of_and h) = neg_short _ _ _ h
  operand_short _ _ _ _ (of_comma h) = expr_short _ _ _ h

  neg_short : (ts : List Kind) (e : Tree) (rest : List Kind) → IsNeg ts e rest → length rest < length ts
  neg_short _ _ _ (negated h) = omega (arith, neg_short _ _ _ h)
  neg_short _ _ _ (pred h) = pred_short _ _ _ h

  pred_short : (ts : List Kind) (e : Tree) (rest : List Kind) → IsPred ts e rest → length rest < length ts
  pred_short _ _ _ (sum h) = sum_short _ _ _ h
  pred_short _ _ _ (compared h k) = omega (arith, sum_short _ _ _ h, sum_short _ _ _ k)
  pred_short _ _ _ (matched h k) = omega (arith, sum_short _ _ _ h, patterns_short _ _ _ k)
  pred_short _ _ _ (is_in h k) = omega (arith, sum_short _ _ _ h, members_short _ _ _ k)
  pred_short _ _ _ (is_not_in h k) = omega (arith, sum_short _ _ _ h, members_short _ _ _ k)

  pub sum_short : (ts : List Kind) (e : Tree) (rest : List Kind) → IsSum ts e rest → length rest < length ts
  sum_short _ _ _ (prod h) = prod_short _ _ _ h
  sum_short _ _ _ (added h k) = omega (arith, sum_short _ _ _ h, prod_short _ _ _ k)

  pub prod_short : (ts : List Kind) (e : Tree) (rest : List Kind) → IsProd ts e rest → length rest < length ts
  prod_short _ _ _ (unary h) = unary_short _ _ _ h
  prod_short _ _ _ (multiplied h k) = omega (arith, prod_short _ _ _ h, unary_short _ _ _ k)

  pub unary_short : (ts : List Kind) (e : Tree) (rest : List Kind) → IsUnary ts e rest → length rest < length ts
  unary_short _ _ _ (minus h) = omega (arith, unary_short _ _ _ h)
  unary_short _ _ _ (prim h) = prim_short _ _ _ h

  prim_short : (ts : List Kind) (e : Tree) (rest : List Kind) → IsPrim ts e rest → length rest < length ts
  prim_short _ _ _ is_null = omega arith
  prim_short _ _ _ is_yes = omega arith
  prim_short _ _ _ is_no = omega arith
  prim_short _ _ _ is_long = omega arith
  prim_short _ _ _ is_str = omega arith
  prim_short _ _ _ (is_field h) = field_short _ _ _ _ h
  prim_short _ _ _ (is_call h e) = omega (arith, arguments_short _ _ _ h)
  prim_short _ _ _ (is_folding_call h) = omega (arith, arguments_short _ _ _ h)
  prim_short _ _ _ (inside h) = omega (arith, expr_short _ _ _ h)

  arguments_short : (ts : List Kind) (es : Trees) (rest : List Kind) → IsArguments ts es rest → length rest < length ts
  arguments_short _ _ _ no_arguments = omega arith
  arguments_short _ _ _ (some_arguments h) = omega (arith, operands_short _ _ _ _ h)
