-- The canonical tokens of an expression are in the grammar and give the expression, whatever follows.
use Rattle.std.proofs.Common.{ℕ, pos, negsuc, Bool, true, false, List, [], ◌∷◌, map, refl, sym, subst}
use Rattle.eql_values.specs.declared.value.Value.{Value}
use Rattle.eql_values.specs.declared.value.Value.TheVariants as value
use Rattle.eql_lexer.specs.declared.token.Tok.{Tok}
use Rattle.eql_lexer.specs.declared.token.Tok.TheVariants as tok
use Rattle.eql_query.specs.declared.expr.CmpOp.{CmpOp}
use Rattle.eql_query.specs.declared.expr.CmpOp.TheVariants as cmp
use Rattle.eql_query.specs.declared.expr.PatOp.{PatOp}
use Rattle.eql_query.specs.declared.expr.PatOp.TheVariants as pat
use Rattle.eql_query.specs.declared.expr.MathOp.{MathOp}
use Rattle.eql_query.specs.declared.expr.MathOp.TheVariants as math
use Rattle.eql_query.specs.Tree.{Tree, Trees, none, more}
use Rattle.eql_query.specs.Tree as t
use Rattle.eql_parser.specs.Kinds.{Kind, kind, sign_kind, word_kind, open_, close_}
use Rattle.eql_parser.specs.Grammar.{IsListed, last_one, next_one, ends, required, optional, IsText, a_text, IsPatterns, one_text, some_texts, IsLiteral, is_number, is_negative, is_text, is_true, is_false, members, Joint, by_or, by_and, by_comma, IsExpr, conj, any_of, neg, all_of, IsOperands, last, next, IsOperand, of_or, of_and, of_comma, IsNeg, negated, pred, IsPred, sum, compared, matched, is_in, is_not_in, IsSum, prod, added, unary, multiplied, minus, prim, IsPrim, is_null, is_yes, is_no, is_long, is_str, is_field, is_call, is_folding_call, inside, IsArguments, no_arguments, some_arguments}
use Rattle.eql_parser.proofs.Canonical.{close_tok, comma_tok, cmp_sign, pat_tok, math_sign, joint_tok, texts_toks, patterns_toks, literal_toks, literals_toks, member_toks, toks, all_toks, called, SomeOf, IsGoodLiteral, AreLiterals, IsCalled, IsKept, Good, AllGood}

a_sum : {ts rest : List Kind} {e : Tree} → IsPrim ts e rest → IsSum ts e rest
a_sum h = prod (unary (prim h))

a_neg : {ts rest : List Kind} {e : Tree} → IsPrim ts e rest → IsNeg ts e rest
a_neg h = pred (sum (a_sum h))

within : {ts rest : List Kind} {e : Tree} → IsPred ts e (close_ ∷ rest) → IsPrim (open_ ∷ ts) e rest
within h = inside (conj (neg (pred h)))

compared_by : (o : CmpOp) {ts us rest : List Kind} {a b : Tree} → IsSum ts a (sign_kind (cmp_sign o) ∷ us) → IsSum us b rest → IsPred ts (t.cmp o a b) rest
compared_by cmp.Lt h k = compared h k
compared_by cmp.Le h k = compared h k
compared_by cmp.Eq h k = compared h k
compared_by cmp.Ne h k = compared h k
compared_by cmp.Ge h k = compared h k
compared_by cmp.Gt h k = compared h k

computed_by : (o : MathOp) {ts us rest : List Kind} {a b : Tree} → IsPrim ts a (sign_kind (math_sign o) ∷ us) → IsPrim us b rest → IsPred ts (t.math o a b) rest
computed_by math.Add h k = sum (added (a_sum h) (unary (prim k)))
computed_by math.Sub h k = sum (added (a_sum h) (unary (prim k)))
computed_by math.Mul h k = sum (prod (multiplied (unary (prim h)) (prim k)))
computed_by math.Div h k = sum (prod (multiplied (unary (prim h)) (prim k)))
computed_by math.Mod h k = sum (prod (multiplied (unary (prim h)) (prim k)))

matched_by : (o : PatOp) {ts us rest : List Kind} {a : Tree} {ss : List (List ℕ)} → IsSum ts a (kind (pat_tok o) ∷ us) → IsPatterns us ss rest → IsPred ts (t.pattern o a ss) rest
matched_by pat.Colon h k = matched h k
matched_by pat.Like h k = matched h k
matched_by pat.LikeFold h k = matched h k

member_by : (f n : Bool) {ts rest : List Kind} {a : Tree} {vs : List Value} (us : List Tok) → IsSum ts a (map kind (member_toks f n us)) → IsListed IsLiteral (map kind us) vs (close_ ∷ rest)
    → IsPred ts (t.member f n a vs) rest
member_by false false us h k = is_in h (members k)
member_by true false us h k = is_in h (members k)
member_by false true us h k = is_not_in h (members k)
member_by true true us h k = is_not_in h (members k)

next_by : (j : Joint) {ts us rest : List Kind} {e : Tree} {es : Trees} → IsOperand j ts e (kind (joint_tok j) ∷ us) → IsOperands j us es rest → IsOperands j ts (more e es) rest
next_by by_or h k = next h k
next_by by_and h k = next h k
next_by by_comma h k = next h k

operand_by : (j : Joint) {ts rest : List Kind} {e : Tree} → IsPrim ts e rest → IsOperand j ts e rest
operand_by by_or h = of_or (neg (a_neg h))
operand_by by_and h = of_and (a_neg h)
operand_by by_comma h = of_comma (conj (neg (a_neg h)))

texts_read : (ss : List (List ℕ)) (us : List Tok) → SomeOf ss → IsListed IsText (map kind (texts_toks ss us)) ss (map kind us)
texts_read [] us s = absurd s
texts_read (x ∷ []) us s = last_one a_text
texts_read (x ∷ y ∷ ss) us s = next_one a_text (texts_read (y ∷ ss) us tt)

patterns_read : (ss : List (List ℕ)) (us : List Tok) → SomeOf ss → IsPatterns (map kind (patterns_toks ss us)) ss (map kind us)
patterns_read [] us s = absurd s
patterns_read (x ∷ []) us s = one_text
patterns_read (x ∷ y ∷ ss) us s = some_texts (texts_read (x ∷ y ∷ ss) (close_tok ∷ us) tt)

literal_reads : (v : Value) (us : List Tok) → IsGoodLiteral v → IsLiteral (map kind (literal_toks v us)) v (map kind us)
literal_reads (value.Bool true) us h = is_true
literal_reads (value.Bool false) us h = is_false
literal_reads (value.Long (pos n)) us h = is_number
literal_reads (value.Long (negsuc n)) us h = is_negative
literal_reads (value.Text s) us h = is_text
literal_reads value.Null us h = absurd h
literal_reads (value.Ip a) us h = absurd h

literals_read : (vs : List Value) (us : List Tok) → SomeOf vs → AreLiterals vs → IsListed IsLiteral (map kind (literals_toks vs us)) vs (map kind us)
literals_read [] us s h = absurd s
literals_read (v ∷ []) us s h = last_one (literal_reads v us h.0)
literals_read (v ∷ w ∷ vs) us s h = next_one (literal_reads v (comma_tok ∷ literals_toks (w ∷ vs) us) h.0) (literals_read (w ∷ vs) us tt h.1)

call_by : (f : Bool) (w : List ℕ) (es : Trees) {us rest : List Kind} → IsCalled f w → IsKept f w es → IsArguments us es rest → IsPrim (word_kind (called f w) ∷ open_ ∷ us) (t.call w f es) rest
call_by false w es {us} {rest} h k a = subst (λ x. IsPrim (x ∷ open_ ∷ us) (t.call w false es) rest) (sym h.1) (is_call a k)
call_by true w es {us} {rest} h k a = subst (λ x. IsPrim (x ∷ open_ ∷ us) (t.call w true es) rest) (sym h.1) (is_folding_call a)

abbrev One : Trees → Type 0
One none = ⊥
One (more a es) = Unit {0}

mutual
  pub prim_reads : (e : Tree) (us : List Tok) → Good e → IsPrim (map kind (toks e us)) e (map kind us)
  prim_reads t.null us h = is_null
  prim_reads (t.bool true) us h = is_yes
  prim_reads (t.bool false) us h = is_no
  prim_reads (t.long n) us h = is_long
  prim_reads (t.str s) us h = is_str
  prim_reads (t.field n false) us h = is_field (required refl ends)
  prim_reads (t.field n true) us h = is_field (optional refl ends)
  prim_reads (t.not a) us h = inside (conj (neg (negated (a_neg (prim_reads a (close_tok ∷ us) h)))))
  prim_reads (t.and none) us h = absurd h.0
  prim_reads (t.and (more a none)) us h = absurd h.0
  prim_reads (t.and (more a (more b es))) us h =
      inside (conj (all_of (a_neg (prim_reads a (joint_tok by_and ∷ all_toks by_and (more b es) (close_tok ∷ us)) h.1.0)) (operands_read by_and (more b es) (close_tok ∷ us) tt h.1.1)))
  prim_reads (t.or none) us h = absurd h.0
  prim_reads (t.or (more a none)) us h = absurd h.0
  prim_reads (t.or (more a (more b es))) us h =
      inside (any_of (neg (a_neg (prim_reads a (joint_tok by_or ∷ all_toks by_or (more b es) (close_tok ∷ us)) h.1.0))) (operands_read by_or (more b es) (close_tok ∷ us) tt h.1.1))
  prim_reads (t.cmp o a b) us h = within (compared_by o (a_sum (prim_reads a (tok.Sign (cmp_sign o) ∷ toks b (close_tok ∷ us)) h.0)) (a_sum (prim_reads b (close_tok ∷ us) h.1)))
  prim_reads (t.pattern o a ss) us h = within (matched_by o (a_sum (prim_reads a (pat_tok o ∷ patterns_toks ss (close_tok ∷ us)) h.0)) (patterns_read ss (close_tok ∷ us) h.1))
  prim_reads (t.member f n a vs) us h =
      within (member_by f n (literals_toks vs (close_tok ∷ close_tok ∷ us)) (a_sum (prim_reads a (member_toks f n (literals_toks vs (close_tok ∷ close_tok ∷ us))) h.0)) (literals_read vs (close_tok ∷ close_tok ∷ us) h.1 h.2))
  prim_reads (t.neg a) us h = within (sum (prod (unary (minus (prim (prim_reads a (close_tok ∷ us) h))))))
  prim_reads (t.math o a b) us h = within (computed_by o (prim_reads a (tok.Sign (math_sign o) ∷ toks b (close_tok ∷ us)) h.0) (prim_reads b (close_tok ∷ us) h.1))
  prim_reads (t.call w f none) us h = call_by f w none h.0 h.1 no_arguments
  prim_reads (t.call w f (more a es)) us h = call_by f w (more a es) h.0 h.1 (some_arguments (operands_read by_comma (more a es) (close_tok ∷ us) tt h.2))

  operands_read : (j : Joint) (es : Trees) (us : List Tok) → One es → AllGood es → IsOperands j (map kind (all_toks j es us)) es (map kind us)
  operands_read j none us s h = absurd s
  operands_read j (more a none) us s h = last (operand_by j (prim_reads a us h.0))
  operands_read j (more a (more b es)) us s h =
      next_by j (operand_by j (prim_reads a (joint_tok j ∷ all_toks j (more b es) us) h.0)) (operands_read j (more b es) us tt h.1)

pub expr_reads : (e : Tree) (us : List Tok) → Good e → IsExpr (map kind (toks e us)) e (map kind us)
expr_reads e us h = conj (neg (a_neg (prim_reads e us h)))
