-- In the canonical tokens of a query at most as many parentheses stand open as it has levels.
use Rattle.std.proofs.Common.{◌≡◌, ℕ, zero, suc, ◌+◌, ◌-◌, ◌≤◌, ℤ, pos, negsuc, Bool, true, false, List, [], ◌∷◌, map, Option, None, Some, sym, subst, ◌∙◌, arith}
use Rattle.std.specs.Prelude.{codes}
use Rattle.eql_values.specs.declared.value.Value.{Value}
use Rattle.eql_values.specs.declared.value.Value.TheVariants as value
use Rattle.eql_lexer.specs.declared.token.Sign.TheVariants as sign
use Rattle.eql_lexer.specs.declared.token.Tok.{Tok}
use Rattle.eql_lexer.specs.declared.token.Tok.TheVariants as tok
use Rattle.eql_lexer.specs.declared.token.Token.{Token}
use Rattle.eql_query.specs.declared.expr.FieldRef.{FieldRef}
use Rattle.eql_query.specs.declared.expr.CmpOp.{CmpOp}
use Rattle.eql_query.specs.declared.expr.CmpOp.TheVariants as cmp
use Rattle.eql_query.specs.declared.expr.PatOp.{PatOp}
use Rattle.eql_query.specs.declared.expr.PatOp.TheVariants as pat
use Rattle.eql_query.specs.declared.expr.MathOp.{MathOp}
use Rattle.eql_query.specs.declared.expr.MathOp.TheVariants as math
use Rattle.eql_query.specs.declared.query.Span.{Span}
use Rattle.eql_query.specs.declared.query.Unit.{Unit as TimeUnit}
use Rattle.eql_query.specs.declared.query.Unit.TheVariants as unit
use Rattle.eql_query.specs.declared.query.PipeText.{PipeText}
use Rattle.eql_query.specs.declared.query.PipeText.TheVariants as pipe
use Rattle.eql_query.specs.Tree.{Tree, Trees, none, more}
use Rattle.eql_query.specs.Tree as t
use Rattle.eql_query.specs.QueryTree.{TermTree, BodyTree, event, sequence, QueryTree}
use Rattle.eql_parser.specs.Kinds.{kind, kinds}
use Rattle.eql_parser.specs.Grammar.{Joint, by_or, by_and, by_comma}
use Rattle.eql_parser.specs.Limits.{depth, deepest, deepest_item, until_depth, body_levels, levels, OpensAtMost}
use Rattle.eql_parser.proofs.Opens.{OpenTo, open_to_front}
use Rattle.eql_parser.proofs.Canonical.{open_tok, close_tok, comma_tok, cmp_sign, pat_tok, math_sign, joint_tok, field_toks, texts_toks, patterns_toks, literal_toks, literals_toks, member_toks, called, toks, all_toks, Good, AllGood, IsCalled}
use Rattle.eql_parser.proofs.CanonicalQuery.{fields_toks, by_toks, category_toks, term_toks, bracketed_toks, runs_toks, items_toks, span_toks, until_toks, body_toks, pipes_toks, query_toks, GoodTerms, GoodUntil, GoodBody}

-- `most` may stand open, and what follows keeps to that
module _ (most : ℕ) where
  abbrev Keeps : ℕ → List Tok → Type 0
  Keeps o us = OpenTo most o (map kind us)

  closing : (o : ℕ) (us : List Tok) → suc o ≤ most → Keeps o us → Keeps (suc o) (close_tok ∷ us)
  closing o us h k = let same : o ≡ suc o - 1 = omega arith in (h, subst (λ n. OpenTo most n (map kind us)) same k)

  cmp_keeps : (c : CmpOp) (o : ℕ) (us : List Tok) → Keeps o us → Keeps o (tok.Sign (cmp_sign c) ∷ us)
  cmp_keeps cmp.Lt o us k = k
  cmp_keeps cmp.Le o us k = k
  cmp_keeps cmp.Eq o us k = k
  cmp_keeps cmp.Ne o us k = k
  cmp_keeps cmp.Ge o us k = k
  cmp_keeps cmp.Gt o us k = k

  pat_keeps : (p : PatOp) (o : ℕ) (us : List Tok) → Keeps o us → Keeps o (pat_tok p ∷ us)
  pat_keeps pat.Colon o us k = k
  pat_keeps pat.Like o us k = k
  pat_keeps pat.LikeFold o us k = k

  math_keeps : (m : MathOp) (o : ℕ) (us : List Tok) → Keeps o us → Keeps o (tok.Sign (math_sign m) ∷ us)
  math_keeps math.Add o us k = k
  math_keeps math.Sub o us k = k
  math_keeps math.Mul o us k = k
  math_keeps math.Div o us k = k
  math_keeps math.Mod o us k = k

  joint_keeps : (j : Joint) (o : ℕ) (us : List Tok) → Keeps o us → Keeps o (joint_tok j ∷ us)
  joint_keeps by_or o us k = k
  joint_keeps by_and o us k = k
  joint_keeps by_comma o us k = k

  field_keeps : (n : List ℕ) (b : Bool) (o : ℕ) (us : List Tok) → Keeps o us → Keeps o (field_toks n b us)
  field_keeps n false o us k = k
  field_keeps n true o us k = k

  texts_keep : (ss : List (List ℕ)) (o : ℕ) (us : List Tok) → Keeps o us → Keeps o (texts_toks ss us)
  texts_keep [] o us k = k
  texts_keep (s ∷ []) o us k = k
  texts_keep (s ∷ u ∷ ss) o us k = texts_keep (u ∷ ss) o us k

  patterns_keep : (ss : List (List ℕ)) (o : ℕ) (us : List Tok) → suc o ≤ most → Keeps o us → Keeps o (patterns_toks ss us)
  patterns_keep [] o us h k = k
  patterns_keep (s ∷ []) o us h k = k
  patterns_keep (s ∷ u ∷ ss) o us h k = (omega (arith, h), texts_keep (s ∷ u ∷ ss) (suc o) (close_tok ∷ us) (closing o us h k))

  literal_keeps : (v : Value) (o : ℕ) (us : List Tok) → Keeps o us → Keeps o (literal_toks v us)
  literal_keeps (value.Bool true) o us k = k
  literal_keeps (value.Bool false) o us k = k
  literal_keeps (value.Long (pos n)) o us k = k
  literal_keeps (value.Long (negsuc n)) o us k = k
  literal_keeps (value.Text s) o us k = k
  literal_keeps _ o us k = k

  literals_keep : (vs : List Value) (o : ℕ) (us : List Tok) → Keeps o us → Keeps o (literals_toks vs us)
  literals_keep [] o us k = k
  literals_keep (v ∷ []) o us k = literal_keeps v o us k
  literals_keep (v ∷ w ∷ vs) o us k = literal_keeps v o (comma_tok ∷ literals_toks (w ∷ vs) us) (literals_keep (w ∷ vs) o us k)

  member_keeps : (f n : Bool) (o : ℕ) (us : List Tok) → o ≤ most → Keeps (suc o) us → Keeps o (member_toks f n us)
  member_keeps false false o us h k = (h, k)
  member_keeps true false o us h k = (h, k)
  member_keeps false true o us h k = (h, k)
  member_keeps true true o us h k = (h, k)

  called_keeps : (f : Bool) (w : List ℕ) (o : ℕ) (us : List Tok) → IsCalled f w → Keeps o us → Keeps o (tok.Word (called f w) ∷ us)
  called_keeps false w o us h k = subst (λ n. OpenTo most o (n ∷ map kind us)) (sym h.1) k
  called_keeps true w o us h k = subst (λ n. OpenTo most o (n ∷ map kind us)) (sym h.1) k

  some_depth : (e : Tree) → 1 ≤ depth e
  some_depth t.null = omega arith
  some_depth _ = omega arith

  mutual
    expr_keeps : (e : Tree) (o : ℕ) (us : List Tok) → Good e → o + depth e ≤ most → Keeps o us → Keeps o (toks e us)
    expr_keeps t.null o us g h k = k
    expr_keeps (t.bool true) o us g h k = k
    expr_keeps (t.bool false) o us g h k = k
    expr_keeps (t.long n) o us g h k = k
    expr_keeps (t.str s) o us g h k = k
    expr_keeps (t.field n b) o us g h k = field_keeps n b o us k
    expr_keeps (t.not a) o us g h k = (omega (arith, h), expr_keeps a (suc o) (close_tok ∷ us) g (omega (arith, h)) (closing o us (omega (arith, h)) k))
    expr_keeps (t.and es) o us g h k = (omega (arith, h), all_keep by_and es (suc o) (close_tok ∷ us) g.1 (omega (arith, h)) (closing o us (omega (arith, h)) k))
    expr_keeps (t.or es) o us g h k = (omega (arith, h), all_keep by_or es (suc o) (close_tok ∷ us) g.1 (omega (arith, h)) (closing o us (omega (arith, h)) k))
    expr_keeps (t.cmp c a b) o us g h k =
        let right = expr_keeps b (suc o) (close_tok ∷ us) g.1 (omega (arith, h)) (closing o us (omega (arith, h)) k) in
        (omega (arith, h), expr_keeps a (suc o) (tok.Sign (cmp_sign c) ∷ toks b (close_tok ∷ us)) g.0 (omega (arith, h)) (cmp_keeps c (suc o) (toks b (close_tok ∷ us)) right))
    expr_keeps (t.pattern p a ss) o us g h k =
        let right = patterns_keep ss (suc o) (close_tok ∷ us) (omega (arith, h, some_depth a)) (closing o us (omega (arith, h)) k) in
        (omega (arith, h), expr_keeps a (suc o) (pat_tok p ∷ patterns_toks ss (close_tok ∷ us)) g.0 (omega (arith, h)) (pat_keeps p (suc o) (patterns_toks ss (close_tok ∷ us)) right))
    expr_keeps (t.member f n a vs) o us g h k =
        let inside = closing (suc o) (close_tok ∷ us) (omega (arith, h, some_depth a)) (closing o us (omega (arith, h)) k) in
        let list = literals_keep vs (suc (suc o)) (close_tok ∷ close_tok ∷ us) inside in (
          omega (arith, h),
          expr_keeps a (suc o) (member_toks f n (literals_toks vs (close_tok ∷ close_tok ∷ us))) g.0 (omega (arith, h))
              (member_keeps f n (suc o) (literals_toks vs (close_tok ∷ close_tok ∷ us)) (omega (arith, h)) list),
        )
    expr_keeps (t.neg a) o us g h k = (omega (arith, h), expr_keeps a (suc o) (close_tok ∷ us) g (omega (arith, h)) (closing o us (omega (arith, h)) k))
    expr_keeps (t.math m a b) o us g h k =
        let right = expr_keeps b (suc o) (close_tok ∷ us) g.1 (omega (arith, h)) (closing o us (omega (arith, h)) k) in
        (omega (arith, h), expr_keeps a (suc o) (tok.Sign (math_sign m) ∷ toks b (close_tok ∷ us)) g.0 (omega (arith, h)) (math_keeps m (suc o) (toks b (close_tok ∷ us)) right))
    expr_keeps (t.call w f es) o us g h k =
        let inside = all_keep by_comma es (suc o) (close_tok ∷ us) g.2 (omega (arith, h)) (closing o us (omega (arith, h)) k) in
        called_keeps f w o (open_tok ∷ all_toks by_comma es (close_tok ∷ us)) g.0 (omega (arith, h), inside)

    all_keep : (j : Joint) (es : Trees) (o : ℕ) (us : List Tok) → AllGood es → o + deepest es ≤ most → Keeps o us → Keeps o (all_toks j es us)
    all_keep j none o us g h k = k
    all_keep j (more a none) o us g h k = expr_keeps a o us g.0 (omega (arith, h)) k
    all_keep j (more a (more b es)) o us g h k =
        let rest = all_keep j (more b es) o us g.1 (omega (arith, h)) k in
        expr_keeps a o (joint_tok j ∷ all_toks j (more b es) us) g.0 (omega (arith, h)) (joint_keeps j o (all_toks j (more b es) us) rest)

  fields_keep : (fs : List FieldRef) (us : List Tok) → Keeps 0 us → Keeps 0 (fields_toks fs us)
  fields_keep [] us k = k
  fields_keep (f ∷ []) us k = field_keeps f.name f.optional 0 us k
  fields_keep (f ∷ g ∷ fs) us k = field_keeps f.name f.optional 0 (comma_tok ∷ fields_toks (g ∷ fs) us) (fields_keep (g ∷ fs) us k)

  by_keeps : (fs : List FieldRef) (us : List Tok) → Keeps 0 us → Keeps 0 (by_toks fs us)
  by_keeps [] us k = k
  by_keeps (f ∷ fs) us k = fields_keep (f ∷ fs) us k

  category_keeps : (c : Option (List ℕ)) (us : List Tok) → Keeps 0 us → Keeps 0 (category_toks c us)
  category_keeps None us k = k
  category_keeps (Some c) us k = k

  term_keeps : (i : TermTree) (us : List Tok) → Good i.cond → depth i.cond ≤ most → Keeps 0 us → Keeps 0 (term_toks i us)
  term_keeps i us g h k = category_keeps i.category (tok.Word (codes "where") ∷ toks i.cond us) (expr_keeps i.cond 0 us g (omega (arith, h)) k)

  bracketed_keeps : (i : TermTree) (us : List Tok) → Good i.cond → depth i.cond ≤ most → Keeps 0 us → Keeps 0 (bracketed_toks i us)
  bracketed_keeps i us g h k = term_keeps i (tok.Sign sign.CloseBracket ∷ by_toks i.by us) g h (by_keeps i.by us k)

  runs_keep : (n : ℤ) (us : List Tok) → Keeps 0 us → Keeps 0 (runs_toks n us)
  runs_keep (pos zero) us k = k
  runs_keep (pos (suc zero)) us k = k
  runs_keep (pos (suc (suc n))) us k = k
  runs_keep (negsuc n) us k = k

  items_keep : (is : List TermTree) (us : List Tok) → GoodTerms is → deepest_item is ≤ most → Keeps 0 us → Keeps 0 (items_toks is us)
  items_keep [] us g h k = k
  items_keep (i ∷ is) us g h k =
      bracketed_keeps i (runs_toks i.runs (items_toks is us)) g.0.1 (omega (arith, h)) (runs_keep i.runs (items_toks is us) (items_keep is us g.1 (omega (arith, h)) k))

  unit_keeps : (n : ℤ) (u : TimeUnit) (us : List Tok) → Keeps 0 us → Keeps 0 (span_toks (Some (record { count = n; unit = u })) us)
  unit_keeps n unit.Ms us k = k
  unit_keeps n unit.S us k = k
  unit_keeps n unit.M us k = k
  unit_keeps n unit.H us k = k
  unit_keeps n unit.D us k = k

  span_keeps : (s : Option Span) (us : List Tok) → Keeps 0 us → Keeps 0 (span_toks s us)
  span_keeps None us k = k
  span_keeps (Some s) us k = unit_keeps s.count s.unit us k

  until_keeps : (i : Option TermTree) (us : List Tok) → GoodUntil i → until_depth i ≤ most → Keeps 0 us → Keeps 0 (until_toks i us)
  until_keeps None us g h k = k
  until_keeps (Some i) us g h k = bracketed_keeps i us g.0.1 h k

  body_keeps : (b : BodyTree) (us : List Tok) → GoodBody b → body_levels b ≤ most → Keeps 0 us → Keeps 0 (body_toks b us)
  body_keeps (event i) us g h k = term_keeps i us g.0.1 h k
  body_keeps (sequence by span items until) us g h k =
      by_keeps by (span_toks span (items_toks items (until_toks until us)))
      (span_keeps span (items_toks items (until_toks until us))
      (items_keep items (until_toks until us) g.3 (omega (arith, h)) (until_keeps until us g.4 (omega (arith, h)) k)))

  pipes_keep : (ps : List PipeText) → Keeps 0 (pipes_toks ps)
  pipes_keep [] = omega arith
  pipes_keep (pipe.Head n ∷ ps) = pipes_keep ps
  pipes_keep (pipe.Tail n ∷ ps) = pipes_keep ps

-- nowhere more stand open than the query has levels
pub query_keeps : (q : QueryTree) → GoodBody q.body → (us : List Token) → map kind (query_toks q) ≡ kinds us → OpensAtMost (levels q) us
query_keeps q g us e before behind cut =
    let all : OpenTo (levels q) 0 (map kind (query_toks q)) = body_keeps (levels q) q.body (pipes_toks q.pipes) g (omega arith) (pipes_keep (levels q) q.pipes) in
    open_to_front (levels q) 0 before behind (subst (λ ks. OpenTo (levels q) 0 ks) (e ∙ cut) all)
