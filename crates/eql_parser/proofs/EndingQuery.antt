-- What the descent has read of a query where it stops can be ended as a query of no more levels than are allowed, but for a number that counts as nothing.
use Rattle.std.proofs.Common.{◌≡◌, ℕ, zero, suc, ◌≤◌, Bool, true, List, [], ◌∷◌, ◌++◌, length, Option, Some, None, Ok, Err, refl, sym, subst, codes, arith}
use Rattle.std.specs.Prelude.{pos}
use Rattle.eql_query.specs.declared.expr.FieldRef.{FieldRef}
use Rattle.eql_query.specs.declared.query.Span.{Span}
use Rattle.eql_query.specs.Tree.{Tree}
use Rattle.eql_query.specs.Tree as t
use Rattle.eql_query.specs.QueryTree.{TermTree, BodyTree, event, sequence, QueryTree}
use Rattle.eql_parser.specs.Kinds.{Kind, any_, bang_, join_, null_, sample_, sequence_, until_, where_, open_item_, close_item_}
use Rattle.eql_parser.specs.Grammar.{IsExpr}
use Rattle.eql_parser.specs.Limits.{depth_but, deepest_item_but, until_depth_but, body_levels_but, levels_but}
use Rattle.eql_parser.specs.QueryGrammar.{category, a_term, IsBy, no_keys, IsRuns, one_run, IsSpan, no_span, bracketed, IsItem, an_item, IsItems, last_item, next_item, IsUntil, no_until, an_until, IsBody, one_event, a_sequence, no_pipes, a_query}
use Rattle.eql_parser.specs.Refusing.{IsNewTo, BeginsWithin}
use Rattle.eql_parser.specs.Reading.{Fail, Syntax, LeftOut, Res, then_do, res_map, expr}
use Rattle.eql_parser.specs.QueryReading.{behind_expected, is_where, is_open_item, is_close_item, Conditioned, keys, runs, term_tree_of, behind_term, items_more, span, pipes, behind_body, query_by, query}
use Rattle.eql_parser.specs.QueryReading as q
use Rattle.eql_parser.proofs.Rows.{WithinBut}
use Rattle.eql_parser.proofs.Sound.{where_only, open_item_only, close_item_only}
use Rattle.eql_parser.proofs.Starts.{Starts, Onto, fail_place}
use Rattle.eql_parser.proofs.StartsQuery.{IsConditioned, IsKeyed, IsWhole, ArePipes, null_term, null_bracketed, null_tree, null_item, tells_keys, tells_runs, tells_span, tells_pipes}
use Rattle.eql_parser.proofs.Ending.{CanEnd, from_tells, ended_at, can_map, can_also, can_token, can_then, can_here, can_if}
use Rattle.eql_parser.proofs.EndingExpr.{hole_within, expr_can}
use Rattle.eql_parser.proofs.New.{new_front, above_all, above_new}

-- [any where null]
abbrev null_tokens : List Kind
null_tokens = open_item_ ∷ any_ ∷ where_ ∷ null_ ∷ close_item_ ∷ []

-- a word that has to stand here
can_expected : {A : Type 0} (is : Kind → Bool) (go : List Kind → Res A) (Q : List Kind → A → List Kind → Type 0) → Starts Q []
    → ((k : Kind) (us : List Kind) → is k ≡ true → CanEnd Q (k ∷ us) (go us)) → (ts : List Kind) → CanEnd Q ts (behind_expected is go ts)
can_expected is go Q begun h [] = ended_at Q [] [] (Syntax 0) refl begun
can_expected is go Q begun h (k ∷ ts) = can_if Q Q (k ∷ ts) (is k) (go ts) (Err (Syntax (suc (length ts)))) (λ b. h k ts b) (λ b. ended_at Q [] (k ∷ ts) (Syntax (suc (length ts))) refl begun)

-- one kind alone is meant: what follows is read behind it
can_expects : {A : Type 0} (is : Kind → Bool) (w : Kind) (go : List Kind → Res A) (Q : List Kind → A → List Kind → Type 0) → ((k : Kind) → is k ≡ true → k ≡ w)
    → Starts (λ us x rest. Q (w ∷ us) x rest) [] → ((us : List Kind) → CanEnd (λ vs x rest. Q (w ∷ vs) x rest) us (go us)) → (ts : List Kind) → CanEnd Q ts (behind_expected is go ts)
can_expects is w go Q only begun h =
    can_expected is go Q (begun.0, w ∷ begun.1, begun.2)
    (λ k us b. subst (λ j. CanEnd Q (j ∷ us) (go us)) (sym (only k b)) (can_token (λ vs x rest. Q (w ∷ vs) x rest) Q w us (go us) (λ vs x rest i. i) (h us)))

-- `condition` reads the condition of a term, of at most so many levels, and one or more.
module _ (h most : ℕ) (some : 1 ≤ most) (condition : List Kind → Res Tree) (can : (ts : List Kind) → CanEnd (WithinBut h IsExpr most) ts (condition ts)) where
  abbrev Term : List Kind → Conditioned → List Kind → Type 0
  Term ts c rest = IsConditioned ts c rest × (depth_but h c.1 ≤ most)

  abbrev Keyed : List Kind → Conditioned × List FieldRef → List Kind → Type 0
  Keyed ts x rest = IsKeyed ts x rest × (depth_but h x.0.1 ≤ most)

  abbrev Item : List Kind → TermTree → List Kind → Type 0
  Item ts i rest = IsItem ts i rest × (depth_but h i.cond ≤ most)

  abbrev Items : List Kind → List TermTree → List Kind → Type 0
  Items ts is rest = IsItems ts is rest × (deepest_item_but h is ≤ most)

  abbrev Until : List Kind → Option TermTree → List Kind → Type 0
  Until ts u rest = IsUntil ts u rest × (until_depth_but h u ≤ most)

  abbrev Whole : List Kind → BodyTree → List Kind → Type 0
  Whole ts b rest = IsBody ts b rest × (body_levels_but h b ≤ most)

  abbrev Query : List Kind → QueryTree → List Kind → Type 0
  Query ts x rest = IsWhole ts x rest × (levels_but h x ≤ most)

  a_term_within : Starts Term []
  a_term_within = ((None, t.null), any_ ∷ where_ ∷ null_ ∷ [], λ rest. (null_term rest, some))

  an_item_within : Starts Item []
  an_item_within = (null_tree, null_tokens, λ rest. (null_item rest, some))

  one_item : (rest : List Kind) → IsItems (open_item_ ∷ any_ ∷ where_ ∷ null_ ∷ close_item_ ∷ rest) (null_tree ∷ []) rest
  one_item rest = last_item (null_item rest)

  can_term_of : (k : Kind) (c : Option (Option (List ℕ))) (us : List Kind) → category k ≡ c → CanEnd Term (k ∷ us) (q.term_of condition c us)
  can_term_of k None us e = ended_at Term [] (k ∷ us) (Syntax (suc (length us))) refl a_term_within
  can_term_of k (Some c) us e =
      can_token (λ vs x rest. Term (k ∷ vs) x rest) Term k us (behind_expected is_where (λ vs. res_map (λ x. (c, x)) (condition vs)) us) (λ vs x rest i. i)
      (can_expects is_where where_ (λ vs. res_map (λ x. (c, x)) (condition vs)) (λ vs x rest. Term (k ∷ vs) x rest) where_only
      (let n = hole_within h most in ((c, n.0), n.1, λ rest. let i = n.2 rest in (a_term e i.0, i.1)))
      (λ vs. can_map (WithinBut h IsExpr most) (λ ws x rest. Term (k ∷ where_ ∷ ws) x rest) vs (λ x. (c, x)) (condition vs) (λ ws x rest i. (a_term e i.0, i.1)) (can vs)) us)

  can_term : (us : List Kind) → CanEnd Term us (q.term condition us)
  can_term [] = ended_at Term [] [] (Syntax 0) refl a_term_within
  can_term (k ∷ us) = can_term_of k (category k) us refl

  can_behind_term : (c : Conditioned) (us : List Kind) → CanEnd (Onto Term (λ ts x rest. Keyed (open_item_ ∷ ts) x rest) c) us (behind_term c us)
  can_behind_term c =
      can_expects is_close_item close_item_ (λ vs. res_map (λ fs. (c, fs)) (keys vs)) (Onto Term (λ ts x rest. Keyed (open_item_ ∷ ts) x rest) c) close_item_only
      ((c, []), [], λ rest ts h. (bracketed h.0 no_keys, h.1))
      (λ vs. can_map IsBy (λ ws x rest. Onto Term (λ ts y rest. Keyed (open_item_ ∷ ts) y rest) c (close_item_ ∷ ws) x rest) vs (λ fs. (c, fs)) (keys vs) (λ ws fs rest i ts h. (bracketed h.0 i, h.1))
      (from_tells IsBy IsBy vs (keys vs) (tells_keys vs)))

  can_bracketed : (us : List Kind) → CanEnd Keyed us (q.bracketed_term condition us)
  can_bracketed =
      can_expects is_open_item open_item_ (λ vs. then_do (q.term condition vs) behind_term) Keyed open_item_only
      (((None, t.null), []), any_ ∷ where_ ∷ null_ ∷ close_item_ ∷ [], λ rest. (null_bracketed rest, some))
      (λ vs. can_then Term (λ ws x rest. Keyed (open_item_ ∷ ws) x rest) vs (q.term condition vs) behind_term (λ c. ((c, []), close_item_ ∷ [], λ rest ws h. (bracketed h.0 no_keys, h.1))) (can_term vs)
      can_behind_term)

  can_item_here : (us : List Kind) → CanEnd Item us (then_do (q.bracketed_term condition us) (λ x vs. res_map (term_tree_of x.0 x.1) (runs vs)))
  can_item_here us =
      can_then Keyed Item us (q.bracketed_term condition us) (λ x vs. res_map (term_tree_of x.0 x.1) (runs vs)) (λ x. (term_tree_of x.0 x.1 (pos 1), [], λ rest ws h. (an_item h.0 one_run, h.1))) (can_bracketed us)
      (λ x vs. can_map IsRuns (Onto Keyed Item x) vs (term_tree_of x.0 x.1) (runs vs) (λ ws n rest i ts h. (an_item h.0 i, h.1)) (from_tells IsRuns IsRuns vs (runs vs) (tells_runs vs)))

  can_item : (us : List Kind) → CanEnd Item us (q.item condition us)
  can_item (bang_ ∷ open_item_ ∷ us) = ended_at Item [] (bang_ ∷ open_item_ ∷ us) (LeftOut (codes "!") (suc (suc (length us)))) refl an_item_within
  can_item us = can_item_here us

  can_items_more : (again : List Kind → Res (List TermTree)) → ((us : List Kind) → CanEnd Items us (again us)) → (i : TermTree) (us : List Kind) → CanEnd (Onto Item Items i) us (items_more again i us)
  can_items_more again h i (open_item_ ∷ us) =
      can_map Items (Onto Item Items i) (open_item_ ∷ us) (λ is. i ∷ is) (again (open_item_ ∷ us)) (λ vs is rest j ts k. (next_item k.0 j.0, omega (arith, j.1, k.1))) (h (open_item_ ∷ us))
  can_items_more again h i (bang_ ∷ open_item_ ∷ us) =
      ended_at (Onto Item Items i) [] (bang_ ∷ open_item_ ∷ us) (LeftOut (codes "!") (suc (suc (length us)))) refl (i ∷ [], [], λ rest ts k. (last_item k.0, omega (arith, k.1)))
  can_items_more again h i us = can_here (Onto Item Items i) (Onto Item Items i) (i ∷ []) us (λ rest ts k. (last_item k.0, omega (arith, k.1)))

  can_items : (n : ℕ) (us : List Kind) → CanEnd Items us (q.items condition n us)
  unfolding q.items
  can_items zero us = ended_at Items [] us (Syntax (length us)) refl (null_tree ∷ [], null_tokens, λ rest. (one_item rest, omega (arith, some)))
  can_items (suc n) us =
      can_then Item Items us (q.item condition us) (items_more (q.items condition n)) (λ i. (i ∷ [], [], λ rest ts h. (last_item h.0, omega (arith, h.1)))) (can_item us)
      (can_items_more (q.items condition n) (can_items n))

  can_until : (us : List Kind) → CanEnd Until us (q.until condition us)
  can_until (until_ ∷ us) =
      can_token (λ vs x rest. Until (until_ ∷ vs) x rest) Until until_ us (res_map (λ x. Some (term_tree_of x.0 x.1 (pos 1))) (q.bracketed_term condition us)) (λ vs x rest i. i)
      (can_map Keyed (λ vs x rest. Until (until_ ∷ vs) x rest) us (λ x. Some (term_tree_of x.0 x.1 (pos 1))) (q.bracketed_term condition us) (λ vs x rest i. (an_until i.0, i.1)) (can_bracketed us))
  can_until us = can_here Until Until None us (λ rest. (no_until, omega arith))

  -- a sequence behind its keys, its span or its items
  abbrev BehindItems : List FieldRef → Option Span → List TermTree → List Kind → BodyTree → List Kind → Type 0
  BehindItems fs s is us b rest = (ts vs ws : List Kind) → IsBy ts fs vs → IsSpan vs s ws → Items ws is us → Whole (sequence_ ∷ ts) b rest

  abbrev BehindSpan : List FieldRef → Option Span → List Kind → BodyTree → List Kind → Type 0
  BehindSpan fs s us b rest = (ts vs : List Kind) → IsBy ts fs vs → IsSpan vs s us → Whole (sequence_ ∷ ts) b rest

  abbrev BehindKeys : List FieldRef → List Kind → BodyTree → List Kind → Type 0
  BehindKeys fs us b rest = (ts : List Kind) → IsBy ts fs us → Whole (sequence_ ∷ ts) b rest

  can_behind_items : (fs : List FieldRef) (s : Option Span) (is : List TermTree) (us : List Kind) → CanEnd (BehindItems fs s is) us (q.behind_items condition fs s is us)
  can_behind_items fs s is us =
      can_map Until (BehindItems fs s is) us (λ u. sequence fs s is u) (q.until condition us) (λ xs u rest i ts vs ws h j k. (a_sequence h j k.0 i.0, omega (arith, i.1, k.1))) (can_until us)

  can_behind_span : (fs : List FieldRef) (s : Option Span) (us : List Kind) → CanEnd (BehindSpan fs s) us (q.behind_span condition fs s us)
  can_behind_span fs s us =
      can_then Items (BehindSpan fs s) us (q.items condition (length us) us) (q.behind_items condition fs s)
      (λ is. (sequence fs s is None, [], λ rest ws k ts vs h j. (a_sequence h j k.0 no_until, omega (arith, k.1)))) (can_items (length us) us)
      (λ is vs. can_also (BehindItems fs s is) (Onto Items (BehindSpan fs s) is) vs (q.behind_items condition fs s is vs) (λ xs b rest i ws k ts ys h j. i ts ys ws h j k) (can_behind_items fs s is vs))

  can_behind_keys : (fs : List FieldRef) (us : List Kind) → CanEnd (BehindKeys fs) us (q.behind_keys condition fs us)
  can_behind_keys fs us =
      can_then IsSpan (BehindKeys fs) us (span us) (q.behind_span condition fs)
      (λ s. (sequence fs s (null_tree ∷ []) None, null_tokens, λ rest vs j ts h. (a_sequence h j (one_item rest) no_until, omega (arith, some)))) (from_tells IsSpan IsSpan us (span us) (tells_span us))
      (λ s vs. can_also (BehindSpan fs s) (Onto IsSpan (BehindKeys fs) s) vs (q.behind_span condition fs s vs) (λ xs b rest i ys j ts h. i ts ys h j) (can_behind_span fs s vs))

  -- a sequence behind its first word
  abbrev InSequence : List Kind → BodyTree → List Kind → Type 0
  InSequence us b rest = Whole (sequence_ ∷ us) b rest

  can_sequence : (us : List Kind) → CanEnd InSequence us (then_do (keys us) (q.behind_keys condition))
  can_sequence us =
      can_then IsBy InSequence us (keys us) (q.behind_keys condition)
      (λ fs. (sequence fs None (null_tree ∷ []) None, null_tokens, λ rest ts h. (a_sequence h no_span (one_item rest) no_until, omega (arith, some)))) (from_tells IsBy IsBy us (keys us) (tells_keys us))
      (λ fs vs. can_also (BehindKeys fs) (Onto IsBy InSequence fs) vs (q.behind_keys condition fs vs) (λ xs b rest i ts h. i ts h) (can_behind_keys fs vs))

  can_event : (us : List Kind) → CanEnd Whole us (res_map (λ c. event (term_tree_of c [] (pos 1))) (q.term condition us))
  can_event us = can_map Term Whole us (λ c. event (term_tree_of c [] (pos 1))) (q.term condition us) (λ vs c rest i. (one_event i.0, i.1)) (can_term us)

  an_event : Starts Whole []
  an_event = (event null_tree, any_ ∷ where_ ∷ null_ ∷ [], λ rest. (one_event (null_term rest), some))

  can_body : (us : List Kind) → CanEnd Whole us (q.body condition us)
  can_body (sample_ ∷ us) = ended_at Whole [] (sample_ ∷ us) (LeftOut (codes "sample") (suc (length us))) refl an_event
  can_body (join_ ∷ us) = ended_at Whole [] (join_ ∷ us) (LeftOut (codes "join") (suc (length us))) refl an_event
  can_body (sequence_ ∷ us) = can_token InSequence Whole sequence_ us (then_do (keys us) (q.behind_keys condition)) (λ vs b rest i. i) (can_sequence us)
  can_body [] = can_event []
  can_body (k ∷ us) = can_event (k ∷ us)

  can_query : (us : List Kind) → CanEnd Query us (query_by condition us)
  can_query us =
      can_then Whole Query us (q.body condition us) behind_body (λ b. (record { body = b; pipes = [] }, [], λ rest vs i. (λ qs j. a_query i.0 j, i.1))) (can_body us)
      (λ b vs. can_map ArePipes (Onto Whole Query b) vs (λ ps. record { body = b; pipes = ps }) (pipes (length vs) vs) (λ ws ps rest i xs j. (λ qs k. a_query j.0 (i qs k), j.1))
      (from_tells ArePipes ArePipes vs (pipes (length vs) vs) (tells_pipes (length vs) vs)))

-- Where the tokens of a query are refused: those before the place begin no level too many.
pub record EndedQuery (ts : List Kind) (e : Fail) : Type 0 where
  pub front : List Kind
  pub behind : List Kind
  pub cut : ts ≡ front ++ behind
  pub count : length behind ≡ fail_place e
  pub begins : BeginsWithin 64 front

abbrev End : {A : Type 0} → List Kind → Res A → Type 0
End ts (Ok p) = Unit {0}
End ts (Err e) = EndedQuery ts e

end_of : (h : ℕ) (ts : List Kind) → IsNewTo h ts → (r : Res QueryTree) → CanEnd (λ us x rest. IsWhole us x rest × (levels_but h x ≤ 64)) ts r → End ts r
end_of h ts new (Ok p) can = tt
end_of h ts new (Err e) can =
    let s = can.starts in
    let all = s.2 [] in
    record {
      front = can.front;
      behind = can.behind;
      cut = can.cut;
      count = can.count;
      begins = record {
        unbegun = h;
        new = new_front h can.front can.behind (subst (IsNewTo h) can.cut new);
        rest = s.1 ++ [];
        query = record { body = s.0.body; pipes = s.0.pipes ++ [] };
        reads = all.0 [] no_pipes;
        few = all.1;
      };
    }

pub ended : (ts : List Kind) (e : Fail) → query ts ≡ Err e → EndedQuery ts e
ended ts e h = subst (λ r. End ts r) h (end_of (above_all ts) ts (above_new ts) (query ts) (can_query (above_all ts) 64 (omega arith) (expr 128 64) (expr_can (above_all ts) 128 64) ts))
