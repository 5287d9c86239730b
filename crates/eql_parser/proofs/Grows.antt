-- With more parentheses and more levels allowed a query is returned the same, but where there was one too many.
use Rattle.std.proofs.Common.{ℕ, zero, suc, ◌≤◌, pos, Bool, List, [], ◌∷◌, length, Option, None, Some, Err, refl}
use Rattle.eql_query.specs.declared.expr.FieldRef.{FieldRef}
use Rattle.eql_query.specs.declared.query.Span.{Span}
use Rattle.eql_query.specs.Tree.{Tree}
use Rattle.eql_query.specs.QueryTree.{TermTree, event, sequence}
use Rattle.eql_parser.specs.Kinds.{Kind, bang_, join_, sample_, sequence_, until_, open_item_}
use Rattle.eql_parser.specs.QueryGrammar.{category}
use Rattle.eql_parser.specs.Reading.{Syntax, Res, then_do, res_map, expr}
use Rattle.eql_parser.specs.QueryReading.{behind_expected, is_where, is_open_item, Conditioned, keys, runs, term_tree_of, behind_term, items_more, span, behind_body, query_by}
use Rattle.eql_parser.specs.QueryReading as q
use Rattle.eql_parser.proofs.ExprGrows.{Same, same, same_then, same_map, same_if, expr_grows}

expected_grows : {A : Type 0} (is : Kind → Bool) (go go' : List Kind → Res A) → ((us : List Kind) → Same (go us) (go' us)) → (us : List Kind) → Same (behind_expected is go us) (behind_expected is go' us)
expected_grows is go go' h [] = refl
expected_grows is go go' h (k ∷ us) = same_if (is k) (go us) (go' us) (Err (Syntax (suc (length us)))) (Err (Syntax (suc (length us)))) (h us) refl

items_more_grow : (again again' : List Kind → Res (List TermTree)) (i : TermTree) (us : List Kind) → ((vs : List Kind) → Same (again vs) (again' vs))
    → Same (items_more again i us) (items_more again' i us)
items_more_grow again again' i (open_item_ ∷ us) h = same_map (again (open_item_ ∷ us)) (again' (open_item_ ∷ us)) (λ is. i ∷ is) (h (open_item_ ∷ us))
items_more_grow again again' i (bang_ ∷ open_item_ ∷ us) h = refl
items_more_grow again again' i us h = same (items_more again i us)

module _ (condition condition' : List Kind → Res Tree) (h : (us : List Kind) → Same (condition us) (condition' us)) where
  term_of_grows : (c : Option (Option (List ℕ))) (us : List Kind) → Same (q.term_of condition c us) (q.term_of condition' c us)
  term_of_grows None us = refl
  term_of_grows (Some c) us =
      expected_grows is_where (λ vs. res_map (λ e. (c, e)) (condition vs)) (λ vs. res_map (λ e. (c, e)) (condition' vs)) (λ vs. same_map (condition vs) (condition' vs) (λ e. (c, e)) (h vs)) us

  term_grows : (us : List Kind) → Same (q.term condition us) (q.term condition' us)
  term_grows [] = refl
  term_grows (k ∷ us) = term_of_grows (category k) us

  bracketed_grows : (us : List Kind) → Same (q.bracketed_term condition us) (q.bracketed_term condition' us)
  bracketed_grows us =
      expected_grows is_open_item (λ vs. then_do (q.term condition vs) behind_term) (λ vs. then_do (q.term condition' vs) behind_term)
      (λ vs. same_then (q.term condition vs) (q.term condition' vs) behind_term behind_term (term_grows vs) (λ c ws. same (behind_term c ws))) us

  item_of_grows : (us : List Kind) → Same (then_do (q.bracketed_term condition us) (λ x vs. res_map (term_tree_of x.0 x.1) (runs vs))) (then_do (q.bracketed_term condition' us) (λ x vs. res_map (term_tree_of x.0 x.1) (runs vs)))
  item_of_grows us =
      let go : Conditioned × List FieldRef → List Kind → Res TermTree = λ x vs. res_map (term_tree_of x.0 x.1) (runs vs) in
      same_then (q.bracketed_term condition us) (q.bracketed_term condition' us) go go (bracketed_grows us) (λ x vs. same (go x vs))

  item_grows : (us : List Kind) → Same (q.item condition us) (q.item condition' us)
  item_grows (bang_ ∷ open_item_ ∷ us) = refl
  item_grows us = item_of_grows us

  items_grow : (n : ℕ) (us : List Kind) → Same (q.items condition n us) (q.items condition' n us)
  unfolding q.items
  items_grow zero us = refl
  items_grow (suc n) us =
      same_then (q.item condition us) (q.item condition' us) (items_more (q.items condition n)) (items_more (q.items condition' n)) (item_grows us)
      (λ i vs. items_more_grow (q.items condition n) (q.items condition' n) i vs (items_grow n))

  until_grows : (us : List Kind) → Same (q.until condition us) (q.until condition' us)
  until_grows (until_ ∷ us) = same_map (q.bracketed_term condition us) (q.bracketed_term condition' us) (λ x. Some (term_tree_of x.0 x.1 (pos 1))) (bracketed_grows us)
  until_grows us = same (q.until condition us)

  behind_span_grows : (fs : List FieldRef) (s : Option Span) (us : List Kind) → Same (q.behind_span condition fs s us) (q.behind_span condition' fs s us)
  behind_span_grows fs s us =
      same_then (q.items condition (length us) us) (q.items condition' (length us) us) (q.behind_items condition fs s) (q.behind_items condition' fs s) (items_grow (length us) us)
      (λ is vs. same_map (q.until condition vs) (q.until condition' vs) (λ u. sequence fs s is u) (until_grows vs))

  behind_keys_grows : (fs : List FieldRef) (us : List Kind) → Same (q.behind_keys condition fs us) (q.behind_keys condition' fs us)
  behind_keys_grows fs us = same_then (span us) (span us) (q.behind_span condition fs) (q.behind_span condition' fs) (same (span us)) (behind_span_grows fs)

  event_grows : (us : List Kind) → Same (res_map (λ c. event (term_tree_of c [] (pos 1))) (q.term condition us)) (res_map (λ c. event (term_tree_of c [] (pos 1))) (q.term condition' us))
  event_grows us = same_map (q.term condition us) (q.term condition' us) (λ c. event (term_tree_of c [] (pos 1))) (term_grows us)

  body_grows : (us : List Kind) → Same (q.body condition us) (q.body condition' us)
  body_grows (sample_ ∷ us) = refl
  body_grows (join_ ∷ us) = refl
  body_grows (sequence_ ∷ us) = same_then (keys us) (keys us) (q.behind_keys condition) (q.behind_keys condition') (same (keys us)) behind_keys_grows
  body_grows us = event_grows us

  query_by_grows : (us : List Kind) → Same (query_by condition us) (query_by condition' us)
  query_by_grows us = same_then (q.body condition us) (q.body condition' us) behind_body behind_body (body_grows us) (λ b vs. same (behind_body b vs))

pub query_grows : (d e l m : ℕ) (us : List Kind) → d ≤ e → l ≤ m → Same (query_by (expr d l) us) (query_by (expr e m) us)
query_grows d e l m us h i = query_by_grows (expr d l) (expr e m) (λ vs. expr_grows d e l m vs h i) us
