-- A query of the grammar is returned, with enough parentheses and levels allowed, and tokens are one query at most.
use Rattle.std.proofs.Common.{◌≡◌, ℕ, zero, suc, ◌<◌, ◌≤◌, max, inl, ℤ, pos, List, [], ◌∷◌, length, Option, Some, None, Ok, Err, refl, sym, ap, ◌∙◌, le_refl, arith}
use Rattle.std.specs.Str.{bytes_eq}
use Rattle.std.specs.Prelude.{codes}
use Rattle.eql_query.specs.declared.expr.FieldRef.{FieldRef}
use Rattle.eql_query.specs.declared.query.Span.{Span}
use Rattle.eql_query.specs.declared.query.PipeText.{PipeText}
use Rattle.eql_query.specs.Tree.{Tree}
use Rattle.eql_query.specs.QueryTree.{TermTree, BodyTree, event, sequence, QueryTree}
use Rattle.eql_parser.specs.Kinds.{Kind, any_, bang_, bar_, by_, comma_, dot_, until_, where_, with_, name, text, number, open_item_, close_item_, assign_}
use Rattle.eql_parser.specs.QueryGrammar.{category, IsTerm, a_term, IsKey, a_key, IsBy, no_keys, by_keys, IsRuns, one_run, some_runs, IsSpan, no_span, a_span, IsBracketed, bracketed, IsItem, an_item, IsItems, last_item, next_item, IsUntil, no_until, an_until, IsBody, one_event, a_sequence, IsPipes, no_pipes, next_pipe, Reads, a_query}
use Rattle.eql_parser.specs.Limits.{depth_but, deepest_item, deepest_item_but, until_depth, until_depth_but, body_levels, body_levels_but, levels, levels_but}
use Rattle.eql_parser.specs.Reading.{Res, then_do, res_map, is_comma, field, expr}
use Rattle.eql_parser.specs.QueryReading.{behind_expected, is_runs, is_assign, number_at, Conditioned, keys, runs, term_tree_of, behind_term, items_more, unit_named, unit_at, span, pipe_named, pipe, pipes, behind_body, query_by}
use Rattle.eql_parser.specs.QueryReading as q
use Rattle.eql_parser.proofs.Eventually.{Eventually, at_once, if_true, Ends, listed_all}
use Rattle.eql_parser.proofs.Reaches.{Reaches, reaches_now, reaches_same, reaches_then, reaches_map}
use Rattle.eql_parser.proofs.New.{above_all, above_new, Late, late_never}
use Rattle.eql_parser.proofs.Kept.{listed_late, field_late, expr_kept}
use Rattle.eql_parser.proofs.Levels.{but_less}
use Rattle.eql_parser.proofs.Shorter.{field_short, listed_short, expr_short}
use Rattle.eql_parser.proofs.ExprComplete.{strength, NoDot, key_all, expr_all}

-- what may follow a part of a query: 0 a pipe or nothing, 1 `until`, 2 an item, 3 `with`, 4 `by`
abbrev after : List Kind → ℕ
after [] = 0
after (bar_ ∷ ts) = 0
after (until_ ∷ ts) = 1
after (open_item_ ∷ ts) = 2
after (with_ ∷ ts) = 3
after (by_ ∷ ts) = 4
after (_ ∷ ts) = 5

after_strength : (rest : List Kind) → after rest < 5 → strength rest < 1
after_strength [] s = omega arith
after_strength (bar_ ∷ ts) s = omega arith
after_strength (until_ ∷ ts) s = omega arith
after_strength (open_item_ ∷ ts) s = omega arith
after_strength (with_ ∷ ts) s = omega arith
after_strength (by_ ∷ ts) s = omega arith
after_strength (_ ∷ ts) s = absurd (omega (arith, s))

after_no_dot : (rest : List Kind) → after rest < 5 → NoDot rest
after_no_dot [] s = tt
after_no_dot (dot_ ∷ ts) s = absurd (omega (arith, s))
after_no_dot (_ ∷ ts) s = tt

after_no_comma : (rest : List Kind) → after rest < 5 → Ends is_comma rest
after_no_comma [] s = tt
after_no_comma (comma_ ∷ ts) s = absurd (omega (arith, s))
after_no_comma (_ ∷ ts) s = refl

keys_end : (rest : List Kind) → after rest < 4 → keys rest ≡ Ok ([], rest)
keys_end [] s = refl
keys_end (by_ ∷ ts) s = absurd (omega (arith, s))
keys_end (_ ∷ ts) s = refl

keys_all : (ts : List Kind) (fs : List FieldRef) (rest : List Kind) → IsBy ts fs rest → after rest < 4 → keys ts ≡ Ok (fs, rest)
keys_all _ _ rest no_keys s = keys_end rest s
keys_all _ fs rest (by_keys {ts = ts} h) s = listed_all IsKey NoDot field (λ us. tt) key_all ts fs rest h (after_no_dot rest (omega (arith, s))) (after_no_comma rest (omega (arith, s)))

runs_end : (rest : List Kind) → after rest < 3 → runs rest ≡ Ok (pos 1, rest)
runs_end [] s = refl
runs_end (with_ ∷ ts) s = absurd (omega (arith, s))
runs_end (_ ∷ ts) s = refl

runs_all : (ts : List Kind) (n : ℤ) (rest : List Kind) → IsRuns ts n rest → after rest < 3 → runs ts ≡ Ok (n, rest)
runs_all _ _ rest one_run s = runs_end rest s
runs_all _ n rest (some_runs {w = w} b) s = if_true (bytes_eq w (codes "runs")) (behind_expected is_assign number_at (assign_ ∷ number n ∷ rest)) _ b

span_end : (rest : List Kind) → after rest < 3 → span rest ≡ Ok (None, rest)
span_end [] s = refl
span_end (with_ ∷ ts) s = absurd (omega (arith, s))
span_end (_ ∷ ts) s = refl

span_all : (ts : List Kind) (x : Option Span) (rest : List Kind) → IsSpan ts x rest → after rest < 3 → span ts ≡ Ok (x, rest)
span_all _ _ rest no_span s = span_end rest s
span_all _ _ rest (a_span {n = n} {w = w} e) s = ap (λ u. unit_named n w u rest) e

-- what the parts of a query begin with
bracketed_front : (ts : List Kind) (c : Option (List ℕ)) (e : Tree) (fs : List FieldRef) (rest : List Kind) → IsBracketed ts c e fs rest → after ts ≡ 2
bracketed_front _ c e fs rest (bracketed h k) = refl

item_front : (ts : List Kind) (i : TermTree) (rest : List Kind) → IsItem ts i rest → after ts ≡ 2
item_front _ _ rest (an_item h k) = bracketed_front _ _ _ _ _ h

items_front : (ts : List Kind) (is : List TermTree) (rest : List Kind) → IsItems ts is rest → after ts ≡ 2
items_front _ _ rest (last_item h) = item_front _ _ _ h
items_front _ _ rest (next_item h k) = item_front _ _ _ h

span_front : (ts : List Kind) (x : Option Span) (rest : List Kind) → IsSpan ts x rest → after rest < 4 → after ts < 4
span_front _ _ rest no_span s = s
span_front _ _ rest (a_span e) s = omega arith

runs_front : (ts : List Kind) (n : ℤ) (rest : List Kind) → IsRuns ts n rest → after rest < 4 → after ts < 4
runs_front _ _ rest one_run s = s
runs_front _ _ rest (some_runs e) s = omega arith

until_front : (ts : List Kind) (u : Option TermTree) (rest : List Kind) → IsUntil ts u rest → after rest < 2 → after ts < 2
until_front _ _ rest no_until s = s
until_front _ _ rest (an_until h) s = omega arith

pipes_front : (ts : List Kind) (ps : List PipeText) → IsPipes ts ps → after ts < 1
pipes_front _ _ no_pipes = omega arith
pipes_front _ _ (next_pipe e h) = omega arith

-- an item is not empty
key_short : (ts : List Kind) (f : FieldRef) (rest : List Kind) → IsKey ts f rest → length rest < length ts
key_short _ _ _ (a_key h) = field_short _ _ _ _ h

term_short : (ts : List Kind) (c : Option (List ℕ)) (e : Tree) (rest : List Kind) → IsTerm ts c e rest → length rest < length ts
term_short _ _ _ _ (a_term e h) = omega (arith, expr_short _ _ _ h)

by_short : (ts : List Kind) (fs : List FieldRef) (rest : List Kind) → IsBy ts fs rest → length rest ≤ length ts
by_short _ _ _ no_keys = omega arith
by_short _ _ _ (by_keys h) = omega (arith, listed_short IsKey key_short _ _ _ h)

runs_short : (ts : List Kind) (n : ℤ) (rest : List Kind) → IsRuns ts n rest → length rest ≤ length ts
runs_short _ _ _ one_run = omega arith
runs_short _ _ _ (some_runs e) = omega arith

bracketed_short : (ts : List Kind) (c : Option (List ℕ)) (e : Tree) (fs : List FieldRef) (rest : List Kind) → IsBracketed ts c e fs rest → length rest < length ts
bracketed_short _ _ _ _ _ (bracketed h k) = omega (arith, term_short _ _ _ _ h, by_short _ _ _ k)

item_short : (ts : List Kind) (i : TermTree) (rest : List Kind) → IsItem ts i rest → length rest < length ts
item_short _ _ _ (an_item h k) = omega (arith, bracketed_short _ _ _ _ _ h, runs_short _ _ _ k)

behind_brackets : Conditioned × List FieldRef → List Kind → Res TermTree
behind_brackets x us = res_map (term_tree_of x.0 x.1) (runs us)

item_bracketed : (condition : List Kind → Res Tree) (ts : List Kind) (c : Option (List ℕ)) (e : Tree) (fs : List FieldRef) (rest : List Kind) → IsBracketed ts c e fs rest
    → q.item condition ts ≡ then_do (q.bracketed_term condition ts) behind_brackets
unfolding behind_brackets
item_bracketed condition _ c e fs rest (bracketed h k) = refl

items_end : (again : List Kind → Res (List TermTree)) (i : TermTree) (rest : List Kind) → after rest < 2 → items_more again i rest ≡ Ok (i ∷ [], rest)
items_end again i [] s = refl
items_end again i (open_item_ ∷ us) s = absurd (omega (arith, s))
items_end again i (bang_ ∷ us) s = absurd (omega (arith, s))
items_end again i (_ ∷ us) s = refl

items_go_on : (again : List Kind → Res (List TermTree)) (i : TermTree) (us : List Kind) → after us ≡ 2 → items_more again i us ≡ res_map (λ is. i ∷ is) (again us)
items_go_on again i [] s = absurd (omega (arith, s))
items_go_on again i (open_item_ ∷ us) s = refl
items_go_on again i (_ ∷ us) s = absurd (omega (arith, s))

until_end : (condition : List Kind → Res Tree) (rest : List Kind) → after rest < 1 → q.until condition rest ≡ Ok (None, rest)
until_end condition [] s = refl
until_end condition (until_ ∷ us) s = absurd (omega (arith, s))
until_end condition (_ ∷ us) s = refl

event_body : Conditioned → BodyTree
event_body c = event (term_tree_of c [] (pos 1))

begins_event : (condition : List Kind → Res Tree) (k : Kind) (c : Option (List ℕ)) (ts : List Kind) → category k ≡ Some c → q.body condition (k ∷ ts) ≡ res_map event_body (q.term condition (k ∷ ts))
unfolding event_body
begins_event condition any_ c ts e = refl
begins_event condition (name w) c ts e = refl
begins_event condition (text s) c ts e = refl
begins_event condition _ c ts e = absurd cc

is_event : (condition : List Kind → Res Tree) (ts : List Kind) (c : Option (List ℕ)) (e : Tree) (rest : List Kind) → IsTerm ts c e rest → q.body condition ts ≡ res_map event_body (q.term condition ts)
is_event condition _ c e rest (a_term {k = k} {ts = ts} g h) = begins_event condition k c (where_ ∷ ts) g

pipes_all : (n : ℕ) (ts : List Kind) (ps : List PipeText) → IsPipes ts ps → length ts ≤ n → pipes n ts ≡ Ok (ps, [])
unfolding pipes
pipes_all zero _ _ no_pipes m = refl
pipes_all (suc n) _ _ no_pipes m = refl
pipes_all zero _ _ (next_pipe e h) m = absurd (omega (arith, m))
pipes_all (suc n) _ _ (next_pipe {w = w} {n = x} {make = make} {ts = ts} {ps = ps} e h) m =
    ap (λ o. then_do (pipe_named w o (number x ∷ ts)) (λ p us. res_map (λ qs. p ∷ qs) (pipes n us))) e
    ∙ ap (res_map (λ qs. make x ∷ qs)) (pipes_all n ts ps h (omega (arith, m)))

-- The number `hole` counts as nothing, and stands only where at most `most` tokens are left.
module _ (hole most : ℕ) where
  key_late : (ts : List Kind) (f : FieldRef) (rest : List Kind) → IsKey ts f rest → Late hole most ts → Late hole most rest
  key_late _ _ _ (a_key h) l = field_late hole most _ _ _ _ h l

  by_late : (ts : List Kind) (fs : List FieldRef) (rest : List Kind) → IsBy ts fs rest → Late hole most ts → Late hole most rest
  by_late _ _ _ no_keys l = l
  by_late _ _ _ (by_keys h) l = listed_late hole most IsKey key_late _ _ _ h l.1

  runs_late : (ts : List Kind) (n : ℤ) (rest : List Kind) → IsRuns ts n rest → Late hole most ts → Late hole most rest
  runs_late _ _ _ one_run l = l
  runs_late _ _ _ (some_runs e) l = l.1.1.1.1

  span_late : (ts : List Kind) (x : Option Span) (rest : List Kind) → IsSpan ts x rest → Late hole most ts → Late hole most rest
  span_late _ _ _ no_span l = l
  span_late _ _ _ (a_span e) l = l.1.1.1.1.1

  term_late : (ts : List Kind) (c : Option (List ℕ)) (e : Tree) (rest : List Kind) → IsTerm ts c e rest → Late hole most ts → Late hole most rest
  term_late _ _ _ _ (a_term g h) l = (expr_kept hole most _ _ _ h l.1.1).0

  bracketed_late : (ts : List Kind) (c : Option (List ℕ)) (e : Tree) (fs : List FieldRef) (rest : List Kind) → IsBracketed ts c e fs rest → Late hole most ts → Late hole most rest
  bracketed_late _ _ _ _ _ (bracketed h k) l = by_late _ _ _ k (term_late _ _ _ _ h l.1).1

  item_late : (ts : List Kind) (i : TermTree) (rest : List Kind) → IsItem ts i rest → Late hole most ts → Late hole most rest
  item_late _ _ _ (an_item h k) l = runs_late _ _ _ k (bracketed_late _ _ _ _ _ h l)

  items_late : (ts : List Kind) (is : List TermTree) (rest : List Kind) → IsItems ts is rest → Late hole most ts → Late hole most rest
  items_late _ _ _ (last_item h) l = item_late _ _ _ h l
  items_late _ _ _ (next_item h k) l = items_late _ _ _ k (item_late _ _ _ h l)

  -- terms and items
  term_all : (l : ℕ) (ts : List Kind) (c : Option (List ℕ)) (e : Tree) (rest : List Kind) → IsTerm ts c e rest → Late hole most ts → depth_but hole e ≤ l → strength rest < 1
      → Reaches most (λ d. q.term (expr d l) ts) ((c, e), rest)
  term_all l _ c e rest (a_term {k = k} {ts = ts} g h) late i s =
      reaches_same most (λ d. res_map (λ x. (c, x)) (expr d l ts)) (λ d. q.term (expr d l) (k ∷ where_ ∷ ts)) ((c, e), rest) (λ d. ap (λ o. q.term_of (expr d l) o (where_ ∷ ts)) g)
      (reaches_map most (λ d. expr d l ts) (λ x. (c, x)) e rest (expr_all hole most l ts e rest h late.1.1 i s))

  bracketed_all : (l : ℕ) (ts : List Kind) (c : Option (List ℕ)) (e : Tree) (fs : List FieldRef) (rest : List Kind) → IsBracketed ts c e fs rest → Late hole most ts → depth_but hole e ≤ l → after rest < 4
      → Reaches most (λ d. q.bracketed_term (expr d l) ts) (((c, e), fs), rest)
  bracketed_all l _ c e fs rest (bracketed {ts = ts} {us = us} h k) late i s =
      reaches_then most (λ d. q.term (expr d l) ts) (λ d. behind_term) (c, e) (close_item_ ∷ us) (((c, e), fs), rest) (term_all l ts c e (close_item_ ∷ us) h late.1 i (omega arith))
      (inl (at_once _ _ (λ d. ap (res_map (λ gs. ((c, e), gs))) (keys_all us fs rest k s))))

  item_all : (l : ℕ) (ts : List Kind) (i : TermTree) (rest : List Kind) → IsItem ts i rest → Late hole most ts → depth_but hole i.cond ≤ l → after rest < 3
      → Reaches most (λ d. q.item (expr d l) ts) (i, rest)
  unfolding behind_brackets
  item_all l ts _ rest (an_item {us = us} {c = c} {e = e} {fs = fs} {n = n} h k) late i s =
      reaches_same most (λ d. then_do (q.bracketed_term (expr d l) ts) behind_brackets) (λ d. q.item (expr d l) ts) (record { category = c; cond = e; by = fs; runs = n }, rest)
      (λ d. item_bracketed (expr d l) ts c e fs us h)
      (reaches_then most (λ d. q.bracketed_term (expr d l) ts) (λ d. behind_brackets) ((c, e), fs) us (record { category = c; cond = e; by = fs; runs = n }, rest)
      (bracketed_all l ts c e fs us h late i (runs_front us n rest k (omega (arith, s)))) (inl (at_once _ _ (λ d. ap (res_map (term_tree_of (c, e) fs)) (runs_all us n rest k s)))))

  items_all : (l n : ℕ) (ts : List Kind) (is : List TermTree) (rest : List Kind) → IsItems ts is rest → Late hole most ts → deepest_item_but hole is ≤ l → after rest < 2 → length ts ≤ n
      → Reaches most (λ d. q.items (expr d l) n ts) (is, rest)
  unfolding q.items
  items_all l zero ts is rest (last_item h) late i s m = absurd (omega (arith, m, item_short _ _ _ h))
  items_all l zero ts is rest (next_item h k) late i s m = absurd (omega (arith, m, item_short _ _ _ h))
  items_all l (suc n) ts _ rest (last_item {i = x} h) late i s m =
      reaches_then most (λ d. q.item (expr d l) ts) (λ d. items_more (q.items (expr d l) n)) x rest (x ∷ [], rest) (item_all l ts x rest h late (omega (arith, i)) (omega (arith, s)))
      (inl (at_once _ _ (λ d. items_end (q.items (expr d l) n) x rest s)))
  items_all l (suc n) ts _ rest (next_item {us = us} {i = x} {is = is} h k) late i s m =
      reaches_then most (λ d. q.item (expr d l) ts) (λ d. items_more (q.items (expr d l) n)) x us (x ∷ is, rest)
      (item_all l ts x us h late (omega (arith, i)) (omega (arith, items_front us is rest k)))
      (reaches_same most (λ d. res_map (λ ys. x ∷ ys) (q.items (expr d l) n us)) (λ d. items_more (q.items (expr d l) n) x us) (x ∷ is, rest)
      (λ d. items_go_on (q.items (expr d l) n) x us (items_front us is rest k))
      (reaches_map most (λ d. q.items (expr d l) n us) (λ ys. x ∷ ys) is rest (items_all l n us is rest k (item_late ts x us h late) (omega (arith, i)) s (omega (arith, m, item_short _ _ _ h)))))

  until_all : (l : ℕ) (ts : List Kind) (u : Option TermTree) (rest : List Kind) → IsUntil ts u rest → Late hole most ts → until_depth_but hole u ≤ l → after rest < 1
      → Reaches most (λ d. q.until (expr d l) ts) (u, rest)
  until_all l _ _ rest no_until late i s = inl (at_once _ _ (λ d. until_end (expr d l) rest s))
  until_all l _ _ rest (an_until {ts = ts} {c = c} {e = e} {fs = fs} h) late i s =
      reaches_map most (λ d. q.bracketed_term (expr d l) ts) (λ x. Some (term_tree_of x.0 x.1 (pos 1))) ((c, e), fs) rest (bracketed_all l ts c e fs rest h late.1 i (omega (arith, s)))

  body_all : (l : ℕ) (ts : List Kind) (b : BodyTree) (rest : List Kind) → IsBody ts b rest → Late hole most ts → body_levels_but hole b ≤ l → after rest < 1
      → Reaches most (λ d. q.body (expr d l) ts) (b, rest)
  unfolding event_body
  body_all l ts _ rest (one_event {c = c} {e = e} h) late i s =
      reaches_same most (λ d. res_map event_body (q.term (expr d l) ts)) (λ d. q.body (expr d l) ts) (event (record { category = c; cond = e; by = []; runs = pos 1 }), rest)
      (λ d. is_event (expr d l) ts c e rest h)
      (reaches_map most (λ d. q.term (expr d l) ts) event_body (c, e) rest (term_all l ts c e rest h late i (after_strength rest (omega (arith, s)))))
  body_all l _ _ rest (a_sequence {ts = ts} {us = us} {vs = vs} {ws = ws} {fs = fs} {span = x} {items = is} {until = u} h k m n) late i s =
      let at_items : after vs ≡ 2 = items_front vs is ws m in
      let behind_keys : Late hole most us = by_late ts fs us h late.1 in
      let behind_span : Late hole most vs = span_late us x vs k behind_keys in
      reaches_then most (λ d. keys ts) (λ d. q.behind_keys (expr d l)) fs us (sequence fs x is u, rest) (inl (at_once _ _ (λ d. keys_all ts fs us h (span_front us x vs k (omega (arith, at_items))))))
      (reaches_then most (λ d. span us) (λ d. q.behind_span (expr d l) fs) x vs (sequence fs x is u, rest) (inl (at_once _ _ (λ d. span_all us x vs k (omega (arith, at_items)))))
      (reaches_then most (λ d. q.items (expr d l) (length vs) vs) (λ d. q.behind_items (expr d l) fs x) is ws (sequence fs x is u, rest)
      (items_all l (length vs) vs is ws m behind_span (omega (arith, i)) (until_front ws u rest n (omega (arith, s))) (le_refl (length vs)))
      (reaches_map most (λ d. q.until (expr d l) ws) (λ y. sequence fs x is y) u rest (until_all l ws u rest n (items_late vs is ws m behind_span) (omega (arith, i)) s))))

  -- with l levels allowed
  pub query_reached : (l : ℕ) (ts : List Kind) (x : QueryTree) → Reads ts x → Late hole most ts → levels_but hole x ≤ l → Reaches most (λ d. query_by (expr d l) ts) (x, [])
  query_reached l ts _ (a_query {rest = rest} {body = b} {pipes = ps} h k) late i =
      reaches_then most (λ d. q.body (expr d l) ts) (λ d. behind_body) b rest (record { body = b; pipes = ps }, []) (body_all l ts b rest h late i (pipes_front rest ps k))
      (inl (at_once _ _ (λ d. ap (res_map (λ qs. record { body = b; pipes = qs })) (pipes_all (length rest) rest ps k (le_refl (length rest))))))

-- a number that counts as nothing takes no level from a query but its own
but_items : (h : ℕ) (is : List TermTree) → deepest_item_but h is ≤ deepest_item is
but_items h [] = omega arith
but_items h (i ∷ is) = omega (arith, but_less h i.cond, but_items h is)

but_until : (h : ℕ) (u : Option TermTree) → until_depth_but h u ≤ until_depth u
but_until h None = omega arith
but_until h (Some i) = but_less h i.cond

but_body : (h : ℕ) (b : BodyTree) → body_levels_but h b ≤ body_levels b
but_body h (event i) = but_less h i.cond
but_body h (sequence fs x is u) = omega (arith, but_items h is, but_until h u)

pub but_levels : (h : ℕ) (x : QueryTree) → levels_but h x ≤ levels x
but_levels h x = but_body h x.body

-- with no number that counts as nothing
pub query_all : (l : ℕ) (ts : List Kind) (x : QueryTree) → Reads ts x → levels x ≤ l → Eventually (λ d. query_by (expr d l) ts) (Ok (x, []))
query_all l ts x h i =
    reaches_now (λ d. query_by (expr d l) ts) (x, [])
    (query_reached (above_all ts) 0 l ts x h (late_never (above_all ts) ts (above_new ts)) (omega (arith, i, but_levels (above_all ts) x)))

-- A query of at most 64 levels is returned, with enough parentheses allowed.
pub query_complete : (ts : List Kind) (x : QueryTree) → Reads ts x → levels x ≤ 64 → (k : ℕ) × ((d : ℕ) → k ≤ d → query_by (expr d 64) ts ≡ Ok (x, []))
query_complete ts x h i = query_all 64 ts x h i

abbrev tree_or : QueryTree → Res QueryTree → QueryTree
tree_or x (Ok y) = y.0
tree_or x (Err e) = x

-- Tokens are one query at most.
pub reads_one : (ts : List Kind) (x y : QueryTree) → Reads ts x → Reads ts y → x ≡ y
reads_one ts x y h k =
    let l : ℕ = max (levels x) (levels y) in
    let a = query_all l ts x h (omega arith) in
    let b = query_all l ts y k (omega arith) in
    let d : ℕ = max a.0 b.0 in
    let is_x : query_by (expr d l) ts ≡ Ok (x, []) = a.1 d (omega arith) in
    let is_y : query_by (expr d l) ts ≡ Ok (y, []) = b.1 d (omega arith) in
    ap (tree_or x) (sym is_x ∙ is_y)
