-- What the descent has read of a query where it stops begins a query.
use Rattle.std.proofs.Common.{◌≡◌, ℕ, zero, suc, Bool, true, false, if◌then◌else◌, List, [], ◌∷◌, ◌++◌, length, Option, Some, None, Ok, Err, refl, sym, subst, codes}
use Rattle.std.specs.Prelude.{ℤ, pos}
use Rattle.eql_query.specs.declared.expr.FieldRef.{FieldRef}
use Rattle.eql_query.specs.declared.query.Span.{Span}
use Rattle.eql_query.specs.declared.query.Unit.{Unit as TimeUnit}
use Rattle.eql_query.specs.declared.query.Unit.TheVariants as unit
use Rattle.eql_query.specs.declared.query.PipeText.{PipeText}
use Rattle.eql_query.specs.declared.query.PipeText.TheVariants as pipe
use Rattle.eql_query.specs.Tree.{Tree}
use Rattle.eql_query.specs.Tree as t
use Rattle.eql_query.specs.QueryTree.{TermTree, BodyTree, event, sequence, QueryTree}
use Rattle.eql_parser.specs.Kinds.{Kind, any_, bang_, bar_, by_, join_, maxspan_, null_, sample_, sequence_, until_, where_, with_, name, number, open_item_, close_item_, assign_}
use Rattle.eql_parser.specs.Grammar.{IsListed, IsExpr, conj, neg, pred, sum, prod, unary, prim, is_null}
use Rattle.eql_parser.specs.QueryGrammar.{category, is_fine_unit, pipe_of, unit_of, IsTerm, a_term, IsKey, IsBy, no_keys, by_keys, IsRuns, one_run, some_runs, IsSpan, no_span, a_span, IsBracketed, bracketed, IsItem, an_item, IsItems, last_item, next_item, IsUntil, no_until, an_until, IsBody, one_event, a_sequence, IsPipes, no_pipes, next_pipe, Reads, a_query}
use Rattle.eql_parser.specs.Refusing.{Begins, samples, joins, missing_event, fine_unit, other_pipe}
use Rattle.eql_parser.specs.Reading.{Fail, Syntax, LeftOut, Res, then_do, res_map, comma_list, field, expr}
use Rattle.eql_parser.specs.QueryReading.{behind_expected, is_where, is_maxspan, is_runs, is_assign, is_open_item, is_close_item, number_at, Conditioned, keys, runs, term_tree_of, behind_term, items_more, unit_named, unit_at, span, pipe_named, pipes, behind_body, query_by, query}
use Rattle.eql_parser.specs.QueryReading as q
use Rattle.eql_parser.proofs.Rows.{false_not_true}
use Rattle.eql_parser.proofs.Sound.{where_only, maxspan_only, assign_only, open_item_only, close_item_only}
use Rattle.eql_parser.proofs.Starts.{Free, Starts, Follows, Stop, Tells, Onto, fail_place, stop_syntax, stop_left_out, tells_map, tells_behind, tells_also, tells_token, tells_then, tells_here, tells_one, tells_if}
use Rattle.eql_parser.proofs.StartsExpr.{tells_field, a_field, tells_listed, an_expr, expr_tells}

-- a word that has to stand here
tells_expected : {A : Type 0} (is : Kind → Bool) (go : List Kind → Res A) (Q : List Kind → A → List Kind → Type 0) → Starts Q []
    → ((k : Kind) (us : List Kind) → is k ≡ true → Tells Q (k ∷ us) (go us)) → (ts : List Kind) → Tells Q ts (behind_expected is go ts)
tells_expected is go Q begun h [] = stop_syntax Q [] [] begun
tells_expected is go Q begun h (k ∷ ts) = tells_if Q Q (k ∷ ts) (is k) (go ts) (Err (Syntax (suc (length ts)))) (λ b. h k ts b) (λ b. stop_syntax Q [] (k ∷ ts) begun)

-- one kind alone is meant: what follows is read behind it
tells_expects : {A : Type 0} (is : Kind → Bool) (w : Kind) (go : List Kind → Res A) (Q : List Kind → A → List Kind → Type 0) → ((k : Kind) → is k ≡ true → k ≡ w)
    → Starts (λ us x rest. Q (w ∷ us) x rest) [] → ((us : List Kind) → Tells (λ vs x rest. Q (w ∷ vs) x rest) us (go us)) → (ts : List Kind) → Tells Q ts (behind_expected is go ts)
tells_expects is w go Q only begun h =
    tells_expected is go Q (begun.0, w ∷ begun.1, begun.2)
    (λ k us b. subst (λ j. Tells Q (j ∷ us) (go us)) (sym (only k b)) (tells_token (λ vs x rest. Q (w ∷ vs) x rest) Q w us (go us) (λ vs x rest i. i) (h us)))

-- a number, in what goes on behind it
tells_number : (Q : List Kind → ℤ → List Kind → Type 0) → ((n : ℤ) → Free Q (number n ∷ []) n) → (ts : List Kind) → Tells Q ts (number_at ts)
tells_number Q h (number n ∷ ts) = tells_one Q (number n) n ts (h n)
tells_number Q h ts = stop_syntax Q [] ts (pos 1, number (pos 1) ∷ [], h (pos 1))

pub tells_keys : (ts : List Kind) → Tells IsBy ts (keys ts)
tells_keys (by_ ∷ ts) = tells_token (IsListed IsKey) IsBy by_ ts (comma_list field ts) (λ us fs rest i. by_keys i) (tells_listed IsKey field tells_field a_field ts)
tells_keys ts = tells_here IsBy IsBy [] ts (λ rest. no_keys)

tells_runs_at : (k : Kind) (us : List Kind) → is_runs k ≡ true → Tells (λ vs n rest. IsRuns (with_ ∷ vs) n rest) (k ∷ us) (behind_expected is_assign number_at us)
tells_runs_at (name w) us b =
    tells_token (λ vs n rest. IsRuns (with_ ∷ name w ∷ vs) n rest) (λ vs n rest. IsRuns (with_ ∷ vs) n rest) (name w) us (behind_expected is_assign number_at us) (λ vs n rest i. i)
    (tells_expects is_assign assign_ number_at (λ vs n rest. IsRuns (with_ ∷ name w ∷ vs) n rest) assign_only (pos 1, number (pos 1) ∷ [], λ rest. some_runs b)
    (tells_number (λ vs n rest. IsRuns (with_ ∷ name w ∷ assign_ ∷ vs) n rest) (λ n rest. some_runs b)) us)
tells_runs_at _ us b = false_not_true b

pub tells_runs : (ts : List Kind) → Tells IsRuns ts (runs ts)
tells_runs (with_ ∷ ts) =
    tells_token (λ us n rest. IsRuns (with_ ∷ us) n rest) IsRuns with_ ts (behind_expected is_runs (behind_expected is_assign number_at) ts) (λ us n rest i. i)
    (tells_expected is_runs (behind_expected is_assign number_at) (λ us n rest. IsRuns (with_ ∷ us) n rest) (pos 1, name (codes "runs") ∷ assign_ ∷ number (pos 1) ∷ [], λ rest. some_runs refl) tells_runs_at ts)
tells_runs ts = tells_here IsRuns IsRuns (pos 1) ts (λ rest. one_run)

-- a length of time behind its words, from the `=` on
abbrev IsLength : List Kind → Option Span → List Kind → Type 0
IsLength ts s rest = IsSpan (with_ ∷ maxspan_ ∷ ts) s rest

a_second : (n : ℤ) (rest : List Kind) → IsLength (assign_ ∷ number n ∷ name (codes "s") ∷ rest) (Some (record { count = n; unit = unit.S })) rest
a_second n rest = a_span refl

other_unit : (n : ℤ) (w : List ℕ) (us : List Kind) (b : Bool) → is_fine_unit w ≡ b
    → Stop IsLength (assign_ ∷ number n ∷ name w ∷ us) (if b then LeftOut w (suc (length us)) else Syntax (suc (length us)))
other_unit n w us true e =
    stop_left_out IsLength (assign_ ∷ number n ∷ []) (name w ∷ us) w (name (codes "s") ∷ []) (Some (record { count = n; unit = unit.S }), [], a_second n) (λ before. fine_unit before n refl e)
other_unit n w us false e = stop_syntax IsLength (assign_ ∷ number n ∷ []) (name w ∷ us) (Some (record { count = n; unit = unit.S }), name (codes "s") ∷ [], a_second n)

tells_unit_named : (n : ℤ) (w : List ℕ) (u : Option TimeUnit) (us : List Kind) → unit_of w ≡ u → Tells IsLength (assign_ ∷ number n ∷ name w ∷ us) (unit_named n w u us)
tells_unit_named n w (Some u) us e = (assign_ ∷ number n ∷ name w ∷ [], refl, λ rest. a_span e)
tells_unit_named n w None us e = other_unit n w us (is_fine_unit w) refl

tells_unit : (n : ℤ) (us : List Kind) → Tells IsLength (assign_ ∷ number n ∷ us) (unit_at n us)
tells_unit n (name w ∷ us) = tells_unit_named n w (unit_of w) us refl
tells_unit n us = stop_syntax IsLength (assign_ ∷ number n ∷ []) us (Some (record { count = n; unit = unit.S }), name (codes "s") ∷ [], a_second n)

a_length : Starts IsLength (assign_ ∷ [])
a_length = (Some (record { count = pos 1; unit = unit.S }), number (pos 1) ∷ name (codes "s") ∷ [], a_second (pos 1))

tells_length : (us : List Kind) → Tells IsLength (assign_ ∷ us) (then_do (number_at us) unit_at)
tells_length (number n ∷ us) = tells_unit n us
tells_length us = stop_syntax IsLength (assign_ ∷ []) us a_length

pub tells_span : (ts : List Kind) → Tells IsSpan ts (span ts)
tells_span (with_ ∷ ts) =
    tells_token (λ us s rest. IsSpan (with_ ∷ us) s rest) IsSpan with_ ts (behind_expected is_maxspan (behind_expected is_assign (λ us. then_do (number_at us) unit_at)) ts) (λ us s rest i. i)
    (tells_expects is_maxspan maxspan_ (behind_expected is_assign (λ us. then_do (number_at us) unit_at)) (λ us s rest. IsSpan (with_ ∷ us) s rest) maxspan_only (a_length.0, assign_ ∷ a_length.1, a_length.2)
    (tells_expected is_assign (λ us. then_do (number_at us) unit_at) IsLength (a_length.0, assign_ ∷ a_length.1, a_length.2)
    (λ k us b. subst (λ j. Tells IsLength (j ∷ us) (then_do (number_at us) unit_at)) (sym (assign_only k b)) (tells_length us))) ts)
tells_span ts = tells_here IsSpan IsSpan None ts (λ rest. no_span)

-- one pipe, and more pipes behind it
abbrev IsPipe : List Kind → PipeText → List Kind → Type 0
IsPipe ts p rest = (ps : List PipeText) → IsPipes rest ps → IsPipes ts (p ∷ ps)

a_head : (n : ℤ) (rest : List Kind) → IsPipe (bar_ ∷ name (codes "head") ∷ number n ∷ rest) (pipe.Head n) rest
a_head n rest ps h = next_pipe refl h

tells_pipe_named : (w : List ℕ) (make : Option (ℤ → PipeText)) (us : List Kind) → pipe_of w ≡ make → Tells IsPipe (bar_ ∷ name w ∷ us) (pipe_named w make us)
tells_pipe_named w None us e =
    stop_left_out IsPipe (bar_ ∷ []) (name w ∷ us) w (name (codes "head") ∷ []) (pipe.Head (pos 1), number (pos 1) ∷ [], a_head (pos 1)) (λ before. other_pipe before refl e)
tells_pipe_named w (Some make) us e =
    tells_behind (λ vs p rest. IsPipe (bar_ ∷ name w ∷ vs) p rest) IsPipe (λ vs p rest. IsPipe (bar_ ∷ name w ∷ vs) p rest) IsPipe (bar_ ∷ name w ∷ []) us (res_map make (number_at us)) (λ vs p rest i. i)
    (λ vs p rest i. i)
    (tells_map (λ vs n rest. IsPipe (bar_ ∷ name w ∷ vs) (make n) rest) (λ vs p rest. IsPipe (bar_ ∷ name w ∷ vs) p rest) us make (number_at us) (λ vs n rest i. i)
    (tells_number (λ vs n rest. IsPipe (bar_ ∷ name w ∷ vs) (make n) rest) (λ n rest ps h. next_pipe e h) us))

tells_pipe : (us : List Kind) → Tells IsPipe (bar_ ∷ us) (q.pipe us)
tells_pipe (name w ∷ us) = tells_pipe_named w (pipe_of w) us refl
tells_pipe us = stop_syntax IsPipe (bar_ ∷ []) us (pipe.Head (pos 1), name (codes "head") ∷ number (pos 1) ∷ [], a_head (pos 1))

-- some pipes, and more behind them
abbrev pub ArePipes : List Kind → List PipeText → List Kind → Type 0
ArePipes ts ps rest = (qs : List PipeText) → IsPipes rest qs → IsPipes ts (ps ++ qs)

pub tells_pipes : (n : ℕ) (ts : List Kind) → Tells ArePipes ts (pipes n ts)
unfolding pipes
tells_pipes zero [] = tells_here ArePipes ArePipes [] [] (λ rest qs h. h)
tells_pipes zero (k ∷ ts) = stop_syntax ArePipes [] (k ∷ ts) ([], [], λ rest qs h. h)
tells_pipes (suc n) [] = tells_here ArePipes ArePipes [] [] (λ rest qs h. h)
tells_pipes (suc n) (bar_ ∷ ts) =
    tells_then IsPipe ArePipes (bar_ ∷ ts) (q.pipe ts) (λ p us. res_map (λ ps. p ∷ ps) (pipes n us)) (λ p. (p ∷ [], [], λ rest us h qs i. h qs i)) (tells_pipe ts)
    (λ p us. tells_map ArePipes (Onto IsPipe ArePipes p) us (λ ps. p ∷ ps) (pipes n us) (λ vs ps rest i ws h qs j. h (ps ++ qs) (i qs j)) (tells_pipes n us))
tells_pipes (suc n) (k ∷ ts) = stop_syntax ArePipes [] (k ∷ ts) ([], [], λ rest qs h. h)

-- a query, and more pipes behind it
abbrev pub IsWhole : List Kind → QueryTree → List Kind → Type 0
IsWhole ts x rest = (qs : List PipeText) → IsPipes rest qs → Reads ts (record { body = x.body; pipes = x.pipes ++ qs })

pub null_term : (rest : List Kind) → IsTerm (any_ ∷ where_ ∷ null_ ∷ rest) None t.null rest
null_term rest = a_term refl (conj (neg (pred (sum (prod (unary (prim is_null)))))))

pub null_bracketed : (rest : List Kind) → IsBracketed (open_item_ ∷ any_ ∷ where_ ∷ null_ ∷ close_item_ ∷ rest) None t.null [] rest
null_bracketed rest = bracketed (null_term (close_item_ ∷ rest)) no_keys

-- [any where null]
abbrev pub null_tree : TermTree
null_tree = record { category = None; cond = t.null; by = []; runs = pos 1 }

pub null_item : (rest : List Kind) → IsItem (open_item_ ∷ any_ ∷ where_ ∷ null_ ∷ close_item_ ∷ rest) (null_tree) rest
null_item rest = an_item (null_bracketed rest) one_run

abbrev pub IsConditioned : List Kind → Conditioned → List Kind → Type 0
IsConditioned ts c rest = IsTerm ts c.0 c.1 rest

abbrev pub IsKeyed : List Kind → Conditioned × List FieldRef → List Kind → Type 0
IsKeyed ts x rest = IsBracketed ts x.0.0 x.0.1 x.1 rest

a_conditioned : Starts IsConditioned []
a_conditioned = ((None, t.null), any_ ∷ where_ ∷ null_ ∷ [], null_term)

an_item_of : Starts IsItem []
an_item_of = (null_tree, open_item_ ∷ any_ ∷ where_ ∷ null_ ∷ close_item_ ∷ [], null_item)

-- where an item stands, with runs behind it
abbrev item_there : List Kind
item_there = open_item_ ∷ any_ ∷ where_ ∷ null_ ∷ close_item_ ∷ with_ ∷ []

item_opens : Starts IsItem item_there
item_opens = (null_tree, name (codes "runs") ∷ assign_ ∷ number (pos 1) ∷ [], λ rest. an_item (null_bracketed (with_ ∷ name (codes "runs") ∷ assign_ ∷ number (pos 1) ∷ rest)) (some_runs refl))

items_of : Starts IsItems []
items_of = (an_item_of.0 ∷ [], an_item_of.1, λ rest. last_item (an_item_of.2 rest))

tells_behind_term : (c : Conditioned) (us : List Kind) → Tells (Onto IsConditioned (λ ts x rest. IsKeyed (open_item_ ∷ ts) x rest) c) us (behind_term c us)
tells_behind_term c =
    tells_expects is_close_item close_item_ (λ vs. res_map (λ fs. (c, fs)) (keys vs)) (Onto IsConditioned (λ ts x rest. IsKeyed (open_item_ ∷ ts) x rest) c) close_item_only
    ((c, []), [], λ rest ts h. bracketed h no_keys)
    (λ vs. tells_map IsBy (λ ws x rest. Onto IsConditioned (λ ts y rest. IsKeyed (open_item_ ∷ ts) y rest) c (close_item_ ∷ ws) x rest) vs (λ fs. (c, fs)) (keys vs) (λ ws fs rest i ts h. bracketed h i)
    (tells_keys vs))

tells_items_more : (again : List Kind → Res (List TermTree)) → ((us : List Kind) → Tells IsItems us (again us)) → (i : TermTree) (us : List Kind) → Tells (Onto IsItem IsItems i) us (items_more again i us)
tells_items_more again h i (open_item_ ∷ us) =
    tells_map IsItems (Onto IsItem IsItems i) (open_item_ ∷ us) (λ is. i ∷ is) (again (open_item_ ∷ us)) (λ vs is rest j ts k. next_item k j) (h (open_item_ ∷ us))
tells_items_more again h i (bang_ ∷ open_item_ ∷ us) =
    stop_left_out (Onto IsItem IsItems i) [] (bang_ ∷ open_item_ ∷ us) (codes "!") item_there
    (i ∷ item_opens.0 ∷ [], item_opens.1, λ rest ts k. next_item k (last_item (item_opens.2 rest))) (λ before. missing_event)
tells_items_more again h i us = tells_here (Onto IsItem IsItems i) (Onto IsItem IsItems i) (i ∷ []) us (λ rest ts k. last_item k)

module _ (condition : List Kind → Res Tree) (tells : (ts : List Kind) → Tells IsExpr ts (condition ts)) where
  tells_term_of : (k : Kind) (c : Option (Option (List ℕ))) (us : List Kind) → category k ≡ c → Tells IsConditioned (k ∷ us) (q.term_of condition c us)
  tells_term_of k None us e = stop_syntax IsConditioned [] (k ∷ us) a_conditioned
  tells_term_of k (Some c) us e =
      tells_token (λ vs x rest. IsConditioned (k ∷ vs) x rest) IsConditioned k us (behind_expected is_where (λ vs. res_map (λ x. (c, x)) (condition vs)) us) (λ vs x rest i. i)
      (tells_expects is_where where_ (λ vs. res_map (λ x. (c, x)) (condition vs)) (λ vs x rest. IsConditioned (k ∷ vs) x rest) where_only
      ((c, an_expr.0), an_expr.1, λ rest. a_term e (an_expr.2 rest))
      (λ vs. tells_map IsExpr (λ ws x rest. IsConditioned (k ∷ where_ ∷ ws) x rest) vs (λ x. (c, x)) (condition vs) (λ ws x rest i. a_term e i) (tells vs)) us)

  tells_term : (us : List Kind) → Tells IsConditioned us (q.term condition us)
  tells_term [] = stop_syntax IsConditioned [] [] a_conditioned
  tells_term (k ∷ us) = tells_term_of k (category k) us refl

  tells_bracketed : (us : List Kind) → Tells IsKeyed us (q.bracketed_term condition us)
  tells_bracketed =
      tells_expects is_open_item open_item_ (λ vs. then_do (q.term condition vs) behind_term) IsKeyed open_item_only (((None, t.null), []), any_ ∷ where_ ∷ null_ ∷ close_item_ ∷ [], null_bracketed)
      (λ vs. tells_then IsConditioned (λ ws x rest. IsKeyed (open_item_ ∷ ws) x rest) vs (q.term condition vs) behind_term (λ c. ((c, []), close_item_ ∷ [], λ rest ws h. bracketed h no_keys)) (tells_term vs)
      tells_behind_term)

  tells_item_here : (us : List Kind) → Tells IsItem us (then_do (q.bracketed_term condition us) (λ x vs. res_map (term_tree_of x.0 x.1) (runs vs)))
  tells_item_here us =
      tells_then IsKeyed IsItem us (q.bracketed_term condition us) (λ x vs. res_map (term_tree_of x.0 x.1) (runs vs)) (λ x. (term_tree_of x.0 x.1 (pos 1), [], λ rest ws h. an_item h one_run)) (tells_bracketed us)
      (λ x vs. tells_map IsRuns (Onto IsKeyed IsItem x) vs (term_tree_of x.0 x.1) (runs vs) (λ ws n rest i ts h. an_item h i) (tells_runs vs))

  tells_item : (us : List Kind) → Tells IsItem us (q.item condition us)
  tells_item (bang_ ∷ open_item_ ∷ us) = stop_left_out IsItem [] (bang_ ∷ open_item_ ∷ us) (codes "!") item_there item_opens (λ before. missing_event)
  tells_item us = tells_item_here us

  tells_items : (n : ℕ) (us : List Kind) → Tells IsItems us (q.items condition n us)
  unfolding q.items
  tells_items zero us = stop_syntax IsItems [] us items_of
  tells_items (suc n) us =
      tells_then IsItem IsItems us (q.item condition us) (items_more (q.items condition n)) (λ i. (i ∷ [], [], λ rest ts h. last_item h)) (tells_item us)
      (tells_items_more (q.items condition n) (tells_items n))

  tells_until : (us : List Kind) → Tells IsUntil us (q.until condition us)
  tells_until (until_ ∷ us) =
      tells_token (λ vs x rest. IsUntil (until_ ∷ vs) x rest) IsUntil until_ us (res_map (λ x. Some (term_tree_of x.0 x.1 (pos 1))) (q.bracketed_term condition us)) (λ vs x rest i. i)
      (tells_map IsKeyed (λ vs x rest. IsUntil (until_ ∷ vs) x rest) us (λ x. Some (term_tree_of x.0 x.1 (pos 1))) (q.bracketed_term condition us) (λ vs x rest i. an_until i) (tells_bracketed us))
  tells_until us = tells_here IsUntil IsUntil None us (λ rest. no_until)

  -- a sequence behind its keys, its span or its items
  abbrev BehindItems : List FieldRef → Option Span → List TermTree → List Kind → BodyTree → List Kind → Type 0
  BehindItems fs s is us b rest = (ts vs ws : List Kind) → IsBy ts fs vs → IsSpan vs s ws → IsItems ws is us → IsBody (sequence_ ∷ ts) b rest

  abbrev BehindSpan : List FieldRef → Option Span → List Kind → BodyTree → List Kind → Type 0
  BehindSpan fs s us b rest = (ts vs : List Kind) → IsBy ts fs vs → IsSpan vs s us → IsBody (sequence_ ∷ ts) b rest

  abbrev BehindKeys : List FieldRef → List Kind → BodyTree → List Kind → Type 0
  BehindKeys fs us b rest = (ts : List Kind) → IsBy ts fs us → IsBody (sequence_ ∷ ts) b rest

  tells_behind_items : (fs : List FieldRef) (s : Option Span) (is : List TermTree) (us : List Kind) → Tells (BehindItems fs s is) us (q.behind_items condition fs s is us)
  tells_behind_items fs s is us =
      tells_map IsUntil (BehindItems fs s is) us (λ u. sequence fs s is u) (q.until condition us) (λ xs u rest i ts vs ws h j k. a_sequence h j k i) (tells_until us)

  tells_behind_span : (fs : List FieldRef) (s : Option Span) (us : List Kind) → Tells (BehindSpan fs s) us (q.behind_span condition fs s us)
  tells_behind_span fs s us =
      tells_then IsItems (BehindSpan fs s) us (q.items condition (length us) us) (q.behind_items condition fs s)
      (λ is. (sequence fs s is None, [], λ rest ws k ts vs h j. a_sequence h j k no_until)) (tells_items (length us) us)
      (λ is vs. tells_also (BehindItems fs s is) (Onto IsItems (BehindSpan fs s) is) vs (q.behind_items condition fs s is vs) (λ xs b rest i ws k ts ys h j. i ts ys ws h j k) (tells_behind_items fs s is vs))

  tells_behind_keys : (fs : List FieldRef) (us : List Kind) → Tells (BehindKeys fs) us (q.behind_keys condition fs us)
  tells_behind_keys fs us =
      tells_then IsSpan (BehindKeys fs) us (span us) (q.behind_span condition fs)
      (λ s. (sequence fs s (an_item_of.0 ∷ []) None, an_item_of.1, λ rest vs j ts h. a_sequence h j (last_item (an_item_of.2 rest)) no_until)) (tells_span us)
      (λ s vs. tells_also (BehindSpan fs s) (Onto IsSpan (BehindKeys fs) s) vs (q.behind_span condition fs s vs) (λ xs b rest i ys j ts h. i ts ys h j) (tells_behind_span fs s vs))

  -- a sequence behind its first word
  abbrev InSequence : List Kind → BodyTree → List Kind → Type 0
  InSequence us b rest = IsBody (sequence_ ∷ us) b rest

  tells_sequence : (us : List Kind) → Tells InSequence us (then_do (keys us) (q.behind_keys condition))
  tells_sequence us =
      tells_then IsBy InSequence us (keys us) (q.behind_keys condition)
      (λ fs. (sequence fs None (an_item_of.0 ∷ []) None, an_item_of.1, λ rest ts h. a_sequence h no_span (last_item (an_item_of.2 rest)) no_until)) (tells_keys us)
      (λ fs vs. tells_also (BehindKeys fs) (Onto IsBy InSequence fs) vs (q.behind_keys condition fs vs) (λ xs b rest i ts h. i ts h) (tells_behind_keys fs vs))

  tells_event : (us : List Kind) → Tells IsBody us (res_map (λ c. event (term_tree_of c [] (pos 1))) (q.term condition us))
  tells_event us = tells_map IsConditioned IsBody us (λ c. event (term_tree_of c [] (pos 1))) (q.term condition us) (λ vs c rest i. one_event i) (tells_term us)

  tells_query : (ts : List Kind) (r : Res BodyTree) → Tells IsBody ts r → Tells IsWhole ts (then_do r behind_body)
  tells_query ts r h =
      tells_then IsBody IsWhole ts r behind_body (λ b. (record { body = b; pipes = [] }, [], λ rest us i qs j. a_query i j)) h
      (λ b us. tells_map ArePipes (Onto IsBody IsWhole b) us (λ ps. record { body = b; pipes = ps }) (pipes (length us) us) (λ vs ps rest i ws j qs k. a_query j (i qs k)) (tells_pipes (length us) us))

-- Where the tokens of a query are refused: some query begins with those before the place and those that could follow.
pub record Begun (ts : List Kind) (e : Fail) : Type 0 where
  pub front : List Kind
  pub behind : List Kind
  pub follows : List Kind
  pub cut : ts ≡ front ++ behind
  pub count : length behind ≡ fail_place e
  pub begins : Begins (front ++ follows)
  pub why : Follows [] e front behind follows

begins_of : (front : List Kind) → Starts IsWhole front → Begins front
begins_of front s = record { rest = s.1 ++ []; query = record { body = s.0.body; pipes = s.0.pipes ++ [] }; reads = s.2 [] [] no_pipes }

-- what an answer says of the tokens of a whole query
abbrev pub Start : {A : Type 0} → List Kind → Res A → Type 0
Start ts (Ok p) = Unit {0}
Start ts (Err e) = Begun ts e

start_of : (ts : List Kind) (r : Res QueryTree) → Tells IsWhole ts r → Start ts r
start_of ts (Ok p) h = tt
start_of ts (Err e) h =
    record { front = h.front; behind = h.behind; follows = h.follows; cut = h.cut; count = h.count; begins = begins_of (h.front ++ h.follows) h.starts; why = h.why [] }

-- where `sequence` could stand
sequence_begins : Begins (sequence_ ∷ [])
sequence_begins = record {
  rest = open_item_ ∷ any_ ∷ where_ ∷ null_ ∷ close_item_ ∷ [];
  query = record { body = sequence [] None (null_tree ∷ []) None; pipes = [] };
  reads = a_query (a_sequence no_keys no_span (last_item (null_item [])) no_until) no_pipes;
}

module _ (condition : List Kind → Res Tree) (tells : (ts : List Kind) → Tells IsExpr ts (condition ts)) where
  event_starts : (ts : List Kind) → Start ts (then_do (res_map (λ c. event (term_tree_of c [] (pos 1))) (q.term condition ts)) behind_body)
  event_starts ts =
      start_of ts (then_do (res_map (λ c. event (term_tree_of c [] (pos 1))) (q.term condition ts)) behind_body)
      (tells_query condition tells ts (res_map (λ c. event (term_tree_of c [] (pos 1))) (q.term condition ts)) (tells_event condition tells ts))

  query_starts : (ts : List Kind) → Start ts (query_by condition ts)
  query_starts (sample_ ∷ ts) = record { front = []; behind = sample_ ∷ ts; follows = sequence_ ∷ []; cut = refl; count = refl; begins = sequence_begins; why = samples }
  query_starts (join_ ∷ ts) = record { front = []; behind = join_ ∷ ts; follows = sequence_ ∷ []; cut = refl; count = refl; begins = sequence_begins; why = joins }
  query_starts (sequence_ ∷ ts) =
      start_of (sequence_ ∷ ts) (then_do (then_do (keys ts) (q.behind_keys condition)) behind_body)
      (tells_query condition tells (sequence_ ∷ ts) (then_do (keys ts) (q.behind_keys condition))
      (tells_token (InSequence condition tells) IsBody sequence_ ts (then_do (keys ts) (q.behind_keys condition)) (λ us b rest i. i) (tells_sequence condition tells ts)))
  query_starts [] = event_starts []
  query_starts (k ∷ ts) = event_starts (k ∷ ts)

pub begun : (ts : List Kind) (e : Fail) → query ts ≡ Err e → Begun ts e
begun ts e h = subst (λ r. Start ts r) h (query_starts (expr 128 64) (expr_tells 128 64) ts)
