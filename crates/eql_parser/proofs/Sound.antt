-- What the descent returns for a query is in the grammar, and has no more levels than are allowed.
use Rattle.std.proofs.Common.{◌≡◌, ℕ, zero, suc, ◌≤◌, ℤ, pos, Bool, true, List, [], ◌∷◌, length, Option, Some, None, Ok, refl, sym, subst, arith}
use Rattle.eql_query.specs.declared.expr.FieldRef.{FieldRef}
use Rattle.eql_query.specs.declared.query.Span.{Span}
use Rattle.eql_query.specs.declared.query.Unit.{Unit as TimeUnit}
use Rattle.eql_query.specs.declared.query.PipeText.{PipeText}
use Rattle.eql_query.specs.Tree.{Tree}
use Rattle.eql_query.specs.QueryTree.{TermTree, BodyTree, event, sequence, QueryTree}
use Rattle.eql_parser.specs.Kinds.{Kind, bang_, bar_, by_, join_, maxspan_, sample_, sequence_, until_, where_, with_, name, number, open_item_, close_item_, assign_}
use Rattle.eql_parser.specs.Grammar.{IsExpr}
use Rattle.eql_parser.specs.QueryGrammar.{category, pipe_of, unit_of, IsTerm, a_term, IsKey, IsBy, no_keys, by_keys, IsRuns, one_run, some_runs, IsSpan, no_span, a_span, IsBracketed, bracketed, IsItem, an_item, IsItems, last_item, next_item, IsUntil, no_until, an_until, IsBody, one_event, a_sequence, IsPipes, no_pipes, next_pipe, Reads, a_query}
use Rattle.eql_parser.specs.Limits.{depth, deepest_item, until_depth, body_levels, levels}
use Rattle.eql_parser.specs.Reading.{Res, then_do, res_map, comma_list, field, expr}
use Rattle.eql_parser.specs.QueryReading.{behind_expected, is_where, is_maxspan, is_runs, is_assign, is_open_item, is_close_item, number_at, Conditioned, keys, runs, term_tree_of, behind_term, items_more, unit_named, unit_at, span, pipe_named, pipe, pipes, behind_body, query_by, query}
use Rattle.eql_parser.specs.QueryReading as q
use Rattle.eql_parser.proofs.Rows.{false_not_true, Within}
use Rattle.eql_parser.proofs.ExprSound.{Gives, gives_then, gives_map, gives_also, gives_if, listed_good, field_good, expr_good}

expected_good : {A : Type 0} (is : Kind → Bool) (go : List Kind → Res A) (P : List Kind → A → List Kind → Type 0)
    → ((k : Kind) (us : List Kind) → is k ≡ true → Gives (P (k ∷ us)) (go us)) → (ts : List Kind) → Gives (P ts) (behind_expected is go ts)
expected_good is go P h [] = tt
expected_good is go P h (k ∷ ts) = gives_if (P (k ∷ ts)) (is k) (go ts) _ (λ b. h k ts b) (λ b. tt)

-- one kind alone is meant
expects : {A : Type 0} (is : Kind → Bool) (w : Kind) (go : List Kind → Res A) (P : List Kind → A → List Kind → Type 0)
    → ((k : Kind) → is k ≡ true → k ≡ w) → ((us : List Kind) → Gives (P (w ∷ us)) (go us)) → (ts : List Kind) → Gives (P ts) (behind_expected is go ts)
expects is w go P only h ts = expected_good is go P (λ k us b. subst (λ j. Gives (P (j ∷ us)) (go us)) (sym (only k b)) (h us)) ts

pub where_only : (k : Kind) → is_where k ≡ true → k ≡ where_
where_only where_ h = refl
where_only _ h = false_not_true h

pub maxspan_only : (k : Kind) → is_maxspan k ≡ true → k ≡ maxspan_
maxspan_only maxspan_ h = refl
maxspan_only _ h = false_not_true h

pub assign_only : (k : Kind) → is_assign k ≡ true → k ≡ assign_
assign_only assign_ h = refl
assign_only _ h = false_not_true h

pub open_item_only : (k : Kind) → is_open_item k ≡ true → k ≡ open_item_
open_item_only open_item_ h = refl
open_item_only _ h = false_not_true h

pub close_item_only : (k : Kind) → is_close_item k ≡ true → k ≡ close_item_
close_item_only close_item_ h = refl
close_item_only _ h = false_not_true h

-- a number at the front
abbrev pub IsNumber : List Kind → ℤ → List Kind → Type 0
IsNumber ts n us = ts ≡ number n ∷ us

number_good : (ts : List Kind) → Gives (IsNumber ts) (number_at ts)
number_good (number n ∷ ts) = refl
number_good _ = tt

keys_good : (ts : List Kind) → Gives (IsBy ts) (keys ts)
keys_good (by_ ∷ ts) = gives_also (λ fs us. _) (IsBy (by_ ∷ ts)) (comma_list field ts) (listed_good IsKey field field_good ts) (λ fs us h. by_keys h)
keys_good _ = no_keys

runs_at : (k : Kind) (us : List Kind) → is_runs k ≡ true → Gives (IsRuns (with_ ∷ k ∷ us)) (behind_expected is_assign number_at us)
runs_at (name w) us b =
    expects is_assign assign_ number_at (λ vs. IsRuns (with_ ∷ name w ∷ vs)) assign_only
    (λ vs. gives_also (IsNumber vs) (IsRuns (with_ ∷ name w ∷ assign_ ∷ vs)) (number_at vs) (number_good vs)
    (λ n ws e. subst (λ xs. IsRuns (with_ ∷ name w ∷ assign_ ∷ xs) n ws) (sym e) (some_runs b))) us
runs_at _ us b = false_not_true b

runs_good : (ts : List Kind) → Gives (IsRuns ts) (runs ts)
runs_good (with_ ∷ ts) = expected_good is_runs (behind_expected is_assign number_at) (λ us. IsRuns (with_ ∷ us)) runs_at ts
runs_good _ = one_run

unit_named_good : (n : ℤ) (w : List ℕ) (u : Option TimeUnit) (ts : List Kind) → unit_of w ≡ u → Gives (IsSpan (with_ ∷ maxspan_ ∷ assign_ ∷ number n ∷ name w ∷ ts)) (unit_named n w u ts)
unit_named_good n w None ts e = tt
unit_named_good n w (Some u) ts e = a_span e

unit_good : (n : ℤ) (ts : List Kind) → Gives (IsSpan (with_ ∷ maxspan_ ∷ assign_ ∷ number n ∷ ts)) (unit_at n ts)
unit_good n (name w ∷ ts) = unit_named_good n w (unit_of w) ts refl
unit_good n _ = tt

length_good : (ts : List Kind) → Gives (IsSpan (with_ ∷ maxspan_ ∷ assign_ ∷ ts)) (then_do (number_at ts) unit_at)
length_good ts =
    gives_then (IsNumber ts) (IsSpan (with_ ∷ maxspan_ ∷ assign_ ∷ ts)) (number_at ts) unit_at (number_good ts)
    (λ n us e. subst (λ xs. Gives (IsSpan (with_ ∷ maxspan_ ∷ assign_ ∷ xs)) (unit_at n us)) (sym e) (unit_good n us))

span_good : (ts : List Kind) → Gives (IsSpan ts) (span ts)
span_good (with_ ∷ ts) =
    expects is_maxspan maxspan_ (behind_expected is_assign (λ us. then_do (number_at us) unit_at)) (λ us. IsSpan (with_ ∷ us)) maxspan_only
    (expects is_assign assign_ (λ us. then_do (number_at us) unit_at) (λ us. IsSpan (with_ ∷ maxspan_ ∷ us)) assign_only length_good) ts
span_good _ = no_span

-- one pipe behind its bar
abbrev pub IsPipe : List Kind → PipeText → List Kind → Type 0
IsPipe ts p us = (ps : List PipeText) → IsPipes us ps → IsPipes (bar_ ∷ ts) (p ∷ ps)

pipe_named_good : (w : List ℕ) (make : Option (ℤ → PipeText)) (ts : List Kind) → pipe_of w ≡ make → Gives (IsPipe (name w ∷ ts)) (pipe_named w make ts)
pipe_named_good w None ts e = tt
pipe_named_good w (Some make) ts e =
    gives_map (IsNumber ts) (IsPipe (name w ∷ ts)) (number_at ts) make (number_good ts)
    (λ n us i ps h. subst (λ xs. IsPipes (bar_ ∷ name w ∷ xs) (make n ∷ ps)) (sym i) (next_pipe e h))

pipe_good : (ts : List Kind) → Gives (IsPipe ts) (pipe ts)
pipe_good (name w ∷ ts) = pipe_named_good w (pipe_of w) ts refl
pipe_good _ = tt

-- pipes up to the end
abbrev pub ArePipes : List Kind → List PipeText → List Kind → Type 0
ArePipes ts ps us = IsPipes ts ps × (us ≡ [])

pipes_good : (n : ℕ) (ts : List Kind) → Gives (ArePipes ts) (pipes n ts)
unfolding pipes
pipes_good zero [] = (no_pipes, refl)
pipes_good zero (k ∷ ts) = tt
pipes_good (suc n) [] = (no_pipes, refl)
pipes_good (suc n) (bar_ ∷ ts) =
    gives_then (IsPipe ts) (ArePipes (bar_ ∷ ts)) (pipe ts) (λ p us. res_map (λ ps. p ∷ ps) (pipes n us)) (pipe_good ts)
    (λ p us h. gives_map (ArePipes us) (ArePipes (bar_ ∷ ts)) (pipes n us) (λ ps. p ∷ ps) (pipes_good n us) (λ ps vs i. (h ps i.0, i.1)))
pipes_good (suc n) (_ ∷ ts) = tt

module _ (l : ℕ) (condition : List Kind → Res Tree) (good : (ts : List Kind) → Gives (Within IsExpr l ts) (condition ts)) where
  abbrev IsConditioned : List Kind → Conditioned → List Kind → Type 0
  IsConditioned ts c us = IsTerm ts c.0 c.1 us × (depth c.1 ≤ l)

  abbrev IsKeyed : List Kind → Conditioned × List FieldRef → List Kind → Type 0
  IsKeyed ts x us = IsBracketed ts x.0.0 x.0.1 x.1 us × (depth x.0.1 ≤ l)

  abbrev IsOneItem : List Kind → TermTree → List Kind → Type 0
  IsOneItem ts i us = IsItem ts i us × (depth i.cond ≤ l)

  abbrev AreItems : List Kind → List TermTree → List Kind → Type 0
  AreItems ts is us = IsItems ts is us × (deepest_item is ≤ l)

  term_of_good : (k : Kind) (c : Option (Option (List ℕ))) (ts : List Kind) → category k ≡ c → Gives (IsConditioned (k ∷ ts)) (q.term_of condition c ts)
  term_of_good k None ts e = tt
  term_of_good k (Some c) ts e =
      expects is_where where_ (λ us. res_map (λ x. (c, x)) (condition us)) (λ us. IsConditioned (k ∷ us)) where_only
      (λ us. gives_map (Within IsExpr l us) (IsConditioned (k ∷ where_ ∷ us)) (condition us) (λ x. (c, x)) (good us) (λ x vs h. (a_term e h.0, h.1))) ts

  term_good : (ts : List Kind) → Gives (IsConditioned ts) (q.term condition ts)
  term_good [] = tt
  term_good (k ∷ ts) = term_of_good k (category k) ts refl

  behind_term_good : (ts : List Kind) (c : Conditioned) (us : List Kind) → IsConditioned ts c us → Gives (IsKeyed (open_item_ ∷ ts)) (behind_term c us)
  behind_term_good ts c us h =
      gives_also (λ x ws. IsConditioned ts c us → IsKeyed (open_item_ ∷ ts) x ws) (IsKeyed (open_item_ ∷ ts)) (behind_term c us)
      (expects is_close_item close_item_ (λ vs. res_map (λ fs. (c, fs)) (keys vs)) (λ vs x ws. IsConditioned ts c vs → IsKeyed (open_item_ ∷ ts) x ws) close_item_only
      (λ vs. gives_map (IsBy vs) (λ x ws. IsConditioned ts c (close_item_ ∷ vs) → IsKeyed (open_item_ ∷ ts) x ws) (keys vs) (λ fs. (c, fs)) (keys_good vs) (λ fs ws i j. (bracketed j.0 i, j.1))) us)
      (λ x ws i. i h)

  bracketed_good : (ts : List Kind) → Gives (IsKeyed ts) (q.bracketed_term condition ts)
  bracketed_good ts =
      expects is_open_item open_item_ (λ us. then_do (q.term condition us) behind_term) IsKeyed open_item_only
      (λ us. gives_then (IsConditioned us) (IsKeyed (open_item_ ∷ us)) (q.term condition us) behind_term (term_good us) (behind_term_good us)) ts

  item_of_good : (ts : List Kind) → Gives (IsOneItem ts) (then_do (q.bracketed_term condition ts) (λ x us. res_map (term_tree_of x.0 x.1) (runs us)))
  item_of_good ts =
      gives_then (IsKeyed ts) (IsOneItem ts) (q.bracketed_term condition ts) (λ x us. res_map (term_tree_of x.0 x.1) (runs us)) (bracketed_good ts)
      (λ x us h. gives_map (IsRuns us) (IsOneItem ts) (runs us) (term_tree_of x.0 x.1) (runs_good us) (λ n vs i. (an_item h.0 i, h.1)))

  item_good : (ts : List Kind) → Gives (IsOneItem ts) (q.item condition ts)
  item_good (bang_ ∷ open_item_ ∷ ts) = tt
  item_good ts = item_of_good ts

  items_more_good : (again : List Kind → Res (List TermTree)) (ts : List Kind) (i : TermTree) (us : List Kind) → ((vs : List Kind) → Gives (AreItems vs) (again vs)) → IsOneItem ts i us
      → Gives (AreItems ts) (items_more again i us)
  items_more_good again ts i (open_item_ ∷ us) again_good h =
      gives_map (AreItems (open_item_ ∷ us)) (AreItems ts) (again (open_item_ ∷ us)) (λ is. i ∷ is) (again_good (open_item_ ∷ us)) (λ is vs j. (next_item h.0 j.0, omega (arith, h.1, j.1)))
  items_more_good again ts i (bang_ ∷ open_item_ ∷ us) again_good h = tt
  items_more_good again ts i _ again_good h = (last_item h.0, omega (arith, h.1))

  items_good : (n : ℕ) (ts : List Kind) → Gives (AreItems ts) (q.items condition n ts)
  unfolding q.items
  items_good zero ts = tt
  items_good (suc n) ts =
      gives_then (IsOneItem ts) (AreItems ts) (q.item condition ts) (items_more (q.items condition n)) (item_good ts)
      (λ i us h. items_more_good (q.items condition n) ts i us (items_good n) h)

  abbrev IsEnd : List Kind → Option TermTree → List Kind → Type 0
  IsEnd ts u us = IsUntil ts u us × (until_depth u ≤ l)

  until_good : (ts : List Kind) → Gives (IsEnd ts) (q.until condition ts)
  until_good (until_ ∷ ts) =
      gives_map (IsKeyed ts) (IsEnd (until_ ∷ ts)) (q.bracketed_term condition ts) (λ x. Some (term_tree_of x.0 x.1 (pos 1))) (bracketed_good ts) (λ x us h. (an_until h.0, h.1))
  until_good _ = (no_until, omega arith)

  abbrev IsOneBody : List Kind → BodyTree → List Kind → Type 0
  IsOneBody ts b us = IsBody ts b us × (body_levels b ≤ l)

  behind_items_good : (ts us vs ws : List Kind) (fs : List FieldRef) (s : Option Span) (is : List TermTree) → IsBy ts fs us → IsSpan us s vs → AreItems vs is ws
      → Gives (IsOneBody (sequence_ ∷ ts)) (q.behind_items condition fs s is ws)
  behind_items_good ts us vs ws fs s is h i j =
      gives_map (IsEnd ws) (IsOneBody (sequence_ ∷ ts)) (q.until condition ws) (λ u. sequence fs s is u) (until_good ws) (λ u xs k. (a_sequence h i j.0 k.0, omega (arith, j.1, k.1)))

  behind_span_good : (ts us vs : List Kind) (fs : List FieldRef) (s : Option Span) → IsBy ts fs us → IsSpan us s vs → Gives (IsOneBody (sequence_ ∷ ts)) (q.behind_span condition fs s vs)
  behind_span_good ts us vs fs s h i =
      gives_then (AreItems vs) (IsOneBody (sequence_ ∷ ts)) (q.items condition (length vs) vs) (q.behind_items condition fs s) (items_good (length vs) vs)
      (λ is ws j. behind_items_good ts us vs ws fs s is h i j)

  sequence_good : (ts : List Kind) → Gives (IsOneBody (sequence_ ∷ ts)) (then_do (keys ts) (q.behind_keys condition))
  sequence_good ts =
      gives_then (IsBy ts) (IsOneBody (sequence_ ∷ ts)) (keys ts) (q.behind_keys condition) (keys_good ts)
      (λ fs us h. gives_then (IsSpan us) (IsOneBody (sequence_ ∷ ts)) (span us) (q.behind_span condition fs) (span_good us) (λ s vs i. behind_span_good ts us vs fs s h i))

  event_good : (ts : List Kind) → Gives (IsOneBody ts) (res_map (λ c. event (term_tree_of c [] (pos 1))) (q.term condition ts))
  event_good ts = gives_map (IsConditioned ts) (IsOneBody ts) (q.term condition ts) (λ c. event (term_tree_of c [] (pos 1))) (term_good ts) (λ c us h. (one_event h.0, h.1))

  body_good : (ts : List Kind) → Gives (IsOneBody ts) (q.body condition ts)
  body_good (sample_ ∷ ts) = tt
  body_good (join_ ∷ ts) = tt
  body_good (sequence_ ∷ ts) = sequence_good ts
  body_good ts = event_good ts

  -- one query and nothing behind it
  abbrev IsWhole : List Kind → QueryTree → List Kind → Type 0
  IsWhole ts x us = Reads ts x × (us ≡ []) × (levels x ≤ l)

  whole_good : (ts : List Kind) → Gives (IsWhole ts) (query_by condition ts)
  whole_good ts =
      gives_then (IsOneBody ts) (IsWhole ts) (q.body condition ts) behind_body (body_good ts)
      (λ b us h. gives_map (ArePipes us) (IsWhole ts) (pipes (length us) us) (λ ps. record { body = b; pipes = ps }) (pipes_good (length us) us) (λ ps vs i. (a_query h.0 i.0, i.1, h.1)))

pub query_by_sound : (d l : ℕ) (ts : List Kind) → Gives (λ x us. Reads ts x × (us ≡ []) × (levels x ≤ l)) (query_by (expr d l) ts)
query_by_sound d l ts = whole_good l (expr d l) (expr_good d l) ts

-- A query that is returned is in the grammar, with nothing behind it.
pub query_sound : (ts : List Kind) (x : QueryTree) (rest : List Kind) → query ts ≡ Ok (x, rest) → Reads ts x × (rest ≡ []) × (levels x ≤ 64)
query_sound ts x rest e = subst (Gives (λ y us. Reads ts y × (us ≡ []) × (levels y ≤ 64))) e (query_by_sound 128 64 ts)
