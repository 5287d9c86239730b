-- What the recursive descent returns for queries, as functions on lists.
use Rattle.std.specs.Prelude.{ℕ, zero, suc, ℤ, pos, Bool, true, false, if◌then◌else◌, List, [], ◌∷◌, length, Ok, Err, Option, Some, None, codes}
use Rattle.std.specs.Str.{bytes_eq}
use Rattle.eql_query.specs.declared.expr.FieldRef.{FieldRef}
use Rattle.eql_query.specs.declared.query.Span.{Span}
use Rattle.eql_query.specs.declared.query.Unit.{Unit as TimeUnit}
use Rattle.eql_query.specs.declared.query.PipeText.{PipeText}
use Rattle.eql_query.specs.Tree.{Tree}
use Rattle.eql_query.specs.QueryTree.{TermTree, BodyTree, event, sequence, QueryTree}
use Rattle.eql_parser.specs.Kinds.{Kind, bang_, bar_, by_, join_, maxspan_, sample_, sequence_, until_, where_, with_, name, number, open_item_, close_item_, assign_}
use Rattle.eql_parser.specs.QueryGrammar.{category, pipe_of, unit_of}
pub use Rattle.eql_parser.specs.QueryGrammar.{is_fine_unit}
use Rattle.eql_parser.specs.Reading.{Syntax, LeftOut, Res, then_do, res_map, comma_list, field, expr}

-- the most levels of a condition, and the most parentheses that may stand open
abbrev pub most_levels : ℕ
most_levels = 64

abbrev pub most_open : ℕ
most_open = 128

-- what follows a word or sign that has to stand here
abbrev pub behind_expected : {A : Type 0} → (Kind → Bool) → (List Kind → Res A) → List Kind → Res A
behind_expected is go [] = Err (Syntax 0)
behind_expected is go (k ∷ ts) = if is k then go ts else Err (Syntax (suc (length ts)))

abbrev pub is_where : Kind → Bool
is_where where_ = true
is_where _ = false

abbrev pub is_maxspan : Kind → Bool
is_maxspan maxspan_ = true
is_maxspan _ = false

abbrev pub is_runs : Kind → Bool
is_runs (name w) = bytes_eq w (codes "runs")
is_runs _ = false

abbrev pub is_assign : Kind → Bool
is_assign assign_ = true
is_assign _ = false

abbrev pub is_open_item : Kind → Bool
is_open_item open_item_ = true
is_open_item _ = false

abbrev pub is_close_item : Kind → Bool
is_close_item close_item_ = true
is_close_item _ = false

abbrev pub number_at : List Kind → Res ℤ
number_at (number n ∷ ts) = Ok (n, ts)
number_at ts = Err (Syntax (length ts))

-- a category and a condition
abbrev pub Conditioned : Type 0
Conditioned = Option (List ℕ) × Tree

abbrev pub keys : List Kind → Res (List FieldRef)
keys (by_ ∷ ts) = comma_list field ts
keys ts = Ok ([], ts)

abbrev pub runs : List Kind → Res ℤ
runs (with_ ∷ ts) = behind_expected is_runs (behind_expected is_assign number_at) ts
runs ts = Ok (pos 1, ts)

abbrev pub term_tree_of : Conditioned → List FieldRef → ℤ → TermTree
term_tree_of c fs n = record { category = c.0; cond = c.1; by = fs; runs = n }

abbrev pub behind_term : Conditioned → List Kind → Res (Conditioned × List FieldRef)
behind_term c ts = behind_expected is_close_item (λ us. res_map (λ fs. (c, fs)) (keys us)) ts

abbrev pub items_more : (List Kind → Res (List TermTree)) → TermTree → List Kind → Res (List TermTree)
items_more again i (open_item_ ∷ ts) = res_map (λ is. i ∷ is) (again (open_item_ ∷ ts))
items_more again i (bang_ ∷ open_item_ ∷ ts) = Err (LeftOut (codes "!") (suc (suc (length ts))))
items_more again i ts = Ok (i ∷ [], ts)

abbrev pub unit_named : ℤ → List ℕ → Option TimeUnit → List Kind → Res (Option Span)
unit_named n w (Some u) ts = Ok (Some (record { count = n; unit = u }), ts)
unit_named n w None ts = Err (if is_fine_unit w then LeftOut w (suc (length ts)) else Syntax (suc (length ts)))

abbrev pub unit_at : ℤ → List Kind → Res (Option Span)
unit_at n (name w ∷ ts) = unit_named n w (unit_of w) ts
unit_at n ts = Err (Syntax (length ts))

abbrev pub span : List Kind → Res (Option Span)
span (with_ ∷ ts) = behind_expected is_maxspan (behind_expected is_assign (λ us. then_do (number_at us) unit_at)) ts
span ts = Ok (None, ts)

abbrev pub pipe_named : List ℕ → Option (ℤ → PipeText) → List Kind → Res PipeText
pipe_named w (Some make) ts = res_map make (number_at ts)
pipe_named w None ts = Err (LeftOut w (suc (length ts)))

abbrev pub pipe : List Kind → Res PipeText
pipe (name w ∷ ts) = pipe_named w (pipe_of w) ts
pipe ts = Err (Syntax (length ts))

-- pipes up to the end, at most n
unfoldable pub pipes : ℕ → List Kind → Res (List PipeText)
pipes zero [] = Ok ([], [])
pipes zero (k ∷ ts) = Err (Syntax (suc (length ts)))
pipes (suc n) [] = Ok ([], [])
pipes (suc n) (bar_ ∷ ts) = then_do (pipe ts) (λ p us. res_map (λ ps. p ∷ ps) (pipes n us))
pipes (suc n) (k ∷ ts) = Err (Syntax (suc (length ts)))

abbrev pub behind_body : BodyTree → List Kind → Res QueryTree
behind_body b ts = res_map (λ ps. record { body = b; pipes = ps }) (pipes (length ts) ts)

-- `condition` reads the condition of a term.
module _ (condition : List Kind → Res Tree) where
  abbrev pub term_of : Option (Option (List ℕ)) → List Kind → Res Conditioned
  term_of None ts = Err (Syntax (suc (length ts)))
  term_of (Some c) ts = behind_expected is_where (λ us. res_map (λ e. (c, e)) (condition us)) ts

  abbrev pub term : List Kind → Res Conditioned
  term [] = Err (Syntax 0)
  term (k ∷ ts) = term_of (category k) ts

  abbrev pub bracketed_term : List Kind → Res (Conditioned × List FieldRef)
  bracketed_term ts = behind_expected is_open_item (λ us. then_do (term us) behind_term) ts

  abbrev pub item : List Kind → Res TermTree
  item (bang_ ∷ open_item_ ∷ ts) = Err (LeftOut (codes "!") (suc (suc (length ts))))
  item ts = then_do (bracketed_term ts) (λ x us. res_map (term_tree_of x.0 x.1) (runs us))

  unfoldable pub items : ℕ → List Kind → Res (List TermTree)
  items zero ts = Err (Syntax (length ts))
  items (suc n) ts = then_do (item ts) (items_more (items n))

  abbrev pub until : List Kind → Res (Option TermTree)
  until (until_ ∷ ts) = res_map (λ x. Some (term_tree_of x.0 x.1 (pos 1))) (bracketed_term ts)
  until ts = Ok (None, ts)

  abbrev pub behind_items : List FieldRef → Option Span → List TermTree → List Kind → Res BodyTree
  behind_items fs s is ts = res_map (λ u. sequence fs s is u) (until ts)

  abbrev pub behind_span : List FieldRef → Option Span → List Kind → Res BodyTree
  behind_span fs s ts = then_do (items (length ts) ts) (behind_items fs s)

  abbrev pub behind_keys : List FieldRef → List Kind → Res BodyTree
  behind_keys fs ts = then_do (span ts) (behind_span fs)

  abbrev pub body : List Kind → Res BodyTree
  body (sample_ ∷ ts) = Err (LeftOut (codes "sample") (suc (length ts)))
  body (join_ ∷ ts) = Err (LeftOut (codes "join") (suc (length ts)))
  body (sequence_ ∷ ts) = then_do (keys ts) behind_keys
  body ts = res_map (λ c. event (term_tree_of c [] (pos 1))) (term ts)

  abbrev pub query_by : List Kind → Res QueryTree
  query_by ts = then_do (body ts) behind_body

abbrev pub query : List Kind → Res QueryTree
query = query_by (expr most_open most_levels)
