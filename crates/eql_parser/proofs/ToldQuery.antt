-- What the descent returns for a query, against the tokens that it was given.
use Rattle.std.proofs.Common.{◌≡◌, ℕ, zero, suc, Bool, true, false, if◌then◌else◌, List, [], ◌∷◌, length, Option, Some, None, Err, refl, arith}
use Rattle.std.specs.Prelude.{ℤ, pos}
use Rattle.eql_query.specs.declared.expr.FieldRef.{FieldRef}
use Rattle.eql_query.specs.declared.query.Span.{Span}
use Rattle.eql_query.specs.declared.query.Unit.{Unit as TimeUnit}
use Rattle.eql_query.specs.declared.query.PipeText.{PipeText}
use Rattle.eql_query.specs.Tree.{Tree}
use Rattle.eql_query.specs.QueryTree.{TermTree, BodyTree, event, sequence}
use Rattle.eql_parser.specs.Kinds.{Kind, bang_, bar_, by_, join_, sample_, sequence_, until_, with_, name, number, open_, close_, open_item_}
use Rattle.eql_parser.specs.QueryGrammar.{category, is_fine_unit, pipe_of, unit_of}
use Rattle.eql_parser.specs.Reading.{Syntax, LeftOut, Res, then_do, res_map, comma_list, field}
use Rattle.eql_parser.specs.QueryReading as q
use Rattle.eql_parser.specs.QueryReading.{Conditioned, behind_expected, is_where, is_maxspan, is_runs, is_assign, is_open_item, is_close_item, number_at, term_tree_of, items_more, unit_named, unit_at, pipe_named, behind_term, behind_body}
use Rattle.eql_parser.proofs.Opens.{plain_true, plain_some}
use Rattle.eql_parser.proofs.Told.{Told, upto_here, upto_behind, told_then, told_map, told_here, told_plain, told_one, told_if, told_listed, told_field}

pub told_expected : {A : Type 0} (d : ℕ) (is : Kind → Bool) (go : List Kind → Res A) (us : List Kind) → is open_ ≡ false → is close_ ≡ false
    → ((vs : List Kind) → Told d vs (go vs)) → Told d us (behind_expected is go us)
told_expected d is go [] o c h = upto_here d _
told_expected d is go (k ∷ us) o c h =
    told_if d (k ∷ us) (is k) (go us) (Err (Syntax (suc (length us)))) (λ e. told_plain d k us (go us) (plain_true is o c k e) (h us)) (λ e. upto_here d _)

pub told_number : (d : ℕ) (us : List Kind) → Told d us (number_at us)
told_number d (number n ∷ us) = told_one d (number n) n us tt
told_number d [] = upto_here d _
told_number d (_ ∷ us) = upto_here d _

pub told_keys : (d : ℕ) (us : List Kind) → Told d us (q.keys us)
told_keys d (by_ ∷ us) = told_plain d by_ us (comma_list field us) tt (told_listed d field us (told_field d))
told_keys d [] = told_here {A = List FieldRef} d [] []
told_keys d (k ∷ us) = told_here {A = List FieldRef} d [] (k ∷ us)

pub told_runs : (d : ℕ) (us : List Kind) → Told d us (q.runs us)
told_runs d (with_ ∷ us) =
    told_plain d with_ us (behind_expected is_runs (behind_expected is_assign number_at) us) tt
    (told_expected d is_runs (behind_expected is_assign number_at) us refl refl (λ vs. told_expected d is_assign number_at vs refl refl (told_number d)))
told_runs d [] = told_here d (pos 1) []
told_runs d (k ∷ us) = told_here d (pos 1) (k ∷ us)

pub told_behind_term : (d : ℕ) (c : Conditioned) (us : List Kind) → Told d us (behind_term c us)
told_behind_term d c us =
    told_expected d is_close_item (λ vs. res_map (λ fs. (c, fs)) (q.keys vs)) us refl refl (λ vs. told_map d vs (λ fs. (c, fs)) (q.keys vs) (told_keys d vs))

pub told_items_more : (d : ℕ) (again : List Kind → Res (List TermTree)) (i : TermTree) (us : List Kind) → ((vs : List Kind) → Told d vs (again vs)) → Told d us (items_more again i us)
told_items_more d again i (open_item_ ∷ us) h = told_map d (open_item_ ∷ us) (λ is. i ∷ is) (again (open_item_ ∷ us)) (h (open_item_ ∷ us))
told_items_more d again i (bang_ ∷ open_item_ ∷ us) h = (omega arith, upto_here d _)
told_items_more d again i [] h = told_here d (i ∷ []) []
told_items_more d again i (k ∷ us) h = told_here d (i ∷ []) (k ∷ us)

fine_or_not : (d : ℕ) (n : ℤ) (w : List ℕ) (us : List Kind) (b : Bool)
    → Told d (number n ∷ name w ∷ us) {A = Option Span} (Err (if b then LeftOut w (suc (length us)) else Syntax (suc (length us))))
fine_or_not d n w us true = (omega arith, upto_behind d (number n) (name w ∷ us) tt)
fine_or_not d n w us false = upto_behind d (number n) (name w ∷ us) tt

told_unit_named : (d : ℕ) (n : ℤ) (w : List ℕ) (u : Option TimeUnit) (us : List Kind) → Told d (number n ∷ name w ∷ us) (unit_named n w u us)
told_unit_named d n w (Some u) us =
    told_plain d (number n) (name w ∷ us) (unit_named n w (Some u) us) tt (told_one {A = Option Span} d (name w) (Some (record { count = n; unit = u })) us tt)
told_unit_named d n w None us = fine_or_not d n w us (is_fine_unit w)

told_unit : (d : ℕ) (n : ℤ) (us : List Kind) → Told d (number n ∷ us) (unit_at n us)
told_unit d n (name w ∷ us) = told_unit_named d n w (unit_of w) us
told_unit d n [] = upto_behind d (number n) [] tt
told_unit d n (k ∷ us) = upto_behind d (number n) (k ∷ us) tt

pub told_number_unit : (d : ℕ) (us : List Kind) → Told d us (then_do (number_at us) unit_at)
told_number_unit d (number n ∷ us) = told_unit d n us
told_number_unit d [] = upto_here d _
told_number_unit d (_ ∷ us) = upto_here d _

pub told_span : (d : ℕ) (us : List Kind) → Told d us (q.span us)
told_span d (with_ ∷ us) =
    told_plain d with_ us (behind_expected is_maxspan (behind_expected is_assign (λ vs. then_do (number_at vs) unit_at)) us) tt
    (told_expected d is_maxspan (behind_expected is_assign (λ vs. then_do (number_at vs) unit_at)) us refl refl
    (λ vs. told_expected d is_assign (λ ws. then_do (number_at ws) unit_at) vs refl refl (told_number_unit d)))
told_span d [] = told_here {A = Option Span} d None []
told_span d (k ∷ us) = told_here {A = Option Span} d None (k ∷ us)

told_pipe_named : (d : ℕ) (w : List ℕ) (p : Option (ℤ → PipeText)) (us : List Kind) → Told d (bar_ ∷ name w ∷ us) (pipe_named w p us)
told_pipe_named d w (Some make) us =
    told_plain d bar_ (name w ∷ us) (res_map make (number_at us)) tt (told_plain d (name w) us (res_map make (number_at us)) tt (told_map d us make (number_at us) (told_number d us)))
told_pipe_named d w None us = (omega arith, upto_behind d bar_ (name w ∷ us) tt)

pub told_pipe : (d : ℕ) (us : List Kind) → Told d (bar_ ∷ us) (q.pipe us)
told_pipe d (name w ∷ us) = told_pipe_named d w (pipe_of w) us
told_pipe d [] = upto_behind d bar_ [] tt
told_pipe d (k ∷ us) = upto_behind d bar_ (k ∷ us) tt

pub told_pipes : (d n : ℕ) (us : List Kind) → Told d us (q.pipes n us)
unfolding q.pipes
told_pipes d zero [] = told_here {A = List PipeText} d [] []
told_pipes d zero (k ∷ us) = upto_here d _
told_pipes d (suc n) [] = told_here {A = List PipeText} d [] []
told_pipes d (suc n) (bar_ ∷ us) =
    told_then d (bar_ ∷ us) (q.pipe us) (λ p vs. res_map (λ ps. p ∷ ps) (q.pipes n vs)) (told_pipe d us) (λ p vs. told_map d vs (λ ps. p ∷ ps) (q.pipes n vs) (told_pipes d n vs))
told_pipes d (suc n) (k ∷ us) = upto_here d _

pub told_behind_body : (d : ℕ) (b : BodyTree) (us : List Kind) → Told d us (behind_body b us)
told_behind_body d b us = told_map d us (λ ps. record { body = b; pipes = ps }) (q.pipes (length us) us) (told_pipes d (length us) us)

module _ (d : ℕ) (condition : List Kind → Res Tree) (told : (us : List Kind) → Told d us (condition us)) where
  pub told_term_of : (k : Kind) (c : Option (Option (List ℕ))) (us : List Kind) → category k ≡ c → Told d (k ∷ us) (q.term_of condition c us)
  told_term_of k None us e = upto_here d _
  told_term_of k (Some c) us e =
      told_plain d k us (behind_expected is_where (λ vs. res_map (λ x. (c, x)) (condition vs)) us) (plain_some category refl refl k c e)
      (told_expected d is_where (λ vs. res_map (λ x. (c, x)) (condition vs)) us refl refl (λ vs. told_map d vs (λ x. (c, x)) (condition vs) (told vs)))

  pub told_term : (us : List Kind) → Told d us (q.term condition us)
  told_term [] = upto_here d _
  told_term (k ∷ us) = told_term_of k (category k) us refl

  pub told_bracketed : (us : List Kind) → Told d us (q.bracketed_term condition us)
  told_bracketed us =
      told_expected d is_open_item (λ vs. then_do (q.term condition vs) behind_term) us refl refl
      (λ vs. told_then d vs (q.term condition vs) behind_term (told_term vs) (told_behind_term d))

  told_item_here : (us : List Kind) → Told d us (then_do (q.bracketed_term condition us) (λ x vs. res_map (term_tree_of x.0 x.1) (q.runs vs)))
  told_item_here us =
      told_then d us (q.bracketed_term condition us) (λ x vs. res_map (term_tree_of x.0 x.1) (q.runs vs)) (told_bracketed us)
      (λ x vs. told_map d vs (term_tree_of x.0 x.1) (q.runs vs) (told_runs d vs))

  pub told_item : (us : List Kind) → Told d us (q.item condition us)
  told_item (bang_ ∷ open_item_ ∷ us) = (omega arith, upto_here d _)
  told_item us = told_item_here us

  pub told_items : (n : ℕ) (us : List Kind) → Told d us (q.items condition n us)
  unfolding q.items
  told_items zero us = upto_here d _
  told_items (suc n) us =
      told_then d us (q.item condition us) (items_more (q.items condition n)) (told_item us) (λ i vs. told_items_more d (q.items condition n) i vs (told_items n))

  pub told_until : (us : List Kind) → Told d us (q.until condition us)
  told_until (until_ ∷ us) =
      told_plain d until_ us (res_map (λ x. Some (term_tree_of x.0 x.1 (pos 1))) (q.bracketed_term condition us)) tt
      (told_map d us (λ x. Some (term_tree_of x.0 x.1 (pos 1))) (q.bracketed_term condition us) (told_bracketed us))
  told_until [] = told_here {A = Option TermTree} d None []
  told_until (k ∷ us) = told_here {A = Option TermTree} d None (k ∷ us)

  pub told_behind_items : (fs : List FieldRef) (s : Option Span) (is : List TermTree) (us : List Kind) → Told d us (q.behind_items condition fs s is us)
  told_behind_items fs s is us = told_map d us (λ u. sequence fs s is u) (q.until condition us) (told_until us)

  pub told_behind_span : (fs : List FieldRef) (s : Option Span) (us : List Kind) → Told d us (q.behind_span condition fs s us)
  told_behind_span fs s us = told_then d us (q.items condition (length us) us) (q.behind_items condition fs s) (told_items (length us) us) (told_behind_items fs s)

  pub told_behind_keys : (fs : List FieldRef) (us : List Kind) → Told d us (q.behind_keys condition fs us)
  told_behind_keys fs us = told_then d us (q.span us) (q.behind_span condition fs) (told_span d us) (told_behind_span fs)

  pub told_sequence : (us : List Kind) → Told d (sequence_ ∷ us) (then_do (q.keys us) (q.behind_keys condition))
  told_sequence us =
      told_plain d sequence_ us (then_do (q.keys us) (q.behind_keys condition)) tt (told_then d us (q.keys us) (q.behind_keys condition) (told_keys d us) told_behind_keys)

  pub told_event : (us : List Kind) → Told d us (res_map (λ c. event (term_tree_of c [] (pos 1))) (q.term condition us))
  told_event us = told_map d us (λ c. event (term_tree_of c [] (pos 1))) (q.term condition us) (told_term us)

  pub told_body : (us : List Kind) → Told d us (q.body condition us)
  told_body (sample_ ∷ us) = (omega arith, upto_here d _)
  told_body (join_ ∷ us) = (omega arith, upto_here d _)
  told_body (sequence_ ∷ us) = told_sequence us
  told_body [] = told_event []
  told_body (k ∷ us) = told_event (k ∷ us)

  pub told_query : (us : List Kind) → Told d us (q.query_by condition us)
  told_query us = told_then d us (q.body condition us) behind_body (told_body us) (told_behind_body d)
