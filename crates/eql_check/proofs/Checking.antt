-- No rule is broken exactly when there is no first broken rule.
use Rattle.std.proofs.Common.{◌≡◌, ℕ, ◌+◌, pos, List, [], ◌∷◌, length, true, ◌&&◌, Option, Some, None, refl, ap, ◌∙◌}
use Rattle.std.specs.Prelude.{int_le, nat_le, ◌==◌}
use Rattle.std.specs.List.{list_all}
use Rattle.std.specs.declared.result.Result.TheVariants.{Ok, Err}
use Rattle.eql_values.specs.declared.value.Kind.{Kind}
use Rattle.eql_values.specs.declared.value.Kind.TheVariants as kind
use Rattle.eql_query.specs.QueryTree.{TermTree, BodyTree, event, sequence, QueryTree}
use Rattle.eql_query.specs.declared.expr.FieldRef.{FieldRef}
use Rattle.eql_query.specs.declared.query.Span.{Span}
use Rattle.eql_check.specs.declared.refused.CheckRefused.{CheckRefused}
use Rattle.eql_check.specs.declared.refused.CheckRefused.TheVariants as broken
use Rattle.eql_values.specs.Fitting.{may_be}
use Rattle.eql_check.specs.FirstBroken.{Found, kind_of}
use Rattle.eql_check.specs.Conditions.{all_items, own_count, shared_keys, key_count}
use Rattle.eql_check.specs.Used.{used_fields}
use Rattle.eql_check.specs.Rules.{Broken, unless, or_next, unless_bool, are_runs, is_known, keys_broken, item_broken, items_broken, kinds_broken, counts_broken, stage_count, stages_broken, capped_count, limit_broken, is_span, span_broken, span_of, is_pipe, pipes_broken, whole_broken, first_broken}
use Rattle.eql_check.specs.Typing.{IsItem, AreItems, no_items, more_items, has_stages, may_span, IsChecked, CheckIsExact}
use Rattle.eql_check.proofs.Breaking.{or_none, none_of, unless_none, unless_true, both_true}
use Rattle.eql_check.proofs.Typing.{both_ok, finds, holds}
use Rattle.eql_check.proofs.Alike.{alike_from, alike_to}

not_both : (b : Broken) (rule : CheckRefused) → b ≡ Some rule → b ≡ None → ⊥
not_both b rule e f = cc

-- a condition has a kind that may be Boolean
a_bool : (item : ℕ) (found : Found) → unless_bool item found ≡ None → (k : Option Kind) × (found ≡ Ok k) × (may_be kind.Bool k ≡ true)
a_bool item (Ok k) e = (k, refl, unless_none (may_be kind.Bool k) (broken.KindMismatch item) e)
a_bool item (Err rule) e = cc

is_bool : (item : ℕ) (found : Found) (k : Option Kind) → found ≡ Ok k → may_be kind.Bool k ≡ true → unless_bool item found ≡ None
is_bool item found k e f = ap (λ r. unless_bool item r) e ∙ unless_true (may_be kind.Bool k) (broken.KindMismatch item) f

counts_from : (count item : ℕ) (terms : List TermTree) → counts_broken count item terms ≡ None → list_all (λ term. length term.by == count) terms ≡ true
counts_from count item [] e = refl
counts_from count item (term ∷ terms) e =
    let x = or_none (unless (length term.by == count) (broken.KeyCount item)) (counts_broken count (item + 1) terms) e in
    both_true (length term.by == count) (list_all (λ term. length term.by == count) terms)
    (unless_none (length term.by == count) (broken.KeyCount item) x.0) (counts_from count (item + 1) terms x.1)

counts_to : (count item : ℕ) (terms : List TermTree) → list_all (λ term. length term.by == count) terms ≡ true → counts_broken count item terms ≡ None
counts_to count item [] e = refl
counts_to count item (term ∷ terms) e =
    let x = both_ok (length term.by == count) (list_all (λ term. length term.by == count) terms) e in
    none_of (unless (length term.by == count) (broken.KeyCount item)) (counts_broken count (item + 1) terms)
    (unless_true (length term.by == count) (broken.KeyCount item) x.0) (counts_to count (item + 1) terms x.1)

stages_from : (body : BodyTree) → stages_broken body ≡ None → has_stages body ≡ true
stages_from (event term) e = refl
stages_from (sequence by span items until) e =
    let n = stage_count items in
    let x = or_none (unless (int_le (pos 2) n) broken.FewStages) (unless (int_le n (pos 256)) (broken.ManyStages n)) e in
    both_true (int_le (pos 2) n) (int_le n (pos 256)) (unless_none (int_le (pos 2) n) broken.FewStages x.0) (unless_none (int_le n (pos 256)) (broken.ManyStages n) x.1)

stages_to : (body : BodyTree) → has_stages body ≡ true → stages_broken body ≡ None
stages_to (event term) e = refl
stages_to (sequence by span items until) e =
    let n = stage_count items in
    let x = both_ok (int_le (pos 2) n) (int_le n (pos 256)) e in
    none_of (unless (int_le (pos 2) n) broken.FewStages) (unless (int_le n (pos 256)) (broken.ManyStages n))
    (unless_true (int_le (pos 2) n) broken.FewStages x.0) (unless_true (int_le n (pos 256)) (broken.ManyStages n) x.1)

span_from : (span : Option Span) → span_broken span ≡ None → may_span span ≡ true
span_from None e = refl
span_from (Some span) e = unless_none (is_span span) broken.Span e

span_to : (span : Option Span) → may_span span ≡ true → span_broken span ≡ None
span_to None e = refl
span_to (Some span) e = unless_true (is_span span) broken.Span e

module _ (mapping : List ℕ → Option Kind) where
  keys_from : (keys : List FieldRef) → keys_broken mapping keys ≡ None → list_all (is_known mapping) keys ≡ true
  keys_from [] e = refl
  keys_from (key ∷ keys) e =
      let x = or_none (unless (is_known mapping key) (broken.UnknownField key.name)) (keys_broken mapping keys) e in
      both_true (is_known mapping key) (list_all (is_known mapping) keys) (unless_none (is_known mapping key) (broken.UnknownField key.name) x.0) (keys_from keys x.1)

  keys_to : (keys : List FieldRef) → list_all (is_known mapping) keys ≡ true → keys_broken mapping keys ≡ None
  keys_to [] e = refl
  keys_to (key ∷ keys) e =
      let x = both_ok (is_known mapping key) (list_all (is_known mapping) keys) e in
      none_of (unless (is_known mapping key) (broken.UnknownField key.name)) (keys_broken mapping keys)
      (unless_true (is_known mapping key) (broken.UnknownField key.name) x.0) (keys_to keys x.1)

  item_from : (item : ℕ) (term : TermTree) → item_broken mapping item term ≡ None → IsItem mapping term
  item_from item term e =
      let x = or_none (unless_bool item (kind_of item mapping term.cond)) (or_next (keys_broken mapping term.by) (unless (are_runs term.runs) (broken.Runs term.runs))) e in
      let y = or_none (keys_broken mapping term.by) (unless (are_runs term.runs) (broken.Runs term.runs)) x.1 in
      let k = a_bool item (kind_of item mapping term.cond) x.0 in
      record {
        its_kind = k.0;
        has_kind = holds item mapping term.cond k.0 k.1;
        is_condition = k.2;
        keys_known = keys_from term.by y.0;
        runs = unless_none (are_runs term.runs) (broken.Runs term.runs) y.1;
      }

  item_to : (item : ℕ) (term : TermTree) → IsItem mapping term → item_broken mapping item term ≡ None
  item_to item term i =
      none_of (unless_bool item (kind_of item mapping term.cond)) (or_next (keys_broken mapping term.by) (unless (are_runs term.runs) (broken.Runs term.runs)))
      (is_bool item (kind_of item mapping term.cond) i.its_kind (finds item mapping i.has_kind) i.is_condition)
      (none_of (keys_broken mapping term.by) (unless (are_runs term.runs) (broken.Runs term.runs))
      (keys_to term.by i.keys_known) (unless_true (are_runs term.runs) (broken.Runs term.runs) i.runs))

  items_from : (item : ℕ) (terms : List TermTree) → items_broken mapping item terms ≡ None → AreItems mapping terms
  items_from item [] e = no_items
  items_from item (term ∷ terms) e =
      let x = or_none (item_broken mapping item term) (items_broken mapping (item + 1) terms) e in
      more_items (item_from item term x.0) (items_from (item + 1) terms x.1)

  items_to : (item : ℕ) (terms : List TermTree) → AreItems mapping terms → items_broken mapping item terms ≡ None
  items_to item [] no_items = refl
  items_to item (term ∷ terms) (more_items i is) =
      none_of (item_broken mapping item term) (items_broken mapping (item + 1) terms) (item_to item term i) (items_to (item + 1) terms is)

  module _ (query : QueryTree) where
    abbrev items : List TermTree
    items = all_items query.body

    abbrev counts_b : Broken
    counts_b = counts_broken (own_count items) 1 items

    abbrev kinds_b : Broken
    kinds_b = kinds_broken mapping [] 1 items

    abbrev keys_b : Broken
    keys_b = limit_broken 8 (key_count query.body) broken.ManyKeys

    abbrev fields_b : Broken
    fields_b = limit_broken 64 (length (used_fields mapping query)) broken.ManyFields

    abbrev span_b : Broken
    span_b = span_broken (span_of query.body)

    abbrev pipes_b : Broken
    pipes_b = pipes_broken query.pipes

    checked_from : first_broken mapping query ≡ None → IsChecked mapping query
    checked_from e =
        let a = or_none (keys_broken mapping (shared_keys query.body)) (or_next (items_broken mapping 1 items) (whole_broken mapping query)) e in
        let b = or_none (items_broken mapping 1 items) (whole_broken mapping query) a.1 in
        let c = or_none counts_b (or_next kinds_b (or_next (stages_broken query.body) (or_next keys_b (or_next fields_b (or_next span_b pipes_b))))) b.1 in
        let d = or_none kinds_b (or_next (stages_broken query.body) (or_next keys_b (or_next fields_b (or_next span_b pipes_b)))) c.1 in
        let f = or_none (stages_broken query.body) (or_next keys_b (or_next fields_b (or_next span_b pipes_b))) d.1 in
        let g = or_none keys_b (or_next fields_b (or_next span_b pipes_b)) f.1 in
        let h = or_none fields_b (or_next span_b pipes_b) g.1 in
        let i = or_none span_b pipes_b h.1 in
        let p = both_ok (nat_le (length query.pipes) 8) (list_all is_pipe query.pipes)
        (unless_none (nat_le (length query.pipes) 8 && list_all is_pipe query.pipes) broken.Pipe i.1) in
        record {
          shared_known = keys_from (shared_keys query.body) a.0;
          items = items_from 1 items b.0;
          as_many_keys = counts_from (own_count items) 1 items c.0;
          alike_keys = alike_from mapping items d.0;
          stages = stages_from query.body f.0;
          few_keys = unless_none (nat_le (key_count query.body) 8) (broken.ManyKeys (capped_count (key_count query.body))) g.0;
          few_fields = unless_none (nat_le (length (used_fields mapping query)) 64) (broken.ManyFields (capped_count (length (used_fields mapping query)))) h.0;
          span = span_from (span_of query.body) i.0;
          few_pipes = p.0;
          pipes = p.1;
        }

    checked_to : IsChecked mapping query → first_broken mapping query ≡ None
    checked_to c =
        none_of (keys_broken mapping (shared_keys query.body)) (or_next (items_broken mapping 1 items) (whole_broken mapping query)) (keys_to (shared_keys query.body) c.shared_known)
        (none_of (items_broken mapping 1 items) (whole_broken mapping query) (items_to 1 items c.items)
        (none_of counts_b (or_next kinds_b (or_next (stages_broken query.body) (or_next keys_b (or_next fields_b (or_next span_b pipes_b))))) (counts_to (own_count items) 1 items c.as_many_keys)
        (none_of kinds_b (or_next (stages_broken query.body) (or_next keys_b (or_next fields_b (or_next span_b pipes_b)))) (alike_to mapping items c.alike_keys)
        (none_of (stages_broken query.body) (or_next keys_b (or_next fields_b (or_next span_b pipes_b))) (stages_to query.body c.stages)
        (none_of keys_b (or_next fields_b (or_next span_b pipes_b)) (unless_true (nat_le (key_count query.body) 8) (broken.ManyKeys (capped_count (key_count query.body))) c.few_keys)
        (none_of fields_b (or_next span_b pipes_b) (unless_true (nat_le (length (used_fields mapping query)) 64) (broken.ManyFields (capped_count (length (used_fields mapping query)))) c.few_fields)
        (none_of span_b pipes_b (span_to (span_of query.body) c.span)
        (unless_true (nat_le (length query.pipes) 8 && list_all is_pipe query.pipes) broken.Pipe
        (both_true (nat_le (length query.pipes) 8) (list_all is_pipe query.pipes) c.few_pipes c.pipes)))))))))

pub exactly_checked : CheckIsExact
exactly_checked mapping query = (λ e. checked_from mapping query e, λ c. checked_to mapping query c)

pub is_checked : (mapping : List ℕ → Option Kind) (query : QueryTree) → first_broken mapping query ≡ None → IsChecked mapping query
is_checked mapping query e = checked_from mapping query e

pub not_checked : (mapping : List ℕ → Option Kind) (query : QueryTree) (rule : CheckRefused) → first_broken mapping query ≡ Some rule → ¬ IsChecked mapping query
not_checked mapping query rule e c = not_both (first_broken mapping query) rule e (checked_to mapping query c)
