-- The first rule that a query breaks: the rules of its items in the order of the text, and then those of the whole query.
use Rattle.std.specs.Prelude.{ℕ, ◌+◌, ℤ, pos, ◌+ℤ◌, int_le, List, [], ◌∷◌, map, length, Bool, true, ◌&&◌, ◌||◌, ◌==◌, nat_le, Option, Some, None, is_some, if◌then◌else◌}
use Rattle.std.specs.List.{list_all}
use Rattle.std.specs.declared.result.Result.TheVariants.{Ok, Err}
use Rattle.eql_values.specs.declared.value.Kind.{Kind}
use Rattle.eql_values.specs.declared.value.Kind.TheVariants as kind
use Rattle.eql_query.specs.QueryTree.{TermTree, BodyTree, event, sequence, QueryTree}
use Rattle.eql_query.specs.declared.expr.FieldRef.{FieldRef}
use Rattle.eql_query.specs.declared.query.Span.{Span}
use Rattle.eql_query.specs.declared.query.Unit.{Unit as SpanUnit}
use Rattle.eql_query.specs.declared.query.Unit.TheVariants.{Ms, S, M, H, D}
use Rattle.eql_query.specs.declared.query.PipeText.{PipeText}
use Rattle.eql_query.specs.declared.query.PipeText.TheVariants.{Head, Tail}
use Rattle.eql_check.specs.declared.refused.CheckRefused.{CheckRefused}
use Rattle.eql_check.specs.declared.refused.CheckRefused.TheVariants as broken
use Rattle.eql_values.specs.Fitting.{may_be}
use Rattle.eql_check.specs.Kinds.{alike}
use Rattle.eql_check.specs.FirstBroken.{Found, kind_of}
use Rattle.eql_check.specs.Conditions.{all_items, own_count, shared_keys, key_count}
use Rattle.eql_check.specs.Used.{used_fields}

-- a broken rule, or none
abbrev pub Broken : Type 0
Broken = Option CheckRefused

abbrev pub unless : Bool → CheckRefused → Broken
unless kept rule = if kept then None else Some rule

abbrev pub or_next : Broken → Broken → Broken
or_next None next = next
or_next (Some rule) next = Some rule

-- a condition may be Boolean
abbrev pub unless_bool : ℕ → Found → Broken
unless_bool item (Err rule) = Some rule
unless_bool item (Ok k) = unless (may_be kind.Bool k) (broken.KindMismatch item)

-- 1 to 100 in a row
abbrev pub are_runs : ℤ → Bool
are_runs count = int_le (pos 1) count && int_le count (pos 100)

abbrev pub has_runs : TermTree → Bool
has_runs term = are_runs term.runs

module _ (mapping : List ℕ → Option Kind) where
  abbrev pub is_known : FieldRef → Bool
  is_known key = is_some (mapping key.name) || key.optional

  -- keys are fields of the mapping, or optional
  abbrev pub keys_broken : List FieldRef → Broken
  keys_broken [] = None
  keys_broken (key ∷ keys) = or_next (unless (is_known key) (broken.UnknownField key.name)) (keys_broken keys)

  -- an item: its condition, its own keys, its runs
  abbrev pub item_broken : ℕ → TermTree → Broken
  item_broken item term =
      or_next (unless_bool item (kind_of item mapping term.cond)) (or_next (keys_broken term.by) (unless (are_runs term.runs) (broken.Runs term.runs)))

  abbrev pub items_broken : ℕ → List TermTree → Broken
  items_broken item [] = None
  items_broken item (term ∷ terms) = or_next (item_broken item term) (items_broken (item + 1) terms)

  -- the kinds of keys, which are none for those that are always null
  abbrev pub key_kinds : List FieldRef → List (Option Kind)
  key_kinds keys = map (λ key. mapping key.name) keys

-- the kinds of the keys of an item fit those that are settled by the items before, place by place
abbrev pub fit : List (Option Kind) → List (Option Kind) → Bool
fit (j ∷ js) (k ∷ ks) = alike j k && fit js ks
fit _ _ = true

-- at each place the kind that is settled, or else that of this item
abbrev pub settled_kinds : List (Option Kind) → List (Option Kind) → List (Option Kind)
settled_kinds js [] = js
settled_kinds [] (k ∷ ks) = k ∷ settled_kinds [] ks
settled_kinds (None ∷ js) (k ∷ ks) = k ∷ settled_kinds js ks
settled_kinds (Some j ∷ js) (k ∷ ks) = Some j ∷ settled_kinds js ks

-- the first item with a key that has another kind than the first at its place in the items before that isn't always null
abbrev pub kinds_broken : (List ℕ → Option Kind) → List (Option Kind) → ℕ → List TermTree → Broken
kinds_broken mapping before item [] = None
kinds_broken mapping before item (term ∷ terms) =
    or_next (unless (fit before (key_kinds mapping term.by)) (broken.KeyKind item)) (kinds_broken mapping (settled_kinds before (key_kinds mapping term.by)) (item + 1) terms)

-- the first item whose own keys aren't so many
abbrev pub counts_broken : ℕ → ℕ → List TermTree → Broken
counts_broken count item [] = None
counts_broken count item (term ∷ terms) = or_next (unless (length term.by == count) (broken.KeyCount item)) (counts_broken count (item + 1) terms)

-- how many stages items are, runs counted
abbrev pub stage_count : List TermTree → ℤ
stage_count [] = pos 0
stage_count (term ∷ terms) = term.runs +ℤ stage_count terms

-- a sequence has 2 to 256 stages
abbrev pub sequence_broken : ℤ → Broken
sequence_broken count = or_next (unless (int_le (pos 2) count) broken.FewStages) (unless (int_le count (pos 256)) (broken.ManyStages count))

abbrev pub stages_broken : BodyTree → Broken
stages_broken (event term) = None
stages_broken (sequence by span items until) = sequence_broken (stage_count items)

-- a count as a refusal tells it, which stands still at the greatest long
abbrev pub capped_count : ℕ → ℤ
capped_count count = if nat_le count 9223372036854775807 then pos count else pos 9223372036854775807

abbrev pub limit_broken : ℕ → ℕ → (ℤ → CheckRefused) → Broken
limit_broken limit count rule = unless (nat_le count limit) (rule (capped_count count))

-- 36,500 days in each unit
abbrev pub longest : SpanUnit → ℤ
longest Ms = pos 3153600000000
longest S = pos 3153600000
longest M = pos 52560000
longest H = pos 876000
longest D = pos 36500

-- a span is 1 ms to 36,500 days
abbrev pub is_span : Span → Bool
is_span span = int_le (pos 1) span.count && int_le span.count (longest span.unit)

abbrev pub span_broken : Option Span → Broken
span_broken None = None
span_broken (Some span) = unless (is_span span) broken.Span

abbrev pub span_of : BodyTree → Option Span
span_of (event term) = None
span_of (sequence by span items until) = span

abbrev pub pipe_count : PipeText → ℤ
pipe_count (Head count) = count
pipe_count (Tail count) = count

-- at most 8 pipes, and counts from 0 to 1,000,000
abbrev pub is_pipe : PipeText → Bool
is_pipe pipe = int_le (pos 0) (pipe_count pipe) && int_le (pipe_count pipe) (pos 1000000)

abbrev pub pipes_broken : List PipeText → Broken
pipes_broken pipes = unless (nat_le (length pipes) 8 && list_all is_pipe pipes) broken.Pipe

-- the rules of the whole query, in their order
abbrev pub whole_broken : (List ℕ → Option Kind) → QueryTree → Broken
whole_broken mapping query =
    or_next (counts_broken (own_count (all_items query.body)) 1 (all_items query.body))
    (or_next (kinds_broken mapping [] 1 (all_items query.body))
    (or_next (stages_broken query.body)
    (or_next (limit_broken 8 (key_count query.body) broken.ManyKeys)
    (or_next (limit_broken 64 (length (used_fields mapping query)) broken.ManyFields)
    (or_next (span_broken (span_of query.body)) (pipes_broken query.pipes))))))

-- the first rule that a query breaks
abbrev pub first_broken : (List ℕ → Option Kind) → QueryTree → Broken
first_broken mapping query =
    or_next (keys_broken mapping (shared_keys query.body)) (or_next (items_broken mapping 1 (all_items query.body)) (whole_broken mapping query))
