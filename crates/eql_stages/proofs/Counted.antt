-- How many stages a checked query has, and that its span is no negative time.
use Rattle.std.proofs.Common.{◌≡◌, ◌≤◌, ℕ, ◌+◌, ℤ, pos, negsuc, ◌≤ℤ◌, ◌*ℤ◌, ◌&&◌, true, List, [], ◌∷◌, ◌++◌, Some, None, length, refl, ap, sym, ◌∙◌, arith}
use Rattle.std.proofs.lemmas.Int.{ints}
use Rattle.std.specs.Prelude.{int_le, ◌+ℤ◌}
use Rattle.std.specs.List.{list_all, flat_map}
use Rattle.std.proofs.lemmas.Bool.{and_parts, leb-true}
use Rattle.std.proofs.lemmas.List.{length-append, length-replicate}
use Rattle.eql_query.specs.declared.expr.FieldRef.{FieldRef}
use Rattle.eql_query.specs.declared.query.Unit.{Unit as SpanUnit}
use Rattle.eql_query.specs.declared.query.Unit.TheVariants as unit
use Rattle.eql_query.specs.QueryTree.{TermTree, BodyTree, event, sequence}
use Rattle.eql_check.specs.Conditions.{all_items, as_list}
use Rattle.eql_check.specs.Rules.{are_runs, has_runs, longest, span_of, stage_count}
use Rattle.eql_check.specs.Typing.{has_stages, may_span}
use Rattle.eql_laws.specs.Alive.{IsSpan}
use Rattle.eql_stages.specs.Stages.{count_of, item_stages, nanos_of, span_in, stages_in}
use Rattle.eql_stages.proofs.Fits.{all-append}

counted : (n : ℤ) → are_runs n ≡ true → n ≡ pos (count_of n)
counted (pos n) h = refl
counted (negsuc n) h = cc

-- the runs of an item are 1 to 100
pub runs_between : (n : ℤ) → are_runs n ≡ true → (1 ≤ count_of n) × (count_of n ≤ 100)
runs_between (pos n) h =
    let both = and_parts (int_le (pos 1) (pos n)) (int_le (pos n) (pos 100)) h in
    (leb-true 1 n both.0, leb-true n 100 both.1)
runs_between (negsuc n) h = cc

stages_summed : (by : List FieldRef) (items : List TermTree) → list_all has_runs items ≡ true
    → stage_count items ≡ pos (length (flat_map (item_stages by) items))
stages_summed by [] h = refl
stages_summed by (term ∷ items) h =
    let both = and_parts (has_runs term) (list_all has_runs items) h in
    let parts : length (item_stages by term ++ flat_map (item_stages by) items) ≡ count_of term.runs + length (flat_map (item_stages by) items) =
    length-append (item_stages by term) (flat_map (item_stages by) items)
    ∙ ap (λ (n : ℕ). n + length (flat_map (item_stages by) items)) (length-replicate (count_of term.runs) _) in
    (λ i. counted term.runs both.0 i +ℤ stages_summed by items both.1 i) ∙ ap pos (sym parts)

-- at least one stage, and at most 256
pub stages_between : (body : BodyTree) → has_stages body ≡ true → list_all has_runs (all_items body) ≡ true
    → (1 ≤ length (stages_in body)) × (length (stages_in body) ≤ 256)
stages_between (event term) some runs = (omega arith, omega arith)
stages_between (sequence by span items until) some runs =
    let sum = stages_summed by items (all-append has_runs items (as_list until) runs).0 in
    let both = and_parts (int_le (pos 2) (stage_count items)) (int_le (stage_count items) (pos 256)) some in
    let least : 2 ≤ length (flat_map (item_stages by) items) =
    leb-true 2 _ (ap (λ (n : ℤ). int_le (pos 2) n) (sym sum) ∙ both.0) in
    let most : length (flat_map (item_stages by) items) ≤ 256 =
    leb-true _ 256 (ap (λ (n : ℤ). int_le n (pos 256)) (sym sum) ∙ both.1) in
    (omega arith, most)

-- ---- the span
count_times : (n : ℕ) (u : SpanUnit) → pos 0 ≤ℤ (pos n *ℤ nanos_of u)
count_times n unit.Ms = omega (arith, ints)
count_times n unit.S = omega (arith, ints)
count_times n unit.M = omega (arith, ints)
count_times n unit.H = omega (arith, ints)
count_times n unit.D = omega (arith, ints)

count_is : (n : ℤ) (most : ℤ) (u : SpanUnit) → (int_le (pos 1) n && int_le n most) ≡ true → pos 0 ≤ℤ (n *ℤ nanos_of u)
count_is (pos n) most u h = count_times n u
count_is (negsuc n) most u h = cc

pub span_is : (body : BodyTree) → may_span (span_of body) ≡ true → IsSpan (span_in body)
span_is (event term) h = tt
span_is (sequence by None items until) h = tt
span_is (sequence by (Some span) items until) h = count_is span.count (longest span.unit) span.unit h
