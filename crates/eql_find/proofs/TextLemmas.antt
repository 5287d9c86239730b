-- The search of a run, and the texts of its lanes.
use native.Mathlib.Omega.{arith}
use Rattle.std.proofs.Common.{◌≡◌, ◌≢◌, ◌+◌, ◌<◌, ℕ, List, [], ◌∷◌, Option, Some, None, true, refl, sym, ap, ap₂, ◌∙◌, subst, length, map, suc, zero}
use Rattle.std.specs.Prelude.{is_some, slice_get}
use Rattle.std.proofs.lemmas.Bool.{false≢true}
use Rattle.std.proofs.lemmas.List.{length-map}
use Rattle.std.proofs.lemmas.Option.{none-some, same_Some}
use Rattle.eql_values.specs.declared.value.Kind.{Kind as FieldKind}
use Rattle.eql_values.specs.Accepted.{Reads}
use Rattle.eql_outside.specs.Outside.{file_named}
use Rattle.eql_outside.specs.Plans.{FaultPlan}
use Rattle.eql_check.specs.Kinds.{kind_at}
use Rattle.eql_query.specs.QueryTree.{query_tree}
use Rattle.eql_stages.specs.Planned.{PlanOf, Planned, planned_query}
use Rattle.eql_check.specs.Checks.{CheckedQuery}
use Rattle.eql_check.specs.Used.{used_fields}
use Rattle.eql_inputs.specs.Steps.{GotChecked}
use Rattle.eql_words.specs.declared.commands.Checkpoint.{Checkpoint}
use Rattle.eql_words.specs.declared.commands.Find.{Find}
use Rattle.eql_words.specs.Bounds.{FindIsBounded}
use Rattle.eql_lane.specs.declared.make.LaneStart.{LaneStart}
use Rattle.eql_lane.specs.Views.{LaneView, IsTextOf}
use Rattle.eql_runs.specs.Files.{Files, HasTexts}
use Rattle.eql_runs.specs.Runs.{Searches}
use Rattle.eql_runs.specs.Searches.{plan_of}
use Rattle.eql_runs.specs.Starts.{IsHeadOf, OnDisk, start_asked}
use Rattle.eql_search.specs.Searches.{AreTextsOf}
use Rattle.eql_find.specs.declared.plan.PlannedQuery.{PlannedQuery}
use Rattle.eql_find.specs.Finding.{IsPlanOf, text_told, texts_in}
use Rattle.eql_shards.specs.Lanes.{AreOver}
use Rattle.eql_find.specs.Searching.{head_in, search_in, slack_told}
use Rattle.eql_shards.proofs.MakingLemmas.{made_text}

-- equal lists have equal firsts and equal rests
pub parts_of : {X : Type 0} (x y : X) (xs ys : List X) → x ∷ xs ≡ y ∷ ys → (x ≡ y) × (xs ≡ ys)
parts_of x y xs ys e = (cc, cc)

-- ---- the search
-- it is planned as the plan says
pub plan_is : (find : Find) (files : Option Files) (p : PlannedQuery) → IsPlanOf find files p → planned_query p.plan ≡ plan_of (search_in find p)
plan_is find files p is =
    ap₂ (λ (f : List (List ℕ × FieldKind)) (t : Option (List ℕ)). let d : Planned = record { query = query_tree p.plan.checked.query; fields = f; tie = t } in d) is.fields is.tie

pub planning_is : (find : Find) (files : Option Files) (checked : CheckedQuery) (mapping : List (List ℕ × FieldKind)) (plan : PlanOf)
    → GotChecked find.query find.fields files (query_tree checked.query) mapping
    → checked.fields ≡ used_fields (kind_at mapping) (query_tree checked.query)
    → plan ≡ record { checked = checked; tie = find.tie } → IsPlanOf find files (record { plan = plan; mapping = mapping })
planning_is find files checked mapping plan got fields is = record {
  got = subst (λ (x : PlanOf). GotChecked find.query find.fields files (query_tree x.checked.query) mapping) (sym is) got;
  fields = subst (λ (x : PlanOf). x.checked.fields ≡ used_fields (kind_at mapping) (query_tree x.checked.query)) (sym is) fields;
  tie = ap PlanOf.tie is;
}

-- over texts that the files have
pub searches_in : (find : Find) (fs : Files) (p : PlannedQuery) (texts : List (List ℕ)) → IsPlanOf find (Some fs) p → HasTexts find.shards fs texts
    → Searches find fs (search_in find p) texts
searches_in find fs p texts is there = record { checked = is.got; tie = refl; slack = refl; places = refl; there = there }

-- a run with a checkpoint has a slack
slack_there : (slack : Option ℕ) → is_some slack ≡ true → slack ≡ Some (slack_told slack)
slack_there None h = absurd (false≢true h)
slack_there (Some ms) h = refl

some_asked : (c : Option Checkpoint) → c ≢ None → is_some c ≡ true
some_asked None asked = absurd (asked refl)
some_asked (Some c) asked = refl

pub asked_slack : (find : Find) → FindIsBounded find → find.checkpoint ≢ None → find.slack ≡ Some (slack_told find.slack)
asked_slack find bounds asked = slack_there find.slack (bounds.slack_too (some_asked find.checkpoint asked))

pub texts_long : (names : List (List ℕ)) (fs : Files) (texts : List (List ℕ)) → HasTexts names fs texts → length texts ≡ length names
texts_long [] fs [] h = refl
texts_long [] fs (t ∷ ts) h = absurd h
texts_long (n ∷ ns) fs [] h = absurd h
texts_long (n ∷ ns) fs (t ∷ ts) h = ap suc (texts_long ns fs ts h.1)

-- what its cuts say is what cuts of the search say
pub head_is : (find : Find) (p : PlannedQuery) (count : ℕ) → FindIsBounded find → find.checkpoint ≢ None → count ≡ length find.shards
    → IsHeadOf (search_in find p) count (head_in find p)
head_is find p count bounds asked many =
    record { query = refl; mapping_is = refl; tie = refl; slack = asked_slack find bounds asked; shards_are = sym many }

-- with a checkpoint a run begins with what its disk holds
pub begins_asked : (checkpoint : Option Checkpoint) (on : OnDisk) → checkpoint ≢ None → start_asked checkpoint on ≡ on
begins_asked None on asked = absurd (asked refl)
begins_asked (Some c) on asked = refl

-- ---- texts
-- those that the files have are told
told_one : (t : Option (List ℕ)) (ts : Option (List (List ℕ))) (text : List ℕ) (texts : List (List ℕ)) → t ≡ Some text → ts ≡ Some texts
    → text_told t ts ≡ Some (text ∷ texts)
told_one t ts text texts a b = ap₂ text_told a b

pub told_all : (names : List (List ℕ)) (fs : Files) (texts : List (List ℕ)) → HasTexts names fs texts → texts_in fs names ≡ Some texts
told_all [] fs [] h = refl
told_all [] fs (t ∷ ts) h = absurd h
told_all (n ∷ ns) fs [] h = absurd h
told_all (n ∷ ns) fs (t ∷ ts) h = told_one (file_named n fs) (texts_in fs ns) t ts h.0 (told_all ns fs ts h.1)

-- lanes over sources that have these texts left are of these texts
pub texts_over : {S L : Type 0} (left lent_as : S → Option (List ℕ)) (faults : S → ℕ) (plan : S → Option FaultPlan) (read_of : L → Reads)
    (reads : Reads) (slack : Option ℕ) (shard : ℕ) (sources : List S) (starts : List LaneStart) (lanes : List (LaneView S L)) (texts : List (List ℕ))
    → AreOver left lent_as faults plan read_of reads slack shard sources starts lanes → map left sources ≡ map (λ (t : List ℕ). Some t) texts
    → AreTextsOf left texts lanes
texts_over left lent_as faults plan read_of reads slack shard [] [] [] [] over is = tt
texts_over left lent_as faults plan read_of reads slack shard [] [] [] (t ∷ ts) over is = absurd (omega (arith, ap length is))
texts_over left lent_as faults plan read_of reads slack shard [] [] (l ∷ ls) texts over is = absurd over
texts_over left lent_as faults plan read_of reads slack shard [] (b ∷ bs) ls texts over is = absurd over
texts_over left lent_as faults plan read_of reads slack shard (s ∷ ss) [] ls texts over is = absurd over
texts_over left lent_as faults plan read_of reads slack shard (s ∷ ss) (b ∷ bs) [] texts over is = absurd over
texts_over left lent_as faults plan read_of reads slack shard (s ∷ ss) (b ∷ bs) (l ∷ ls) [] over is = absurd (omega (arith, ap length is))
texts_over left lent_as faults plan read_of reads slack shard (s ∷ ss) (b ∷ bs) (l ∷ ls) (t ∷ ts) over is =
    let parts = parts_of (left s) (Some t) (map left ss) (map (λ (u : List ℕ). Some u) ts) is in (
      subst (λ (o : Option (List ℕ)). IsTextOf left o l) parts.0 (made_text left lent_as faults s over.0.reader shard slack b l over.0.made),
      texts_over left lent_as faults plan read_of reads slack (shard + 1) ss bs ls ts over.1 parts.1,
    )

-- what is left of a source by its shard, and the source of a text
pub text_of_source : {S : Type 0} (left : S → Option (List ℕ)) (sources : List S) (texts : List (List ℕ)) (shard : ℕ) (source : S)
    → map left sources ≡ map (λ (t : List ℕ). Some t) texts → slice_get sources shard ≡ Some source
    → (text : List ℕ) × (slice_get texts shard ≡ Some text) × (left source ≡ Some text)
text_of_source left [] texts shard source is at = absurd (none-some source at)
text_of_source left (s ∷ ss) [] shard source is at = absurd (omega (arith, ap length is))
text_of_source left (s ∷ ss) (t ∷ ts) zero source is at =
    (t, refl, ap left (sym (same_Some s source at)) ∙ (parts_of (left s) (Some t) (map left ss) (map (λ (u : List ℕ). Some u) ts) is).0)
text_of_source left (s ∷ ss) (t ∷ ts) (suc shard) source is at =
    text_of_source left ss ts shard source (parts_of (left s) (Some t) (map left ss) (map (λ (u : List ℕ). Some u) ts) is).1 at

pub source_of_text : {S : Type 0} (left : S → Option (List ℕ)) (sources : List S) (texts : List (List ℕ)) (shard : ℕ) (text : List ℕ)
    → map left sources ≡ map (λ (t : List ℕ). Some t) texts → slice_get texts shard ≡ Some text
    → (source : S) × (slice_get sources shard ≡ Some source) × (left source ≡ Some text)
source_of_text left [] [] shard text is at = absurd (none-some text at)
source_of_text left [] (t ∷ ts) shard text is at = absurd (omega (arith, ap length is))
source_of_text left (s ∷ ss) [] shard text is at = absurd (none-some text at)
source_of_text left (s ∷ ss) (t ∷ ts) zero text is at =
    (s, refl, (parts_of (left s) (Some t) (map left ss) (map (λ (u : List ℕ). Some u) ts) is).0 ∙ at)
source_of_text left (s ∷ ss) (t ∷ ts) (suc shard) text is at =
    source_of_text left ss ts shard text (parts_of (left s) (Some t) (map left ss) (map (λ (u : List ℕ). Some u) ts) is).1 at

-- an element of a list by its place
pub some_at : {X : Type 0} (xs : List X) (s : ℕ) → s < length xs → (x : X) × (slice_get xs s ≡ Some x)
some_at [] s less = absurd (omega (arith, less))
some_at (x ∷ xs) zero less = (x, refl)
some_at (x ∷ xs) (suc s) less = some_at xs s (omega (arith, less))

-- as many sources as names, and as texts
pub as_many : {S : Type 0} (lent_as : S → Option (List ℕ)) (sources : List S) (names : List (List ℕ))
    → map lent_as sources ≡ map (λ (n : List ℕ). Some n) names → length sources ≡ length names
as_many lent_as sources names is =
    sym (length-map sources lent_as) ∙ ap length is ∙ length-map names (λ (n : List ℕ). Some n)
