-- A run over the sources of its shards, as it was found to begin.
use native.Mathlib.Omega.{arith}
use Rattle.std.proofs.Common.{◌≡◌, ◌≢◌, ◌≤◌, inl, inr, ℕ, List, Option, Some, None, refl, sym, ap, ◌∙◌, subst, length, map}
use Rattle.std.specs.Prelude.{IfSome}
use Rattle.std.proofs.lemmas.Option.{none-some}
use Rattle.eql_values.specs.Accepted.{Reads}
use Rattle.eql_outside.specs.Moments.{History}
use Rattle.eql_outside.specs.Plans.{FaultPlan}
use Rattle.eql_check.specs.Kinds.{kind_at}
use Rattle.eql_check.specs.Typing.{IsChecked}
use Rattle.eql_query.specs.QueryTree.{query_tree}
use Rattle.eql_stages.specs.Planned.{line_of, planned_query}
use Rattle.eql_words.specs.Bounds.{FindIsBounded}
use Rattle.eql_words.specs.declared.commands.Find.{Find}
use Rattle.eql_lane.specs.declared.make.LaneRefused.{LaneRefused}
use Rattle.eql_lane.specs.declared.make.LaneRefused.TheVariants as refused
use Rattle.eql_lane.specs.declared.make.LaneStart.{LaneStart}
use Rattle.eql_lane.specs.Passing.{IsCause}
use Rattle.eql_lane.specs.Starts.{cut_of, known_of, wanted_of}
use Rattle.eql_lane.specs.Views.{LaneView}
use Rattle.eql_cut.specs.declared.cut.Cut.{Cut}
use Rattle.eql_cut.specs.declared.cut.CutHead.{CutHead}
use Rattle.eql_conductor.specs.declared.plan.Keep.{Keep}
use Rattle.eql_runs.specs.CutRefusals.{CutRefusal}
use Rattle.eql_runs.specs.CutRefusals as cut
use Rattle.eql_runs.specs.Files.{Files}
use Rattle.eql_runs.specs.RunLaws.{DiskHoldsOne, FitsAtAnySpan, SearchIsOne, TestedIsAccepted}
use Rattle.eql_runs.specs.Runs.{IfFound, RefusesCut}
use Rattle.eql_runs.specs.Starts.{DiskHolds, OnDisk, start_for}
use Rattle.eql_shards.specs.Shards.{AreWholeFiles}
use Rattle.eql_resume.specs.Beginnings.{LanesBegin, Rest}
use Rattle.eql_resume.specs.Finding.{Suits, disk_holding}
use Rattle.eql_find.specs.declared.error.FindError.{FindError}
use Rattle.eql_find.specs.declared.plan.PlannedQuery.{PlannedQuery}
use Rattle.eql_find.specs.Finding.{HasFindCause, IsPlanOf, texts_told}
use Rattle.eql_shards.specs.Lanes.{AreOver, StopsMakingAt, StopsMaking}
use Rattle.eql_find.specs.Running.{BeginsRun, KeepsIfAsked}
use Rattle.eql_find.specs.Searching.{BeganWith, head_in}
use Rattle.eql_find.specs.Starting.{BeginsOnDisk, pipes_of, stages_of, values_of}
use Rattle.eql_search.specs.Searches.{AreTextsOf}
use Rattle.eql_find.specs.Stops.{IsErrorAt, failed, grown, no_line, other_bytes, short, unmade}
use Rattle.eql_find.proofs.BeginningLemmas.{are_begun, began_with}
use Rattle.eql_find.proofs.CauseLemmas.{read_cause}
use Rattle.eql_find.proofs.FoundLemmas.{Runs, start_is, the_run}
use Rattle.eql_find.proofs.MadeLemmas.{begun_is, fresh_or_refused, made_refuses, made_tested}
use Rattle.eql_shards.proofs.MakingLemmas.{over_long, over_serve}
use Rattle.eql_find.proofs.RefusingLemmas.{refusal_at}
use Rattle.eql_find.proofs.TextLemmas.{as_many, plan_is, searches_in, texts_over, told_all}

-- what holds at all holds of what may be there
if_any : {A : Type 0} (o : Option A) (P : Type 0) → P → IfSome o (λ x. P)
if_any None P h = tt
if_any (Some x) P h = h

-- as many lanes as a cut has
cut_count : (find : Find) (p : PlannedQuery) (count : ℕ) (o : Option Cut) → count ≡ length find.shards
    → IfSome o (Suits (stages_of p) (values_of p) (pipes_of p) (head_in find p)) → IfSome o (λ c. count ≡ length c.lanes)
cut_count find p count None many suits = tt
cut_count find p count (Some cut) many suits = many ∙ sym (suits.is_cut.stands.lane_for_each ∙ ap CutHead.shards suits.head_is)

module _ {S L D : Type 0} (left lent_as : S → Option (List ℕ)) (faults : S → ℕ) (plan : S → Option FaultPlan) (read_of : L → Reads)
    (find : Find) (files : Option Files) (p : PlannedQuery) (disk : Option History) (told : Option (List (List ℕ))) (told_is : told ≡ texts_told files find.shards)
    (sources : List S) (starts : List LaneStart) (rest : Rest) (head : CutHead) (keep : Option (Keep D)) (bounds : FindIsBounded find)
    (is : IsPlanOf find files p) (whole : AreWholeFiles find.shards files (map left sources))
    (named : map lent_as sources ≡ map (λ (n : List ℕ). Some n) find.shards) (begins : BeginsOnDisk find p disk head keep starts rest) where
  -- ---- how many
  source_count : length sources ≡ length find.shards
  source_count = as_many lent_as sources find.shards named

  pub starts_many : length starts ≡ length sources
  starts_many = begins.lanes.count ∙ sym source_count

  pub sources_few : length sources ≤ 256
  sources_few = let most = bounds.count.1 in let same = source_count in omega (arith, most, same)

  -- ---- texts
  lefts_told : IfSome told (λ ts. map left sources ≡ map (λ (t : List ℕ). Some t) ts)
  lefts_told =
      subst (λ (o : Option (List (List ℕ))). IfSome o (λ ts. map left sources ≡ map (λ (t : List ℕ). Some t) ts)) (sym told_is) (by files whole)
    where
      by : (o : Option Files) → AreWholeFiles find.shards o (map left sources)
          → IfSome (texts_told o find.shards) (λ ts. map left sources ≡ map (λ (t : List ℕ). Some t) ts)
      by None all = tt
      by (Some fs) all =
          subst (λ (o : Option (List (List ℕ))). IfSome o (λ ts. map left sources ≡ map (λ (t : List ℕ). Some t) ts))
          (sym (told_all find.shards fs all.texts all.there)) all.lefts_are

  checked_told : IfSome told (λ ts. IsChecked (kind_at p.mapping) (query_tree p.plan.checked.query))
  checked_told =
      subst (λ (o : Option (List (List ℕ))). IfSome o (λ ts. IsChecked (kind_at p.mapping) (query_tree p.plan.checked.query))) (sym told_is) (by files is)
    where
      by : (o : Option Files) → IsPlanOf find o p
          → IfSome (texts_told o find.shards) (λ ts. IsChecked (kind_at p.mapping) (query_tree p.plan.checked.query))
      by None plan_of = tt
      by (Some fs) plan_of =
          if_any (texts_told (Some fs) find.shards) (IsChecked (kind_at p.mapping) (query_tree p.plan.checked.query)) plan_of.got.checked

  -- ---- a lane that isn't made
  asked_by : (why : LaneRefused) (shard : ℕ) (before now : ℕ) (names names' : List ℕ → ℕ) (r : CutRefusal)
      → StopsMakingAt left lent_as faults plan why shard sources starts before now names names' → refusal_at shard why ≡ Some r → find.checkpoint ≢ None
  asked_by why shard before now names names' r at refusal = by begins.begun.cut begins.own.asked begins.lanes
    where
      by : (o : Option Cut) → IfSome o (λ cut. find.checkpoint ≢ None) → LanesBegin o begins.begun.format (length find.shards) starts
          → find.checkpoint ≢ None
      by None asked lanes =
          absurd (fresh_or_refused shard (left at.source) (faults at.source) (faults at.back) why r
          (subst (λ (b : LaneStart). IsCause (left at.source) (faults at.source) (faults at.back) (cut_of b).offset (cut_of b).closed (known_of b)
          (wanted_of b) why) (lanes.each shard at.start at.begins) at.refused_by.cause) refusal)
      by (Some cut) asked lanes = asked

  module _ (spans : FitsAtAnySpan) (one : DiskHoldsOne) where
    refused_at : (why : LaneRefused) (shard : ℕ) (before now : ℕ) (names names' : List ℕ → ℕ) (r : CutRefusal)
        → StopsMakingAt left lent_as faults plan why shard sources starts before now names names' → refusal_at shard why ≡ Some r
        → IfFound find files disk (λ fs on. RefusesCut find fs on r)
    refused_at why shard before now names names' r at refusal = by files is whole
      where
        asked : find.checkpoint ≢ None
        asked = asked_by why shard before now names names' r at refusal

        by : (o : Option Files) → IsPlanOf find o p → AreWholeFiles find.shards o (map left sources) → IfFound find o disk (λ fs on. RefusesCut find fs on r)
        by None plan_of all = tt
        by (Some fs) plan_of all = λ on holds.
            made_refuses left lent_as faults plan spans one find p bounds fs plan_of disk begins.begun.format begins.begun.generation all.texts all.there
            sources all.lefts_are starts begins.begun.cut why shard before now names names' r on asked begins.own.suits begins.lanes
            (begun_is one find disk begins.begun on begins.is_found asked (holds asked)) at refusal

    cut_cause : (why : LaneRefused) (shard : ℕ) (before now : ℕ) (names names' : List ℕ → ℕ) (r : CutRefusal)
        → StopsMaking left lent_as faults plan why shard sources starts before now names names' → refusal_at shard why ≡ Some r
        → (find.checkpoint ≢ None) × IfFound find files disk (λ fs on. RefusesCut find fs on r)
    cut_cause why shard before now names names' r (inl h) refusal = absurd (none-some r (sym (ap (refusal_at shard) h.0) ∙ refusal))
    cut_cause why shard before now names names' r (inr at) refusal =
        (asked_by why shard before now names names' r at refusal, refused_at why shard before now names names' r at refusal)

    pub made_cause : (why : LaneRefused) (shard : ℕ) (h : FindError) (before now : ℕ) (names names' : List ℕ → ℕ) (then : Option History)
        (err err' : Option (List ℕ)) → StopsMaking left lent_as faults plan why shard sources starts before now names names'
        → IsErrorAt find.shards shard why h → HasFindCause find files disk then err err' h
    made_cause _ shard _ before now names names' then err err' stopped (short offset had) =
        cut_cause (refused.Short offset had) shard before now names names' (cut.short shard offset had) stopped refl
    made_cause _ shard _ before now names names' then err err' stopped other_bytes =
        cut_cause refused.Differs shard before now names names' (cut.other_bytes shard) stopped refl
    made_cause _ shard _ before now names names' then err err' stopped (no_line line) =
        cut_cause (refused.NoLine line) shard before now names names' (cut.no_line shard line) stopped refl
    made_cause _ shard _ before now names names' then err err' stopped grown =
        cut_cause refused.Grown shard before now names names' (cut.grown shard) stopped refl
    made_cause _ shard _ before now names names' then err err' stopped (failed name there) =
        read_cause find files p (map left sources) shard name.now is whole there
    made_cause _ shard _ before now names names' then err err' stopped unmade = tt

  -- ---- all lanes were made
  module _ (lanes : List (LaneView S L)) (over : AreOver left lent_as faults plan read_of (line_of (planned_query p.plan)) find.slack 0 sources starts lanes) where
    pub lane_count : length lanes ≡ length find.shards
    lane_count = over_long left lent_as faults plan read_of (line_of (planned_query p.plan)) find.slack 0 sources starts lanes over ∙ source_count

    pub began : BeganWith told begins.begun.format begins.begun.cut lanes
    began =
        began_with left lent_as faults plan read_of (line_of (planned_query p.plan)) find.slack told begins.begun.format begins.begun.cut (length find.shards)
        sources starts lanes over begins.lanes (cut_count find p (length lanes) begins.begun.cut lane_count begins.own.suits) lefts_told

    texts_by : (o : Option (List (List ℕ))) → IfSome o (λ ts. map left sources ≡ map (λ (t : List ℕ). Some t) ts)
        → IfSome o (λ ts. AreTextsOf left ts lanes)
    texts_by None e = tt
    texts_by (Some ts) e = texts_over left lent_as faults plan read_of (line_of (planned_query p.plan)) find.slack 0 sources starts lanes ts over e

    pub run_begins : (history : D → Option History) → KeepsIfAsked history find.checkpoint keep
        → BeginsRun left read_of history told find p lanes rest head keep
    run_begins history keeps = record {
      begun = begins.begun;
      own = begins.own;
      plan_is = plan_is find files p is;
      checked = checked_told;
      texts_of = texts_by told lefts_told;
      many = lane_count;
      are_begun = are_begun left lent_as faults plan read_of (line_of (planned_query p.plan)) find.slack 0 sources starts lanes over;
      began = began;
      rest_is = begins.rest_is;
      head_is = begins.head_is;
      names = begins.names;
      keeps = keeps;
    }

    -- what it begins with is what its disk holds
    pub start_on : DiskHoldsOne → (on : OnDisk) → (find.checkpoint ≢ None → DiskHolds disk on)
        → start_for find on ≡ disk_holding begins.begun.format begins.begun.generation begins.begun.cut
    start_on one on holds =
        start_is find begins.begun.format begins.begun.generation begins.begun.cut on begins.own.asked
        (λ asked. begun_is one find disk begins.begun on begins.is_found asked (holds asked))

    -- it is one that nothing refuses
    pub over_runs : FitsAtAnySpan → DiskHoldsOne → TestedIsAccepted → SearchIsOne → Runs find p told lanes rest disk files
    over_runs spans one law search_one = by files is whole told_is
      where
        by : (o : Option Files) → IsPlanOf find o p → AreWholeFiles find.shards o (map left sources) → told ≡ texts_told o find.shards
            → Runs find p told lanes rest disk o
        by None plan_of all e = tt
        by (Some fs) plan_of all e = λ on holds.
            the_run law search_one find p told lanes rest begins.begun begins.own began begins.rest_is fs on all.texts
            (e ∙ told_all find.shards fs all.texts all.there) (searches_in find fs p all.texts plan_of all.there)
            (λ asked. begun_is one find disk begins.begun on begins.is_found asked (holds asked))
            (made_tested left lent_as faults plan spans one find p bounds fs plan_of disk begins.begun.format begins.begun.generation all.texts all.there
            sources all.lefts_are starts begins.begun.cut on begins.is_found begins.own begins.lanes
            (over_serve left lent_as faults plan read_of (line_of (planned_query p.plan)) find.slack 0 sources starts lanes over) holds)
