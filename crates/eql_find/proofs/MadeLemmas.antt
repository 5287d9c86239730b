-- A run whose lanes weren't made, and one for which all were: what that says of the cut.
use native.Mathlib.Omega.{arith}
use Rattle.std.proofs.Common.{◌≡◌, ◌≢◌, ◌<◌, ℕ, List, Option, Some, None, refl, sym, ◌∙◌, subst, length, map}
use Rattle.std.specs.Prelude.{IfSome, slice_get}
use Rattle.std.proofs.lemmas.Bool.{false≢true}
use Rattle.std.proofs.lemmas.Option.{none-some, slice_get_within}
use Rattle.eql_outside.specs.Areas.{seen_areas}
use Rattle.eql_outside.specs.Moments.{History}
use Rattle.eql_words.specs.declared.commands.Checkpoint.{Checkpoint}
use Rattle.eql_words.specs.declared.commands.Find.{Find}
use Rattle.eql_words.specs.Bounds.{FindIsBounded}
use Rattle.eql_lane.specs.declared.make.LaneRefused.{LaneRefused}
use Rattle.eql_lane.specs.declared.make.LaneRefused.TheVariants as refused
use Rattle.eql_lane.specs.declared.make.LaneStart.{LaneStart}
use Rattle.eql_lane.specs.declared.make.LaneStart.TheVariants as start
use Rattle.eql_lane.specs.Passing.{IsCause}
use Rattle.eql_lane.specs.Starts.{cut_of, known_of, wanted_of}
use Rattle.eql_cut.specs.declared.cut.Cut.{Cut}
use Rattle.eql_ckdisk.specs.Found.{found_on}
use Rattle.eql_runs.specs.CutRefusals.{CutRefusal, IsTested, NoneIsRefusedBefore, ShardRefuses}
use Rattle.eql_runs.specs.Files.{Files, HasTexts}
use Rattle.eql_runs.specs.RunLaws.{DiskHoldsOne, FitsAtAnySpan}
use Rattle.eql_runs.specs.Runs.{RefusesCut}
use Rattle.eql_runs.specs.Starts.{DiskHolds, OnDisk, a_cut, nothing_kept, start_asked, start_for}
use Rattle.eql_resume.specs.Beginnings.{LanesBegin}
use Rattle.eql_resume.specs.Finding.{Suits}
use Rattle.eql_find.specs.declared.plan.PlannedQuery.{PlannedQuery}
use Rattle.eql_find.specs.Finding.{IsPlanOf}
use Rattle.eql_shards.specs.Lanes.{Serves, StopsMakingAt}
use Rattle.eql_find.specs.Searching.{head_in, search_in}
use Rattle.eql_find.specs.Starting.{Begun, IsFound, IsOwn, on_begun, pipes_of, stages_of, values_of}
use Rattle.eql_outside.specs.Plans.{FaultPlan}
use Rattle.eql_find.proofs.RefusingLemmas.{begins_by, none_refused, no_element, refusal_at, refused_by_shard, shard_refuses, tested_cut}
use Rattle.eql_find.proofs.TextLemmas.{begins_asked, searches_in, some_at, source_of_text, text_of_source, texts_long}

-- what a disk holds is what the run was found to begin with
pub begun_is : DiskHoldsOne → (find : Find) (disk : Option History) (begun : Begun) (on : OnDisk) → IsFound find disk begun → find.checkpoint ≢ None
    → DiskHolds disk on → on_begun begun ≡ on
begun_is law find None begun on is asked holds = absurd holds
begun_is law find (Some h) begun on is asked holds = law (found_on (seen_areas h.now)) (on_begun begun) on (is asked) holds

-- a lane that begins afresh is refused for no cause but a failure or want of memory
pub fresh_or_refused : (shard : ℕ) (text : Option (List ℕ)) (before now : ℕ) (why : LaneRefused) (r : CutRefusal)
    → IsCause text before now (cut_of start.Fresh).offset (cut_of start.Fresh).closed (known_of start.Fresh) (wanted_of start.Fresh) why
    → refusal_at shard why ≡ Some r → ⊥
fresh_or_refused shard text before now (refused.Short at had) r cause is = let none = cause.0 in let less = cause.1 in omega (arith, none, less)
fresh_or_refused shard text before now refused.Differs r cause is = cause.0 refl
fresh_or_refused shard text before now (refused.NoLine line) r cause is = no_element line cause.0
fresh_or_refused shard text before now refused.Grown r cause is = false≢true cause.0
fresh_or_refused shard text before now refused.Failed r cause is = none-some r is
fresh_or_refused shard text before now refused.Memory r cause is = none-some r is

module _ {S : Type 0} (left lent_as : S → Option (List ℕ)) (faults : S → ℕ) (plan : S → Option FaultPlan) (spans : FitsAtAnySpan) (one : DiskHoldsOne)
    (find : Find) (p : PlannedQuery) (bounds : FindIsBounded find) (fs : Files) (is : IsPlanOf find (Some fs) p) (disk : Option History)
    (format generation : ℕ) (texts : List (List ℕ)) (there : HasTexts find.shards fs texts) (sources : List S)
    (lefts : map left sources ≡ map (λ (t : List ℕ). Some t) texts) (starts : List LaneStart) where
  many : length texts ≡ length find.shards
  many = texts_long find.shards fs texts there

  -- shards that serve are refused for no cause
  none_before : (cut : Cut) (shard : ℕ) → LanesBegin (Some cut) format (length find.shards) starts
      → ((s : ℕ) (x : S) (b : LaneStart) → s < shard → slice_get sources s ≡ Some x → slice_get starts s ≡ Some b → IfSome (left x) (Serves b))
      → NoneIsRefusedBefore format cut shard texts
  none_before cut shard begins serve = none_refused format cut shard texts (λ s text less at.
      let x = source_of_text left sources texts s text lefts at in
      let within = slice_get_within texts s text at in
      let b = some_at starts s (omega (arith, within, many, begins.count)) in
      (b.0, begins.each s b.0 b.1, subst (λ (o : Option (List ℕ)). IfSome o (Serves b.0)) x.2 (serve s x.0 b.0 less x.1 b.1)))

  -- ---- a lane that wasn't made
  refuses_at : (cut : Cut) (why : LaneRefused) (shard : ℕ) (before now : ℕ) (names names' : List ℕ → ℕ) (r : CutRefusal) (on : OnDisk)
      → find.checkpoint ≢ None → Suits (stages_of p) (values_of p) (pipes_of p) (head_in find p) cut
      → LanesBegin (Some cut) format (length find.shards) starts → a_cut format generation cut ≡ on
      → StopsMakingAt left lent_as faults plan why shard sources starts before now names names' → refusal_at shard why ≡ Some r
      → RefusesCut find fs on r
  refuses_at cut why shard before now names names' r on asked suits begins same at refusal =
      let text = text_of_source left sources texts shard at.source lefts at.is in
      let cause = subst (λ (o : Option (List ℕ)). IsCause o (faults at.source) (faults at.back) (cut_of at.start).offset (cut_of at.start).closed (known_of at.start)
      (wanted_of at.start) why) text.2 at.refused_by.cause in
      let found_so = shard_refuses format cut shard text.0 at.start (faults at.source) (faults at.back) why
      (begins_by format cut shard at.start (begins.each shard at.start at.begins)) cause in
      let refuses = subst (λ (o : Option CutRefusal). IfSome o (ShardRefuses format cut shard text.0)) refusal found_so in
      refused_by_shard spans find p texts bounds asked many cut suits fs format generation shard text.0 r on (searches_in find fs p texts is there) same text.1
      (none_before cut shard begins at.earlier) refuses

  pub made_refuses : (o : Option Cut) (why : LaneRefused) (shard : ℕ) (before now : ℕ) (names names' : List ℕ → ℕ) (r : CutRefusal) (on : OnDisk)
      → find.checkpoint ≢ None → IfSome o (Suits (stages_of p) (values_of p) (pipes_of p) (head_in find p))
      → LanesBegin o format (length find.shards) starts
      → on_begun (record { format = format; generation = generation; cut = o }) ≡ on
      → StopsMakingAt left lent_as faults plan why shard sources starts before now names names' → refusal_at shard why ≡ Some r
      → RefusesCut find fs on r
  made_refuses None why shard before now names names' r on asked suits begins same at refusal =
      let fresh : at.start ≡ start.Fresh = begins.each shard at.start at.begins in
      absurd (fresh_or_refused shard (left at.source) (faults at.source) (faults at.back) why r
      (subst (λ (b : LaneStart). IsCause (left at.source) (faults at.source) (faults at.back) (cut_of b).offset (cut_of b).closed (known_of b) (wanted_of b) why)
      fresh at.refused_by.cause) refusal)
  made_refuses (Some cut) why shard before now names names' r on asked suits begins same at refusal =
      refuses_at cut why shard before now names names' r on asked suits begins same at refusal

  -- ---- all lanes were made
  tested_of : (o : Option Cut) (on : OnDisk) → (find.checkpoint ≢ None → on_begun (record { format = format; generation = generation; cut = o }) ≡ on)
      → IfSome o (λ cut. find.checkpoint ≢ None) → IfSome o (Suits (stages_of p) (values_of p) (pipes_of p) (head_in find p))
      → LanesBegin o format (length find.shards) starts
      → ((s : ℕ) (x : S) (b : LaneStart) → slice_get sources s ≡ Some x → slice_get starts s ≡ Some b → IfSome (left x) (Serves b))
      → IsTested (search_in find p) texts (start_for find on)
  tested_of None on same asked suits begins serve = by find.checkpoint (λ some. same some)
    where
      by : (c : Option Checkpoint) → (c ≢ None → nothing_kept ≡ on) → IsTested (search_in find p) texts (start_asked c on)
      by None e = tt
      by (Some c) e = subst (λ (d : OnDisk). IsTested (search_in find p) texts d) (e (λ gone. none-some c (sym gone))) tt
  tested_of (Some cut) on same asked suits begins serve =
      subst (λ (d : OnDisk). IsTested (search_in find p) texts d) (same asked ∙ sym (begins_asked find.checkpoint on asked))
      (tested_cut spans find p texts bounds asked many cut suits format
      (none_before cut (length texts) begins (λ s x b less. serve s x b)))

  pub made_tested : (o : Option Cut) (on : OnDisk) → IsFound find disk (record { format = format; generation = generation; cut = o })
      → IsOwn find p (record { format = format; generation = generation; cut = o }) → LanesBegin o format (length find.shards) starts
      → ((s : ℕ) (x : S) (b : LaneStart) → slice_get sources s ≡ Some x → slice_get starts s ≡ Some b → IfSome (left x) (Serves b))
      → (find.checkpoint ≢ None → DiskHolds disk on) → IsTested (search_in find p) texts (start_for find on)
  made_tested o on found_so own begins serve holds =
      tested_of o on (λ asked. begun_is one find disk (record { format = format; generation = generation; cut = o }) on found_so asked (holds asked))
      own.asked own.suits begins serve
