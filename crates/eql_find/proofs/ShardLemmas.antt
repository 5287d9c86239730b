-- The counts of a run: of a shelf, of its disk, and of sources that came back.
use native.Mathlib.Omega.{arith}
use Rattle.std.proofs.Common.{◌≡◌, ℕ, ◌+◌, ◌-◌, ◌<◌, ◌≤◌, inl, inr, List, [], ◌∷◌, Option, Some, None, Ok, Err, refl, sym, ap, ◌∙◌, subst, length, map, suc, zero, false}
use Rattle.std.specs.Prelude.{All, IfSome, slice_get, Result}
use Rattle.std.specs.Borrow.{Bor}
use Rattle.std.specs.List.{AllZip}
use Rattle.std.proofs.lemmas.Bool.{false≢true}
use Rattle.std.proofs.lemmas.List.Elements.{All-head, All-tail, All-cons, All-nil}
use Rattle.std.proofs.lemmas.Option.{same_Some, none-some, slice_get_within, get_or_from_slice_get}
use Rattle.eql_values.specs.Accepted.{Reads}
use Rattle.eql_outside.specs.Outside.{Rose}
use Rattle.eql_outside.specs.Faults.{FaultsAreSame, RoseFor, RoseUnder}
use Rattle.eql_outside.specs.Plans.{FaultPlan}
use Rattle.eql_outside.specs.Unfailing.{IsUnfailing}
use Rattle.eql_words.specs.declared.commands.Find.{Find}
use Rattle.eql_lane.specs.declared.make.LaneRefused.{LaneRefused}
use Rattle.eql_lane.specs.declared.make.LaneRefused.TheVariants as refused
use Rattle.eql_lane.specs.declared.make.LaneStart.{LaneStart}
use Rattle.eql_lane.specs.Views.{LaneView}
use Rattle.eql_inputs.specs.declared.error.InputError.TheVariants as error
use Rattle.eql_search.specs.Answers.{AreSteadyBut, AreUnfailing}
use Rattle.eql_find.specs.declared.error.CutStop.TheVariants as cut
use Rattle.eql_find.specs.declared.error.FindError.{FindError}
use Rattle.eql_find.specs.declared.error.FindError.TheVariants as run
use Rattle.eql_find.specs.Errors.{FaultsFollow, CountFollows, DiskFollows, OutFollows, ErrFollows, IsFault, IsReport, TellsNothing}
use Rattle.eql_shards.specs.Giving.{CameBack, lane_returned}
use Rattle.eql_shards.specs.Lanes.{AreOver, StopsMaking}
use Rattle.eql_find.specs.LaneOutcomes.{StaysSource}
use Rattle.eql_find.specs.Searching.{LaneFaultsFollow}
use Rattle.eql_find.specs.Stops.{IsErrorAt, short, other_bytes, no_line, grown, failed, unmade}
use Rattle.eql_find.proofs.FailLemmas.{AreNamed, none_failed_lanes, some_failed_lane}
use Rattle.eql_shards.proofs.MakingLemmas.{by_failure, not_failed}
use Rattle.eql_find.proofs.TextLemmas.{as_many, parts_of}

-- sources of which no take fails make such lanes
pub unfailing_over : {S L : Type 0} (left lent_as : S → Option (List ℕ)) (faults : S → ℕ) (plan : S → Option FaultPlan) (read_of : L → Reads)
    (reads : Reads) (slack : Option ℕ) (shard : ℕ) (sources : List S) (starts : List LaneStart) (lanes : List (LaneView S L))
    → AreOver left lent_as faults plan read_of reads slack shard sources starts lanes → All (λ source. IsUnfailing (plan source)) sources
    → AreUnfailing plan lanes
unfailing_over left lent_as faults plan read_of reads slack shard [] [] [] over all = All-nil (λ lane. IsUnfailing (plan lane.source))
unfailing_over left lent_as faults plan read_of reads slack shard [] [] (l ∷ ls) over all = absurd over
unfailing_over left lent_as faults plan read_of reads slack shard [] (b ∷ bs) ls over all = absurd over
unfailing_over left lent_as faults plan read_of reads slack shard (s ∷ ss) [] ls over all = absurd over
unfailing_over left lent_as faults plan read_of reads slack shard (s ∷ ss) (b ∷ bs) [] over all = absurd over
unfailing_over left lent_as faults plan read_of reads slack shard (s ∷ ss) (b ∷ bs) (l ∷ ls) over all =
    All-cons (λ lane. IsUnfailing (plan lane.source)) l ls
    (over.0.unfailing (All-head (λ source. IsUnfailing (plan source)) s ss all))
    (unfailing_over left lent_as faults plan read_of reads slack (shard + 1) ss bs ls over.1 (All-tail (λ source. IsUnfailing (plan source)) s ss all))

-- a source by its place has the name of that place
named_at : {S : Type 0} (lent_as : S → Option (List ℕ)) (sources : List S) (names : List (List ℕ)) (shard : ℕ) (source : S) (name : List ℕ)
    → map lent_as sources ≡ map (λ (n : List ℕ). Some n) names → slice_get sources shard ≡ Some source
    → slice_get names shard ≡ Some name → lent_as source ≡ Some name
named_at lent_as [] names shard source name is at has = absurd (none-some source at)
named_at lent_as (s ∷ ss) [] shard source name is at has = absurd (none-some name has)
named_at lent_as (s ∷ ss) (n ∷ ns) zero source name is at has =
    ap lent_as (sym (same_Some s source at)) ∙ (parts_of (lent_as s) (Some n) (map lent_as ss) (map (λ (m : List ℕ). Some m) ns) is).0 ∙ has
named_at lent_as (s ∷ ss) (n ∷ ns) (suc shard) source name is at has =
    named_at lent_as ss ns shard source name (parts_of (lent_as s) (Some n) (map lent_as ss) (map (λ (m : List ℕ). Some m) ns) is).1 at has

-- ---- a run whose lanes weren't made: all that its error says beside its cause
pub record MadeError {S : Type 0} (plan : S → Option FaultPlan) (sources : List S) (before now : ℕ) (names names' : List ℕ → ℕ) (h : FindError)
    : Type 0 where
  pub faults : FaultsFollow {A = Unit {0}} (Err h) names names'
  pub count : CountFollows {A = Unit {0}} (Err h) before now
  pub disk : (n : ℕ) → DiskFollows {A = Unit {0}} (Err h) n n
  pub out : (n : ℕ) → OutFollows {A = Unit {0}} (Err h) n n
  pub err : (n : ℕ) → ErrFollows {A = Unit {0}} (Err h) n n
  pub quiet : TellsNothing h
  pub no_report : ¬ IsReport h
  pub calm : All (λ source. IsUnfailing (plan source)) sources → ¬ IsFault h

module _ {S : Type 0} (left lent_as : S → Option (List ℕ)) (faults : S → ℕ) (plan : S → Option FaultPlan) (shards : List (List ℕ))
    (sources : List S) (starts : List LaneStart) (named : map lent_as sources ≡ map (λ (n : List ℕ). Some n) shards)
    (before now : ℕ) (names names' : List ℕ → ℕ) where
  -- which shard it may be that failed
  pub may_make : (why : LaneRefused) (shard : ℕ) → StopsMaking left lent_as faults plan why shard sources starts before now names names'
      → why ≡ refused.Failed → shard < length shards
  may_make why shard (inl h) is = absurd (false≢true (ap by_failure (sym h.0 ∙ is)))
  may_make why shard (inr at) is =
      let within = slice_get_within sources shard at.source at.is in
      let same = as_many lent_as sources shards named in
      omega (arith, within, same)

  steady_by : (why : LaneRefused) (shard : ℕ) → by_failure why ≡ false
      → StopsMaking left lent_as faults plan why shard sources starts before now names names' → (now ≡ before) × FaultsAreSame names names'
  steady_by why shard calm (inl h) = (h.1, h.2)
  steady_by why shard calm (inr at) = at.steady (not_failed why calm)

  refused_error : (why : LaneRefused) (shard : ℕ) (c : _) → by_failure why ≡ false
      → StopsMaking left lent_as faults plan why shard sources starts before now names names'
      → MadeError plan sources before now names names' (run.Cut c)
  refused_error why shard c calm stopped =
      let same = steady_by why shard calm stopped in
      record {
        faults = same.1;
        count = same.0;
        disk = λ n. refl;
        out = λ n. refl;
        err = λ n. refl;
        quiet = tt;
        no_report = λ h. h;
        calm = λ all h. h;
      }

  under_name : (o : Option (List ℕ)) (name : List ℕ) → o ≡ Some name → RoseUnder o names names' → RoseFor name names names'
  under_name o name same rose = subst (λ (x : Option (List ℕ)). RoseUnder x names names') same rose

  failed_error : (shard : ℕ) (name : Bor (List ℕ)) → slice_get shards shard ≡ Some name.now
      → StopsMaking left lent_as faults plan refused.Failed shard sources starts before now names names'
      → MadeError plan sources before now names names' (run.Files (error.Read name))
  failed_error shard name there (inl h) = absurd (false≢true (sym (ap by_failure h.0)))
  failed_error shard name there (inr at) =
      let rose = at.rose refl in
      let by_name = under_name (lent_as at.source) name.now (named_at lent_as sources shards shard at.source name.now named at.is there) rose.1 in
      record {
        faults = record { rose = by_name.rose; counts = by_name.counts };
        count = rose.0;
        disk = λ n. tt;
        out = λ n. tt;
        err = λ n. refl;
        quiet = tt;
        no_report = λ h. h;
        calm = λ all h. absurd (at.unfailing (all_at all) refl);
      }
    where
      all_at : All (λ source. IsUnfailing (plan source)) sources → IsUnfailing (plan at.source)
      all_at all = subst (λ x. IsUnfailing (plan x)) (get_or_from_slice_get sources shard at.source at.source at.is)
          (all shard at.source (slice_get_within sources shard at.source at.is))

  pub made_error : (why : LaneRefused) (shard : ℕ) (h : FindError)
      → StopsMaking left lent_as faults plan why shard sources starts before now names names' → IsErrorAt shards shard why h
      → MadeError plan sources before now names names' h
  made_error _ shard _ stopped (short offset had) = refused_error (refused.Short offset had) shard (cut.Short shard offset had) refl stopped
  made_error _ shard _ stopped other_bytes = refused_error refused.Differs shard (cut.OtherBytes shard) refl stopped
  made_error _ shard _ stopped (no_line line) = refused_error (refused.NoLine line) shard (cut.NoLine shard line) refl stopped
  made_error _ shard _ stopped grown = refused_error refused.Grown shard (cut.Grown shard) refl stopped
  made_error _ shard _ stopped (failed name there) = failed_error shard name there stopped
  made_error _ shard _ stopped unmade =
      let same = steady_by refused.Memory shard refl stopped in
      record {
        faults = same.1;
        count = same.0;
        disk = λ n. refl;
        out = λ n. refl;
        err = λ n. refl;
        quiet = tt;
        no_report = λ h. h;
        calm = λ all h. h;
      }

-- what the shelf's counts say once the sources of a run came back
module _ {S L : Type 0} (left lent_as : S → Option (List ℕ)) (find : Find)
    (olds news : List (LaneView S L)) (before now : ℕ) (names names' : List ℕ → ℕ)
    (named : AreNamed lent_as find.shards olds) (stays : AllZip (StaysSource left lent_as) olds news)
    (back : CameBack (map (lane_returned lent_as) news) before now names names') where
  none_back : AreSteadyBut (λ s. ⊥) olds news → (now ≡ before) × FaultsAreSame names names'
  none_back steady = back.none (none_failed_lanes left lent_as find.shards olds news (λ s. ⊥) (λ s h. h) named stays steady)

  pub faults_as : (r : Result (Unit {0}) FindError) → LaneFaultsFollow find r olds news → FaultsFollow r names names'
  faults_as (Ok done) fails = (none_back fails).1
  faults_as (Err (run.Files (error.Refused r))) fails = (none_back fails).1
  faults_as (Err (run.Files (error.Read name))) fails =
      record { rose = (back.one name.now (some_failed_lane left lent_as fails.shard name.now find.shards olds news fails.named named stays fails.rose)).1; counts = back.counts.1 }
  faults_as (Err (run.Files error.Memory)) fails = (none_back fails).1
  faults_as (Err (run.Cut why)) fails = (none_back fails).1
  faults_as (Err (run.Held why)) fails = (none_back fails).1
  faults_as (Err run.Disk) fails = (none_back fails).1
  faults_as (Err run.Write) fails = (none_back fails).1
  faults_as (Err run.Generation) fails = (none_back fails).1
  faults_as (Err (run.Limit l)) fails = (none_back fails).1
  faults_as (Err (run.Report r)) fails = (none_back fails).1

  pub count_as : (r : Result (Unit {0}) FindError) → LaneFaultsFollow find r olds news → CountFollows r before now
  count_as (Ok done) fails = (none_back fails).0
  count_as (Err (run.Files (error.Refused r))) fails = (none_back fails).0
  count_as (Err (run.Files (error.Read name))) fails =
      (back.one name.now (some_failed_lane left lent_as fails.shard name.now find.shards olds news fails.named named stays fails.rose)).0
  count_as (Err (run.Files error.Memory)) fails = (none_back fails).0
  count_as (Err (run.Cut why)) fails = (none_back fails).0
  count_as (Err (run.Held why)) fails = (none_back fails).0
  count_as (Err run.Disk) fails = (none_back fails).0
  count_as (Err run.Write) fails = (none_back fails).0
  count_as (Err run.Generation) fails = (none_back fails).0
  count_as (Err (run.Limit l)) fails = (none_back fails).0
  count_as (Err (run.Report r)) fails = (none_back fails).0

-- as many lanes before and after
pub zip_long : {A B : Type 0} (R : A → B → Type 0) (xs : List A) (ys : List B) → AllZip R xs ys → length ys ≡ length xs
zip_long R [] [] h = refl
zip_long R [] (y ∷ ys) h = absurd h
zip_long R (x ∷ xs) [] h = absurd h
zip_long R (x ∷ xs) (y ∷ ys) h = ap suc (zip_long R xs ys h.1)

-- all that was lent for the shards came back
pub lent_all : (lanes all : ℕ) (before mid now : Option ℕ) → lanes ≡ all → IfSome before (λ n. mid ≡ Some n)
    → IfSome mid (λ n. now ≡ Some (n - lanes)) → IfSome before (λ n. now ≡ Some (n - all))
lent_all lanes all None mid now is first second = tt
lent_all lanes all (Some n) mid now is first second =
    subst (λ (o : Option ℕ). IfSome o (λ n. now ≡ Some (n - lanes))) first second ∙ ap (λ (x : ℕ). Some x) (ap (λ (k : ℕ). n - k) is)

-- a call that changes no count, before one that does
pub faults_then : (before mid now : List ℕ → ℕ) → FaultsAreSame before mid → (r : Result (Unit {0}) FindError) → FaultsFollow r mid now
    → FaultsFollow r before now
faults_then before mid now same (Ok done) h = λ name. h name ∙ same name
faults_then before mid now same (Err (run.Files (error.Refused r))) h = λ name. h name ∙ same name
faults_then before mid now same (Err (run.Files (error.Read name))) h = record {
  rose = subst (λ (n : ℕ). Rose n (now name.now)) (same name.now) h.rose;
  counts = λ any. subst (λ (n : ℕ). n ≤ now any) (same any) (h.counts any);
}
faults_then before mid now same (Err (run.Files error.Memory)) h = λ name. h name ∙ same name
faults_then before mid now same (Err (run.Cut why)) h = λ name. h name ∙ same name
faults_then before mid now same (Err (run.Held why)) h = λ name. h name ∙ same name
faults_then before mid now same (Err run.Disk) h = λ name. h name ∙ same name
faults_then before mid now same (Err run.Write) h = λ name. h name ∙ same name
faults_then before mid now same (Err run.Generation) h = λ name. h name ∙ same name
faults_then before mid now same (Err (run.Limit l)) h = λ name. h name ∙ same name
faults_then before mid now same (Err (run.Report r)) h = λ name. h name ∙ same name

pub count_then : (before mid now : ℕ) → mid ≡ before → (r : Result (Unit {0}) FindError) → CountFollows r mid now → CountFollows r before now
count_then before mid now same r h = subst (λ (n : ℕ). CountFollows r n now) same h
