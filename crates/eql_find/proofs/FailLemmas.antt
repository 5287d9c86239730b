-- Which lanes of a run failed, as their sources come back.
use native.Mathlib.Omega.{arith}
use Rattle.std.proofs.Common.{◌≡◌, ℕ, ◌+◌, inl, inr, List, [], ◌∷◌, Option, Some, refl, sym, ap, ◌∙◌, subst, length, map, suc, zero}
use Rattle.std.specs.Prelude.{All, slice_get}
use Rattle.std.specs.List.{AllZip}
use Rattle.std.proofs.lemmas.List.Elements.{All-head, All-tail}
use Rattle.std.proofs.lemmas.Option.{same_Some, none-some}
use Rattle.eql_values.specs.Accepted.{Reads}
use Rattle.eql_outside.specs.Outside.{Rose}
use Rattle.eql_outside.specs.Plans.{FaultPlan}
use Rattle.eql_lane.specs.Views.{LaneView}
use Rattle.eql_lane.specs.declared.make.LaneStart.{LaneStart}
use Rattle.eql_search.specs.Answers.{AreSteadyBut, BecameAt, RoseFaults}
use Rattle.eql_shards.specs.Giving.{NoSourceFailed, SomeSourceFailed, lane_returned}
use Rattle.eql_shards.specs.Lanes.{AreOver}
use Rattle.eql_find.specs.LaneOutcomes.{StaysSource}
use Rattle.eql_shards.proofs.MakingLemmas.{made_faults, made_named, rose_from_none}
use Rattle.eql_find.proofs.TextLemmas.{parts_of}

-- lanes with no faults, over sources that were lent under these names
pub record IsNamedLane {S L : Type 0} (lent_as : S → Option (List ℕ)) (name : List ℕ) (lane : LaneView S L) : Type 0 where
  pub named : lent_as lane.source ≡ Some name
  pub none : lane.state.faults ≡ 0

abbrev pub AreNamed : {S L : Type 0} → (S → Option (List ℕ)) → List (List ℕ) → List (LaneView S L) → Type 0
AreNamed lent_as [] [] = Unit {0}
AreNamed lent_as [] (l ∷ ls) = ⊥
AreNamed lent_as (n ∷ ns) [] = ⊥
AreNamed lent_as (n ∷ ns) (l ∷ ls) = IsNamedLane lent_as n l × AreNamed lent_as ns ls

pub named_over : {S L : Type 0} (left lent_as : S → Option (List ℕ)) (faults : S → ℕ) (plan : S → Option FaultPlan) (read_of : L → Reads)
    (reads : Reads) (slack : Option ℕ) (shard : ℕ) (sources : List S) (starts : List LaneStart) (lanes : List (LaneView S L)) (names : List (List ℕ))
    → AreOver left lent_as faults plan read_of reads slack shard sources starts lanes
    → map lent_as sources ≡ map (λ (n : List ℕ). Some n) names → All (λ source. faults source ≡ 0) sources → AreNamed lent_as names lanes
named_over left lent_as faults plan read_of reads slack shard [] [] [] [] over is all = tt
named_over left lent_as faults plan read_of reads slack shard [] [] [] (n ∷ ns) over is all = absurd (omega (arith, ap length is))
named_over left lent_as faults plan read_of reads slack shard [] [] (l ∷ ls) names over is all = absurd over
named_over left lent_as faults plan read_of reads slack shard [] (b ∷ bs) ls names over is all = absurd over
named_over left lent_as faults plan read_of reads slack shard (s ∷ ss) [] ls names over is all = absurd over
named_over left lent_as faults plan read_of reads slack shard (s ∷ ss) (b ∷ bs) [] names over is all = absurd over
named_over left lent_as faults plan read_of reads slack shard (s ∷ ss) (b ∷ bs) (l ∷ ls) [] over is all = absurd (omega (arith, ap length is))
named_over left lent_as faults plan read_of reads slack shard (s ∷ ss) (b ∷ bs) (l ∷ ls) (n ∷ ns) over is all =
    let parts = parts_of (lent_as s) (Some n) (map lent_as ss) (map (λ (m : List ℕ). Some m) ns) is in (
      record {
        named = made_named left lent_as faults s over.0.reader shard slack b l over.0.made ∙ parts.0;
        none = made_faults left lent_as faults s over.0.reader shard slack b l over.0.made ∙ All-head (λ source. faults source ≡ 0) s ss all;
      },
      named_over left lent_as faults plan read_of reads slack (shard + 1) ss bs ls ns over.1 parts.1
          (All-tail (λ source. faults source ≡ 0) s ss all),
    )

-- what holds behind the first lane
steady_behind : {S L : Type 0} (Told : ℕ → Type 0) (old new : LaneView S L) (olds news : List (LaneView S L))
    → AreSteadyBut Told (old ∷ olds) (new ∷ news) → AreSteadyBut (λ shard. Told (suc shard)) olds news
steady_behind Told old new olds news steady = λ shard o n none was is. steady (suc shard) o n none was is

module _ {S L : Type 0} (left lent_as : S → Option (List ℕ)) where
  pub none_failed_lanes : (names : List (List ℕ)) (olds news : List (LaneView S L)) (Told : ℕ → Type 0)
      → ((shard : ℕ) → ¬ Told shard) → AreNamed lent_as names olds
      → AllZip (StaysSource left lent_as) olds news → AreSteadyBut Told olds news → NoSourceFailed (map (lane_returned lent_as) news)
  none_failed_lanes names [] [] Told none named stays steady = tt
  none_failed_lanes names [] (n ∷ ns) Told none named stays steady = absurd stays
  none_failed_lanes names (o ∷ os) [] Told none named stays steady = absurd stays
  none_failed_lanes [] (o ∷ os) (n ∷ ns) Told none named stays steady = absurd named
  none_failed_lanes (m ∷ ms) (o ∷ os) (n ∷ ns) Told none named stays steady = (
    steady zero o n (none zero) refl refl ∙ named.0.none,
    none_failed_lanes ms os ns (λ shard. Told (suc shard)) (λ shard. none (suc shard)) named.1 stays.1
        (steady_behind Told o n os ns steady),
  )

  pub some_failed_lane : (shard : ℕ) (name : List ℕ) (names : List (List ℕ)) (olds news : List (LaneView S L))
      → slice_get names shard ≡ Some name → AreNamed lent_as names olds → AllZip (StaysSource left lent_as) olds news
      → BecameAt shard olds news RoseFaults → SomeSourceFailed name (map (lane_returned lent_as) news)
  some_failed_lane shard name [] olds news is named stays became = absurd (none-some name is)
  some_failed_lane shard name (m ∷ ms) [] news is named stays became = absurd named
  some_failed_lane shard name (m ∷ ms) (o ∷ os) [] is named stays became = absurd stays
  some_failed_lane zero name (m ∷ ms) (o ∷ os) (n ∷ ns) is named stays became =
      let old = same_Some o became.old became.was in
      let new = same_Some n became.new became.is in
      inl (record {
        often = rose_from_none o.state.faults n.state.faults named.0.none
            (subst (λ (x : LaneView S L). Rose x.state.faults n.state.faults) (sym old)
            (subst (λ (y : LaneView S L). Rose became.old.state.faults y.state.faults) (sym new) became.became));
        named = stays.0.named ∙ named.0.named ∙ is;
      })
  some_failed_lane (suc shard) name (m ∷ ms) (o ∷ os) (n ∷ ns) is named stays became =
      inr (some_failed_lane shard name ms os ns is named.1 stays.1
      (record { old = became.old; new = became.new; was = became.was; is = became.is; became = became.became }))
