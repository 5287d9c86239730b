-- A run may begin where its lanes and parts do.
use Rattle.std.proofs.Common.{◌≡◌, ◌≤◌, ◌<◌, inl, inr, ℕ, ℤ, true, ◌++◌, List, [], ◌∷◌, Option, None, Some, length, refl, sym, ap, ◌∙◌, subst}
use Rattle.std.specs.Prelude.{slice_get}
use Rattle.std.proofs.lemmas.List.Elements.{All-nil}
use Rattle.eql_values.specs.declared.cut.LaneCut.{LaneCut}
use Rattle.eql_values.specs.declared.found.Holder.{Holder}
use Rattle.eql_values.specs.declared.order.Mark.{Mark}
use Rattle.eql_values.specs.declared.order.Mark.TheVariants.{Start, At}
use Rattle.eql_values.specs.Accepted.{Reads}
use Rattle.eql_laws.specs.Alive.{IsSpan}
use Rattle.eql_laws.specs.Belows.{IsReading}
use Rattle.eql_laws.specs.Shapes.{HasStageBefore, IsFull}
use Rattle.eql_outside.specs.Moments.{History}
use Rattle.eql_lane.specs.Lanes.{LaneState, Setting, beginning_lane, fresh_cut as fresh_lane}
use Rattle.eql_lane.specs.declared.make.LaneStart.{LaneStart}
use Rattle.eql_lane.specs.declared.make.LaneStart.TheVariants as start
use Rattle.eql_lane.specs.Slacks.{nanos_of}
use Rattle.eql_lane.specs.Starts.{BeginsAs}
use Rattle.eql_lane.specs.Views.{IsTextOf, LaneView}
use Rattle.eql_parts.specs.Inboxes.{HolderIsBelow}
use Rattle.eql_parts.specs.PartSteps.{PartState, PartView, Rules}
use Rattle.eql_conductor.specs.Finding.{own_of}
use Rattle.eql_book.specs.Books.{BookState}
use Rattle.eql_conductor.specs.declared.plan.Keep.{Keep}
use Rattle.eql_conductor.specs.declared.plan.RunPlan.{RunPlan}
use Rattle.eql_conductor.specs.GoingOn.{AreOfTexts}
use Rattle.eql_conductor.specs.Lists.{rules_in, set_in}
use Rattle.eql_conductor.specs.Openings.{CutRunsBegin, FitMayBegin, FreshRunsBegin, IsBegun, IsPlanned, OpensAt, begun_part}
use Rattle.eql_conductor.specs.Runs.{MayKeepIf, MayRun}
use Rattle.eql_conductor.proofs.Lists.{there_or}
use Rattle.eql_replay.specs.Listed.{BenchView, bench_known, known_of}
use Rattle.eql_replay_tests.specs.Opens.{AllMayHold, BeginAll, BeginsWith, IsFreshAt, MayKeepOver, PartsBegin, StandsAt, Starts, StartsAs}
use Rattle.eql_replay_tests.proofs.Pushed.{each_more, each_none}

-- ---- lanes
pub begins_with : {S L : Type 0} (left lent_as : S → Option (List ℕ)) (count : S → ℕ) (source : S) (reader : L) (shard : ℕ) (slack : Option ℕ) (how : LaneStart) (lane : LaneView S L)
    → BeginsAs left lent_as count source reader shard slack how lane → BeginsWith (nanos_of slack) (StartsAs how) shard lane
begins_with left lent_as count source reader shard slack start.Fresh lane made = record {
  shard = made.shard_is;
  slack_is = made.slack_is;
  state = made.state ∙ ap (λ (x : LaneState). beginning_lane x.cut x.faults) (sym made.state);
  cut = ap (λ (x : LaneState). x.cut) made.state;
}
begins_with left lent_as count source reader shard slack (start.From cut) lane made = record {
  shard = made.shard_is;
  slack_is = made.slack_is;
  state = made.state ∙ ap (λ (x : LaneState). beginning_lane x.cut x.faults) (sym made.state);
  cut = ap (λ (x : LaneState). x.cut) made.state;
}
begins_with left lent_as count source reader shard slack (start.Retrace cut) lane made = record {
  shard = made.begins.shard_is;
  slack_is = made.begins.slack_is;
  state = made.begins.state ∙ ap (λ (x : LaneState). beginning_lane x.cut x.faults) (sym made.begins.state);
  cut = tt;
}
begins_with left lent_as count source reader shard slack (start.Lift cut wanted) lane made = record {
  shard = made.begins.shard_is;
  slack_is = made.begins.slack_is;
  state = made.begins.state ∙ ap (λ (x : LaneState). beginning_lane x.cut x.faults) (sym made.begins.state);
  cut = tt;
}

-- one lane more
pub begin_more : {S L : Type 0} (slack : Option ℤ) (Is : ℕ → LaneCut → Type 0) (lanes more : List (LaneView S L)) (lane : LaneView S L) → BeginAll slack Is lanes
    → BeginsWith slack (Is (length lanes)) (length lanes) lane → more ≡ lanes ++ lane ∷ [] → BeginAll slack Is more
begin_more slack Is lanes more lane all one is = record {
  each = λ s x at. each_more (λ k y. BeginsWith slack (Is k) k y) lanes lane all.each one s x (ap (λ xs. slice_get xs s) (sym is) ∙ at);
}

pub begin_none : {S L : Type 0} (slack : Option ℤ) (Is : ℕ → LaneCut → Type 0) (lanes : List (LaneView S L)) → lanes ≡ [] → BeginAll slack Is lanes
begin_none slack Is lanes is = record { each = λ s x at. each_none (λ k y. BeginsWith slack (Is k) k y) s x (ap (λ xs. slice_get xs s) (sym is) ∙ at) }

-- a lane of another cut of which more is known
pub begins_as : {S L : Type 0} (slack : Option ℤ) (Is Are : LaneCut → Type 0) (s t : ℕ) (lane : LaneView S L) → BeginsWith slack Is s lane → s ≡ t → ((cut : LaneCut) → Is cut → Are cut)
    → BeginsWith slack Are t lane
begins_as slack Is Are s t lane begins at more = record { shard = begins.shard ∙ at; slack_is = begins.slack_is; state = begins.state; cut = more lane.state.cut begins.cut }

-- ---- the parts
pub part_more : (rules : Rules) (mark : Mark) (holders : List Holder) (parts more : List PartView) (part : PartView) → PartsBegin rules mark holders parts
    → part ≡ record { rules = rules; state = begun_part rules (own_of holders (length parts)) mark } → more ≡ parts ++ part ∷ [] → PartsBegin rules mark holders more
part_more rules mark holders parts more part all one is = record {
  each = λ p x at. each_more (λ k y. y ≡ record { rules = rules; state = begun_part rules (own_of holders k) mark }) parts part all.each one p x (ap (λ xs. slice_get xs p) (sym is) ∙ at);
}

none_hold : (stages : ℕ) (mark : Mark) → AllMayHold stages mark []
none_hold stages mark = record {
  each = λ p. record {
    order = refl;
    before = All-nil (HasStageBefore stages);
    full = All-nil IsFull;
    below = All-nil (HolderIsBelow mark);
  };
}

-- each part may begin with its own of the pending sequences
pub may_hold : {S L : Type 0} (plan : RunPlan) (rules : Rules) (lanes : List (LaneView S L)) (holders : List Holder) (book : BookState) → FitMayBegin
    → Starts plan rules lanes holders book → AllMayHold rules.stages plan.mark holders
may_hold plan rules lanes holders book law (inl fresh) = subst (λ (hs : List Holder). AllMayHold rules.stages plan.mark hs) (sym fresh.none) (none_hold rules.stages plan.mark)
may_hold plan rules lanes holders book law (inr from) =
    let may = (law from.run from.shards from.kept from.fits).parts in
    let held : AllMayHold from.run.stages (At from.kept.time) from.kept.holders = record {
      each = λ p. record { order = (may p).order; before = (may p).before; full = (may p).full; below = (may p).below };
    } in
    subst (λ (hs : List Holder). AllMayHold rules.stages plan.mark hs) (sym from.holders_are)
    (subst (λ (m : Mark). AllMayHold rules.stages m from.kept.holders) (sym from.mark)
    (subst (λ (n : ℕ). AllMayHold n (At from.kept.time) from.kept.holders) (sym from.stages) held))

-- ---- the bench
-- the state of a lane, where there is one
abbrev state_in : {S L : Type 0} → Option (LaneView S L) → LaneState
state_in None = beginning_lane fresh_lane 0
state_in (Some lane) = lane.state

module _ {S L : Type 0} (read_of : L → Reads) (text : ℕ → Option (List ℕ)) (reading : (reader : L) → IsReading (read_of reader))
    (plan : RunPlan) (rules : Rules) (lanes : List (LaneView S L)) (parts : List PartView) (holders : List Holder) (book : BookState)
    (count : length parts ≡ 16) (span : IsSpan rules.span) (begin : PartsBegin rules plan.mark holders parts) where
  abbrev lane_at : ℕ → LaneState
  lane_at s = state_in (slice_get lanes s)

  abbrev part_at : ℕ → PartState
  part_at p = begun_part rules (own_of holders p) plan.mark

  opens : (calls : Option ℤ) (Is : ℕ → LaneCut → Type 0) → BeginAll calls Is lanes → OpensAt (known_of read_of text (record { lanes = lanes; parts = parts }) []) lane_at part_at rules
  opens slack Is all = record {
    opened = record {
      lanes = λ s l x has. (0, has.state_is ∙ sym (ap state_in has.there));
      parts = λ p l x has. (0, has.state_is ∙ ap (λ (part : PartView). part.state) (begin.each p has.part has.there));
    };
    are_lanes = record {
      shard = λ s l.
          let one = there_or lanes s l in
          ap (λ (set : Setting). set.shard) (ap (set_in read_of (text s)) one.1) ∙ (all.each s one.0 one.1).shard;
      reading = λ s l.
          let one = there_or lanes s l in
          subst (λ (set : Setting). IsReading set.reads) (sym (ap (set_in read_of (text s)) one.1)) (reading one.0.reader);
    };
    are_parts = record {
      count = count;
      each = λ p l.
          let one = there_or parts p l in
          ap rules_in one.1 ∙ ap (λ (part : PartView). part.rules) (begin.each p one.0 one.1);
      span = span;
    };
  }

  begun_at : (slack : Option ℤ) (Is : ℕ → LaneCut → Type 0) → BeginAll slack Is lanes → (s : ℕ) → s < length lanes → IsBegun (lane_at s).cut (lane_at s) × Is s (lane_at s).cut
  begun_at slack Is all s l =
      let one = there_or lanes s l in
      let begins = all.each s one.0 one.1 in
      subst (λ (x : LaneState). IsBegun x.cut x × Is s x.cut) (sym (ap state_in one.1)) (begins.state, begins.cut)

  -- a run may begin, afresh or with what a cut keeps
  pub may_run : FreshRunsBegin (known_of read_of text (record { lanes = lanes; parts = parts }) []) → CutRunsBegin (known_of read_of text (record { lanes = lanes; parts = parts }) [])
      → 1 ≤ plan.batch → plan.batch ≤ 4096 → 1 ≤ length lanes → book.whole ≡ true → Starts plan rules lanes holders book
      → MayRun plan (known_of read_of text (record { lanes = lanes; parts = parts }) []) book
  may_run fresh_law cut_law from to some whole (inl fresh) =
      let planned : IsPlanned plan Start (known_of read_of text (record { lanes = lanes; parts = parts }) []) book =
      record { batch_from = from; batch_to = to; mark_is = fresh.mark; some_lane = some; whole = whole } in
      (fresh_law lane_at part_at rules (record {
        opens = opens fresh.slack IsFreshAt fresh.begin;
        lanes = λ s l.
            let at = begun_at fresh.slack IsFreshAt fresh.begin s l in
            subst (λ (cut : LaneCut). IsBegun cut (lane_at s)) at.1 at.0;
        parts = λ p l. ap (λ (hs : List Holder). begun_part rules (own_of hs p) plan.mark) fresh.none ∙ ap (begun_part rules []) fresh.mark;
      })).may_run plan book planned fresh.book_is
  may_run fresh_law cut_law from to some whole (inr cut) =
      let planned : IsPlanned plan (At cut.kept.time) (known_of read_of text (record { lanes = lanes; parts = parts }) []) book =
      record { batch_from = from; batch_to = to; mark_is = cut.mark; some_lane = some; whole = whole } in
      (cut_law lane_at part_at rules cut.run cut.shards cut.kept
      (record {
        opens = opens (Some cut.run.slack) (StandsAt cut.kept.lanes) cut.begin;
        cuts = λ s l. (begun_at (Some cut.run.slack) (StandsAt cut.kept.lanes) cut.begin s l).1;
        lanes = λ s l. (begun_at (Some cut.run.slack) (StandsAt cut.kept.lanes) cut.begin s l).0;
        parts = λ p l. ap (λ (hs : List Holder). begun_part rules (own_of hs p) plan.mark) cut.holders_are ∙ ap (begun_part rules (own_of cut.kept.holders p)) cut.mark;
      })
      (record {
        fits = cut.fits;
        stands = cut.stands;
        stages = cut.stages;
        slack = λ s l.
            let one = there_or lanes s l in
            ap (λ (set : Setting). set.slack) (ap (set_in read_of (text s)) one.1) ∙ (cut.begin.each s one.0 one.1).slack_is;
      })).may_run plan book planned cut.book_is

  -- and so of a bench of these
  pub bench_may_run : (b : BenchView S L) → b ≡ record { pool = record { lanes = lanes; parts = parts }; calls = 0; notes = [] } → FreshRunsBegin (bench_known read_of text b)
      → CutRunsBegin (bench_known read_of text b) → 1 ≤ plan.batch → plan.batch ≤ 4096 → 1 ≤ length lanes → book.whole ≡ true → Starts plan rules lanes holders book
      → MayRun plan (bench_known read_of text b) book
  bench_may_run b is fresh_law cut_law from to some whole starts =
      subst (λ (z : BenchView S L). MayRun plan (bench_known read_of text z) book) (sym is)
      (may_run (subst (λ (z : BenchView S L). FreshRunsBegin (bench_known read_of text z)) is fresh_law) (subst (λ (z : BenchView S L). CutRunsBegin (bench_known read_of text z)) is cut_law) from
      to some whole starts)

-- ---- texts
pub none_told : {S L : Type 0} (left : S → Option (List ℕ)) (text : ℕ → Option (List ℕ)) (lanes : List (LaneView S L)) → ((s : ℕ) → text s ≡ None) → AreOfTexts left text lanes
none_told left text lanes none = record { each = λ s lane at. subst (λ (o : Option (List ℕ)). IsTextOf left o lane) (sym (none s)) tt }

-- ---- cuts
pub bench_keeps : {D : Type 0} (history : D → Option History) (fault_count : D → ℕ) {S L : Type 0} (read_of : L → Reads) (text : ℕ → Option (List ℕ)) (plan : RunPlan) (b : BenchView S L)
    (keep : Option (Keep D)) (lanes : ℕ) → length b.pool.lanes ≡ lanes → MayKeepOver history plan lanes keep → MayKeepIf history fault_count plan (bench_known read_of text b) keep
bench_keeps history fault_count read_of text plan b None lanes count keeps = keeps
bench_keeps history fault_count read_of text plan b (Some k) lanes count keeps = (
  keeps.some,
  record {
    every = keeps.every;
    head = record { names = keeps.names; shards = keeps.shards ∙ sym count };
    stands = keeps.stands;
  },
)
