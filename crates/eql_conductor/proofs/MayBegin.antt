-- What a cut that fits offers to those that make lanes, parts and a book of it.
use Rattle.std.proofs.Common.{◌≤◌, ◌+◌, ℕ, ℤ, List, [], ◌∷◌, refl}
use Rattle.std.specs.Prelude.{◌==◌, All, IsTrue}
use Rattle.std.specs.List.{AllZip, list_all}
use Rattle.std.proofs.lemmas.List.Elements.{All-cons, All-filter, All-nil, All-weaker}
use Rattle.eql_values.specs.declared.cut.LaneCut.{LaneCut}
use Rattle.eql_values.specs.declared.cut.Pipe.{Pipe}
use Rattle.eql_values.specs.declared.cut.Pipe.TheVariants as pipe
use Rattle.eql_values.specs.declared.cut.PipeState.{PipeState}
use Rattle.eql_values.specs.declared.cut.PipeState.TheVariants as state
use Rattle.eql_values.specs.declared.found.Holder.{Holder}
use Rattle.eql_values.specs.declared.item.Item.{Item}
use Rattle.eql_values.specs.declared.order.Mark.{Mark}
use Rattle.eql_values.specs.declared.order.Mark.TheVariants.{At}
use Rattle.eql_values.specs.declared.order.OrderKey.{OrderKey}
use Rattle.eql_laws.specs.Books.{StateFits}
use Rattle.eql_laws.specs.Cuts.{IsPending, PendingAre, is_of, is_of_shards}
use Rattle.eql_laws.specs.Lanes.{IsKeptBy, LaneFits, LanesFit}
use Rattle.eql_laws.specs.Shapes.{HasStageBefore, IsFull}
use Rattle.eql_laws.proofs.Facts.{both_true, true_both}
use Rattle.eql_lane.specs.Starts.{MayBegin}
use Rattle.eql_parts.specs.Inboxes.{HolderIsBelow, below_mark}
use Rattle.eql_parts.specs.Spreading.{part_number}
use Rattle.eql_conductor.specs.Finding.{own_of}
use Rattle.eql_book.specs.Books.{FitsPipe}
use Rattle.eql_conductor.specs.Openings.{FitMayBegin, PartMayBegin}
use Rattle.eql_conductor.proofs.Opened.{own_in_order}

-- ---- lanes
lane_may : (slack t : ℤ) (shard : ℕ) (lane : LaneCut) → LaneFits slack t shard lane → MayBegin lane
lane_may slack t shard lane fits = record {
  ascending = fits.ascending;
  lines_to = All-weaker (IsKeptBy shard lane.counts.lines (At t)) (λ (item : Item). item.order.line ≤ lane.counts.lines) (λ item is. is.line_to) lane.items fits.items;
  few = fits.no_more_items;
  best = fits.best_in_range;
  counts = fits.counts_stand.fewer;
  lines = fits.lines_to;
  bytes = fits.offset_to;
}

lanes_may : (slack t : ℤ) (shard : ℕ) (lanes : List LaneCut) → LanesFit slack t shard lanes → All MayBegin lanes
lanes_may slack t shard [] fits = All-nil MayBegin
lanes_may slack t shard (lane ∷ lanes) fits = All-cons MayBegin lane lanes (lane_may slack t shard lane fits.0) (lanes_may slack t (shard + 1) lanes fits.1)

-- ---- parts
all_below : (shards : ℕ) (mark : Mark) (chain : List OrderKey) → IsTrue (list_all (is_of shards mark) chain) → IsTrue (list_all (below_mark mark) chain)
all_below shards mark [] h = refl
all_below shards mark (event ∷ chain) h =
    let both = both_true (is_of shards mark event) (list_all (is_of shards mark) chain) h in
    true_both _ _ (both_true (below_mark mark event) (is_of_shards shards event) both.0).0 (all_below shards mark chain both.1)

part_may : (stages shards : ℕ) (t : ℤ) (holders : List Holder) (p : ℕ) → PendingAre stages shards (At t) holders → PartMayBegin stages t (own_of holders p)
part_may stages shards t holders p are =
    let own : All (IsPending stages shards (At t)) (own_of holders p) = All-filter (λ (h : Holder). part_number h.key == p) (IsPending stages shards (At t)) holders are.all in
    record {
      order = own_in_order holders p are.in_order;
      before = All-weaker (IsPending stages shards (At t)) (HasStageBefore stages) (λ h is. (is.stage_from, is.stage_to)) (own_of holders p) own;
      full = All-weaker (IsPending stages shards (At t)) IsFull (λ h is. is.full) (own_of holders p) own;
      below = All-weaker (IsPending stages shards (At t)) (HolderIsBelow (At t)) (λ h is. all_below shards (At t) h.chain is.events) (own_of holders p) own;
    }

-- ---- the book
state_fits : (m shards found : ℕ) (p : Pipe) (s : PipeState) → StateFits m shards found p s → FitsPipe p s
state_fits m shards found (pipe.Head count) (state.Head passed) fits = fits
state_fits m shards found (pipe.Tail count) (state.Tail kept) fits = fits.0
state_fits m shards found (pipe.Head count) (state.Tail kept) fits = absurd fits
state_fits m shards found (pipe.Tail count) (state.Head passed) fits = absurd fits

states_fit : (m shards found : ℕ) (pipes : List Pipe) (states : List PipeState) → AllZip (StateFits m shards found) pipes states → AllZip FitsPipe pipes states
states_fit m shards found [] [] fits = tt
states_fit m shards found [] (s ∷ states) fits = absurd fits
states_fit m shards found (p ∷ pipes) [] fits = absurd fits
states_fit m shards found (p ∷ pipes) (s ∷ states) fits = (state_fits m shards found p s fits.0, states_fit m shards found pipes states fits.1)

pub fit_may_begin : FitMayBegin
fit_may_begin run shards kept fits = record {
  lanes = lanes_may run.slack kept.time 0 kept.lanes fits.lanes;
  parts = λ p. part_may run.stages shards kept.time kept.holders p fits.holders;
  book = record { listed_to = fits.book.listed_to; states = states_fit run.stages shards kept.book.found run.pipes kept.book.pipes fits.book.states };
}
