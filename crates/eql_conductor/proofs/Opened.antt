-- What is known of lanes and parts that began so, whatever others fed and turned since.
use Rattle.std.proofs.Common.{◌≡◌, ◌<◌, ◌≤◌, ℕ, ℤ, T, true, false, List, [], ◌∷◌, map, Option, Some, None, refl, sym, ap, ◌∙◌, subst}
use Rattle.std.specs.Prelude.{◌==◌, All, IfSome}
use Rattle.std.specs.FinMap.Entries.{is_sorted, is_sorted-where_key}
use Rattle.std.proofs.lemmas.List.Elements.{All-cons, All-filter, All-nil}
use Rattle.eql_values.specs.declared.cut.Pipe.{Pipe}
use Rattle.eql_values.specs.declared.cut.Pipe.TheVariants as pipe
use Rattle.eql_values.specs.declared.found.Holder.{Holder}
use Rattle.eql_values.specs.declared.found.Numbered.{Numbered}
use Rattle.eql_values.specs.declared.item.Item.{Item}
use Rattle.eql_values.specs.declared.order.Mark.{Mark}
use Rattle.eql_values.specs.declared.order.Mark.TheVariants.{Start, At, End}
use Rattle.eql_values.specs.Accepted.{Reads}
use Rattle.eql_values.specs.Marks.{is_below, low_of}
use Rattle.eql_values.specs.Matching.{Slot, slot_cmp}
use Rattle.eql_values.specs.declared.order.OrderKey.{OrderKey}
use Rattle.eql_laws.specs.Alive.{HoldersAreInOrder}
use Rattle.eql_laws.specs.Merging.{by_slot}
use Rattle.eql_laws.specs.Shapes.{HasStageBefore, IsFull}
use Rattle.eql_laws.proofs.EventLemmas.{after_none}
use Rattle.eql_laws.proofs.Facts.{holds_true}
use Rattle.eql_laws.proofs.PartMatches.{holders_where, slot_of_part}
use Rattle.eql_lane.specs.Lanes.{LaneState, Setting, beginning_lane, fresh_cut as fresh_lane}
use Rattle.eql_lane.proofs.Keeping.{fresh_is}
use Rattle.eql_parts.specs.PartSteps.{PartState, Rules, alive_by, mark_time}
use Rattle.eql_parts.specs.Spreading.{part_number}
use Rattle.eql_conductor.specs.Finding.{own_of}
use Rattle.eql_conductor.specs.LaneCalls.{Holds, IsOfShard, IsOfText, LaneIsAt}
use Rattle.eql_conductor.specs.PartCalls.{ComeFrom, ReachesTo}
use Rattle.eql_conductor.proofs.Reaching.{by_later, left_order, time_self}
use Rattle.eql_book.specs.Books.{BookState}
use Rattle.eql_book.specs.Laws.{fresh_state}
use Rattle.eql_conductor.specs.declared.plan.RunPlan.{RunPlan}
use Rattle.eql_conductor.specs.Benches.{Known, ComesByTurns}
use Rattle.eql_conductor.specs.Bounds.{AreSized, IsSized}
use Rattle.eql_conductor.specs.LaneRounds.{LanesAreAt, text_at}
use Rattle.eql_conductor.specs.PartRounds.{IsAtRest, AreAtRest, AreSomehowFull}
use Rattle.eql_conductor.specs.Rounds.{BenchIsOfTexts}
use Rattle.eql_conductor.specs.Runs.{MayRun}
use Rattle.eql_conductor.specs.Saving.{BookKeepsNumbers, KeepsNumbers}
use Rattle.eql_conductor.specs.Openings.{BeginsAt, FreshRunsBegin, IsPlanned, OpensAt, OpensFresh, TellsTexts, begun_part}
use Rattle.eql_conductor.proofs.BoundsOpenings.{fed_is_sized, fresh_is_sized}
use Rattle.eql_conductor.proofs.MarkOrder.{at_most_start}
use Rattle.eql_conductor.proofs.Parted.{rest_stays}
use Rattle.eql_conductor.proofs.Takes.{fed_keeps}

-- ---- what others do keeps it
module _ (b : Known) (lane : ℕ → LaneState) (part : ℕ → PartState) (rules : Rules) (opens : OpensAt b lane part rules) where
  pub lanes_begin : (texts : Option (List (List ℕ))) (mark : Mark) → ((s : ℕ) → s < b.lanes → LaneIsAt (text_at texts s) (b.set s) mark (lane s)) → LanesAreAt texts mark b
  lanes_begin texts mark at = record {
    are = opens.are_lanes;
    each = λ s l x here. fed_keeps (text_at texts s) (b.set s) mark (lane s) x (opens.are_lanes.reading s l) (opens.opened.lanes s l x here) (at s l);
  }

  pub sized_begin : ((s : ℕ) → s < b.lanes → IsSized (lane s)) → AreSized b
  sized_begin sized = record { each = λ s l x here. fed_is_sized (b.set s) (lane s) x (opens.opened.lanes s l x here) (sized s l) }

  pub parts_begin : (all : List Holder) (mark : Mark) → ((p : ℕ) → p < b.parts → IsAtRest rules all mark p (part p)) → AreAtRest rules all mark b
  parts_begin all mark at = record {
    are = opens.are_parts;
    each = λ p l x here.
        rest_stays rules all [] mark opens.are_parts.span p (part p) x
        (subst (λ (r : Rules). ComesByTurns r (part p) x) (opens.are_parts.each p l) (opens.opened.parts p l x here)) (at p l);
  }

-- ---- a part
reach_self : (mark : Mark) → ReachesTo (mark_time mark) mark
reach_self Start = refl
reach_self (At t) = time_self (Some t)
reach_self End = tt

from_none : (time : Option ℤ) → ComeFrom time []
from_none None = tt
from_none (Some t) = tt

-- the pending sequences of a part's keys stand in order where all do
pub own_in_order : (all : List Holder) (p : ℕ) → HoldersAreInOrder all → HoldersAreInOrder (own_of all p)
own_in_order all p order =
    holds_true _ (subst (λ (es : List (Slot × List OrderKey)). T (is_sorted slot_cmp es)) (sym (holders_where part_number p all))
    (is_sorted-where_key slot_cmp (slot_of_part part_number p) (map by_slot all) (subst T (sym order) tt)))

-- a part that begins with the pending sequences of its keys is at rest
pub begun_rests : (rules : Rules) (all : List Holder) (mark : Mark) (p : ℕ) → HoldersAreInOrder all → All (HasStageBefore rules.stages) all
    → IsAtRest rules all mark p (begun_part rules (own_of all p) mark)
begun_rests rules all mark p order before =
    let own : List Holder = own_of all p in
    let own_order : HoldersAreInOrder own = own_in_order all p order in
    let time : Option ℤ = mark_time mark in
    record {
      played = [];
      split = refl;
      found = refl;
      order = left_order rules.span time own own_order;
      reach = time;
      alike = by_later rules.span time time own (time_self time)
          ∙ ap (alive_by rules.span time) (sym (after_none rules.stages rules.span own own_order
          (All-filter (λ (h : Holder). part_number h.key == p) (HasStageBefore rules.stages) all before)));
      ascends = tt;
      below = All-nil (λ (item : Item). is_below mark item ≡ true);
      waits = from_none time;
      to = reach_self mark;
      processed = tt;
      done_to = time_self time;
      done = λ e. refl;
      fresh = by_later rules.span time time own (time_self time);
      last = refl;
    }

-- ---- a plan
pub may_run_at : (plan : RunPlan) (mark : Mark) (b : Known) (book : BookState) (rules : Rules) (all : List Holder) → (mark ≡ End → ⊥) → IsPlanned plan mark b book → BeginsAt rules all mark b
    → BookKeepsNumbers book.kept → MayRun plan b book
may_run_at plan mark b book rules all before planned begins numbers = record {
  batch_from = planned.batch_from;
  batch_to = planned.batch_to;
  some_lane = planned.some_lane;
  before_end = λ e. before (sym planned.mark_is ∙ e);
  lanes = subst (λ (m : Mark). LanesAreAt None m b) (sym planned.mark_is) begins.lanes;
  sized = begins.sized;
  parts = subst (λ (m : Mark). AreSomehowFull m b) (sym planned.mark_is) begins.parts;
  whole = planned.whole;
  numbers = numbers;
}

-- ---- fresh lanes
fresh_holds : (set : Setting) (faults : ℕ) → Holds set Start (beginning_lane fresh_lane faults)
fresh_holds set faults = record {
  ascends = tt;
  of_shard = All-nil (IsOfShard set.shard);
  none_below = All-nil (λ (item : Item). is_below Start item ≡ false);
  safe = at_most_start (low_of false set.slack None);
}

fresh_told : (text : Option (List ℕ)) (set : Setting) (faults : ℕ) → IfSome text (λ t. set.text ≡ Some t) → IfSome text (IsOfText set Start (beginning_lane fresh_lane faults))
fresh_told None set faults h = tt
fresh_told (Some t) set faults h = record { text_is = h; is = fresh_is set t faults }

fresh_at : (text : Option (List ℕ)) (set : Setting) (x : LaneState) → x ≡ beginning_lane fresh_lane x.faults → IfSome text (λ t. set.text ≡ Some t) → LaneIsAt text set Start x
fresh_at text set x e h = subst (LaneIsAt text set Start) (sym e) (record { holds = fresh_holds set x.faults; told = fresh_told text set x.faults h })

some_of : (text told : Option (List ℕ)) → told ≡ text → IfSome text (λ t. told ≡ Some t)
some_of None told e = tt
some_of (Some t) told e = e

-- ---- a fresh book
fresh_keeps : (p : Pipe) → KeepsNumbers 0 (fresh_state p)
fresh_keeps (pipe.Head count) = record { ascend = tt; found_to = All-nil (λ (n : Numbered). n.number ≤ 0) }
fresh_keeps (pipe.Tail count) = record { ascend = tt; found_to = All-nil (λ (n : Numbered). n.number ≤ 0) }

fresh_numbers : (pipes : List Pipe) → All (KeepsNumbers 0) (map fresh_state pipes)
fresh_numbers [] = All-nil (KeepsNumbers 0)
fresh_numbers (p ∷ pipes) = All-cons (KeepsNumbers 0) (fresh_state p) (map fresh_state pipes) (fresh_keeps p) (fresh_numbers pipes)

-- ---- a fresh run
module _ (b : Known) (lane : ℕ → LaneState) (part : ℕ → PartState) (rules : Rules) (fresh : OpensFresh b lane part rules) where
  fresh_rests : AreAtRest rules [] Start b
  fresh_rests =
      parts_begin b lane part rules fresh.opens [] Start
      (λ p l. subst (IsAtRest rules [] Start p) (sym (fresh.parts p l)) (begun_rests rules [] Start p refl (All-nil (HasStageBefore rules.stages))))

  fresh_begins : BeginsAt rules [] Start b
  fresh_begins = record {
    lanes = lanes_begin b lane part rules fresh.opens None Start (λ s l. fresh_at None (b.set s) (lane s) (fresh.lanes s l) tt);
    sized = sized_begin b lane part rules fresh.opens (λ s l. subst IsSized (sym (fresh.lanes s l)) (fresh_is_sized (lane s).faults));
    parts = record { rules = rules; all = []; is = fresh_rests; full = All-nil IsFull };
    rests = fresh_rests;
  }

  fresh_texts : (reads : Reads) (slack : Option ℤ) (texts : List (List ℕ)) → TellsTexts reads slack texts b → BenchIsOfTexts reads slack texts Start b
  fresh_texts reads slack texts tells = record {
    read = tells.read;
    lanes = lanes_begin b lane part rules fresh.opens (Some texts) Start
        (λ s l. fresh_at (text_at (Some texts) s) (b.set s) (lane s) (fresh.lanes s l) (some_of (text_at (Some texts) s) (b.set s).text (tells.have s l)));
  }

pub fresh_runs_begin : (b : Known) → FreshRunsBegin b
fresh_runs_begin b lane part rules fresh = record {
  begins = fresh_begins b lane part rules fresh;
  told = fresh_texts b lane part rules fresh;
  may_run = λ plan book planned e.
      may_run_at plan Start b book rules [] (λ f. cc) planned (fresh_begins b lane part rules fresh) (subst BookKeepsNumbers (sym e) (fresh_numbers book.pipes));
}
