-- Pending sequences that are alive at times.
use Rattle.std.proofs.Common.{◌≡◌, ℕ, ℤ, true, List, [], Option, Some, None, sym, subst}
use Rattle.std.specs.Prelude.{All}
use Rattle.std.proofs.lemmas.List.Elements.{All-contains_itself, All-filter, All-nil, All-weaker, filter_passes}
use Rattle.std.specs.List.{Contains}
use Rattle.eql_values.specs.Chains.{in_time}
use Rattle.eql_values.specs.Marks.{is_below}
use Rattle.eql_values.specs.declared.order.Mark.{Mark}
use Rattle.eql_values.specs.declared.item.Item.{Item}
use Rattle.eql_values.specs.declared.found.Holder.{Holder}
use Rattle.eql_laws.specs.Alive.{AliveAreInOrder}
use Rattle.eql_laws.specs.Shapes.{HasStageBefore}
use Rattle.eql_part.specs.KeyTables.{ComesAfterHolder}
use Rattle.eql_parts.specs.Inboxes.{HolderIsBelow, IsLater, IsWaiting, LiesBelow, WaitingView}
use Rattle.eql_parts.specs.PartSteps.{HasNothingStale, IsAliveBy, PartState, Rules, alive_by, mark_time, still_held}
use Rattle.eql_parts.specs.Viewed.{IsPart}

-- those that are left are alive
pub left_alive : (span time : Option ℤ) (hs : List Holder) → All (IsAliveBy span time) (alive_by span time hs)
left_alive span None hs = All-weaker (Contains hs) (IsAliveBy span None) (λ h _. tt) hs (All-contains_itself hs)
left_alive span (Some t) hs = filter_passes (λ (h : Holder). in_time span h.chain t) hs

-- what holds of all holds of those that are left
pub left_keep : (P : Holder → Type 0) (span time : Option ℤ) (hs : List Holder) → All P hs → All P (alive_by span time hs)
left_keep P span None hs h = h
left_keep P span (Some t) hs h = All-filter (λ (x : Holder). in_time span x.chain t) P hs h

-- those that are still held, by two times
pub still_keep : (P : Holder → Type 0) (span processed : Option ℤ) (done : Mark) (hs : List Holder) → All P hs → All P (still_held span processed done hs)
still_keep P span processed done hs h = left_keep P span (mark_time done) (alive_by span processed hs) (left_keep P span processed hs h)

pub still_fresh : (rules : Rules) (state : PartState) (hs : List Holder) → state.held ≡ still_held rules.span state.processed state.done hs
    → HasNothingStale rules state
still_fresh rules state hs is = record {
  by_event = subst_all (IsAliveBy rules.span state.processed)
      (left_keep (IsAliveBy rules.span state.processed) rules.span (mark_time state.done) (alive_by rules.span state.processed hs) (left_alive rules.span state.processed hs));
  by_mark = subst_all (IsAliveBy rules.span (mark_time state.done)) (left_alive rules.span (mark_time state.done) (alive_by rules.span state.processed hs));
}
  where
    subst_all : (P : Holder → Type 0) → All P (still_held rules.span state.processed state.done hs) → All P state.held
    subst_all P h = subst (All P) (sym is) h

-- all of a part lies below a mark, also without some pending sequences
pub still_below : (span processed : Option ℤ) (done last : Mark) (hs : List Holder) (inbox : List Item)
    → LiesBelow last hs inbox → LiesBelow last (still_held span processed done hs) inbox
still_below span processed done last hs inbox h = record {
  held_below = still_keep (HolderIsBelow last) span processed done hs h.held_below;
  inbox_below = h.inbox_below;
}

-- the events still wait for those that are left
pub left_waiting : AliveAreInOrder → (stages : ℕ) (span : Option ℤ) (t : ℤ) (hs : List Holder) (inbox : List Item)
    → IsWaiting stages hs inbox → IsWaiting stages (alive_by span (Some t) hs) inbox
left_waiting in_order stages span t hs inbox h = record {
  in_order = in_order span t hs h.in_order;
  before = left_keep (HasStageBefore stages) span (Some t) hs h.before;
  next = record {
    ascends = h.next.ascends;
    later = All-weaker (IsLater hs) (IsLater (alive_by span (Some t) hs)) (λ item later. left_keep (ComesAfterHolder item.order) span (Some t) hs later) inbox h.next.later;
  };
}

-- a part that begins, with those that are alive at its mark
pub begun : (w : WaitingView) (m : ℕ) (span : Option ℤ) (hs : List Holder) (done : Mark)
    → w ≡ record { stages = m; span = span; held = alive_by span (mark_time done) hs; inbox = []; found = []; processed = None }
    → All (HolderIsBelow done) hs → IsPart w done done
begun w m span hs done is below =
    subst (λ (x : WaitingView). IsPart x done done) (sym is)
    (record {
      below = record { held_below = left_keep (HolderIsBelow done) span (mark_time done) hs below; inbox_below = All-nil (λ (x : Item). is_below done x ≡ true) };
      fresh = record { by_event = left_alive span None (alive_by span (mark_time done) hs); by_mark = left_alive span (mark_time done) hs };
    })
