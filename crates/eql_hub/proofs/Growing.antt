-- A step adds at most one entry to a pass's own.
use Rattle.std.proofs.Common.{◌≡◌, ◌≢◌, inl, inr, ℕ, Bool, List, [], ◌∷◌, Option, Some, length, sym, ap, ◌∙◌, subst, arith, length-append}
use Rattle.std.specs.Prelude.{slice_get}
use Rattle.std.proofs.lemmas.Option.{same_Some}
use Rattle.eql_values.specs.Accepted.{Reads}
use Rattle.eql_outside.specs.Plans.{FaultPlan}
use Rattle.eql_lane.specs.declared.ops.LaneOp.TheVariants as lane_op
use Rattle.eql_lane.specs.declared.ops.LaneReply.TheVariants as lane_reply
use Rattle.eql_parts.specs.declared.ops.PartOp.TheVariants as part_op
use Rattle.eql_parts.specs.declared.ops.PartReply.TheVariants as part_reply
use Rattle.eql_turn_lock.specs.declared.view.View.{View}
use Rattle.eql_turn_lock.specs.declared.refused.NotNow.{NotNow}
use Rattle.eql_turn_lock.specs.declared.refused.NotNow.TheVariants.{Busy, Worn}
use Rattle.eql_turn_lock.specs.Calls.{IsUnplayed, PlaysOnce, Refuses}
use Rattle.eql_turn_lock.specs.History.{entry}
use Rattle.eql_hub.specs.declared.step.Did.{Did}
use Rattle.eql_hub.specs.declared.step.Did.TheVariants as did
use Rattle.eql_hub.specs.declared.step.HandFault.TheVariants as fault
use Rattle.eql_hub.specs.Hands.{HandView, LaneKnown, PartKnown}
use Rattle.eql_hub.specs.Steps.{EachIsRelated, StepEndsAtLane, LaneEnds, LaneIsIdle, LaneIsQuiet, AddsAtMostOne, AddsAtMostOneEach, StepEndsAtPart, PartEnds, PartIsIdle, PartIsQuiet, Steps}
use Rattle.eql_hub.specs.Turns.{IsLaneTurn, IsPartTurn, is_open_lane, is_open_part}
use Rattle.eql_hub.proofs.Sweeping.{passed_quiet, same_or}

module _ {T O R : Type 0} where
  more_same : (v w : View T O R) → w ≡ v → AddsAtMostOne v w
  more_same v w e = (ap (λ (u : View T O R). u.number) e, let m = ap (λ (u : View T O R). length u.mine) e in omega (arith, m))

  more_played : (step_of : T → O → R → T → Type 0) (is_open : O → Bool) (v w : View T O R) (op : O) (reply : R) → PlaysOnce step_of is_open v op reply w → AddsAtMostOne v w
  more_played step_of is_open v w op reply h =
      let p = h.1 in
      (p.same.0, let a = ap length p.mine in let b = length-append v.mine (entry v.number op reply ∷ []) in omega (arith, a, b))

  more_refused : (v w : View T O R) (op : O) (refused : NotNow O) → Refuses v op refused w → AddsAtMostOne v w
  more_refused v w op (Busy word back) h = (h.1.2, let m = ap length h.1.1 in omega (arith, m))
  more_refused v w op (Worn word back) h = (h.1.2, let m = ap length h.1.1 in omega (arith, m))

  more_unplayed : (v w : View T O R) → IsUnplayed v w → AddsAtMostOne v w
  more_unplayed v w is = (is.2, let m = ap length is.1 in omega (arith, m))

  -- one place changed so, and the others so
  more_places : (place : ℕ) (old new : List (View T O R)) (before after : View T O R) → length new ≡ length old
      → slice_get old place ≡ Some before → slice_get new place ≡ Some after → AddsAtMostOne before after
      → ((k : ℕ) (v w : View T O R) → k ≢ place → slice_get old k ≡ Some v → slice_get new k ≡ Some w → AddsAtMostOne v w) → EachIsRelated AddsAtMostOne old new
  more_places place old new before after count was is here others = record {
    count = count;
    each = λ k v w at there. elim (same_or k place) [
      | inl e ↦
          let first : before ≡ v = same_Some before v (sym was ∙ (ap (slice_get old) (sym e) ∙ at)) in
          let last : after ≡ w = same_Some after w (sym is ∙ (ap (slice_get new) (sym e) ∙ there)) in
          subst (λ (x : View T O R). AddsAtMostOne x w) first (subst (λ (x : View T O R). AddsAtMostOne before x) last here)
      | inr apart ↦ others k v w apart at there
    ];
  }

part_idle_more : (batch : ℕ) (v w : PartKnown) → PartIsIdle batch v w → AddsAtMostOne v w
part_idle_more batch v w (inl h) = more_played IsPartTurn is_open_part v w (part_op.Turn batch) part_reply.Idle h
part_idle_more batch v w (inr (inl (word, h))) = more_refused v w (part_op.Turn batch) (Busy word (part_op.Turn batch)) h
part_idle_more batch v w (inr (inr h)) = more_unplayed v w h.0

part_quiet_more : (batch : ℕ) (v w : PartKnown) → PartIsQuiet batch v w → AddsAtMostOne v w
part_quiet_more batch v w (inl e) = more_same v w e
part_quiet_more batch v w (inr h) = part_idle_more batch v w h

part_ends_more : (batch : ℕ) (answer : Did) (place : ℕ) (v w : PartKnown) → PartEnds batch answer place v w → AddsAtMostOne v w
part_ends_more batch (did.Turned part) place v w (is, (items, h)) = more_played IsPartTurn is_open_part v w (part_op.Turn batch) (part_reply.Turned items) h
part_ends_more batch (did.Fault fault.Memory) place v w (back, (items, h)) = more_played IsPartTurn is_open_part v w (part_op.Turn batch) (part_reply.Memory back items) h
part_ends_more batch (did.Fault fault.Worn) place v w (word, h) = more_refused v w (part_op.Turn batch) (Worn word (part_op.Turn batch)) h
part_ends_more batch (did.Fault (fault.Limit of)) place v w h = absurd h
part_ends_more batch (did.Fault (fault.Read shard)) place v w h = absurd h
part_ends_more batch (did.Fed lane) place v w h = absurd h
part_ends_more batch did.Nothing place v w h = absurd h

module _ {S L : Type 0} (left lent_as : S → Option (List ℕ)) (fault_plan : S → Option FaultPlan) (read_of : L → Reads) (batch : ℕ) where
  lane_idle_more : (v w : LaneKnown S L) → LaneIsIdle left lent_as fault_plan read_of batch v w → AddsAtMostOne v w
  lane_idle_more v w (inl (ready, h)) = more_played (IsLaneTurn left lent_as fault_plan read_of) is_open_lane v w (lane_op.Feed batch) (lane_reply.Held ready) h
  lane_idle_more v w (inr (inl h)) = more_played (IsLaneTurn left lent_as fault_plan read_of) is_open_lane v w (lane_op.Feed batch) lane_reply.Closed h
  lane_idle_more v w (inr (inr (inl (word, h)))) = more_refused v w (lane_op.Feed batch) (Busy word (lane_op.Feed batch)) h
  lane_idle_more v w (inr (inr (inr h))) = more_unplayed v w h.0

  lane_quiet_more : (v w : LaneKnown S L) → LaneIsQuiet left lent_as fault_plan read_of batch v w → AddsAtMostOne v w
  lane_quiet_more v w (inl e) = more_same v w e
  lane_quiet_more v w (inr h) = lane_idle_more v w h

  lane_ends_more : (answer : Did) (place : ℕ) (v w : LaneKnown S L) → LaneEnds left lent_as fault_plan read_of batch answer place v w → AddsAtMostOne v w
  lane_ends_more (did.Fed lane) place v w (is, (lines, h)) =
      more_played (IsLaneTurn left lent_as fault_plan read_of) is_open_lane v w (lane_op.Feed batch) (lane_reply.Fed lines) h
  lane_ends_more (did.Fault (fault.Read shard)) place v w (is, (lines, h)) =
      more_played (IsLaneTurn left lent_as fault_plan read_of) is_open_lane v w (lane_op.Feed batch) (lane_reply.Failed lines) h
  lane_ends_more (did.Fault fault.Memory) place v w (lines, h) =
      more_played (IsLaneTurn left lent_as fault_plan read_of) is_open_lane v w (lane_op.Feed batch) (lane_reply.Memory lines) h
  lane_ends_more (did.Fault (fault.Limit of)) place v w h =
      more_played (IsLaneTurn left lent_as fault_plan read_of) is_open_lane v w (lane_op.Feed batch) (lane_reply.Limit of) h
  lane_ends_more (did.Fault fault.Worn) place v w (word, h) = more_refused v w (lane_op.Feed batch) (Worn word (lane_op.Feed batch)) h
  lane_ends_more (did.Turned part) place v w h = absurd h
  lane_ends_more did.Nothing place v w h = absurd h

  lane_ended_more : (alone : List Bool) (answer : Did) (old new : HandView S L) → StepEndsAtLane left lent_as fault_plan read_of batch alone answer old new → AddsAtMostOneEach old new
  lane_ended_more alone answer old new e = record {
    lanes = more_places e.lane old.lanes.views new.lanes.views e.before e.after e.count e.was e.is (lane_ends_more answer e.lane e.before e.after e.ends)
        (λ k v w apart at is. lane_quiet_more v w (e.others k v w apart at is));
    parts = record { count = e.parts.count; each = λ k v w at is. part_quiet_more batch v w (e.parts.each k v w at is) };
  }

  part_ended_more : (answer : Did) (old new : HandView S L) → StepEndsAtPart left lent_as fault_plan read_of batch answer old new → AddsAtMostOneEach old new
  part_ended_more answer old new e = record {
    lanes = record { count = e.lanes.count; each = λ k v w at is. lane_quiet_more v w (e.lanes.each k v w at is) };
    parts = more_places e.part old.parts.views new.parts.views e.before e.after e.count e.was e.is (part_ends_more batch answer e.part e.before e.after e.ends)
        (λ k v w apart at is. part_quiet_more batch v w (e.others k v w apart at is));
  }

  pub steps_more : (alone : List Bool) (answer : Did) (old new : HandView S L) → Steps left lent_as fault_plan read_of batch alone answer old new → AddsAtMostOneEach old new
  steps_more alone did.Nothing old new h = record {
    lanes = record { count = h.lane_count; each = λ k v w at is. lane_quiet_more v w (passed_quiet left lent_as fault_plan read_of batch alone 0 k v w (h.lanes k v w at is)) };
    parts = record { count = h.parts.count; each = λ k v w at is. part_idle_more batch v w (h.parts.each k v w at is) };
  }
  steps_more alone (did.Fed lane) old new h = lane_ended_more alone (did.Fed lane) old new h
  steps_more alone (did.Turned part) old new h = part_ended_more (did.Turned part) old new h
  steps_more alone (did.Fault f) old new (inl h) = lane_ended_more alone (did.Fault f) old new h
  steps_more alone (did.Fault f) old new (inr h) = part_ended_more (did.Fault f) old new h
