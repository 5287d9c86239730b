-- How the passes of a hand grow in one step.
use Rattle.std.proofs.Common.{inl, inr, ℕ, Bool, List, Option}
use Rattle.eql_values.specs.Accepted.{Reads}
use Rattle.eql_outside.specs.Plans.{FaultPlan}
use Rattle.eql_lane.specs.declared.ops.LaneOp.TheVariants as lane_op
use Rattle.eql_lane.specs.declared.ops.LaneReply.TheVariants as lane_reply
use Rattle.eql_parts.specs.declared.ops.PartOp.TheVariants as part_op
use Rattle.eql_parts.specs.declared.ops.PartReply.TheVariants as part_reply
use Rattle.eql_hub.specs.declared.step.Did.{Did}
use Rattle.eql_hub.specs.declared.step.Did.TheVariants as did
use Rattle.eql_hub.specs.declared.step.HandFault.TheVariants as fault
use Rattle.eql_hub.specs.Hands.{HandView, LaneKnown, PartKnown}
use Rattle.eql_hub.specs.Steps.{StepEndsAtLane, LaneEnds, LaneIsIdle, LaneIsQuiet, StepEndsAtPart, PartEnds, PartIsIdle, PartIsQuiet, Steps}
use Rattle.eql_hub.specs.Turns.{IsLaneTurn, IsPartTurn, is_idle_lane, is_idle_part, is_open_lane, is_open_part}
use Rattle.eql_hub.proofs.Sweeping.{passed_quiet}
use Rattle.eql_hands.specs.Growth.{EachPass}
use Rattle.eql_hands.proofs.Passes.{IsStep, step_busy, step_idle, step_played, step_same, step_worn}
use Rattle.eql_hands.proofs.Places.{each_as, each_at}

-- what one step does to each pass
abbrev pub AreSteps : {S L : Type 0} → HandView S L → HandView S L → Type 0
AreSteps old new = EachPass IsStep IsStep old new

-- ---- parts
part_idle_step : (batch : ℕ) (v w : PartKnown) → PartIsIdle batch v w → IsStep v w
part_idle_step batch v w (inl h) = step_played IsPartTurn is_open_part v w (part_op.Turn batch) part_reply.Idle h
part_idle_step batch v w (inr (inl (word, h))) = step_busy v w (part_op.Turn batch) (part_op.Turn batch) word h
part_idle_step batch v w (inr (inr (is, met))) = step_idle IsPartTurn is_idle_part v w met is

part_quiet_step : (batch : ℕ) (v w : PartKnown) → PartIsQuiet batch v w → IsStep v w
part_quiet_step batch v w (inl e) = step_same v w e
part_quiet_step batch v w (inr h) = part_idle_step batch v w h

part_ends_step : (batch : ℕ) (answer : Did) (place : ℕ) (v w : PartKnown) → PartEnds batch answer place v w → IsStep v w
part_ends_step batch (did.Turned part) place v w (is, (items, h)) = step_played IsPartTurn is_open_part v w (part_op.Turn batch) (part_reply.Turned items) h
part_ends_step batch (did.Fault fault.Memory) place v w (back, (items, h)) =
    step_played IsPartTurn is_open_part v w (part_op.Turn batch) (part_reply.Memory back items) h
part_ends_step batch (did.Fault fault.Worn) place v w (word, h) = step_worn v w (part_op.Turn batch) (part_op.Turn batch) word h
part_ends_step batch (did.Fault (fault.Limit of)) place v w h = absurd h
part_ends_step batch (did.Fault (fault.Read shard)) place v w h = absurd h
part_ends_step batch (did.Fed lane) place v w h = absurd h
part_ends_step batch did.Nothing place v w h = absurd h

module _ {S L : Type 0} (left lent_as : S → Option (List ℕ)) (fault_plan : S → Option FaultPlan) (read_of : L → Reads) (batch : ℕ) where
  -- ---- lanes
  lane_idle_step : (v w : LaneKnown S L) → LaneIsIdle left lent_as fault_plan read_of batch v w → IsStep v w
  lane_idle_step v w (inl (ready, h)) = step_played (IsLaneTurn left lent_as fault_plan read_of) is_open_lane v w (lane_op.Feed batch) (lane_reply.Held ready) h
  lane_idle_step v w (inr (inl h)) = step_played (IsLaneTurn left lent_as fault_plan read_of) is_open_lane v w (lane_op.Feed batch) lane_reply.Closed h
  lane_idle_step v w (inr (inr (inl (word, h)))) = step_busy v w (lane_op.Feed batch) (lane_op.Feed batch) word h
  lane_idle_step v w (inr (inr (inr (is, met)))) = step_idle (IsLaneTurn left lent_as fault_plan read_of) is_idle_lane v w met is

  lane_quiet_step : (v w : LaneKnown S L) → LaneIsQuiet left lent_as fault_plan read_of batch v w → IsStep v w
  lane_quiet_step v w (inl e) = step_same v w e
  lane_quiet_step v w (inr h) = lane_idle_step v w h

  lane_ends_step : (answer : Did) (place : ℕ) (v w : LaneKnown S L) → LaneEnds left lent_as fault_plan read_of batch answer place v w → IsStep v w
  lane_ends_step (did.Fed lane) place v w (is, (lines, h)) =
      step_played (IsLaneTurn left lent_as fault_plan read_of) is_open_lane v w (lane_op.Feed batch) (lane_reply.Fed lines) h
  lane_ends_step (did.Fault (fault.Read shard)) place v w (is, (lines, h)) =
      step_played (IsLaneTurn left lent_as fault_plan read_of) is_open_lane v w (lane_op.Feed batch) (lane_reply.Failed lines) h
  lane_ends_step (did.Fault fault.Memory) place v w (lines, h) =
      step_played (IsLaneTurn left lent_as fault_plan read_of) is_open_lane v w (lane_op.Feed batch) (lane_reply.Memory lines) h
  lane_ends_step (did.Fault (fault.Limit of)) place v w h =
      step_played (IsLaneTurn left lent_as fault_plan read_of) is_open_lane v w (lane_op.Feed batch) (lane_reply.Limit of) h
  lane_ends_step (did.Fault fault.Worn) place v w (word, h) = step_worn v w (lane_op.Feed batch) (lane_op.Feed batch) word h
  lane_ends_step (did.Turned part) place v w h = absurd h
  lane_ends_step did.Nothing place v w h = absurd h

  -- ---- the whole step
  module _ (alone : List Bool) (answer : Did) (old new : HandView S L) where
    lane_ended_steps : StepEndsAtLane left lent_as fault_plan read_of batch alone answer old new → AreSteps old new
    lane_ended_steps e = record {
      lanes = each_at IsStep e.lane old.lanes.views new.lanes.views e.before e.after e.count e.was e.is (lane_ends_step answer e.lane e.before e.after e.ends)
          (λ k v w apart at is. lane_quiet_step v w (e.others k v w apart at is));
      parts = each_as (PartIsQuiet batch) IsStep old.parts.views new.parts.views (part_quiet_step batch) e.parts;
    }

    part_ended_steps : StepEndsAtPart left lent_as fault_plan read_of batch answer old new → AreSteps old new
    part_ended_steps e = record {
      lanes = each_as (LaneIsQuiet left lent_as fault_plan read_of batch) IsStep old.lanes.views new.lanes.views lane_quiet_step e.lanes;
      parts = each_at IsStep e.part old.parts.views new.parts.views e.before e.after e.count e.was e.is (part_ends_step batch answer e.part e.before e.after e.ends)
          (λ k v w apart at is. part_quiet_step batch v w (e.others k v w apart at is));
    }

  pub steps_are : (alone : List Bool) (answer : Did) (old new : HandView S L) → Steps left lent_as fault_plan read_of batch alone answer old new → AreSteps old new
  steps_are alone did.Nothing old new h = record {
    lanes = record {
      count = h.lane_count;
      each = λ k v w at is. lane_quiet_step v w (passed_quiet left lent_as fault_plan read_of batch alone 0 k v w (h.lanes k v w at is));
    };
    parts = each_as (PartIsIdle batch) IsStep old.parts.views new.parts.views (part_idle_step batch) h.parts;
  }
  steps_are alone (did.Fed lane) old new h = lane_ended_steps alone (did.Fed lane) old new h
  steps_are alone (did.Turned part) old new h = part_ended_steps alone (did.Turned part) old new h
  steps_are alone (did.Fault f) old new (inl h) = lane_ended_steps alone (did.Fault f) old new h
  steps_are alone (did.Fault f) old new (inr h) = part_ended_steps alone (did.Fault f) old new h
