-- Lanes and parts as values of a turn lock: which operations are open to all, which replies are idle, and what an operation does.
use Rattle.std.specs.Prelude.{◌≡◌, ◌≤◌, ℕ, Bool, true, false, ◌&&◌, nat_le, List, Option, refl}
use Rattle.std.proofs.Common.{sym, ap, subst}
use Rattle.std.proofs.lemmas.Bool.{false≢true, leb-true}
use Rattle.eql_values.specs.Accepted.{Reads}
use Rattle.eql_values.specs.declared.order.Mark.{Mark}
use Rattle.eql_outside.specs.Plans.{FaultPlan}
use Rattle.eql_outside.specs.Unfailing.{IsUnfailing}
use Rattle.eql_lane.specs.declared.ops.LaneOp.{LaneOp}
use Rattle.eql_lane.specs.declared.ops.LaneOp.TheVariants as lane_op
use Rattle.eql_lane.specs.declared.ops.LaneReply.{LaneReply}
use Rattle.eql_lane.specs.declared.ops.LaneReply.TheVariants as lane_reply
use Rattle.eql_lane.specs.Lanes.{LaneAllows}
use Rattle.eql_lane.specs.Plays.{Plays, DidNotFail}
use Rattle.eql_lane.specs.Views.{IsSameLane, LaneView}
use Rattle.eql_parts.specs.declared.ops.PartOp.{PartOp}
use Rattle.eql_parts.specs.declared.ops.PartOp.TheVariants as part_op
use Rattle.eql_parts.specs.declared.ops.PartReply.{PartReply}
use Rattle.eql_parts.specs.declared.ops.PartReply.TheVariants as part_reply
use Rattle.eql_parts.specs.PartSteps.{CanDeliver, IsPartStep, IsTurnStep, PartAllows, PartState, PartView, Rules}

-- from 1 to 4,096
abbrev pub is_batch : ℕ → Bool
is_batch max = nat_le 1 max && nat_le max 4096

-- a feed is open to all
abbrev pub is_open_lane : LaneOp → Bool
is_open_lane (lane_op.Feed max) = is_batch max
is_open_lane (lane_op.Take mark) = false
is_open_lane lane_op.Look = false
is_open_lane lane_op.Snap = false

-- a turn is open to all
abbrev pub is_open_part : PartOp → Bool
is_open_part (part_op.Deliver items mark) = false
is_open_part (part_op.Turn max) = is_batch max
is_open_part part_op.Collect = false
is_open_part part_op.Snap = false

-- a lane that holds enough or is closed says that there was nothing to feed
abbrev pub is_idle_lane : LaneReply → Bool
is_idle_lane (lane_reply.Held ready) = true
is_idle_lane lane_reply.Closed = true
is_idle_lane reply = false

-- a part for which no event waits says that there was nothing to turn
abbrev pub is_idle_part : PartReply → Bool
is_idle_part part_reply.Idle = true
is_idle_part reply = false

-- an operation on a lane: its step for each text of the lane; what no step changes is the same; and where the source isn't planned to fail, it
-- didn't and stays so
pub record IsLaneTurn {S L : Type 0} (left lent_as : S → Option (List ℕ)) (fault_plan : S → Option FaultPlan) (read_of : L → Reads)
    (old : LaneView S L) (op : LaneOp) (reply : LaneReply) (new : LaneView S L) : Type 0 where
  pub plays : Plays left read_of old op reply new
  pub same : IsSameLane left lent_as read_of old new
  pub unfailing : IsUnfailing (fault_plan old.source) → DidNotFail reply × IsUnfailing (fault_plan new.source)

-- an operation on a part: its step, by rules that stay
pub record IsPartTurn (old : PartView) (op : PartOp) (reply : PartReply) (new : PartView) : Type 0 where
  pub step : IsPartStep old.rules old.state op reply new.state
  pub rules : new.rules ≡ old.rules

-- ---- the laws of both
both : (a b : Bool) → a && b ≡ true → (a ≡ true) × (b ≡ true)
both true true e = (refl, refl)
both true false e = absurd (false≢true e)
both false b e = absurd (false≢true e)

is_within : (max : ℕ) → is_batch max ≡ true → (1 ≤ max) × (max ≤ 4096)
is_within max is = let parts = both (nat_le 1 max) (nat_le max 4096) is in (leb-true 1 max parts.0, leb-true max 4096 parts.1)

pub open_lane_allowed : (op : LaneOp) → is_open_lane op ≡ true → LaneAllows op
open_lane_allowed (lane_op.Feed max) is = is_within max is
open_lane_allowed (lane_op.Take mark) is = tt
open_lane_allowed lane_op.Look is = tt
open_lane_allowed lane_op.Snap is = tt

pub open_part_allowed : (x : PartState) (op : PartOp) → is_open_part op ≡ true → PartAllows x op
open_part_allowed x (part_op.Deliver items mark) is = absurd (false≢true is)
open_part_allowed x (part_op.Turn max) is = is_within max is
open_part_allowed x part_op.Collect is = tt
open_part_allowed x part_op.Snap is = tt

-- no turn changes the last delivered mark
turn_last : (rules : Rules) (x : PartState) (max : ℕ) (reply : PartReply) (y : PartState) → IsTurnStep rules x max reply y → y.last ≡ x.last
turn_last rules x max (part_reply.Turned n) y step = step.0.last
turn_last rules x max part_reply.Idle y step = ap (λ (z : PartState). z.last) step.1
turn_last rules x max (part_reply.Memory back n) y step = step.1.last
turn_last rules x max part_reply.Done y step = absurd step
turn_last rules x max (part_reply.Found found done) y step = absurd step
turn_last rules x max (part_reply.Cut holders) y step = absurd step

-- so no turn takes leave from another operation
still_allowed : (x y : PartState) (op : PartOp) → y.last ≡ x.last → PartAllows x op → PartAllows y op
still_allowed x y (part_op.Deliver items mark) same may = subst (λ (m : Mark). CanDeliver m items mark) (sym same) may
still_allowed x y (part_op.Turn max) same may = may
still_allowed x y part_op.Collect same may = may
still_allowed x y part_op.Snap same may = may

pub part_stays_allowed : (x y : PartView) (op later : PartOp) (reply : PartReply) → is_open_part op ≡ true → IsPartTurn x op reply y → PartAllows x.state later → PartAllows y.state later
part_stays_allowed x y (part_op.Deliver items mark) later reply is step may = absurd (false≢true is)
part_stays_allowed x y (part_op.Turn max) later reply is step may = still_allowed x.state y.state later (turn_last x.rules x.state max reply y.state step.step) may
part_stays_allowed x y part_op.Collect later reply is step may = absurd (false≢true is)
part_stays_allowed x y part_op.Snap later reply is step may = absurd (false≢true is)
