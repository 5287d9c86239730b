-- What one try at a lane or a part does, by its answer.
use Rattle.std.proofs.Common.{◌≡◌, ◌≤◌, inl, inr, ℕ, List, [], ◌∷◌, ◌++◌, Option, None, refl, sym, ap, ◌∙◌, subst}
use Rattle.std.specs.Prelude.{Bool, true, ◌&&◌, nat_le, MatchOption}
use Rattle.eql_values.specs.Accepted.{Reads}
use Rattle.eql_outside.specs.Plans.{FaultPlan}
use Rattle.eql_lane.specs.declared.ops.LaneOp.{LaneOp}
use Rattle.eql_lane.specs.declared.ops.LaneOp.TheVariants as lane_op
use Rattle.eql_lane.specs.declared.ops.LaneReply.{LaneReply}
use Rattle.eql_lane.specs.declared.ops.LaneReply.TheVariants as lane_reply
use Rattle.eql_parts.specs.declared.ops.PartOp.{PartOp}
use Rattle.eql_parts.specs.declared.ops.PartOp.TheVariants as part_op
use Rattle.eql_parts.specs.declared.ops.PartReply.{PartReply}
use Rattle.eql_parts.specs.declared.ops.PartReply.TheVariants as part_reply
use Rattle.eql_turn_lock.specs.declared.history.Entry.{Entry}
use Rattle.eql_turn_lock.specs.declared.view.View.{View}
use Rattle.eql_turn_lock.specs.declared.tried.Tried.{Tried}
use Rattle.eql_turn_lock.specs.declared.tried.Tried.TheVariants.{Idle, Played, Refused}
use Rattle.eql_turn_lock.specs.declared.refused.NotNow.TheVariants.{Busy, Worn}
use Rattle.eql_turn_lock.specs.Calls.{PlaysOnce, PlaysUnlessIdle, Refuses}
use Rattle.eql_turn_lock.specs.Passes.{KnowsHistory}
use Rattle.eql_lock_row.specs.Rows.{ChangesAt}
use Rattle.eql_turn_lock.specs.History.{IsLegal, entry}
use Rattle.eql_turn_lock.proofs.Histories.{legal_split}
use Rattle.eql_hub.specs.declared.step.Did.{Did}
use Rattle.eql_hub.specs.Hands.{LaneKnown, PartKnown}
use Rattle.eql_hub.specs.Steps.{LaneEnds, LaneIsIdle, PartEnds, PartIsIdle}
use Rattle.eql_hub.specs.Sweeps.{tried_lane, tried_part}
use Rattle.eql_hub.specs.Turns.{IsLaneTurn, IsPartTurn, is_batch, is_idle_lane, is_idle_part, is_open_lane, is_open_part}
use Rattle.std.proofs.lemmas.Bool.{le-leb}

pub batch_open : (batch : ℕ) → 1 ≤ batch → batch ≤ 4096 → is_batch batch ≡ true
batch_open batch from to = ap (λ (b : Bool). b && nat_le batch 4096) (le-leb 1 batch from) ∙ le-leb batch 4096 to

-- the last step of a call that was answered
pub last_step : {T O R : Type 0} (step_of : T → O → R → T → Type 0) (is_open : O → Bool) (v w : View T O R) (op : O) (reply : R) → PlaysOnce step_of is_open v op reply w
    → (x : T) × (y : T) × step_of x op reply y
last_step step_of is_open v w op reply plays =
    let p = plays.1 in
    let e = entry v.number op reply in
    let legal = subst (λ (l : List (Entry _ _)). IsLegal step_of p.knows.opening l p.knows.value) p.seen p.knows.legal in
    let parts = legal_split step_of (v.seen ++ p.between) (e ∷ []) p.knows.opening p.knows.value legal in
    (parts.0, parts.2.0, parts.2.1)

module _ {S L : Type 0} (left lent_as : S → Option (List ℕ)) (fault_plan : S → Option FaultPlan) (read_of : L → Reads) (batch : ℕ) where
  pub lane_went : (lane : ℕ) (tried : Tried LaneReply LaneOp) (v w : LaneKnown S L)
      → PlaysUnlessIdle (IsLaneTurn left lent_as fault_plan read_of) is_open_lane is_idle_lane v (lane_op.Feed batch) tried w
      → MatchOption (tried_lane lane tried) (LaneIsIdle left lent_as fault_plan read_of batch v w) (λ answer. LaneEnds left lent_as fault_plan read_of batch answer lane v w)
  lane_went lane (Idle op) v w h = inr (inr (inr (h.1, h.2)))
  lane_went lane (Played (lane_reply.Fed lines)) v w h = (refl, (lines, h))
  lane_went lane (Played (lane_reply.Failed lines)) v w h = (refl, (lines, h))
  lane_went lane (Played (lane_reply.Limit of)) v w h = h
  lane_went lane (Played (lane_reply.Memory lines)) v w h = (lines, h)
  lane_went lane (Played (lane_reply.Held ready)) v w h = inl (ready, h)
  lane_went lane (Played lane_reply.Closed) v w h = inr (inl h)
  lane_went lane (Played (lane_reply.Taken items)) v w h =
      absurd ((last_step (IsLaneTurn left lent_as fault_plan read_of) is_open_lane v w (lane_op.Feed batch) (lane_reply.Taken items) h).2.plays None tt).step
  lane_went lane (Played (lane_reply.Low mark)) v w h =
      absurd ((last_step (IsLaneTurn left lent_as fault_plan read_of) is_open_lane v w (lane_op.Feed batch) (lane_reply.Low mark) h).2.plays None tt).step
  lane_went lane (Played (lane_reply.Cut cut)) v w h =
      absurd ((last_step (IsLaneTurn left lent_as fault_plan read_of) is_open_lane v w (lane_op.Feed batch) (lane_reply.Cut cut) h).2.plays None tt).step
  lane_went lane (Refused (Busy word op)) v w h = inr (inr (inl (word, subst (λ (o : LaneOp). Refuses v (lane_op.Feed batch) (Busy word o) w) h.0 h)))
  lane_went lane (Refused (Worn word op)) v w h = (word, subst (λ (o : LaneOp). Refuses v (lane_op.Feed batch) (Worn word o) w) h.0 h)

  pub lane_try : (lane : ℕ) (tried : Tried LaneReply LaneOp) (answer : Option Did) (old new : List (LaneKnown S L)) → answer ≡ tried_lane lane tried
      → ChangesAt lane (λ (v w : LaneKnown S L). PlaysUnlessIdle (IsLaneTurn left lent_as fault_plan read_of) is_open_lane is_idle_lane v (lane_op.Feed batch) tried w
      × KnowsHistory (IsLaneTurn left lent_as fault_plan read_of) is_open_lane w) old new
      → ChangesAt lane (λ (v w : LaneKnown S L). MatchOption answer (LaneIsIdle left lent_as fault_plan read_of batch v w) (λ a. LaneEnds left lent_as fault_plan read_of batch a lane v w)
      × KnowsHistory (IsLaneTurn left lent_as fault_plan read_of) is_open_lane w) old new
  lane_try lane tried answer old new is c = record {
    before = c.before;
    after = c.after;
    was = c.was;
    is = c.is;
    changes = (
      subst (λ (o : Option Did). MatchOption o (LaneIsIdle left lent_as fault_plan read_of batch c.before c.after) (λ a. LaneEnds left lent_as fault_plan read_of batch a lane c.before c.after)) (sym is)
          (lane_went lane tried c.before c.after c.changes.0),
      c.changes.1,
    );
  }

pub part_went : (batch part : ℕ) (tried : Tried PartReply PartOp) (v w : PartKnown)
    → PlaysUnlessIdle IsPartTurn is_open_part is_idle_part v (part_op.Turn batch) tried w
    → MatchOption (tried_part part tried) (PartIsIdle batch v w) (λ answer. PartEnds batch answer part v w)
part_went batch part (Idle op) v w h = inr (inr (h.1, h.2))
part_went batch part (Played (part_reply.Turned items)) v w h = (refl, (items, h))
part_went batch part (Played (part_reply.Memory back items)) v w h = (back, (items, h))
part_went batch part (Played part_reply.Idle) v w h = inl h
part_went batch part (Played part_reply.Done) v w h = absurd (last_step IsPartTurn is_open_part v w (part_op.Turn batch) part_reply.Done h).2.step
part_went batch part (Played (part_reply.Found found done)) v w h =
    absurd (last_step IsPartTurn is_open_part v w (part_op.Turn batch) (part_reply.Found found done) h).2.step
part_went batch part (Played (part_reply.Cut holders)) v w h =
    absurd (last_step IsPartTurn is_open_part v w (part_op.Turn batch) (part_reply.Cut holders) h).2.step
part_went batch part (Refused (Busy word op)) v w h = inr (inl (word, subst (λ (o : PartOp). Refuses v (part_op.Turn batch) (Busy word o) w) h.0 h))
part_went batch part (Refused (Worn word op)) v w h = (word, subst (λ (o : PartOp). Refuses v (part_op.Turn batch) (Worn word o) w) h.0 h)

pub part_try : (batch part : ℕ) (tried : Tried PartReply PartOp) (answer : Option Did) (old new : List PartKnown) → answer ≡ tried_part part tried
    → ChangesAt part (λ (v w : PartKnown). PlaysUnlessIdle IsPartTurn is_open_part is_idle_part v (part_op.Turn batch) tried w × KnowsHistory IsPartTurn is_open_part w) old new
    → ChangesAt part (λ (v w : PartKnown). MatchOption answer (PartIsIdle batch v w) (λ a. PartEnds batch a part v w) × KnowsHistory IsPartTurn is_open_part w) old new
part_try batch part tried answer old new is c = record {
  before = c.before;
  after = c.after;
  was = c.was;
  is = c.is;
  changes = (
    subst (λ (o : Option Did). MatchOption o (PartIsIdle batch c.before c.after) (λ a. PartEnds batch a part c.before c.after)) (sym is)
        (part_went batch part tried c.before c.after c.changes.0),
    c.changes.1,
  );
}
