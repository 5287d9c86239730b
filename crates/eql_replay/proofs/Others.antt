-- What others play, and a call of the caller's after it.
use Rattle.std.proofs.Common.{◌≡◌, ℕ, zero, suc, ◌<◌, List, [], ◌∷◌, ◌++◌, Option, length, refl, sym, ap, ◌∙◌, subst}
use Rattle.std.specs.Prelude.{slice_get}
use Rattle.eql_values.specs.Accepted.{Reads}
use Rattle.eql_outside.specs.Plans.{FaultPlan}
use Rattle.eql_lane.specs.declared.ops.LaneOp.{LaneOp}
use Rattle.eql_lane.specs.declared.ops.LaneOp.TheVariants as lane_op
use Rattle.eql_lane.specs.declared.ops.LaneReply.{LaneReply}
use Rattle.eql_lane.specs.Lanes.{Setting, IsLaneStep}
use Rattle.eql_lane.specs.Views.{LaneView}
use Rattle.eql_parts.specs.declared.ops.PartOp.{PartOp}
use Rattle.eql_parts.specs.declared.ops.PartOp.TheVariants as part_op
use Rattle.eql_parts.specs.declared.ops.PartReply.{PartReply}
use Rattle.eql_parts.specs.declared.ops.PartReply.TheVariants as part_reply
use Rattle.eql_parts.specs.PartSteps.{CanDeliver, IsPartStep, IsTurnStep, PartAllows, PartState, PartView, Rules}
use Rattle.eql_values.specs.declared.order.Mark.{Mark}
use Rattle.eql_conductor.specs.declared.note.Note.{Note}
use Rattle.eql_conductor.specs.Notes.{lane_note, part_note}
use Rattle.eql_conductor.specs.declared.bench.NotPlayed.TheVariants as not_played
use Rattle.eql_conductor.specs.Benches.{FailsBy, ComesByFeeds, Known, LanePlays, MayPlay, PartPlays, Rests, StaysSame, ComesByTurns, TurnsTimes, WasNotPlayed}
use Rattle.eql_conductor.specs.GoingOn.{AreOfTexts}
use Rattle.eql_conductor.specs.Lists.{PoolView, rules_in, set_in}
use Rattle.eql_conductor.proofs.Resting.{fed_on, fed_once, is_lane, is_part, lane_rests, lanes_on, part_rests, parts_on, rests_on, rests_self, same_on, turned_on, turned_once}
use Rattle.eql_replay.specs.declared.foreign.Foreign.{Foreign}
use Rattle.eql_replay.specs.declared.foreign.Foreign.TheVariants.{Feed, Turn}
use Rattle.eql_replay.specs.declared.noted.Noted.{Noted}
use Rattle.eql_replay.specs.Listed.{known_of}
use Rattle.eql_replay.specs.Pools.{ForeignsPlay, ForeignPlays}
use Rattle.eql_replay.proofs.Calls.{has_lane, has_part, lane_called, lane_count, lane_else, lane_stays, lanes_stay, part_called, part_count, part_else, part_stays, parts_stay, rules_stay, sets_stay, texts_stay}

module _ {S L : Type 0} (left lent_as : S → Option (List ℕ)) (fault_plan : S → Option FaultPlan) (read_of : L → Reads) where
  -- ---- one after another
  pub all_on : (fs : List Foreign) (f : Foreign) (a b c : PoolView S L) → ForeignsPlay left lent_as fault_plan read_of fs a b → ForeignPlays left lent_as fault_plan read_of f b c
      → ForeignsPlay left lent_as fault_plan read_of (fs ++ f ∷ []) a c
  all_on [] f a b c first then = (c, subst (λ (p : PoolView S L). ForeignPlays left lent_as fault_plan read_of f p c) first then, refl)
  all_on (g ∷ fs) f a b c (mid, one, rest) then = (mid, one, all_on fs f mid b c rest then)

  pub foreign_lanes : (f : Foreign) (a b : PoolView S L) → ForeignPlays left lent_as fault_plan read_of f a b → length b.lanes ≡ length a.lanes
  foreign_lanes (Feed lane max) a b played = lane_count left lent_as fault_plan read_of lane (lane_op.Feed max) played.0 a.lanes b.lanes played.1
  foreign_lanes (Turn part max) a b played = ap length played.2

  pub foreign_parts : (f : Foreign) (a b : PoolView S L) → ForeignPlays left lent_as fault_plan read_of f a b → length b.parts ≡ length a.parts
  foreign_parts (Feed lane max) a b played = ap length played.2
  foreign_parts (Turn part max) a b played = part_count part (part_op.Turn max) played.0 a.parts b.parts played.1

  pub all_lanes : (fs : List Foreign) (a b : PoolView S L) → ForeignsPlay left lent_as fault_plan read_of fs a b → length b.lanes ≡ length a.lanes
  all_lanes [] a b played = ap (λ (p : PoolView S L). length p.lanes) played
  all_lanes (f ∷ fs) a b (mid, one, rest) = all_lanes fs mid b rest ∙ foreign_lanes f a mid one

  pub all_parts : (fs : List Foreign) (a b : PoolView S L) → ForeignsPlay left lent_as fault_plan read_of fs a b → length b.parts ≡ length a.parts
  all_parts [] a b played = ap (λ (p : PoolView S L). length p.parts) played
  all_parts (f ∷ fs) a b (mid, one, rest) = all_parts fs mid b rest ∙ foreign_parts f a mid one

  -- ---- each lane stays of its text
  pub foreign_texts : (text : ℕ → Option (List ℕ)) (f : Foreign) (a b : PoolView S L) → ForeignPlays left lent_as fault_plan read_of f a b → AreOfTexts left text a.lanes → AreOfTexts left text b.lanes
  foreign_texts text (Feed lane max) a b played are = texts_stay left lent_as fault_plan read_of lane (lane_op.Feed max) played.0 a.lanes b.lanes played.1 text are
  foreign_texts text (Turn part max) a b played are = subst (AreOfTexts left text) (sym played.2) are

  pub all_texts : (text : ℕ → Option (List ℕ)) (fs : List Foreign) (a b : PoolView S L) → ForeignsPlay left lent_as fault_plan read_of fs a b → AreOfTexts left text a.lanes → AreOfTexts left text b.lanes
  all_texts text [] a b played are = subst (λ (p : PoolView S L). AreOfTexts left text p.lanes) (sym played) are
  all_texts text (f ∷ fs) a b (mid, one, rest) are = all_texts text fs mid b rest (foreign_texts text f a mid one are)

  -- ---- only others played
  module _ (text : ℕ → Option (List ℕ)) (notes : List Noted) where
    abbrev known : PoolView S L → Known
    known pool = known_of read_of text pool notes

    foreign_rests : (f : Foreign) (a b : PoolView S L) → AreOfTexts left text a.lanes → ForeignPlays left lent_as fault_plan read_of f a b → Rests (known a) (known b)
    foreign_rests (Feed lane max) a b are played =
        let one = played.1 in
        record {
          same = record {
            lanes = lane_count left lent_as fault_plan read_of lane (lane_op.Feed max) played.0 a.lanes b.lanes one;
            parts = ap length played.2;
            set = λ k l. sets_stay left lent_as fault_plan read_of lane (lane_op.Feed max) played.0 a.lanes b.lanes one text k;
            rules = λ p l. ap (λ (ps : List PartView). rules_in (slice_get ps p)) played.2;
            some_lane = λ k l has. has_lane (length a.lanes) b.lanes k (lane_count left lent_as fault_plan read_of lane (lane_op.Feed max) played.0 a.lanes b.lanes one) l;
            some_part = λ p l has. has_part (length a.parts) b.parts p (ap length played.2) l;
          };
          lanes = lane_rests lane (known a) (known b) (λ y has.
              let c = lane_called left lent_as fault_plan read_of lane (lane_op.Feed max) played.0 a.lanes b.lanes one text are y has in
              (c.first, c.was, fed_on ((known a).set lane) c.first c.before y c.fed (fed_once ((known a).set lane) c.before y max played.0 c.step)))
              (λ k l apart. lane_stays ((known a).set k) a.lanes b.lanes k (lane_else left lent_as fault_plan read_of lane (lane_op.Feed max) played.0 a.lanes b.lanes one k apart));
          parts = record { each = λ p l. parts_stay (λ q. rules_in (slice_get a.parts q)) a.parts b.parts played.2 p };
        }
    foreign_rests (Turn part max) a b are played =
        let one = played.1 in
        record {
          same = record {
            lanes = ap length played.2;
            parts = part_count part (part_op.Turn max) played.0 a.parts b.parts one;
            set = λ s l. ap (λ (ls : List (LaneView S L)). set_in read_of (text s) (slice_get ls s)) played.2;
            rules = λ k l. rules_stay part (part_op.Turn max) played.0 a.parts b.parts one k;
            some_lane = λ s l has. has_lane (length a.lanes) b.lanes s (ap length played.2) l;
            some_part = λ k l has. has_part (length a.parts) b.parts k (part_count part (part_op.Turn max) played.0 a.parts b.parts one) l;
          };
          lanes = record { each = λ s l. lanes_stay (λ k. set_in read_of (text k) (slice_get a.lanes k)) a.lanes b.lanes played.2 s };
          parts = part_rests part (known a) (known b) (λ y has.
              let c = part_called part (part_op.Turn max) played.0 a.parts b.parts one y has in
              (c.first, c.was, turned_on ((known a).rules part) c.first c.before y c.turned (turned_once ((known a).rules part) c.before y max played.0 c.step)))
              (λ k l apart. part_stays ((known a).rules k) a.parts b.parts k (part_else part (part_op.Turn max) played.0 a.parts b.parts one k apart));
        }

    all_rest : (fs : List Foreign) (a b : PoolView S L) → AreOfTexts left text a.lanes → ForeignsPlay left lent_as fault_plan read_of fs a b → Rests (known a) (known b)
    all_rest [] a b are played = subst (λ (p : PoolView S L). Rests (known a) (known p)) (sym played) (rests_self (known a))
    all_rest (f ∷ fs) a b are (mid, one, rest) =
        rests_on (known a) (known mid) (known b) (foreign_rests f a mid are one) (all_rest fs mid b (foreign_texts text f a mid one are) rest)

    -- nothing of the caller was played
    pub others_alone : (fs : List Foreign) (a b : PoolView S L) → AreOfTexts left text a.lanes → ForeignsPlay left lent_as fault_plan read_of fs a b → WasNotPlayed not_played.Memory (known a) (known b)
    others_alone fs a b are played = record {
      rests = all_rest fs a b are played;
      lane_notes = record { each = λ s l. refl };
      part_notes = record { each = λ p l. refl };
      failed = λ s. refl;
      worn = refl;
    }

-- ---- others first, and then a call
pub then_lane : (s : ℕ) (op : LaneOp) (reply : LaneReply) (a b c : Known) → s < a.lanes → WasNotPlayed not_played.Memory a b → LanePlays s op reply b c → LanePlays s op reply a c
then_lane s op reply a b c inside alone plays =
    let rests = alone.rests in
    let same : StaysSame a b = rests.same in
    record {
      same = same_on a b c same plays.same;
      called = λ y here.
          let d = plays.called y here in
          let e = rests.lanes.each s inside d.first d.was in
          record {
            first = e.0;
            before = d.before;
            was = e.1;
            fed = fed_on (a.set s) e.0 d.first d.before e.2 (subst (λ (t : Setting). ComesByFeeds t d.first d.before) (same.set s inside) d.fed);
            step = subst (λ (t : Setting). IsLaneStep t d.before op reply y) (same.set s inside) d.step;
          };
      some = plays.some;
      others = λ k l apart y here.
          let d = plays.others k (is_lane a b k same l) apart y here in
          let e = rests.lanes.each k l d.0 d.1 in
          (e.0, e.1, fed_on (a.set k) e.0 d.0 y e.2 (subst (λ (t : Setting). ComesByFeeds t d.0 y) (same.set k l) d.2));
      parts = parts_on a b c same rests.parts plays.parts;
      note = plays.note ∙ ap (λ (notes : List Note). notes ++ lane_note op reply ∷ []) (alone.lane_notes.each s inside);
      other_notes = λ k l apart. plays.other_notes k (is_lane a b k same l) apart ∙ alone.lane_notes.each k l;
      part_notes = record { each = λ p l. plays.part_notes.each p (is_part a b p same l) ∙ alone.part_notes.each p l };
      failed = subst (λ (n : ℕ). FailsBy reply n (c.failed s)) (alone.failed s) plays.failed;
      others_failed = λ k apart. plays.others_failed k apart ∙ alone.failed k;
      worn = plays.worn ∙ alone.worn;
    }

pub then_part : (p : ℕ) (op : PartOp) (reply : PartReply) (a b c : Known) → p < a.parts → WasNotPlayed not_played.Memory a b → PartPlays p op reply b c → PartPlays p op reply a c
then_part p op reply a b c inside alone plays =
    let rests = alone.rests in
    let same : StaysSame a b = rests.same in
    record {
      same = same_on a b c same plays.same;
      called = λ y here.
          let d = plays.called y here in
          let e = rests.parts.each p inside d.first d.was in
          record {
            first = e.0;
            before = d.before;
            was = e.1;
            turned = turned_on (a.rules p) e.0 d.first d.before e.2 (subst (λ (r : Rules). ComesByTurns r d.first d.before) (same.rules p inside) d.turned);
            step = subst (λ (r : Rules). IsPartStep r d.before op reply y) (same.rules p inside) d.step;
          };
      some = plays.some;
      others = λ k l apart y here.
          let d = plays.others k (is_part a b k same l) apart y here in
          let e = rests.parts.each k l d.0 d.1 in
          (e.0, e.1, turned_on (a.rules k) e.0 d.0 y e.2 (subst (λ (r : Rules). ComesByTurns r d.0 y) (same.rules k l) d.2));
      lanes = lanes_on a b c same rests.lanes plays.lanes;
      note = plays.note ∙ ap (λ (notes : List Note). notes ++ part_note op reply ∷ []) (alone.part_notes.each p inside);
      other_notes = λ k l apart. plays.other_notes k (is_part a b k same l) apart ∙ alone.part_notes.each k l;
      lane_notes = record { each = λ s l. plays.lane_notes.each s (is_lane a b s same l) ∙ alone.lane_notes.each s l };
      failed = λ s. plays.failed s ∙ alone.failed s;
      worn = plays.worn ∙ alone.worn;
    }

-- ---- what was allowed stays so
turn_last : (rules : Rules) (x : PartState) (max : ℕ) (reply : PartReply) (y : PartState) → IsTurnStep rules x max reply y → y.last ≡ x.last
turn_last rules x max (part_reply.Turned n) y step = step.0.last
turn_last rules x max part_reply.Idle y step = ap (λ (z : PartState). z.last) step.1
turn_last rules x max (part_reply.Memory back n) y step = step.1.last
turn_last rules x max part_reply.Done y step = absurd step
turn_last rules x max (part_reply.Found found done) y step = absurd step
turn_last rules x max (part_reply.Cut holders) y step = absurd step

turned_last : (rules : Rules) (n : ℕ) (x y : PartState) → TurnsTimes rules n x y → y.last ≡ x.last
turned_last rules zero x y h = ap (λ (z : PartState). z.last) h
turned_last rules (suc n) x y (mid, max, reply, step, rest) = turned_last rules n mid y rest ∙ turn_last rules x max reply mid step

stays_allowed : (rules : Rules) (op : PartOp) (x y : PartState) → ComesByTurns rules x y → PartAllows x op → PartAllows y op
stays_allowed rules (part_op.Deliver items mark) x y h may = subst (λ (m : Mark). CanDeliver m items mark) (sym (turned_last rules h.0 x y h.1)) may
stays_allowed rules (part_op.Turn max) x y h may = may
stays_allowed rules part_op.Collect x y h may = may
stays_allowed rules part_op.Snap x y h may = may

pub may_still : (p : ℕ) (op : PartOp) (a b : Known) → p < a.parts → Rests a b → MayPlay a p op → MayPlay b p op
may_still p op a b inside rests may y here =
    let d = rests.parts.each p inside y here in stays_allowed (a.rules p) op d.0 y d.2 (may d.0 d.1)
