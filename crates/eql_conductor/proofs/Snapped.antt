-- What is known once cuts of lanes and of parts were taken.
use Rattle.std.proofs.Common.{◌≡◌, ◌+◌, ◌++◌, ◌<◌, ℕ, ℤ, List, [], ◌∷◌, Option, Some, None, length, map, refl, sym, ap, ◌∙◌, arith, subst, add-one}
use Rattle.std.proofs.lemmas.Int.{ints}
use Rattle.std.proofs.lemmas.List.{map-append}
use Rattle.eql_values.specs.declared.cut.LaneCut.{LaneCut}
use Rattle.eql_values.specs.declared.found.Holder.{Holder}
use Rattle.eql_values.specs.declared.item.Item.{Item}
use Rattle.eql_values.specs.declared.order.Mark.{Mark}
use Rattle.eql_values.specs.declared.order.Mark.TheVariants.{At}
use Rattle.eql_values.specs.Matching.{after}
use Rattle.eql_values.specs.Ordered.{numbers}
use Rattle.eql_laws.proofs.PartMatches.{after_routed}
use Rattle.eql_lane.specs.declared.ops.LaneOp.TheVariants as op
use Rattle.eql_lane.specs.declared.ops.LaneReply.{LaneReply}
use Rattle.eql_lane.specs.declared.ops.LaneReply.TheVariants as reply
use Rattle.eql_lane.specs.Lanes.{Setting, LaneState, IsSnapStep}
use Rattle.eql_parts.specs.declared.ops.PartOp.TheVariants as part_op
use Rattle.eql_parts.specs.declared.ops.PartReply.{PartReply}
use Rattle.eql_parts.specs.declared.ops.PartReply.TheVariants as part_reply
use Rattle.eql_parts.specs.PartSteps.{Rules, PartState, IsSnapStep as PartSnaps, alive_by, mark_time}
use Rattle.eql_parts.specs.Spreading.{part_number}
use Rattle.eql_conductor.specs.Finding.{own_of}
use Rattle.eql_conductor.specs.PartCalls.{TimeIsAtMost}
use Rattle.eql_conductor.specs.Benches.{Known, StaysSame, ComesByFeeds, ComesByTurns, LanePlays, PartPlays, Rests}
use Rattle.eql_conductor.specs.LaneRounds.{LanesAreAt, text_at}
use Rattle.eql_conductor.specs.PartRounds.{AreAtRest, IsAtRest}
use Rattle.eql_conductor.specs.Snaps.{IsSnap, SnapsFrom, held_of}
use Rattle.eql_conductor.proofs.Resting.{lane_rests, part_rests}
use Rattle.eql_conductor.proofs.Takes.{fed_keeps}
use Rattle.eql_conductor.proofs.Parted.{rest_stays}

-- ---- a lane
lane_same : (x : LaneState) (answer : LaneReply) (y : LaneState) → IsSnapStep x answer y → y ≡ x
lane_same x (reply.Cut cut) y step = step.1
lane_same x (reply.Memory n) y step = step.1
lane_same x (reply.Low mark) y step = absurd step
lane_same x (reply.Taken items) y step = absurd step
lane_same x (reply.Fed n) y step = absurd step
lane_same x (reply.Held k) y step = absurd step
lane_same x reply.Closed y step = absurd step
lane_same x (reply.Failed n) y step = absurd step
lane_same x (reply.Limit of) y step = absurd step

pub snap_rests : (s : ℕ) (answer : LaneReply) (a b : Known) → LanePlays s op.Snap answer a b → Rests a b
snap_rests s answer a b plays = record {
  same = plays.same;
  lanes = lane_rests s a b (λ y here.
      let c = plays.called y here in
      (c.first, c.was, subst (λ (z : LaneState). ComesByFeeds (a.set s) c.first z) (sym (lane_same c.before answer y c.step)) c.fed)) plays.others;
  parts = plays.parts;
}

pub snap_is : (s : ℕ) (cut : LaneCut) (a b : Known) (texts : Option (List (List ℕ))) (mark : Mark) → s < a.lanes → LanePlays s op.Snap (reply.Cut cut) a b → LanesAreAt texts mark a
    → IsSnap (text_at texts s) (a.set s) mark cut
snap_is s cut a b texts mark place plays at =
    let c = plays.called plays.some.0 plays.some.1 in
    record {
      state = c.before;
      at = fed_keeps (text_at texts s) (a.set s) mark c.first c.before (at.are.reading s place) c.fed (at.each s place c.first c.was);
      cut_is = c.step.0;
    }

-- one more lane
snaps_last : (texts : Option (List (List ℕ))) (mark : Mark) (b : Known) (s n : ℕ) (cuts : List LaneCut) (cut : LaneCut) → s + length cuts ≡ n
    → SnapsFrom texts mark b s cuts → IsSnap (text_at texts n) (b.set n) mark cut → SnapsFrom texts mark b s (cuts ++ cut ∷ [])
snaps_last texts mark b s n [] cut e h one = (subst (λ (k : ℕ). IsSnap (text_at texts k) (b.set k) mark cut) (sym (omega (arith, e))) one, tt)
snaps_last texts mark b s n (first ∷ cuts) cut e h one = (h.0, snaps_last texts mark b (s + 1) n cuts cut (omega (arith, e)) h.1 one)

pub snapped_more : (texts : Option (List (List ℕ))) (n : ℕ) (mark : Mark) (a b : Known) (cuts more : List LaneCut) (cut : LaneCut)
    → length cuts ≡ n → n < a.lanes → StaysSame a b → more ≡ cuts ++ cut ∷ []
    → SnapsFrom texts mark a 0 cuts → IsSnap (text_at texts n) (b.set n) mark cut → SnapsFrom texts mark a 0 more
snapped_more texts n mark a b cuts more cut e l same push h one =
    subst (SnapsFrom texts mark a 0) (sym push) (snaps_last texts mark a 0 n cuts cut (omega (arith, e)) h
    (subst (λ (set : Setting). IsSnap (text_at texts n) set mark cut) (same.set n l) one))

-- ---- a part
part_same : (x : PartState) (answer : PartReply) (y : PartState) → PartSnaps x answer y → y ≡ x
part_same x (part_reply.Cut held) y step = step.2
part_same x (part_reply.Memory back n) y step = step.2
part_same x part_reply.Done y step = absurd step
part_same x (part_reply.Turned n) y step = absurd step
part_same x part_reply.Idle y step = absurd step
part_same x (part_reply.Found found done) y step = absurd step

pub snap_part_rests : (p : ℕ) (answer : PartReply) (a b : Known) → PartPlays p part_op.Snap answer a b → Rests a b
snap_part_rests p answer a b plays = record {
  same = plays.same;
  lanes = plays.lanes;
  parts = part_rests p a b (λ y here.
      let c = plays.called y here in
      (c.first, c.was, subst (λ (z : PartState). ComesByTurns (a.rules p) c.first z) (sym (part_same c.before answer y c.step)) c.turned)) plays.others;
}

time_is : (reach : Option ℤ) (t : ℤ) → TimeIsAtMost (Some t) reach → TimeIsAtMost reach (Some t) → reach ≡ Some t
time_is None t h k = absurd h
time_is (Some u) t h k = ap Some (grind (arith, ints, h, k))

none_first : (xs ys : List Item) → [] ≡ xs ++ ys → xs ≡ []
none_first [] ys e = refl
none_first (x ∷ xs) ys e = cc

none_last : (xs ys : List Item) → [] ≡ xs ++ ys → ys ≡ []
none_last [] ys e = sym e
none_last (x ∷ xs) ys e = cc

-- a part at rest at a time holds its own of what is pending and alive then
held_at_rest : (rules : Rules) (all : List Holder) (time : ℤ) (p : ℕ) (x : PartState) → IsAtRest rules all (At time) p x → x.held ≡ held_of rules all time p
held_at_rest rules all time p x is =
    let empty : x.inbox ≡ [] = none_last is.played x.inbox is.split in
    let none : is.played ≡ [] = none_first is.played x.inbox is.split in
    let done : x.done ≡ At time = is.done empty in
    let fresh : alive_by rules.span (Some time) x.held ≡ x.held = subst (λ (m : Mark). alive_by rules.span (mark_time m) x.held ≡ x.held) done is.fresh in
    let at : is.reach ≡ Some time = time_is is.reach time (subst (λ (m : Mark). TimeIsAtMost (mark_time m) is.reach) done is.done_to) is.to in
    let alike : alive_by rules.span (Some time) x.held ≡ alive_by rules.span (Some time) (after rules.stages rules.span (own_of all p) is.played) =
    subst (λ (r : Option ℤ). alive_by rules.span r x.held ≡ alive_by rules.span r (after rules.stages rules.span (own_of all p) is.played)) at is.alike in
    sym fresh ∙ alike
    ∙ ap (λ (l : List Item). alive_by rules.span (Some time) (after rules.stages rules.span (own_of all p) l)) none
    ∙ ap (alive_by rules.span (Some time)) (after_routed part_number p rules.stages rules.span all [])

pub snap_holds : (rules : Rules) (all : List Holder) (time : ℤ) (p : ℕ) (held : List Holder) (a b : Known) → p < a.parts
    → PartPlays p part_op.Snap (part_reply.Cut held) a b → AreAtRest rules all (At time) a → held ≡ held_of rules all time p
snap_holds rules all time p held a b place plays rest =
    let c = plays.called plays.some.0 plays.some.1 in
    c.step.0
    ∙ held_at_rest rules all time p c.before
    (rest_stays rules all [] (At time) rest.are.span p c.first c.before (subst (λ (r : Rules). ComesByTurns r c.first c.before) (rest.are.each p place) c.turned) (rest.each p place c.first c.was))

-- one more list
pub held_more : (f : ℕ → List Holder) (p : ℕ) (old new : List (List Holder)) (held : List Holder) → old ≡ map f (numbers p) → new ≡ old ++ held ∷ [] → held ≡ f p → new ≡ map f (numbers (p + 1))
held_more f p old new held was push is = push ∙ (λ i. was i ++ is i ∷ []) ∙ sym (ap (λ (n : ℕ). map f (numbers n)) (add-one p) ∙ map-append f (numbers p) (p ∷ []))

pub sixteen_held : (f : ℕ → List Holder) (n : ℕ) (lists : List (List Holder)) → n ≡ 16 → lists ≡ map f (numbers n) → lists ≡ map f (numbers 16)
sixteen_held f n lists e is = subst (λ (k : ℕ). lists ≡ map f (numbers k)) e is
