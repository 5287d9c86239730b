-- Parts under locks: what their histories tell of their states, and a call on one of them.
use Rattle.std.proofs.Common.{◌≡◌, ◌≢◌, inl, inr, ◌<◌, ℕ, true, List, [], ◌∷◌, ◌++◌, map, Option, Some, length, refl, sym, ap, ◌∙◌, subst, arith}
use Rattle.std.specs.Prelude.{All, IfErr, IfOk, MatchResult, Result, Ok, Err, slice_get, slice_set}
use Rattle.std.specs.List.{count_by}
use Rattle.std.proofs.lemmas.Bool.{false≢true}
use Rattle.std.proofs.lemmas.List.{map-append}
use Rattle.std.proofs.lemmas.List.Elements.{All-head, All-tail}
use Rattle.eql_values.specs.Accepted.{Reads}
use Rattle.eql_outside.specs.Plans.{FaultPlan}
use Rattle.eql_lane.specs.declared.ops.LaneOp.{LaneOp}
use Rattle.eql_lane.specs.declared.ops.LaneReply.{LaneReply}
use Rattle.eql_lane.specs.Views.{LaneView}
use Rattle.eql_parts.specs.declared.ops.PartOp.{PartOp}
use Rattle.eql_parts.specs.declared.ops.PartOp.TheVariants as part_op
use Rattle.eql_parts.specs.declared.ops.PartReply.{PartReply}
use Rattle.eql_parts.specs.PartSteps.{IsPartStep, PartState, PartView, Rules}
use Rattle.eql_turn_lock.specs.declared.history.Entry.{Entry}
use Rattle.eql_turn_lock.specs.declared.refused.NotNow.{NotNow}
use Rattle.eql_turn_lock.specs.declared.refused.NotNow.TheVariants as not_now
use Rattle.eql_turn_lock.specs.Calls.{Plays, RefusesWorn}
use Rattle.eql_turn_lock.specs.History.{IsLegal, entry}
use Rattle.eql_turn_lock.specs.Passes.{KnowsHistory}
use Rattle.eql_turn_lock.specs.Tries.{words_of}
use Rattle.eql_lock_row.specs.Rows.{AreFirst, ChangesAt}
use Rattle.eql_lock_row.proofs.Places.{all_at}
use Rattle.eql_conductor.specs.declared.bench.NotPlayed.{NotPlayed}
use Rattle.eql_conductor.specs.declared.bench.NotPlayed.TheVariants as not_played
use Rattle.eql_conductor.specs.Benches.{LeavesLane, CallsPart, LeavesPart, PartPlays, StaysSame, ComesByTurns, WasNotPlayed}
use Rattle.eql_conductor.specs.Notes.{part_note}
use Rattle.eql_conductor.specs.Lists.{rules_in, set_in}
use Rattle.eql_conductor.proofs.Resting.{fed_self, same_or, turned_on, turned_once, turned_self}
use Rattle.eql_hub.specs.Hands.{HandView, PartKnown}
use Rattle.eql_hub.specs.Turns.{IsLaneTurn, IsPartTurn, is_open_part}
use Rattle.eql_lock_bench.specs.Locked.{MayBe, entry_failed, known_by, lane_state, mine_in, noted_lane, noted_part, opening_in, part_state, told_of, worn_in, worn_of}
use Rattle.eql_lock_bench.proofs.Counted.{worn_in_rises, worn_in_stays, worn_rises, worn_stays}
use Rattle.eql_lock_bench.proofs.Placed.{changed_count, changed_else, changed_here, is_after, may_back, may_seen, same_each, some_state}
use Rattle.eql_lock_bench.proofs.Runs.{IsOpenTo, led, legal_keeps}

-- ---- one part, by its rules
module _ (rules : Rules) where
  pub record Stands (part : PartView) : Type 0 where
    pub rules_are : part.rules ≡ rules

  pub stands_on : (x : PartView) (op : PartOp) (reply : PartReply) (y : PartView) → IsPartTurn x op reply y → Stands x → Stands y
  stands_on x op reply y turn is = record { rules_are = turn.rules ∙ is.rules_are }

  step_of : (x : PartView) (op : PartOp) (reply : PartReply) (y : PartView) → IsPartTurn x op reply y → Stands x → IsPartStep rules x.state op reply y.state
  step_of x op reply y turn is = subst (λ (r : Rules). IsPartStep r x.state op reply y.state) is.rules_are turn.step

  -- an open entry is a turn
  turned_one : (op : PartOp) (reply : PartReply) (x y : PartView) → is_open_part op ≡ true → IsPartTurn x op reply y → Stands x → ComesByTurns rules x.state y.state
  turned_one (part_op.Turn max) reply x y open_to turn is = turned_once rules x.state y.state max reply (step_of x (part_op.Turn max) reply y turn is)
  turned_one (part_op.Deliver items mark) reply x y open_to turn is = absurd (false≢true open_to)
  turned_one part_op.Collect reply x y open_to turn is = absurd (false≢true open_to)
  turned_one part_op.Snap reply x y open_to turn is = absurd (false≢true open_to)

  pub turned_all : (es : List (Entry PartOp PartReply)) (x y : PartView) → IsLegal IsPartTurn x es y → All (IsOpenTo is_open_part) es → Stands x → ComesByTurns rules x.state y.state
  turned_all [] x y same all is = subst (λ (v : PartView). ComesByTurns rules x.state v.state) same (turned_self rules x.state)
  turned_all (e ∷ es) x y (after, turn, rest) all is =
      turned_on rules x.state after.state y.state
      (turned_one e.op e.reply x after (All-head (IsOpenTo is_open_part) e es all) turn is)
      (turned_all es after y rest (All-tail (IsOpenTo is_open_part) e es all) (stands_on x e.op e.reply after turn is))

-- ---- a call on a part
module _ {S L : Type 0} (left lent_as : S → Option (List ℕ)) (fault_plan : S → Option FaultPlan) (read_of : L → Reads)
    (text : ℕ → Option (List ℕ)) (p : ℕ) (op : PartOp) (a b : HandView S L) (lanes : b.lanes ≡ a.lanes) (first : AreFirst a.parts.views) where
  abbrev Turns : LaneView S L → LaneOp → LaneReply → LaneView S L → Type 0
  Turns = IsLaneTurn left lent_as fault_plan read_of

  -- ---- what is known of all places, where the part's opening stayed and its history is known
  module _ {Changes : PartKnown → PartKnown → Type 0} (c : ChangesAt p Changes a.parts.views b.parts.views)
      (opening : c.after.opening ≡ c.before.opening) (knows : KnowsHistory IsPartTurn is_open_part c.after) where
    some_at : (x : PartState) × MayBe IsPartTurn part_state b.parts.views p x
    some_at = some_state IsPartTurn part_state is_open_part b.parts.views p c.after (changed_here p a.parts.views b.parts.views c) knows

    others : (k : ℕ) → k ≢ p → LeavesPart (rules_in (opening_in (slice_get a.parts.views k))) (MayBe IsPartTurn part_state a.parts.views k) (MayBe IsPartTurn part_state b.parts.views k)
    others k apart y may = (
      y,
      may_back IsPartTurn part_state a.parts.views b.parts.views k (changed_else p a.parts.views b.parts.views c k apart) y may,
      turned_self (rules_in (opening_in (slice_get a.parts.views k))) y,
    )

    same : StaysSame (known_by left lent_as fault_plan read_of text a) (known_by left lent_as fault_plan read_of text b)
    same = record {
      lanes = ap (λ (r : _). length r.views) lanes;
      parts = changed_count p a.parts.views b.parts.views c;
      set = λ s l. ap (λ (r : _). set_in read_of (text s) (opening_in (slice_get r.views s))) lanes;
      rules = λ k l. same_each p a.parts.views b.parts.views c (λ (o : Option PartKnown). rules_in (opening_in o)) (ap rules_in opening) k;
      some_lane = λ s l has. (has.0, may_back Turns lane_state b.lanes.views a.lanes.views s (ap (λ (r : _). slice_get r.views s) (sym lanes)) has.0 has.1);
      some_part = λ k l has. elim (same_or k p) [
        | inl e ↦ subst (λ (j : ℕ). (x : PartState) × MayBe IsPartTurn part_state b.parts.views j x) (sym e) some_at
        | inr apart ↦ (has.0, may_back IsPartTurn part_state b.parts.views a.parts.views k (sym (changed_else p a.parts.views b.parts.views c k apart)) has.0 has.1)
      ];
    }

  lanes_left : (s : ℕ) → LeavesLane (set_in read_of (text s) (opening_in (slice_get a.lanes.views s))) (MayBe Turns lane_state a.lanes.views s) (MayBe Turns lane_state b.lanes.views s)
  lanes_left s y may = (
    y,
    may_back Turns lane_state a.lanes.views b.lanes.views s (ap (λ (r : _). slice_get r.views s) lanes) y may,
    fed_self (set_in read_of (text s) (opening_in (slice_get a.lanes.views s))) y,
  )

  -- ---- the call was answered
  module _ (reply : PartReply)
      (c : ChangesAt p (λ (v w : PartKnown). Plays IsPartTurn is_open_part v op reply w × KnowsHistory IsPartTurn is_open_part w) a.parts.views b.parts.views) where
    called : (y : PartState) → MayBe IsPartTurn part_state b.parts.views p y
        → CallsPart (rules_in (opening_in (slice_get a.parts.views p))) (MayBe IsPartTurn part_state a.parts.views p) op reply y
    called y may =
        let plays = c.changes.0.2 in
        let v = c.before in
        let rules : Rules = rules_in (opening_in (slice_get a.parts.views p)) in
        let e : may.view ≡ c.after = is_after p a.parts.views b.parts.views c may.view may.there in
        let opened : v.opening ≡ Some may.opening = sym plays.same.1 ∙ (ap (λ (u : PartKnown). u.opening) (sym e) ∙ may.opened) in
        let legal : IsLegal IsPartTurn may.opening c.after.seen may.value = subst (λ (u : PartKnown). IsLegal IsPartTurn may.opening u.seen may.value) e may.legal in
        let ran = led IsPartTurn is_open_part (words_of c.changes.0.0 ++ c.changes.0.1 ∷ []) v op reply c.after may.opening may.value
        (all_at (λ (u : PartKnown). u.number ≡ 0) a.parts.views p v first c.was) plays legal in
        let rules_are : rules ≡ may.opening.rules = ap (λ (o : Option PartKnown). rules_in (opening_in o)) c.was ∙ ap rules_in opened in
        let begun : Stands rules may.opening = record { rules_are = sym rules_are } in
        let at_first : Stands rules ran.first = legal_keeps IsPartTurn (Stands rules) (stands_on rules) v.seen may.opening ran.first ran.was begun in
        let at_before : Stands rules ran.before = legal_keeps IsPartTurn (Stands rules) (stands_on rules) ran.between ran.first ran.before ran.others at_first in
        record {
          first = ran.first.state;
          before = ran.before.state;
          was = record { view = v; opening = may.opening; value = ran.first; there = c.was; opened = opened; legal = ran.was; state_is = refl };
          turned = turned_all rules ran.between ran.first ran.before ran.others ran.are_open at_first;
          step = subst (λ (z : PartState). IsPartStep rules ran.before.state op reply z) (sym may.state_is) (step_of rules ran.before op reply may.value ran.step at_before);
        }

    looked_same : worn_of c.after ≡ worn_of c.before
    looked_same = worn_stays c.before.looked (words_of c.changes.0.0 ++ c.changes.0.1 ∷ []) c.after.looked c.changes.0.2.looked_is c.changes.0.3

    mine_is : c.after.mine ≡ c.before.mine ++ entry c.before.number op reply ∷ []
    mine_is = c.changes.0.2.mine

    plays : PartPlays p op reply (known_by left lent_as fault_plan read_of text a) (known_by left lent_as fault_plan read_of text b)
    plays =
        let opening = c.changes.0.2.same.1 in
        let knows = c.changes.1 in
        let e : Entry PartOp PartReply = entry c.before.number op reply in
        record {
          same = same c opening knows;
          called = called;
          some = some_at c opening knows;
          others = λ k l apart. others c opening knows k apart;
          lanes = record { each = λ s l. lanes_left s };
          note = ap (λ (o : Option PartKnown). map noted_part (mine_in o)) (changed_here p a.parts.views b.parts.views c)
              ∙ (ap (map noted_part) mine_is ∙ (map-append noted_part c.before.mine (e ∷ [])
              ∙ ap (λ (o : Option PartKnown). map noted_part (mine_in o) ++ part_note op reply ∷ []) (sym c.was)));
          other_notes = λ k l apart. ap (λ (o : Option PartKnown). map noted_part (mine_in o)) (changed_else p a.parts.views b.parts.views c k apart);
          lane_notes = record { each = λ s l. ap (λ (r : _). map noted_lane (mine_in (slice_get r.views s))) lanes };
          failed = λ s. ap (λ (r : _). count_by entry_failed (mine_in (slice_get r.views s))) lanes;
          worn =
              let x : worn_in b.parts.views ≡ worn_in a.parts.views = ap worn_in c.is ∙ worn_in_stays a.parts.views p c.before c.after c.was looked_same in
              let y : worn_in b.lanes.views ≡ worn_in a.lanes.views = ap (λ (r : _). worn_in r.views) lanes in
              omega (arith, x, y);
        }

  -- ---- the lock was worn
  module _ (word : ℕ) (back : PartOp)
      (c : ChangesAt p (λ (v w : PartKnown). RefusesWorn v op (not_now.Worn word back) w × KnowsHistory IsPartTurn is_open_part w) a.parts.views b.parts.views) where
    unplayed : WasNotPlayed (not_played.Worn word) (known_by left lent_as fault_plan read_of text a) (known_by left lent_as fault_plan read_of text b)
    unplayed =
        let rested = c.changes.0.1 in
        let mine : c.after.mine ≡ c.before.mine = rested.1 in
        record {
          rests = record {
            same = same c rested.3 c.changes.1;
            lanes = record { each = λ s l. lanes_left s };
            parts = record {
              each = λ k l. elim (same_or k p) [
                | inl e ↦ subst (λ (j : ℕ). LeavesPart (rules_in (opening_in (slice_get a.parts.views j))) (MayBe IsPartTurn part_state a.parts.views j) (MayBe IsPartTurn part_state b.parts.views j)) (sym e)
                    (λ y may. (
                      y,
                      may_seen IsPartTurn part_state a.parts.views b.parts.views p c.before c.after c.was (changed_here p a.parts.views b.parts.views c) rested.0 rested.3 y may,
                      turned_self (rules_in (opening_in (slice_get a.parts.views p))) y,
                    ))
                | inr apart ↦ others c rested.3 c.changes.1 k apart
              ];
            };
          };
          lane_notes = record { each = λ s l. ap (λ (r : _). map noted_lane (mine_in (slice_get r.views s))) lanes };
          part_notes = record { each = λ k l. same_each p a.parts.views b.parts.views c (λ (o : Option PartKnown). map noted_part (mine_in o)) (ap (map noted_part) mine) k };
          failed = λ s. ap (λ (r : _). count_by entry_failed (mine_in (slice_get r.views s))) lanes;
          worn = (
            c.changes.0.2,
            (let more : worn_of c.before < worn_of c.after = worn_rises c.before.looked (words_of c.changes.0.3.0) word c.after.looked c.changes.0.3.2 c.changes.0.2 in
                let x : worn_in a.parts.views < worn_in (slice_set a.parts.views p c.after) = worn_in_rises a.parts.views p c.before c.after c.was more in
                let z : worn_in b.parts.views ≡ worn_in (slice_set a.parts.views p c.after) = ap worn_in c.is in
                let y : worn_in b.lanes.views ≡ worn_in a.lanes.views = ap (λ (r : _). worn_in r.views) lanes in
                omega (arith, x, y, z)),
          );
        }

  -- ---- either
  pub record Says (result : Result PartReply NotPlayed) : Type 0 where
    pub played : IfOk result (λ reply. PartPlays p op reply (known_by left lent_as fault_plan read_of text a) (known_by left lent_as fault_plan read_of text b))
    pub not_played : IfErr result (λ by. WasNotPlayed by (known_by left lent_as fault_plan read_of text a) (known_by left lent_as fault_plan read_of text b))

  pub part_says : (answer : Result PartReply (NotNow PartOp)) (result : Result PartReply NotPlayed) → result ≡ told_of answer
      → ChangesAt p (λ (v w : PartKnown). MatchResult answer (λ reply. Plays IsPartTurn is_open_part v op reply w) (λ refused. RefusesWorn v op refused w) × KnowsHistory IsPartTurn is_open_part w) a.parts.views b.parts.views
      → Says result
  part_says (Ok reply) result is c = subst Says (sym is) (record {
    played = plays reply (record { before = c.before; after = c.after; was = c.was; is = c.is; changes = c.changes });
    not_played = tt;
  })
  part_says (Err (not_now.Worn word back)) result is c = subst Says (sym is) (record {
    played = tt;
    not_played = unplayed word back (record { before = c.before; after = c.after; was = c.was; is = c.is; changes = c.changes });
  })
  part_says (Err (not_now.Busy word back)) result is c = absurd c.changes.0
