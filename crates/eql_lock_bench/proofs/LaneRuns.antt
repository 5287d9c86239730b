-- Lanes under locks: what their histories tell of their states, and a call on one of them.
use Rattle.std.proofs.Common.{◌≡◌, ◌≢◌, inl, inr, ◌<◌, ◌+◌, ℕ, true, cond, List, [], ◌∷◌, ◌++◌, map, Option, Some, length, refl, sym, ap, ◌∙◌, subst, arith}
use Rattle.std.specs.Prelude.{All, IfErr, IfOk, MatchResult, Result, Ok, Err, slice_get, slice_set}
use Rattle.std.specs.List.{count_by}
use Rattle.std.proofs.lemmas.Bool.{false≢true}
use Rattle.std.proofs.lemmas.List.{map-append}
use Rattle.std.proofs.lemmas.List.Elements.{All-head, All-tail}
use Rattle.eql_values.specs.Accepted.{Reads}
use Rattle.eql_outside.specs.Plans.{FaultPlan}
use Rattle.eql_lane.specs.declared.ops.LaneOp.{LaneOp}
use Rattle.eql_lane.specs.declared.ops.LaneOp.TheVariants as lane_op
use Rattle.eql_lane.specs.declared.ops.LaneReply.{LaneReply}
use Rattle.eql_lane.specs.declared.ops.LaneReply.TheVariants as lane_reply
use Rattle.eql_lane.specs.Lanes.{IsLaneStep, LaneState, Setting}
use Rattle.eql_lane.specs.Views.{IsTextOf, LaneView, setting_of}
use Rattle.eql_turn_lock.specs.declared.history.Entry.{Entry}
use Rattle.eql_turn_lock.specs.declared.refused.NotNow.{NotNow}
use Rattle.eql_turn_lock.specs.declared.refused.NotNow.TheVariants as not_now
use Rattle.eql_turn_lock.specs.Calls.{Plays, RefusesWorn}
use Rattle.eql_turn_lock.specs.History.{IsLegal, entry}
use Rattle.eql_turn_lock.specs.Passes.{KnowsHistory}
use Rattle.eql_turn_lock.specs.Tries.{words_of}
use Rattle.eql_lock_row.specs.Rows.{AreFirst, ChangesAt}
use Rattle.eql_lock_row.proofs.Places.{all_at}
use Rattle.eql_conductor.specs.declared.bench.NotPlayed.{NotPlayed}
use Rattle.eql_conductor.specs.declared.bench.NotPlayed.TheVariants as not_played
use Rattle.eql_conductor.specs.Benches.{FailsBy, ComesByFeeds, CallsLane, LeavesLane, LanePlays, LeavesPart, StaysSame, WasNotPlayed}
use Rattle.eql_conductor.specs.Notes.{lane_note}
use Rattle.eql_conductor.specs.Lists.{rules_in, set_in}
use Rattle.eql_conductor.proofs.Resting.{fed_on, fed_once, fed_self, same_or, turned_self}
use Rattle.eql_hub.specs.Hands.{HandView, LaneKnown}
use Rattle.eql_hub.specs.Turns.{IsLaneTurn, IsPartTurn, is_open_lane}
use Rattle.eql_lock_bench.specs.Benched.{AreOfTexts}
use Rattle.eql_lock_bench.specs.Locked.{MayBe, did_fail, entry_failed, known_by, lane_state, mine_in, noted_lane, noted_part, opening_in, part_state, told_of, worn_in, worn_of}
use Rattle.eql_lock_bench.proofs.Counted.{count_snoc, worn_in_rises, worn_in_stays, worn_rises, worn_stays}
use Rattle.eql_lock_bench.proofs.Placed.{changed_count, changed_else, changed_here, is_after, may_back, may_seen, same_each, some_state}
use Rattle.eql_lock_bench.proofs.Runs.{IsOpenTo, led, legal_keeps}

module _ {S L : Type 0} (left lent_as : S → Option (List ℕ)) (fault_plan : S → Option FaultPlan) (read_of : L → Reads) where
  abbrev pub Turns : LaneView S L → LaneOp → LaneReply → LaneView S L → Type 0
  Turns = IsLaneTurn left lent_as fault_plan read_of

  -- ---- one lane, by its text and by what no step changes
  module _ (text : Option (List ℕ)) (set : Setting) where
    pub record Stands (lane : LaneView S L) : Type 0 where
      pub of : IsTextOf left text lane
      pub set_is : setting_of read_of text lane ≡ set

    pub stands_on : (x : LaneView S L) (op : LaneOp) (reply : LaneReply) (y : LaneView S L) → Turns x op reply y → Stands x → Stands y
    stands_on x op reply y turn is = record {
      of = (turn.plays text is.of).keeps;
      set_is =
          let a = turn.same.shard in let b = turn.same.slack in let c = turn.same.reads in
          let same : setting_of read_of text y ≡ setting_of read_of text x = cc in
          same ∙ is.set_is;
    }

    step_of : (x : LaneView S L) (op : LaneOp) (reply : LaneReply) (y : LaneView S L) → Turns x op reply y → Stands x → IsLaneStep set x.state op reply y.state
    step_of x op reply y turn is = subst (λ (t : Setting). IsLaneStep t x.state op reply y.state) is.set_is (turn.plays text is.of).step

    -- an open entry is a feed
    fed_one : (op : LaneOp) (reply : LaneReply) (x y : LaneView S L) → is_open_lane op ≡ true → Turns x op reply y → Stands x → ComesByFeeds set x.state y.state
    fed_one (lane_op.Feed max) reply x y open_to turn is = fed_once set x.state y.state max reply (step_of x (lane_op.Feed max) reply y turn is)
    fed_one (lane_op.Take mark) reply x y open_to turn is = absurd (false≢true open_to)
    fed_one lane_op.Look reply x y open_to turn is = absurd (false≢true open_to)
    fed_one lane_op.Snap reply x y open_to turn is = absurd (false≢true open_to)

    pub fed_all : (es : List (Entry LaneOp LaneReply)) (x y : LaneView S L) → IsLegal Turns x es y → All (IsOpenTo is_open_lane) es → Stands x → ComesByFeeds set x.state y.state
    fed_all [] x y same all is = subst (λ (v : LaneView S L). ComesByFeeds set x.state v.state) same (fed_self set x.state)
    fed_all (e ∷ es) x y (after, turn, rest) all is =
        fed_on set x.state after.state y.state
        (fed_one e.op e.reply x after (All-head (IsOpenTo is_open_lane) e es all) turn is)
        (fed_all es after y rest (All-tail (IsOpenTo is_open_lane) e es all) (stands_on x e.op e.reply after turn is))

  -- ---- a call on a lane
  module _ (text : ℕ → Option (List ℕ)) (s : ℕ) (op : LaneOp) (a b : HandView S L) (parts : b.parts ≡ a.parts) (are : AreOfTexts left text a.lanes.views) (first : AreFirst a.lanes.views) where
    -- the call that was answered
    module _ (reply : LaneReply)
        (c : ChangesAt s (λ (v w : LaneKnown S L). Plays Turns is_open_lane v op reply w × KnowsHistory Turns is_open_lane w) a.lanes.views b.lanes.views) where
      pub called : (y : LaneState) → MayBe Turns lane_state b.lanes.views s y
          → CallsLane (set_in read_of (text s) (opening_in (slice_get a.lanes.views s))) (MayBe Turns lane_state a.lanes.views s) op reply y
      called y may =
          let plays = c.changes.0.2 in
          let v = c.before in
          let set : Setting = set_in read_of (text s) (opening_in (slice_get a.lanes.views s)) in
          let e : may.view ≡ c.after = is_after s a.lanes.views b.lanes.views c may.view may.there in
          let opened : v.opening ≡ Some may.opening = sym plays.same.1 ∙ (ap (λ (u : LaneKnown S L). u.opening) (sym e) ∙ may.opened) in
          let legal : IsLegal Turns may.opening c.after.seen may.value = subst (λ (u : LaneKnown S L). IsLegal Turns may.opening u.seen may.value) e may.legal in
          let ran = led Turns is_open_lane (words_of c.changes.0.0 ++ c.changes.0.1 ∷ []) v op reply c.after may.opening may.value
          (all_at (λ (u : LaneKnown S L). u.number ≡ 0) a.lanes.views s v first c.was) plays legal in
          let set_is : set ≡ setting_of read_of (text s) may.opening =
          ap (λ (o : Option (LaneKnown S L)). set_in read_of (text s) (opening_in o)) c.was ∙ ap (set_in read_of (text s)) opened in
          let begun : Stands (text s) set may.opening = record { of = are.each s v may.opening c.was opened; set_is = sym set_is } in
          let at_first : Stands (text s) set ran.first = legal_keeps Turns (Stands (text s) set) (stands_on (text s) set) v.seen may.opening ran.first ran.was begun in
          let at_before : Stands (text s) set ran.before = legal_keeps Turns (Stands (text s) set) (stands_on (text s) set) ran.between ran.first ran.before ran.others at_first in
          record {
            first = ran.first.state;
            before = ran.before.state;
            was = record { view = v; opening = may.opening; value = ran.first; there = c.was; opened = opened; legal = ran.was; state_is = refl };
            fed = fed_all (text s) set ran.between ran.first ran.before ran.others ran.are_open at_first;
            step = subst (λ (z : LaneState). IsLaneStep set ran.before.state op reply z) (sym may.state_is) (step_of (text s) set ran.before op reply may.value ran.step at_before);
          }

    -- ---- what is known of all places, where the lane's opening stayed and its history is known
    module _ {Changes : LaneKnown S L → LaneKnown S L → Type 0} (c : ChangesAt s Changes a.lanes.views b.lanes.views)
        (opening : c.after.opening ≡ c.before.opening) (knows : KnowsHistory Turns is_open_lane c.after) where
      some_at : (x : LaneState) × MayBe Turns lane_state b.lanes.views s x
      some_at = some_state Turns lane_state is_open_lane b.lanes.views s c.after (changed_here s a.lanes.views b.lanes.views c) knows

      others : (k : ℕ) → k ≢ s
          → LeavesLane (set_in read_of (text k) (opening_in (slice_get a.lanes.views k))) (MayBe Turns lane_state a.lanes.views k) (MayBe Turns lane_state b.lanes.views k)
      others k apart y may = (
        y,
        may_back Turns lane_state a.lanes.views b.lanes.views k (changed_else s a.lanes.views b.lanes.views c k apart) y may,
        fed_self (set_in read_of (text k) (opening_in (slice_get a.lanes.views k))) y,
      )

      same : StaysSame (known_by left lent_as fault_plan read_of text a) (known_by left lent_as fault_plan read_of text b)
      same = record {
        lanes = changed_count s a.lanes.views b.lanes.views c;
        parts = ap (λ (r : _). length r.views) parts;
        set = λ k l. same_each s a.lanes.views b.lanes.views c (λ (o : Option (LaneKnown S L)). set_in read_of (text k) (opening_in o)) (ap (set_in read_of (text k)) opening) k;
        rules = λ p l. ap (λ (r : _). rules_in (opening_in (slice_get r.views p))) parts;
        some_lane = λ k l has. elim (same_or k s) [
          | inl e ↦ subst (λ (j : ℕ). (x : LaneState) × MayBe Turns lane_state b.lanes.views j x) (sym e) some_at
          | inr apart ↦ (has.0, may_back Turns lane_state b.lanes.views a.lanes.views k (sym (changed_else s a.lanes.views b.lanes.views c k apart)) has.0 has.1)
        ];
        some_part = λ p l has. (has.0, may_back IsPartTurn part_state b.parts.views a.parts.views p (ap (λ (r : _). slice_get r.views p) (sym parts)) has.0 has.1);
      }

    parts_left : (p : ℕ) → LeavesPart (rules_in (opening_in (slice_get a.parts.views p))) (MayBe IsPartTurn part_state a.parts.views p) (MayBe IsPartTurn part_state b.parts.views p)
    parts_left p y may = (
      y,
      may_back IsPartTurn part_state a.parts.views b.parts.views p (ap (λ (r : _). slice_get r.views p) parts) y may,
      turned_self (rules_in (opening_in (slice_get a.parts.views p))) y,
    )

    -- ---- the call was answered
    fails_by : (reply : LaneReply) (old new : ℕ) → new ≡ old + cond (did_fail reply) 1 0 → FailsBy reply old new
    fails_by (lane_reply.Failed n) old new e = omega (arith, e)
    fails_by (lane_reply.Fed n) old new e = omega (arith, e)
    fails_by (lane_reply.Held n) old new e = omega (arith, e)
    fails_by lane_reply.Closed old new e = omega (arith, e)
    fails_by (lane_reply.Limit of) old new e = omega (arith, e)
    fails_by (lane_reply.Taken items) old new e = omega (arith, e)
    fails_by (lane_reply.Low mark) old new e = omega (arith, e)
    fails_by (lane_reply.Cut cut) old new e = omega (arith, e)
    fails_by (lane_reply.Memory n) old new e = omega (arith, e)

    module _ (reply : LaneReply)
        (c : ChangesAt s (λ (v w : LaneKnown S L). Plays Turns is_open_lane v op reply w × KnowsHistory Turns is_open_lane w) a.lanes.views b.lanes.views) where
      looked_same : worn_of c.after ≡ worn_of c.before
      looked_same = worn_stays c.before.looked (words_of c.changes.0.0 ++ c.changes.0.1 ∷ []) c.after.looked c.changes.0.2.looked_is c.changes.0.3

      number_is : c.before.number ≡ 0
      number_is = all_at (λ (u : LaneKnown S L). u.number ≡ 0) a.lanes.views s c.before first c.was

      mine_is : c.after.mine ≡ c.before.mine ++ entry c.before.number op reply ∷ []
      mine_is = c.changes.0.2.mine

      pub plays : LanePlays s op reply (known_by left lent_as fault_plan read_of text a) (known_by left lent_as fault_plan read_of text b)
      plays =
          let opening = c.changes.0.2.same.1 in
          let knows = c.changes.1 in
          let e : Entry LaneOp LaneReply = entry c.before.number op reply in
          record {
            same = same c opening knows;
            called = called reply c;
            some = some_at c opening knows;
            others = λ k l apart. others c opening knows k apart;
            parts = record { each = λ p l. parts_left p };
            note = ap (λ (o : Option (LaneKnown S L)). map noted_lane (mine_in o)) (changed_here s a.lanes.views b.lanes.views c)
                ∙ (ap (map noted_lane) mine_is ∙ (map-append noted_lane c.before.mine (e ∷ [])
                ∙ ap (λ (o : Option (LaneKnown S L)). map noted_lane (mine_in o) ++ lane_note op reply ∷ []) (sym c.was)));
            other_notes = λ k l apart. ap (λ (o : Option (LaneKnown S L)). map noted_lane (mine_in o)) (changed_else s a.lanes.views b.lanes.views c k apart);
            part_notes = record { each = λ p l. ap (λ (r : _). map noted_part (mine_in (slice_get r.views p))) parts };
            failed = fails_by reply (count_by entry_failed (mine_in (slice_get a.lanes.views s))) (count_by entry_failed (mine_in (slice_get b.lanes.views s)))
                (ap (λ (o : Option (LaneKnown S L)). count_by entry_failed (mine_in o)) (changed_here s a.lanes.views b.lanes.views c)
                ∙ (ap (count_by entry_failed) mine_is ∙ (count_snoc entry_failed c.before.mine e (did_fail reply) refl
                ∙ ap (λ (o : Option (LaneKnown S L)). count_by entry_failed (mine_in o) + cond (did_fail reply) 1 0) (sym c.was))));
            others_failed = λ k apart. ap (λ (o : Option (LaneKnown S L)). count_by entry_failed (mine_in o)) (changed_else s a.lanes.views b.lanes.views c k apart);
            worn =
                let x : worn_in b.lanes.views ≡ worn_in a.lanes.views = ap worn_in c.is ∙ worn_in_stays a.lanes.views s c.before c.after c.was looked_same in
                let y : worn_in b.parts.views ≡ worn_in a.parts.views = ap (λ (r : _). worn_in r.views) parts in
                omega (arith, x, y);
          }

    -- ---- the lock was worn
    module _ (word : ℕ) (back : LaneOp)
        (c : ChangesAt s (λ (v w : LaneKnown S L). RefusesWorn v op (not_now.Worn word back) w × KnowsHistory Turns is_open_lane w) a.lanes.views b.lanes.views) where
      pub unplayed : WasNotPlayed (not_played.Worn word) (known_by left lent_as fault_plan read_of text a) (known_by left lent_as fault_plan read_of text b)
      unplayed =
          let rested = c.changes.0.1 in
          let mine : c.after.mine ≡ c.before.mine = rested.1 in
          record {
            rests = record {
              same = same c rested.3 c.changes.1;
              lanes = record {
                each = λ k l. elim (same_or k s) [
                  | inl e ↦ subst (λ (j : ℕ). LeavesLane (set_in read_of (text j) (opening_in (slice_get a.lanes.views j))) (MayBe Turns lane_state a.lanes.views j) (MayBe Turns lane_state b.lanes.views j)) (sym e)
                      (λ y may. (
                        y,
                        may_seen Turns lane_state a.lanes.views b.lanes.views s c.before c.after c.was (changed_here s a.lanes.views b.lanes.views c) rested.0 rested.3 y may,
                        fed_self (set_in read_of (text s) (opening_in (slice_get a.lanes.views s))) y,
                      ))
                  | inr apart ↦ others c rested.3 c.changes.1 k apart
                ];
              };
              parts = record { each = λ p l. parts_left p };
            };
            lane_notes = record { each = λ k l. same_each s a.lanes.views b.lanes.views c (λ (o : Option (LaneKnown S L)). map noted_lane (mine_in o)) (ap (map noted_lane) mine) k };
            part_notes = record { each = λ p l. ap (λ (r : _). map noted_part (mine_in (slice_get r.views p))) parts };
            failed = λ k. same_each s a.lanes.views b.lanes.views c (λ (o : Option (LaneKnown S L)). count_by entry_failed (mine_in o)) (ap (count_by entry_failed) mine) k;
            worn = (
              c.changes.0.2,
              (let more : worn_of c.before < worn_of c.after = worn_rises c.before.looked (words_of c.changes.0.3.0) word c.after.looked c.changes.0.3.2 c.changes.0.2 in
                  let x : worn_in a.lanes.views < worn_in (slice_set a.lanes.views s c.after) = worn_in_rises a.lanes.views s c.before c.after c.was more in
                  let z : worn_in b.lanes.views ≡ worn_in (slice_set a.lanes.views s c.after) = ap worn_in c.is in
                  let y : worn_in b.parts.views ≡ worn_in a.parts.views = ap (λ (r : _). worn_in r.views) parts in
                  omega (arith, x, y, z)),
            );
          }

    -- ---- either
    pub record Says (result : Result LaneReply NotPlayed) : Type 0 where
      pub played : IfOk result (λ reply. LanePlays s op reply (known_by left lent_as fault_plan read_of text a) (known_by left lent_as fault_plan read_of text b))
      pub not_played : IfErr result (λ by. WasNotPlayed by (known_by left lent_as fault_plan read_of text a) (known_by left lent_as fault_plan read_of text b))

    pub lane_says : (answer : Result LaneReply (NotNow LaneOp)) (result : Result LaneReply NotPlayed) → result ≡ told_of answer
        → ChangesAt s (λ (v w : LaneKnown S L). MatchResult answer (λ reply. Plays Turns is_open_lane v op reply w) (λ refused. RefusesWorn v op refused w) × KnowsHistory Turns is_open_lane w) a.lanes.views b.lanes.views
        → Says result
    lane_says (Ok reply) result is c = subst Says (sym is) (record {
      played = plays reply (record { before = c.before; after = c.after; was = c.was; is = c.is; changes = c.changes });
      not_played = tt;
    })
    lane_says (Err (not_now.Worn word back)) result is c = subst Says (sym is) (record {
      played = tt;
      not_played = unplayed word back (record { before = c.before; after = c.after; was = c.was; is = c.is; changes = c.changes });
    })
    lane_says (Err (not_now.Busy word back)) result is c = absurd c.changes.0
