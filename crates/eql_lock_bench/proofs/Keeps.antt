-- What is known of the hand of a bench stays known.
use Rattle.std.proofs.Common.{◌≡◌, inl, inr, ℕ, Bool, List, [], ◌∷◌, ◌++◌, Option, Some, length, refl, sym, ap, ◌∙◌, subst, append_assoc, append-nil}
use Rattle.std.specs.Prelude.{All, MatchResult, Result, Ok, Err, slice_get}
use Rattle.std.proofs.lemmas.Option.{same_Some}
use Rattle.eql_values.specs.Accepted.{Reads}
use Rattle.eql_outside.specs.Plans.{FaultPlan}
use Rattle.eql_lane.specs.declared.ops.LaneOp.{LaneOp}
use Rattle.eql_lane.specs.declared.ops.LaneReply.{LaneReply}
use Rattle.eql_lane.specs.Lanes.{LaneAllows}
use Rattle.eql_lane.specs.Views.{LaneView}
use Rattle.eql_parts.specs.declared.ops.PartOp.{PartOp}
use Rattle.eql_parts.specs.declared.ops.PartReply.{PartReply}
use Rattle.eql_parts.specs.PartSteps.{PartAllows, PartView}
use Rattle.eql_turn_lock.specs.declared.refused.NotNow.{NotNow}
use Rattle.eql_turn_lock.specs.declared.refused.NotNow.TheVariants as not_now
use Rattle.eql_turn_lock.specs.declared.view.View.{View}
use Rattle.eql_turn_lock.specs.Calls.{Plays, RefusesWorn}
use Rattle.eql_turn_lock.specs.History.{entry}
use Rattle.eql_turn_lock.specs.Passes.{KnowsHistory}
use Rattle.eql_turn_lock.specs.Tries.{words_of}
use Rattle.eql_turn_lock.proofs.Histories.{starts_in, starts_self}
use Rattle.eql_lock_row.specs.Rows.{AreFirst, ChangesAt, MayPlayAt}
use Rattle.eql_lock_row.proofs.Places.{all_at, all_set}
use Rattle.eql_conductor.specs.Benches.{MayPlay}
use Rattle.eql_conductor.proofs.Resting.{same_or}
use Rattle.eql_hub.specs.Hands.{HandView, HubView, IsFirst, IsHandOf, Knows, LaneKnown, PartKnown}
use Rattle.eql_hub.specs.Later.{IsLater}
use Rattle.eql_hub.specs.Turns.{IsLaneTurn, IsPartTurn, is_open_lane, is_open_part}
use Rattle.eql_lock_bench.specs.Benched.{AllGoOn, AreOfTexts, IsBenchHand}
use Rattle.eql_lock_bench.specs.Locked.{known_by}
use Rattle.eql_lock_bench.proofs.Placed.{changed_count, changed_else, changed_here}

-- ---- passes that go on
module _ {T O R : Type 0} where
  pub go_on_self : (v : View T O R) → IsLater v v
  go_on_self v = record {
    number = refl;
    opening = refl;
    made = refl;
    ended = refl;
    seen = starts_self v.seen;
    mine = starts_self v.mine;
    looked = starts_self v.looked;
  }

  go_on_both : (u v w : View T O R) → IsLater u v → IsLater v w → IsLater u w
  go_on_both u v w h k = record {
    number = k.number ∙ h.number;
    opening = k.opening ∙ h.opening;
    made = k.made ∙ h.made;
    ended = k.ended ∙ h.ended;
    seen = starts_in w.seen v.seen u.seen k.seen h.seen;
    mine = starts_in w.mine v.mine u.mine k.mine h.mine;
    looked = starts_in w.looked v.looked u.looked k.looked h.looked;
  }

  pub all_go_self : (views : List (View T O R)) → AllGoOn views views
  all_go_self views = record {
    count = refl;
    each = λ k v w at is. subst (IsLater v) (same_Some v w (sym at ∙ is)) (go_on_self v);
  }

  -- a call, answered or refused
  module _ (step_of : T → O → R → T → Type 0) (is_open : O → Bool) where
    abbrev pub Called : O → Result R (NotNow O) → View T O R → View T O R → Type 0
    Called op answer v w =
        MatchResult answer (λ reply. Plays step_of is_open v op reply w) (λ refused. RefusesWorn v op refused w) × KnowsHistory step_of is_open w

    call_goes_on : (op : O) (answer : Result R (NotNow O)) (v w : View T O R) → Called op answer v w → IsLater v w
    call_goes_on op (Ok reply) v w called =
        let plays = called.0.2 in
        record {
          number = plays.same.0;
          opening = plays.same.1;
          made = plays.same.2;
          ended = plays.same.3;
          seen = (plays.between ++ entry v.number op reply ∷ [], plays.seen ∙ append_assoc v.seen plays.between (entry v.number op reply ∷ []));
          mine = (entry v.number op reply ∷ [], plays.mine);
          looked = (words_of called.0.0 ++ called.0.1 ∷ [], plays.looked_is);
        }
    call_goes_on op (Err (not_now.Worn word back)) v w called =
        let rested = called.0.1 in
        let met = called.0.3 in
        record {
          number = rested.2;
          opening = rested.3;
          made = rested.4;
          ended = rested.5;
          seen = ([], rested.0 ∙ sym (append-nil v.seen));
          mine = ([], rested.1 ∙ sym (append-nil v.mine));
          looked = (words_of met.0 ++ word ∷ [], met.2 ∙ append_assoc v.looked (words_of met.0) (word ∷ []));
        }
    call_goes_on op (Err (not_now.Busy word back)) v w called = absurd called.0

    module _ (op : O) (answer : Result R (NotNow O)) (place : ℕ) (old new : List (View T O R)) (c : ChangesAt place (Called op answer) old new) where
      went_on : IsLater c.before c.after
      went_on = call_goes_on op answer c.before c.after c.changes

      pub all_go_on : (taken : List (View T O R)) → AllGoOn taken old → AllGoOn taken new
      all_go_on taken all = record {
        count = changed_count place old new c ∙ all.count;
        each = λ k v w at is. elim (same_or k place) [
          | inl e ↦
              let at_place : slice_get taken place ≡ Some v = subst (λ (j : ℕ). slice_get taken j ≡ Some v) e at in
              let is_place : slice_get new place ≡ Some w = subst (λ (j : ℕ). slice_get new j ≡ Some w) e is in
              subst (IsLater v) (same_Some c.after w (sym (changed_here place old new c) ∙ is_place))
              (go_on_both v c.before c.after (all.each place v c.before at_place c.was) went_on)
          | inr apart ↦ all.each k v w at (sym (changed_else place old new c k apart) ∙ is)
        ];
      }

      pub stay_first : AreFirst old → AreFirst new
      stay_first first =
          subst AreFirst (sym c.is) (all_set (λ (u : View T O R). u.number ≡ 0) old place c.after first
          (went_on.number ∙ all_at (λ (u : View T O R). u.number ≡ 0) old place c.before first c.was))

      pub all_know : All (KnowsHistory step_of is_open) old → All (KnowsHistory step_of is_open) new
      all_know knows = subst (All (KnowsHistory step_of is_open)) (sym c.is) (all_set (KnowsHistory step_of is_open) old place c.after knows c.changes.1)

      -- each opening is one that was there
      pub opening_was : (k : ℕ) (w : View T O R) → slice_get new k ≡ Some w → (v : View T O R) × (slice_get old k ≡ Some v) × (w.opening ≡ v.opening)
      opening_was k w is = elim (same_or k place) [
        | inl e ↦
            let is_place : slice_get new place ≡ Some w = subst (λ (j : ℕ). slice_get new j ≡ Some w) e is in (
              c.before,
              subst (λ (j : ℕ). slice_get old j ≡ Some c.before) (sym e) c.was,
              ap (λ (u : View T O R). u.opening) (sym (same_Some c.after w (sym (changed_here place old new c) ∙ is_place))) ∙ went_on.opening,
            )
        | inr apart ↦ (w, sym (changed_else place old new c k apart) ∙ is, refl)
      ]

module _ {S L : Type 0} (left lent_as : S → Option (List ℕ)) (fault_plan : S → Option FaultPlan) (read_of : L → Reads) (text : ℕ → Option (List ℕ)) where
  abbrev Turns : LaneView S L → LaneOp → LaneReply → LaneView S L → Type 0
  Turns = IsLaneTurn left lent_as fault_plan read_of

  -- ---- how it begins
  pub begins : (hub : HubView) (hand : HandView S L) → IsHandOf hub hand → IsFirst hand → Knows left lent_as fault_plan read_of hand → AreOfTexts left text hand.lanes.views
      → length hand.lanes.views ≡ length hand.lanes.locks → length hand.parts.views ≡ length hand.parts.locks
      → IsBenchHand left lent_as fault_plan read_of text hub hand hand
  begins hub hand own first knows texts lanes parts = record {
    own = own;
    first = first;
    knows = knows;
    texts = texts;
    lanes = all_go_self hand.lanes.views;
    parts = all_go_self hand.parts.views;
    lane_count = lanes ∙ ap length own.lanes;
    part_count = parts ∙ ap length own.parts;
  }

  -- ---- a call on a lane, and one on a part
  module _ (hub : HubView) (taken a b : HandView S L) (own : IsHandOf hub b) (was : IsBenchHand left lent_as fault_plan read_of text hub taken a) where
    pub lane_keeps : (s : ℕ) (op : LaneOp) (answer : Result LaneReply (NotNow LaneOp)) → ChangesAt s (Called Turns is_open_lane op answer) a.lanes.views b.lanes.views → b.parts ≡ a.parts
        → IsBenchHand left lent_as fault_plan read_of text hub taken b
    lane_keeps s op answer c parts = record {
      own = own;
      first = record {
        lanes = stay_first Turns is_open_lane op answer s a.lanes.views b.lanes.views c was.first.lanes;
        parts = subst (λ (r : _). AreFirst r.views) (sym parts) was.first.parts;
      };
      knows = record {
        lanes = all_know Turns is_open_lane op answer s a.lanes.views b.lanes.views c was.knows.lanes;
        parts = subst (λ (r : _). All (KnowsHistory IsPartTurn is_open_part) r.views) (sym parts) was.knows.parts;
      };
      texts = record {
        each = λ k view lane at opened.
            let v = opening_was Turns is_open_lane op answer s a.lanes.views b.lanes.views c k view at in
            was.texts.each k v.0 lane v.1 (sym v.2 ∙ opened);
      };
      lanes = all_go_on Turns is_open_lane op answer s a.lanes.views b.lanes.views c taken.lanes.views was.lanes;
      parts = subst (λ (r : _). AllGoOn taken.parts.views r.views) (sym parts) was.parts;
      lane_count = changed_count s a.lanes.views b.lanes.views c ∙ was.lane_count;
      part_count = ap (λ (r : _). length r.views) parts ∙ was.part_count;
    }

    pub part_keeps : (p : ℕ) (op : PartOp) (answer : Result PartReply (NotNow PartOp)) → ChangesAt p (Called IsPartTurn is_open_part op answer) a.parts.views b.parts.views → b.lanes ≡ a.lanes
        → IsBenchHand left lent_as fault_plan read_of text hub taken b
    part_keeps p op answer c lanes = record {
      own = own;
      first = record {
        lanes = subst (λ (r : _). AreFirst r.views) (sym lanes) was.first.lanes;
        parts = stay_first IsPartTurn is_open_part op answer p a.parts.views b.parts.views c was.first.parts;
      };
      knows = record {
        lanes = subst (λ (r : _). All (KnowsHistory Turns is_open_lane) r.views) (sym lanes) was.knows.lanes;
        parts = all_know IsPartTurn is_open_part op answer p a.parts.views b.parts.views c was.knows.parts;
      };
      texts = subst (λ (r : _). AreOfTexts left text r.views) (sym lanes) was.texts;
      lanes = subst (λ (r : _). AllGoOn taken.lanes.views r.views) (sym lanes) was.lanes;
      parts = all_go_on IsPartTurn is_open_part op answer p a.parts.views b.parts.views c taken.parts.views was.parts;
      lane_count = ap (λ (r : _). length r.views) lanes ∙ was.lane_count;
      part_count = changed_count p a.parts.views b.parts.views c ∙ was.part_count;
    }

  -- ---- what may be played
  pub lane_may : (a : HandView S L) (s : ℕ) (op : LaneOp) → AreFirst a.lanes.views → LaneAllows op
      → MayPlayAt (λ (x : LaneView S L) (o : LaneOp). LaneAllows o) Turns is_open_lane a.lanes.views s op
  lane_may a s op first allowed v there = inr (all_at (λ (u : LaneKnown S L). u.number ≡ 0) a.lanes.views s v first there, λ opening x opened legal. allowed)

  pub part_may : (a : HandView S L) (p : ℕ) (op : PartOp) → AreFirst a.parts.views → MayPlay (known_by left lent_as fault_plan read_of text a) p op
      → MayPlayAt (λ (x : PartView) (o : PartOp). PartAllows x.state o) IsPartTurn is_open_part a.parts.views p op
  part_may a p op first allowed v there = inr (
    all_at (λ (u : PartKnown). u.number ≡ 0) a.parts.views p v first there,
    λ opening x opened legal.
        allowed x.state (record { view = v; opening = opening; value = x; there = there; opened = opened; legal = legal; state_is = refl }),
  )
