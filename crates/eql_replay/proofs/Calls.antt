-- A play in a list of lanes or of parts is a play on its bench.
use Rattle.std.proofs.Common.{◌≡◌, ◌≢◌, inl, inr, ◌<◌, ℕ, zero, suc, arith, List, [], ◌∷◌, ◌++◌, Option, Some, length, refl, sym, ap, ◌∙◌, subst}
use Rattle.std.specs.Prelude.{slice_get}
use Rattle.std.proofs.lemmas.Option.{same_Some}
use Rattle.std.proofs.lemmas.List.{length-set}
use Rattle.eql_values.specs.Accepted.{Reads}
use Rattle.eql_outside.specs.Plans.{FaultPlan}
use Rattle.eql_lane.specs.declared.ops.LaneOp.{LaneOp}
use Rattle.eql_lane.specs.declared.ops.LaneReply.{LaneReply}
use Rattle.eql_lane.specs.Lanes.{Setting, LaneState, IsLaneStep}
use Rattle.eql_lane.specs.Views.{LaneView, IsTextOf, setting_of}
use Rattle.eql_parts.specs.declared.ops.PartOp.{PartOp}
use Rattle.eql_parts.specs.declared.ops.PartReply.{PartReply}
use Rattle.eql_parts.specs.PartSteps.{IsPartStep, PartState, PartView, Rules}
use Rattle.eql_conductor.specs.Benches.{CallsLane, LeavesLane, LanePlays, CallsPart, LeavesPart, PartPlays}
use Rattle.eql_conductor.specs.GoingOn.{AreOfTexts}
use Rattle.eql_conductor.specs.Lists.{HasLane, HasPart, PoolView, rules_in, set_in}
use Rattle.eql_conductor.specs.Notes.{lane_note, part_note}
use Rattle.eql_conductor.proofs.Resting.{fed_self, same_or, turned_self}
use Rattle.eql_replay.specs.declared.noted.Noted.{Noted}
use Rattle.eql_replay.specs.declared.noted.Noted.TheVariants.{OfLane, OfPart}
use Rattle.eql_replay.specs.Listed.{known_of}
use Rattle.eql_replay.specs.Noting.{did_fail}
use Rattle.eql_replay.specs.Pools.{PlaysLaneAt, PlaysPartAt}
use Rattle.eql_replay.proofs.Places.{else_there, here}
use Rattle.eql_replay.proofs.NoteLemmas.{fails_by, lane_not_noted, lane_noted, none_fails, other_fails, other_lane_noted, other_part_noted, part_not_noted, part_noted}

-- ---- each lane that is there has its state, and so has each part
pub has_lane : {S L : Type 0} (n : ℕ) (lanes : List (LaneView S L)) (s : ℕ) → length lanes ≡ n → s < n → (x : LaneState) × HasLane lanes s x
has_lane n [] s e l = absurd (omega (arith, e, l))
has_lane n (lane ∷ lanes) zero e l = (lane.state, record { lane = lane; there = refl; state_is = refl })
has_lane n (lane ∷ lanes) (suc s) e l =
    let h = has_lane (length lanes) lanes s refl (omega (arith, e, l)) in (h.0, record { lane = h.1.lane; there = h.1.there; state_is = h.1.state_is })

pub has_part : (n : ℕ) (parts : List PartView) (p : ℕ) → length parts ≡ n → p < n → (x : PartState) × HasPart parts p x
has_part n [] p e l = absurd (omega (arith, e, l))
has_part n (part ∷ parts) zero e l = (part.state, record { part = part; there = refl; state_is = refl })
has_part n (part ∷ parts) (suc p) e l =
    let h = has_part (length parts) parts p refl (omega (arith, e, l)) in (h.0, record { part = h.1.part; there = h.1.there; state_is = h.1.state_is })

-- ---- lanes that stay, and parts
pub lane_stays : {S L : Type 0} (set : Setting) (old new : List (LaneView S L)) (s : ℕ) → slice_get new s ≡ slice_get old s → LeavesLane set (HasLane old s) (HasLane new s)
lane_stays set old new s e y has = (y, record { lane = has.lane; there = sym e ∙ has.there; state_is = has.state_is }, fed_self set y)

pub part_stays : (rules : Rules) (old new : List PartView) (p : ℕ) → slice_get new p ≡ slice_get old p → LeavesPart rules (HasPart old p) (HasPart new p)
part_stays rules old new p e y has = (y, record { part = has.part; there = sym e ∙ has.there; state_is = has.state_is }, turned_self rules y)

pub lanes_stay : {S L : Type 0} (sets : ℕ → Setting) (old new : List (LaneView S L)) → new ≡ old → (s : ℕ) → LeavesLane (sets s) (HasLane old s) (HasLane new s)
lanes_stay sets old new e s = lane_stays (sets s) old new s (ap (λ (l : List _). slice_get l s) e)

pub parts_stay : (rules : ℕ → Rules) (old new : List PartView) → new ≡ old → (p : ℕ) → LeavesPart (rules p) (HasPart old p) (HasPart new p)
parts_stay rules old new e p = part_stays (rules p) old new p (ap (λ (l : List PartView). slice_get l p) e)

-- ---- one part played
module _ (p : ℕ) (op : PartOp) (reply : PartReply) (old new : List PartView) (played : PlaysPartAt p op reply old new) where
  pub part_count : length new ≡ length old
  part_count = ap length played.is ∙ length-set old p played.after

  pub part_else : (k : ℕ) → k ≢ p → slice_get new k ≡ slice_get old k
  part_else k apart = ap (λ (l : List PartView). slice_get l k) played.is ∙ else_there old p k played.after apart

  pub part_here : slice_get new p ≡ Some played.after
  part_here = ap (λ (l : List PartView). slice_get l p) played.is ∙ here old p played.after played.before played.was

  pub rules_stay : (k : ℕ) → rules_in (slice_get new k) ≡ rules_in (slice_get old k)
  rules_stay k = elim (same_or k p) [
    | inl e ↦ subst (λ (j : ℕ). rules_in (slice_get new j) ≡ rules_in (slice_get old j)) (sym e)
        (ap rules_in part_here ∙ played.rules ∙ sym (ap rules_in played.was))
    | inr apart ↦ ap rules_in (part_else k apart)
  ]

  pub part_called : (y : PartState) → HasPart new p y → CallsPart (rules_in (slice_get old p)) (HasPart old p) op reply y
  part_called y has =
      let e : has.part ≡ played.after = same_Some has.part played.after (sym has.there ∙ part_here) in
      let rules : rules_in (slice_get old p) ≡ played.before.rules = ap rules_in played.was in
      record {
        first = played.before.state;
        before = played.before.state;
        was = record { part = played.before; there = played.was; state_is = refl };
        turned = turned_self (rules_in (slice_get old p)) played.before.state;
        step = subst (λ (r : Rules). IsPartStep r played.before.state op reply y) (sym rules)
            (subst (λ (z : PartState). IsPartStep played.before.rules played.before.state op reply z) (sym (has.state_is ∙ ap (λ (v : PartView). v.state) e)) played.step);
      }

module _ {S L : Type 0} (left lent_as : S → Option (List ℕ)) (fault_plan : S → Option FaultPlan) (read_of : L → Reads) where
  -- ---- one lane played
  module _ (s : ℕ) (op : LaneOp) (reply : LaneReply) (old new : List (LaneView S L)) (played : PlaysLaneAt left lent_as fault_plan read_of s op reply old new) where
    pub lane_count : length new ≡ length old
    lane_count = ap length played.is ∙ length-set old s played.after

    pub lane_else : (k : ℕ) → k ≢ s → slice_get new k ≡ slice_get old k
    lane_else k apart = ap (λ (l : List (LaneView S L)). slice_get l k) played.is ∙ else_there old s k played.after apart

    pub lane_here : slice_get new s ≡ Some played.after
    lane_here = ap (λ (l : List (LaneView S L)). slice_get l s) played.is ∙ here old s played.after played.before played.was

    pub is_after : (lane : LaneView S L) → slice_get new s ≡ Some lane → lane ≡ played.after
    is_after lane e = same_Some lane played.after (sym e ∙ lane_here)

    -- what no step changes
    pub same_setting : (text : Option (List ℕ)) → setting_of read_of text played.after ≡ setting_of read_of text played.before
    same_setting text = let a = played.same.shard in let b = played.same.slack in let c = played.same.reads in cc

    pub sets_stay : (text : ℕ → Option (List ℕ)) (k : ℕ) → set_in read_of (text k) (slice_get new k) ≡ set_in read_of (text k) (slice_get old k)
    sets_stay text k = elim (same_or k s) [
      | inl e ↦ subst (λ (j : ℕ). set_in read_of (text j) (slice_get new j) ≡ set_in read_of (text j) (slice_get old j)) (sym e)
          (ap (set_in read_of (text s)) lane_here ∙ same_setting (text s) ∙ sym (ap (set_in read_of (text s)) played.was))
      | inr apart ↦ ap (set_in read_of (text k)) (lane_else k apart)
    ]

    -- each lane stays of its text
    pub texts_stay : (text : ℕ → Option (List ℕ)) → AreOfTexts left text old → AreOfTexts left text new
    texts_stay text are = record {
      each = λ k lane there. elim (same_or k s) [
        | inl e ↦
            let there_s : slice_get new s ≡ Some lane = subst (λ (j : ℕ). slice_get new j ≡ Some lane) e there in
            let kept : IsTextOf left (text s) played.after = (played.plays (text s) (are.each s played.before played.was)).keeps in
            subst (λ (j : ℕ). IsTextOf left (text j) lane) (sym e)
            (subst (λ (l : LaneView S L). IsTextOf left (text s) l) (sym (is_after lane there_s)) kept)
        | inr apart ↦ are.each k lane (sym (lane_else k apart) ∙ there)
      ];
    }

    pub lane_called : (text : ℕ → Option (List ℕ)) → AreOfTexts left text old → (y : LaneState) → HasLane new s y
        → CallsLane (set_in read_of (text s) (slice_get old s)) (HasLane old s) op reply y
    lane_called text are y has =
        let e = is_after has.lane has.there in
        let set : set_in read_of (text s) (slice_get old s) ≡ setting_of read_of (text s) played.before = ap (set_in read_of (text s)) played.was in
        let step = (played.plays (text s) (are.each s played.before played.was)).step in
        record {
          first = played.before.state;
          before = played.before.state;
          was = record { lane = played.before; there = played.was; state_is = refl };
          fed = fed_self (set_in read_of (text s) (slice_get old s)) played.before.state;
          step = subst (λ (t : Setting). IsLaneStep t played.before.state op reply y) (sym set)
              (subst (λ (z : LaneState). IsLaneStep (setting_of read_of (text s) played.before) played.before.state op reply z) (sym (has.state_is ∙ ap (λ (v : LaneView S L). v.state) e)) step);
        }

  -- ---- a play of the caller
  module _ (text : ℕ → Option (List ℕ)) (old new : PoolView S L) (notes : List Noted) where
    pub lane_plays : (s : ℕ) (op : LaneOp) (reply : LaneReply) → AreOfTexts left text old.lanes
        → PlaysLaneAt left lent_as fault_plan read_of s op reply old.lanes new.lanes → new.parts ≡ old.parts
        → LanePlays s op reply (known_of read_of text old notes) (known_of read_of text new (notes ++ OfLane s (lane_note op reply) (did_fail reply) ∷ []))
    lane_plays s op reply are played parts = record {
      same = record {
        lanes = lane_count s op reply old.lanes new.lanes played;
        parts = ap length parts;
        set = λ k l. sets_stay s op reply old.lanes new.lanes played text k;
        rules = λ p l. ap (λ (ps : List PartView). rules_in (slice_get ps p)) parts;
        some_lane = λ k l has. has_lane (length old.lanes) new.lanes k (lane_count s op reply old.lanes new.lanes played) l;
        some_part = λ p l has. has_part (length old.parts) new.parts p (ap length parts) l;
      };
      called = lane_called s op reply old.lanes new.lanes played text are;
      some = (played.after.state, record { lane = played.after; there = lane_here s op reply old.lanes new.lanes played; state_is = refl });
      others = λ k l apart. lane_stays (set_in read_of (text k) (slice_get old.lanes k)) old.lanes new.lanes k (lane_else s op reply old.lanes new.lanes played k apart);
      parts = record { each = λ p l. parts_stay (λ q. rules_in (slice_get old.parts q)) old.parts new.parts parts p };
      note = lane_noted s notes (lane_note op reply) (did_fail reply);
      other_notes = λ k l apart. other_lane_noted s k notes (lane_note op reply) (did_fail reply) apart;
      part_notes = record { each = λ p l. part_not_noted p s notes (lane_note op reply) (did_fail reply) };
      failed = fails_by reply s notes (lane_note op reply);
      others_failed = λ k apart. other_fails s k notes (lane_note op reply) (did_fail reply) apart;
      worn = refl;
    }

    pub part_plays : (p : ℕ) (op : PartOp) (reply : PartReply) → PlaysPartAt p op reply old.parts new.parts → new.lanes ≡ old.lanes
        → PartPlays p op reply (known_of read_of text old notes) (known_of read_of text new (notes ++ OfPart p (part_note op reply) ∷ []))
    part_plays p op reply played lanes = record {
      same = record {
        lanes = ap length lanes;
        parts = part_count p op reply old.parts new.parts played;
        set = λ s l. ap (λ (ls : List (LaneView S L)). set_in read_of (text s) (slice_get ls s)) lanes;
        rules = λ k l. rules_stay p op reply old.parts new.parts played k;
        some_lane = λ s l has. has_lane (length old.lanes) new.lanes s (ap length lanes) l;
        some_part = λ k l has. has_part (length old.parts) new.parts k (part_count p op reply old.parts new.parts played) l;
      };
      called = part_called p op reply old.parts new.parts played;
      some = (played.after.state, record { part = played.after; there = part_here p op reply old.parts new.parts played; state_is = refl });
      others = λ k l apart. part_stays (rules_in (slice_get old.parts k)) old.parts new.parts k (part_else p op reply old.parts new.parts played k apart);
      lanes = record { each = λ s l. lanes_stay (λ k. set_in read_of (text k) (slice_get old.lanes k)) old.lanes new.lanes lanes s };
      note = part_noted p notes (part_note op reply);
      other_notes = λ k l apart. other_part_noted p k notes (part_note op reply) apart;
      lane_notes = record { each = λ s l. lane_not_noted s p notes (part_note op reply) };
      failed = λ s. none_fails s p notes (part_note op reply);
      worn = refl;
    }
