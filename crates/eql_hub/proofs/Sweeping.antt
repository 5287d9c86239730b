-- How a hand goes over its places.
use Rattle.std.proofs.Common.{◌≡◌, ◌≢◌, ◌⊎◌, inl, inr, ◌<◌, ◌≤◌, ◌+◌, ℕ, Bool, false, zero, suc, List, Option, None, Some, length, refl, sym, ap, ◌∙◌, subst, arith}
use Rattle.std.specs.Prelude.{slice_get, All, MatchOption}
use Rattle.std.proofs.lemmas.Option.{same_Some, slice_get_within}
use Rattle.std.proofs.lemmas.List.{length-set}
use Rattle.eql_values.specs.Accepted.{Reads}
use Rattle.eql_outside.specs.Plans.{FaultPlan}
use Rattle.eql_turn_lock.specs.Passes.{KnowsHistory}
use Rattle.eql_lock_row.specs.Rows.{AllKnow, ChangesAt}
use Rattle.eql_lock_row.proofs.Places.{all_set, else_there, here}
use Rattle.eql_hub.specs.declared.step.Did.{Did}
use Rattle.eql_hub.specs.declared.step.Did.TheVariants as did
use Rattle.eql_hub.specs.Hands.{HandView, Knows, LaneKnown, PartKnown}
use Rattle.eql_hub.specs.Steps.{StepEndsAtLane, LaneEnds, LaneIsIdle, LaneIsPassed, LaneIsQuiet, StepEndsAtPart, PartEnds, PartIsIdle, PartIsQuiet, Steps}
use Rattle.eql_hub.specs.Sweeps.{EndsAt, EndsAtLane, EndsAtPart, PassesPlaces, StopsAt, SweepEnds, TriesPlace, did_in}
use Rattle.eql_hub.specs.Turns.{IsLaneTurn, IsPartTurn, is_open_lane, is_open_part}

-- a number below another, or not
below_or : (a b : ℕ) → (a < b) ⊎ (b ≤ a)
below_or a zero = inr (omega arith)
below_or zero (suc b) = inl (omega arith)
below_or (suc a) (suc b) = elim (below_or a b) [
  | inl h ↦ inl (omega (arith, h))
  | inr h ↦ inr (omega (arith, h))
]

pub same_or : (a b : ℕ) → (a ≡ b) ⊎ (a ≢ b)
same_or zero zero = inl refl
same_or zero (suc b) = inr (λ e. omega (arith, e))
same_or (suc a) zero = inr (λ e. omega (arith, e))
same_or (suc a) (suc b) = elim (same_or a b) [
  | inl e ↦ inl (ap suc e)
  | inr apart ↦ inr (λ e. apart (omega (arith, e)))
]

module _ {X : Type 0} {Changes : X → X → Type 0} (place : ℕ) (old new : List X) (c : ChangesAt place Changes old new) where
  pub changed_count : length new ≡ length old
  changed_count = ap length c.is ∙ length-set old place c.after

  pub changed_here : slice_get new place ≡ Some c.after
  changed_here = ap (λ (l : List X). slice_get l place) c.is ∙ here old place c.after c.before c.was

  pub changed_else : (k : ℕ) → k ≢ place → slice_get new k ≡ slice_get old k
  changed_else k apart = ap (λ (l : List X). slice_get l k) c.is ∙ else_there old place k c.after apart

  pub changed_all : (P : X → Type 0) → ((v w : X) → Changes v w → P w) → All P old → All P new
  changed_all P tells all = subst (All P) (sym c.is) (all_set P old place c.after all (tells c.before c.after c.changes))

module _ {S L : Type 0} (left lent_as : S → Option (List ℕ)) (fault_plan : S → Option FaultPlan) (read_of : L → Reads) (batch : ℕ) (alone : List Bool) (n : ℕ) where
  pub passed_none : (from : ℕ) (old : HandView S L) → PassesPlaces left lent_as fault_plan read_of batch alone n from from old old
  passed_none from old = record {
    lane_locks = refl;
    part_locks = refl;
    lane_count = refl;
    part_count = refl;
    lanes_in = λ k v w inside a b at is. absurd (omega (arith, a, b));
    lanes_out = λ k out. refl;
    parts_in = λ k v w a b at is. absurd (omega (arith, a, b));
    parts_out = λ k out. refl;
    knows = λ know. know;
  }

  -- one place after others
  pub passed_on : (from mid to : ℕ) (a b c : HandView S L) → from ≤ mid → mid ≤ to → PassesPlaces left lent_as fault_plan read_of batch alone n from mid a b
      → PassesPlaces left lent_as fault_plan read_of batch alone n mid to b c → PassesPlaces left lent_as fault_plan read_of batch alone n from to a c
  passed_on from mid to a b c before after h k = record {
    lane_locks = k.lane_locks ∙ h.lane_locks;
    part_locks = k.part_locks ∙ h.part_locks;
    lane_count = k.lane_count ∙ h.lane_count;
    part_count = k.part_count ∙ h.part_count;
    lanes_in = λ j v w inside above below at is. elim (below_or j mid) [
      | inl low ↦ h.lanes_in j v w inside above low at (sym (k.lanes_out j (inl low)) ∙ is)
      | inr high ↦ k.lanes_in j v w inside high below (h.lanes_out j (inr high) ∙ at) is
    ];
    lanes_out = λ j out. elim out [
      | inl low ↦ k.lanes_out j (inl (omega (arith, low, before))) ∙ h.lanes_out j (inl low)
      | inr high ↦ k.lanes_out j (inr high) ∙ h.lanes_out j (inr (omega (arith, high, after)))
    ];
    parts_in = λ j v w above below at is. elim (below_or (n + j) mid) [
      | inl low ↦ h.parts_in j v w above low at (sym (k.parts_out j (inl low)) ∙ is)
      | inr high ↦ k.parts_in j v w high below (h.parts_out j (inr high) ∙ at) is
    ];
    parts_out = λ j out. elim out [
      | inl low ↦ k.parts_out j (inl (omega (arith, low, before))) ∙ h.parts_out j (inl low)
      | inr high ↦ k.parts_out j (inr high) ∙ h.parts_out j (inr (omega (arith, high, after)))
    ];
    knows = λ know. k.knows (h.knows know);
  }

  -- ---- one try
  pub lane_tried : (place : ℕ) (tried : Option Did) (old new : HandView S L) → place < n → slice_get alone place ≡ Some false → new.lanes.locks ≡ old.lanes.locks → new.parts ≡ old.parts
      → ChangesAt place (λ (v w : LaneKnown S L). MatchOption tried (LaneIsIdle left lent_as fault_plan read_of batch v w) (λ answer. LaneEnds left lent_as fault_plan read_of batch answer place v w)
      × KnowsHistory (IsLaneTurn left lent_as fault_plan read_of) is_open_lane w) old.lanes.views new.lanes.views
      → TriesPlace left lent_as fault_plan read_of batch alone n place tried old new
  lane_tried place (Some answer) old new inside shared locks parts c = record {
    ends = inl (
      inside,
      shared,
      record {
        lane_locks = locks;
        changes = record { before = c.before; after = c.after; was = c.was; is = c.is; changes = c.changes };
        parts = parts;
      },
    );
  }
  lane_tried place None old new inside shared locks parts c = record {
    lane_locks = locks;
    part_locks = ap (λ (r : _). r.locks) parts;
    lane_count = changed_count place old.lanes.views new.lanes.views c;
    part_count = ap (λ (r : _). length r.views) parts;
    lanes_in = λ k v w within above below at is.
        let e : k ≡ place = omega (arith, above, below) in
        let first : c.before ≡ v = same_Some c.before v (sym c.was ∙ (ap (slice_get old.lanes.views) (sym e) ∙ at)) in
        let last : c.after ≡ w = same_Some c.after w (sym (changed_here place old.lanes.views new.lanes.views c) ∙ (ap (slice_get new.lanes.views) (sym e) ∙ is)) in
        inl (subst (λ (x : LaneKnown S L). LaneIsIdle left lent_as fault_plan read_of batch x w) first
        (subst (λ (x : LaneKnown S L). LaneIsIdle left lent_as fault_plan read_of batch c.before x) last c.changes.0));
    lanes_out = λ k out. changed_else place old.lanes.views new.lanes.views c k (apart k out);
    parts_in = λ k v w above below at is. absurd (omega (arith, above, below, inside));
    parts_out = λ k out. ap (λ (r : _). slice_get r.views k) parts;
    knows = λ know. record {
      lanes = changed_all place old.lanes.views new.lanes.views c (KnowsHistory (IsLaneTurn left lent_as fault_plan read_of) is_open_lane) (λ v w h. h.1) know.lanes;
      parts = subst (λ (r : _). AllKnow IsPartTurn is_open_part r.views) (sym parts) know.parts;
    };
  }
    where
      apart : (k : ℕ) → (k < place) ⊎ (place + 1 ≤ k) → k ≢ place
      apart k (inl low) e = omega (arith, low, e)
      apart k (inr high) e = omega (arith, high, e)

  pub part_tried : (place part : ℕ) (tried : Option Did) (old new : HandView S L) → place ≡ n + part → new.parts.locks ≡ old.parts.locks → new.lanes ≡ old.lanes
      → ChangesAt part (λ (v w : PartKnown). MatchOption tried (PartIsIdle batch v w) (λ answer. PartEnds batch answer part v w) × KnowsHistory IsPartTurn is_open_part w) old.parts.views new.parts.views
      → TriesPlace left lent_as fault_plan read_of batch alone n place tried old new
  part_tried place part (Some answer) old new inside locks lanes c = record {
    ends = inr (
      part,
      inside,
      record {
        part_locks = locks;
        changes = record { before = c.before; after = c.after; was = c.was; is = c.is; changes = c.changes };
        lanes = lanes;
      },
    );
  }
  part_tried place part None old new inside locks lanes c = record {
    lane_locks = ap (λ (r : _). r.locks) lanes;
    part_locks = locks;
    lane_count = ap (λ (r : _). length r.views) lanes;
    part_count = changed_count part old.parts.views new.parts.views c;
    lanes_in = λ k v w within above below at is. absurd (omega (arith, within, above, inside));
    lanes_out = λ k out. ap (λ (r : _). slice_get r.views k) lanes;
    parts_in = λ k v w above below at is.
        let e : k ≡ part = omega (arith, above, below, inside) in
        let first : c.before ≡ v = same_Some c.before v (sym c.was ∙ (ap (slice_get old.parts.views) (sym e) ∙ at)) in
        let last : c.after ≡ w = same_Some c.after w (sym (changed_here part old.parts.views new.parts.views c) ∙ (ap (slice_get new.parts.views) (sym e) ∙ is)) in
        subst (λ (x : PartKnown). PartIsIdle batch x w) first (subst (λ (x : PartKnown). PartIsIdle batch c.before x) last c.changes.0);
    parts_out = λ k out. changed_else part old.parts.views new.parts.views c k (apart k out);
    knows = λ know. record {
      lanes = subst (λ (r : _). AllKnow (IsLaneTurn left lent_as fault_plan read_of) is_open_lane r.views) (sym lanes) know.lanes;
      parts = changed_all part old.parts.views new.parts.views c (KnowsHistory IsPartTurn is_open_part) (λ v w h. h.1) know.parts;
    };
  }
    where
      apart : (k : ℕ) → (n + k < place) ⊎ (place + 1 ≤ n + k) → k ≢ part
      apart k (inl low) e = omega (arith, low, e, inside)
      apart k (inr high) e = omega (arith, high, e, inside)

  -- ---- the whole step
  -- nothing was to be done where it was before, and in this place nothing was tried
  record QuietBut (place : ℕ) (old mid : HandView S L) : Type 0 where
    pub lane_count : length mid.lanes.views ≡ length old.lanes.views
    pub part_count : length mid.parts.views ≡ length old.parts.views
    pub lanes : (k : ℕ) (v w : LaneKnown S L) → k < n → slice_get old.lanes.views k ≡ Some v → slice_get mid.lanes.views k ≡ Some w
        → LaneIsQuiet left lent_as fault_plan read_of batch v w
    pub lane_same : (k : ℕ) → k ≡ place → slice_get mid.lanes.views k ≡ slice_get old.lanes.views k
    pub parts : (k : ℕ) (v w : PartKnown) → slice_get old.parts.views k ≡ Some v → slice_get mid.parts.views k ≡ Some w → PartIsQuiet batch v w
    pub part_same : (k : ℕ) → n + k ≡ place → slice_get mid.parts.views k ≡ slice_get old.parts.views k

  same_view : {X : Type 0} (old new : List X) (k : ℕ) (v w : X) → slice_get new k ≡ slice_get old k → slice_get old k ≡ Some v → slice_get new k ≡ Some w → w ≡ v
  same_view old new k v w e at is = same_Some w v (sym is ∙ (e ∙ at))

  -- it wasn't tried, or nothing was to be done
  pub passed_quiet : (place : ℕ) (v w : LaneKnown S L) → LaneIsPassed left lent_as fault_plan read_of batch alone place v w → LaneIsQuiet left lent_as fault_plan read_of batch v w
  passed_quiet place v w (inl idle) = inr idle
  passed_quiet place v w (inr (is_alone, same)) = inl same

  lane_passed : (from to : ℕ) (old mid : HandView S L) → PassesPlaces left lent_as fault_plan read_of batch alone n from to old mid
      → (k : ℕ) (v w : LaneKnown S L) → k < n → slice_get old.lanes.views k ≡ Some v → slice_get mid.lanes.views k ≡ Some w → LaneIsQuiet left lent_as fault_plan read_of batch v w
  lane_passed from to old mid h k v w inside at is = elim (below_or k from) [
    | inl low ↦ inl (same_view old.lanes.views mid.lanes.views k v w (h.lanes_out k (inl low)) at is)
    | inr above ↦ elim (below_or k to) [
      | inl below ↦ passed_quiet k v w (h.lanes_in k v w inside above below at is)
      | inr high ↦ inl (same_view old.lanes.views mid.lanes.views k v w (h.lanes_out k (inr high)) at is)
    ]
  ]

  part_passed : (from to : ℕ) (old mid : HandView S L) → PassesPlaces left lent_as fault_plan read_of batch alone n from to old mid
      → (k : ℕ) (v w : PartKnown) → slice_get old.parts.views k ≡ Some v → slice_get mid.parts.views k ≡ Some w → PartIsQuiet batch v w
  part_passed from to old mid h k v w at is = elim (below_or (n + k) from) [
    | inl low ↦ inl (same_view old.parts.views mid.parts.views k v w (h.parts_out k (inl low)) at is)
    | inr above ↦ elim (below_or (n + k) to) [
      | inl below ↦ inr (h.parts_in k v w above below at is)
      | inr high ↦ inl (same_view old.parts.views mid.parts.views k v w (h.parts_out k (inr high)) at is)
    ]
  ]

  quiet_once : (from place : ℕ) (old mid : HandView S L) → PassesPlaces left lent_as fault_plan read_of batch alone n from place old mid → QuietBut place old mid
  quiet_once from place old mid h = record {
    lane_count = h.lane_count;
    part_count = h.part_count;
    lanes = lane_passed from place old mid h;
    lane_same = λ k e. h.lanes_out k (inr (omega (arith, e)));
    parts = part_passed from place old mid h;
    part_same = λ k e. h.parts_out k (inr (omega (arith, e)));
  }

  -- from a place to the end, and then from the beginning on
  quiet_twice : (start count place : ℕ) (old u mid : HandView S L) → place < start → PassesPlaces left lent_as fault_plan read_of batch alone n start count old u
      → PassesPlaces left lent_as fault_plan read_of batch alone n 0 place u mid → QuietBut place old mid
  quiet_twice start count place old u mid before h k = record {
    lane_count = k.lane_count ∙ h.lane_count;
    part_count = k.part_count ∙ h.part_count;
    lanes = λ j v w inside at is. elim (below_or j place) [
      | inl low ↦ lane_passed 0 place u mid k j v w inside (h.lanes_out j (inl (omega (arith, low, before))) ∙ at) is
      | inr high ↦ lane_passed start count old u h j v w inside at (sym (k.lanes_out j (inr high)) ∙ is)
    ];
    lane_same = λ j e. k.lanes_out j (inr (omega (arith, e))) ∙ h.lanes_out j (inl (omega (arith, e, before)));
    parts = λ j v w at is. elim (below_or (n + j) place) [
      | inl low ↦ part_passed 0 place u mid k j v w (h.parts_out j (inl (omega (arith, low, before))) ∙ at) is
      | inr high ↦ part_passed start count old u h j v w at (sym (k.parts_out j (inr high)) ∙ is)
    ];
    part_same = λ j e. k.parts_out j (inr (omega (arith, e))) ∙ h.parts_out j (inl (omega (arith, e, before)));
  }

  lane_steps : (answer : Did) (old new : HandView S L) → StepEndsAtLane left lent_as fault_plan read_of batch alone answer old new → Steps left lent_as fault_plan read_of batch alone answer old new
  lane_steps (did.Fed lane) old new ended = ended
  lane_steps (did.Turned part) old new ended = absurd ended.ends
  lane_steps did.Nothing old new ended = absurd ended.ends
  lane_steps (did.Fault f) old new ended = inl ended

  part_steps : (answer : Did) (old new : HandView S L) → StepEndsAtPart left lent_as fault_plan read_of batch answer old new → Steps left lent_as fault_plan read_of batch alone answer old new
  part_steps (did.Fed lane) old new ended = absurd ended.ends
  part_steps (did.Turned part) old new ended = ended
  part_steps did.Nothing old new ended = absurd ended.ends
  part_steps (did.Fault f) old new ended = inr ended

  lane_ended : (place : ℕ) (answer : Did) (old mid new : HandView S L) → length old.lanes.views ≡ n → place < n → slice_get alone place ≡ Some false → QuietBut place old mid
      → EndsAtLane left lent_as fault_plan read_of batch place answer mid new → StepEndsAtLane left lent_as fault_plan read_of batch alone answer old new
  lane_ended place answer old mid new long inside shared quiet e = record {
    lane = place;
    shared = shared;
    before = e.changes.before;
    after = e.changes.after;
    was = sym (quiet.lane_same place refl) ∙ e.changes.was;
    is = changed_here place mid.lanes.views new.lanes.views e.changes;
    ends = e.changes.changes.0;
    count = changed_count place mid.lanes.views new.lanes.views e.changes ∙ quiet.lane_count;
    others = λ k v w apart at is.
        let within = slice_get_within old.lanes.views k v at in
        quiet.lanes k v w (omega (arith, within, long)) at (sym (changed_else place mid.lanes.views new.lanes.views e.changes k apart) ∙ is);
    parts = record {
      count = ap (λ (r : _). length r.views) e.parts ∙ quiet.part_count;
      each = λ k v w at is. quiet.parts k v w at (sym (ap (λ (r : _). slice_get r.views k) e.parts) ∙ is);
    };
  }

  part_ended : (place part : ℕ) (answer : Did) (old mid new : HandView S L) → length old.lanes.views ≡ n → place ≡ n + part → QuietBut place old mid
      → EndsAtPart left lent_as fault_plan read_of batch part answer mid new → StepEndsAtPart left lent_as fault_plan read_of batch answer old new
  part_ended place part answer old mid new long inside quiet e = record {
    part = part;
    before = e.changes.before;
    after = e.changes.after;
    was = sym (quiet.part_same part (sym inside)) ∙ e.changes.was;
    is = changed_here part mid.parts.views new.parts.views e.changes;
    ends = e.changes.changes.0;
    count = changed_count part mid.parts.views new.parts.views e.changes ∙ quiet.part_count;
    others = λ k v w apart at is. quiet.parts k v w at (sym (changed_else part mid.parts.views new.parts.views e.changes k apart) ∙ is);
    lanes = record {
      count = ap (λ (r : _). length r.views) e.lanes ∙ quiet.lane_count;
      each = λ k v w at is.
          let within = slice_get_within old.lanes.views k v at in
          quiet.lanes k v w (omega (arith, within, long)) at (sym (ap (λ (r : _). slice_get r.views k) e.lanes) ∙ is);
    };
  }

  ended : (place : ℕ) (answer : Did) (old mid new : HandView S L) → length old.lanes.views ≡ n → QuietBut place old mid
      → EndsAt left lent_as fault_plan read_of batch alone n place answer mid new → Steps left lent_as fault_plan read_of batch alone answer old new
  ended place answer old mid new long quiet at = elim at.ends [
    | inl e ↦ lane_steps answer old new (lane_ended place answer old mid new long e.0 e.1 quiet e.2)
    | inr e ↦ part_steps answer old new (part_ended place e.0 answer old mid new long e.1 quiet e.2)
  ]

  ends_knowing : (place : ℕ) (answer : Did) (mid new : HandView S L) → EndsAt left lent_as fault_plan read_of batch alone n place answer mid new
      → Knows left lent_as fault_plan read_of mid → Knows left lent_as fault_plan read_of new
  ends_knowing place answer mid new at know = elim at.ends [
    | inl e ↦ record {
      lanes = changed_all place mid.lanes.views new.lanes.views e.2.changes (KnowsHistory (IsLaneTurn left lent_as fault_plan read_of) is_open_lane) (λ v w h. h.1) know.lanes;
      parts = subst (λ (r : _). AllKnow IsPartTurn is_open_part r.views) (sym e.2.parts) know.parts;
    }
    | inr e ↦ record {
      lanes = subst (λ (r : _). AllKnow (IsLaneTurn left lent_as fault_plan read_of) is_open_lane r.views) (sym e.2.lanes) know.lanes;
      parts = changed_all e.0 mid.parts.views new.parts.views e.2.changes (KnowsHistory IsPartTurn is_open_part) (λ v w h. h.1) know.parts;
    }
  ]

  pub swept_knowing : (from to : ℕ) (swept : Option (ℕ × Did)) (old new : HandView S L) → SweepEnds left lent_as fault_plan read_of batch alone n from to swept old new
      → Knows left lent_as fault_plan read_of old → Knows left lent_as fault_plan read_of new
  swept_knowing from to None old new h know = h.knows know
  swept_knowing from to (Some (place, answer)) old new h know = ends_knowing place answer h.mid new h.ends (h.passed.knows know)

  -- it ended in the first sweep
  pub stopped_first : (start count place : ℕ) (answer : Did) (old new : HandView S L) → length old.lanes.views ≡ n
      → StopsAt left lent_as fault_plan read_of batch alone n start count place answer old new → Steps left lent_as fault_plan read_of batch alone answer old new
  stopped_first start count place answer old new long h = ended place answer old h.mid new long (quiet_once start place old h.mid h.passed) h.ends

  pub swept_first : (start count : ℕ) (found : ℕ × Did) (old new : HandView S L) → length old.lanes.views ≡ n
      → SweepEnds left lent_as fault_plan read_of batch alone n start count (Some found) old new → Steps left lent_as fault_plan read_of batch alone (did_in (Some found)) old new
  swept_first start count (place, answer) old new long h = stopped_first start count place answer old new long h

  pub ended_within : (from to : ℕ) (found : ℕ × Did) (old new : HandView S L) → SweepEnds left lent_as fault_plan read_of batch alone n from to (Some found) old new → found.0 < to
  ended_within from to (place, answer) old new h = h.to_place

  -- it ended in the second sweep, or in none
  pub swept_second : (start count m : ℕ) (swept : Option (ℕ × Did)) (old u new : HandView S L) → length old.lanes.views ≡ n → length old.parts.views ≡ m → count ≡ n + m
      → PassesPlaces left lent_as fault_plan read_of batch alone n start count old u
      → SweepEnds left lent_as fault_plan read_of batch alone n 0 start swept u new → Steps left lent_as fault_plan read_of batch alone (did_in swept) old new
  swept_second start count m (Some (place, answer)) old u new long parts all h k =
      ended place answer old k.mid new long (quiet_twice start count place old u k.mid k.to_place h k.passed) k.ends
  swept_second start count m None old u new long parts all h k = record {
    lane_count = k.lane_count ∙ h.lane_count;
    lanes = λ j v w at is.
        let within = slice_get_within old.lanes.views j v at in
        let inside : j < n = omega (arith, within, long) in
        elim (below_or j start) [
          | inl low ↦ k.lanes_in j v w inside (omega arith) low (h.lanes_out j (inl low) ∙ at) is
          | inr high ↦ h.lanes_in j v w inside high (omega (arith, inside, all)) at (sym (k.lanes_out j (inr high)) ∙ is)
        ];
    parts = record {
      count = k.part_count ∙ h.part_count;
      each = λ j v w at is.
          let within = slice_get_within old.parts.views j v at in
          elim (below_or (n + j) start) [
            | inl low ↦ k.parts_in j v w (omega arith) low (h.parts_out j (inl low) ∙ at) is
            | inr high ↦ h.parts_in j v w high (omega (arith, within, parts, all)) at (sym (k.parts_out j (inr high)) ∙ is)
          ];
    };
  }
