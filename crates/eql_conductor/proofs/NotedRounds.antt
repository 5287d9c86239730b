-- The notes of a round, from those of its calls.
use Rattle.std.proofs.Common.{◌≡◌, inl, inr, ◌+◌, ◌++◌, ◌<◌, ℕ, suc, Bool, true, false, cond, List, [], ◌∷◌, Option, None, Some, length, replicate, take, refl, sym, ap, ◌∙◌, arith, subst}
use Rattle.std.specs.Prelude.{Result, Ok, Err, OnOk}
use Rattle.std.specs.Ordering.{is_le}
use Rattle.std.proofs.lemmas.List.{append_assoc, take_all, take_at, take-append-le, length-replicate}
use Rattle.eql_values.specs.declared.item.Item.{Item}
use Rattle.eql_values.specs.declared.order.Mark.{Mark}
use Rattle.eql_values.specs.declared.order.Mark.TheVariants.{End}
use Rattle.eql_values.specs.Marks.{mark_cmp}
use Rattle.eql_laws.specs.Lanes.{least_of}
use Rattle.eql_conductor.specs.declared.note.Note.{Note}
use Rattle.eql_conductor.specs.declared.note.Note.TheVariants as note
use Rattle.eql_conductor.specs.Benches.{Known, StaysSame, LanesRest, PartNotesStay, Rests}
use Rattle.eql_conductor.specs.Handed.{AllHandOut}
use Rattle.eql_conductor.specs.Reading.{NotesReading, NotesReadingFront}
use Rattle.eql_conductor.specs.RoundNotes.{low_at, counted_mark, took, lane_round, LanesGrow, GrewFront, NotesLanes, NotesLanesFront, NotesLooks, NotesLooksFront, GrewBy, NotesParts, PlaysParts, NotesRound, NotesRoundFront, delivered_to}
use Rattle.eql_conductor.proofs.Resting.{same_on, is_lane, is_part}
use Rattle.eql_conductor.proofs.LaneNotes.{below_or, front_all, parts_stay_on}
use Rattle.eql_conductor.proofs.PartNotes.{grew_none}
use Rattle.eql_conductor.proofs.Handing.{handed_none, handed_on, handed_to, rest_hands}

pub on_ok : {X E Q : Type 0} (r : Result X E) → Q → OnOk r Q
on_ok (Ok x) q = q
on_ok (Err e) q = tt

-- ---- fronts
-- a front of a list is a front of a longer one
pub front_longer : (old more rest new : List Note) → GrewFront old more new → GrewFront old (more ++ rest) new
front_longer old more rest new h = elim (below_or (length more) h.0) [
  | inl below ↦ (length more, h.1 ∙ ap (λ (l : List Note). old ++ l) (take_all h.0 more (omega (arith, below)) ∙ sym (take_at more rest (length more) refl)))
  | inr to ↦ (h.0, h.1 ∙ ap (λ (l : List Note). old ++ l) (sym (take-append-le h.0 more rest to)))
]

-- a front behind what is whole
take_behind : (first more : List Note) (n : ℕ) → take (length first + n) (first ++ more) ≡ first ++ take n more
take_behind [] more n = ap (λ (m : ℕ). take m more) (omega arith)
take_behind (x ∷ first) more n =
    let e : suc (length first) + n ≡ suc (length first + n) = omega arith in
    ap (λ (m : ℕ). take m (x ∷ first ++ more)) e ∙ ap (λ (l : List Note). x ∷ l) (take_behind first more n)

pub front_behind : (old first more mid new : List Note) → mid ≡ old ++ first → GrewFront mid more new → GrewFront old (first ++ more) new
front_behind old first more mid new e h = (
  length first + h.0,
  h.1 ∙ ap (λ (l : List Note). l ++ take h.0 more) e ∙ append_assoc old first (take h.0 more) ∙ ap (λ (l : List Note). old ++ l) (sym (take_behind first more h.0)),
)

-- ---- whether it counts
pub counted_is : (last mark : Mark) (lows : List Mark) (le : Bool) → mark ≡ least_of lows → is_le (mark_cmp mark last) ≡ le → counted_mark last lows ≡ cond le None (Some mark)
counted_is last mark lows le e h =
    ap (λ (b : Bool). cond b None (Some (least_of lows))) (subst (λ (m : Mark). is_le (mark_cmp m last) ≡ le) e h)
    ∙ ap (λ (m : Mark). cond le None (Some m)) (sym e)

-- ---- parts
pub none_played : (others : ℕ) (a b : Known) → AllHandOut 0 a b → PartNotesStay a b → PlaysParts others a b
none_played others a b handed h = record {
  items = [];
  handed = handed;
  parts = record { each = λ p l. grew_none (delivered_to [] p) others (a.part_notes p) (b.part_notes p) (h.each p l) };
}

pub played_after : (others : ℕ) (a b c : Known) → StaysSame a b → AllHandOut 0 a b → PartNotesStay a b → PlaysParts others b c → PlaysParts others a c
played_after others a b c same handed stay h = record {
  items = h.items;
  handed = handed_to (length h.items) (0 + length h.items) a c (omega arith) (handed_on 0 (length h.items) a b c same handed h.handed);
  parts = record {
    each = λ p l.
        subst (λ (x : List Note). GrewBy (delivered_to h.items p) others x (c.part_notes p)) (stay.each p l) (h.parts.each p (is_part a b p same l));
  };
}

-- ---- the reading half of a round
pub rests_handed : (a b : Known) → Rests a b → AllHandOut 0 a b
rests_handed a b h = handed_none a b (rest_hands a b h.lanes)

pub feeding_broken : (last : Mark) (batch : ℕ) (a b : Known) → NotesLanesFront (λ s. note.Fed batch ∷ []) a b → NotesReadingFront last batch a b
feeding_broken last batch a b h = let lows : List Mark = replicate a.lanes End in record {
  lows = lows;
  count = length-replicate a.lanes End;
  lanes = record {
    each = λ s l.
        front_longer (a.lane_notes s) (note.Fed batch ∷ []) (note.Looked (low_at lows s) ∷ took (counted_mark last lows)) (b.lane_notes s) (h.lanes.each s l);
  };
  parts = h.parts;
}

module _ (last : Mark) (batch : ℕ) (a b c : Known) (rests : Rests a b) (then : Rests b c) (fed : NotesLanes (λ s. note.Fed batch ∷ []) a b) where
  pub looking_broken : NotesLooksFront b c → NotesReadingFront last batch a c
  looking_broken h = record {
    lows = h.lows;
    count = h.count ∙ rests.same.lanes;
    lanes = record {
      each = λ s l.
          front_behind (a.lane_notes s) (note.Fed batch ∷ []) (note.Looked (low_at h.lows s) ∷ took (counted_mark last h.lows)) (b.lane_notes s) (c.lane_notes s) (fed.lanes.each s l)
          (front_longer (b.lane_notes s) (note.Looked (low_at h.lows s) ∷ []) (took (counted_mark last h.lows)) (c.lane_notes s) (h.noted.lanes.each s (is_lane a b s rests.same l)));
    };
    parts = parts_stay_on a b c rests.same fed.parts h.noted.parts;
  }

  module _ (mark : Mark) (looked : NotesLooks b c mark) where
    looked_at : (s : ℕ) → s < a.lanes → c.lane_notes s ≡ a.lane_notes s ++ note.Fed batch ∷ note.Looked (low_at looked.lows s) ∷ []
    looked_at s l =
        looked.noted.lanes.each s (is_lane a b s rests.same l) ∙ ap (λ (x : List Note). x ++ note.Looked (low_at looked.lows s) ∷ []) (fed.lanes.each s l)
        ∙ append_assoc (a.lane_notes s) (note.Fed batch ∷ []) (note.Looked (low_at looked.lows s) ∷ [])

    parts_stood : PartNotesStay a c
    parts_stood = parts_stay_on a b c rests.same fed.parts looked.noted.parts

    -- it doesn't count
    pub read_passes : is_le (mark_cmp mark last) ≡ true → NotesReading last batch a c None
    read_passes le = let counts = counted_is last mark looked.lows true looked.least le in record {
      lows = looked.lows;
      count = looked.count ∙ rests.same.lanes;
      counts = sym counts;
      lanes = record { each = λ s l. looked_at s l ∙ ap (λ (m : Option Mark). a.lane_notes s ++ lane_round batch (low_at looked.lows s) m) (sym counts) };
      parts = parts_stood;
    }

    module _ (d : Known) (le : is_le (mark_cmp mark last) ≡ false) where
      counts_by : counted_mark last looked.lows ≡ Some mark
      counts_by = counted_is last mark looked.lows false looked.least le

      same_looked : StaysSame a c
      same_looked = same_on a b c rests.same then.same

      -- it counts
      pub read_noted : NotesLanes (λ s. note.Took mark ∷ []) c d → NotesReading last batch a d (Some mark)
      read_noted h = record {
        lows = looked.lows;
        count = looked.count ∙ rests.same.lanes;
        counts = sym counts_by;
        lanes = record {
          each = λ s l.
              h.lanes.each s (is_lane a c s same_looked l) ∙ ap (λ (x : List Note). x ++ note.Took mark ∷ []) (looked_at s l)
              ∙ append_assoc (a.lane_notes s) (note.Fed batch ∷ note.Looked (low_at looked.lows s) ∷ []) (note.Took mark ∷ [])
              ∙ ap (λ (m : Option Mark). a.lane_notes s ++ lane_round batch (low_at looked.lows s) m) (sym counts_by);
        };
        parts = parts_stay_on a c d same_looked parts_stood h.parts;
      }

      pub read_broken : NotesLanesFront (λ s. note.Took mark ∷ []) c d → NotesReadingFront last batch a d
      read_broken h = record {
        lows = looked.lows;
        count = looked.count ∙ rests.same.lanes;
        lanes = record {
          each = λ s l.
              subst (λ (m : Option Mark). GrewFront (a.lane_notes s) (lane_round batch (low_at looked.lows s) m) (d.lane_notes s)) (sym counts_by)
              (front_behind (a.lane_notes s) (note.Fed batch ∷ note.Looked (low_at looked.lows s) ∷ []) (note.Took mark ∷ []) (c.lane_notes s) (d.lane_notes s) (looked_at s l)
              (h.lanes.each s (is_lane a c s same_looked l)));
        };
        parts = parts_stay_on a c d same_looked parts_stood h.parts;
      }

-- ---- a round
-- it doesn't count
pub round_passes : (last : Mark) (batch : ℕ) (a b : Known) → Rests a b → NotesReading last batch a b None → NotesRound last batch a b None
round_passes last batch a b rests h = record {
  lows = h.lows;
  count = h.count;
  counts = h.counts;
  lanes = h.lanes;
  parts = none_played 3 a b (rests_handed a b rests) h.parts;
}

-- it broke off before any part played
pub reading_broken : (last : Mark) (batch : ℕ) (a b : Known) → AllHandOut 0 a b → NotesReadingFront last batch a b → NotesRoundFront last batch a b
reading_broken last batch a b handed h = record { lows = h.lows; count = h.count; lanes = h.lanes; parts = none_played 3 a b handed h.parts }

-- what was taken was played
module _ (last : Mark) (batch : ℕ) (items : List Item) (a b c : Known) (counted : Option Mark) (same : StaysSame a b) (handed : AllHandOut (length items) a b)
    (read : NotesReading last batch a b counted) (rest : LanesRest b c) (played : NotesParts (delivered_to items) 3 b c) where
  lanes_after : LanesGrow (λ s. lane_round batch (low_at read.lows s) (counted_mark last read.lows)) a c
  lanes_after = record { each = λ s l. played.lanes.each s (is_lane a b s same l) ∙ read.lanes.each s l }

  parts_after : PlaysParts 3 a c
  parts_after = record {
    items = items;
    handed = handed_to (length items) (length items + 0) a c (omega arith) (handed_on (length items) 0 a b c same handed (handed_none b c (rest_hands b c rest)));
    parts = record {
      each = λ p l.
          subst (λ (x : List Note). GrewBy (delivered_to items p) 3 x (c.part_notes p)) (read.parts.each p l) (played.parts.each p (is_part a b p same l));
    };
  }

  pub round_noted : NotesRound last batch a c counted
  round_noted = record { lows = read.lows; count = read.count; counts = read.counts; lanes = lanes_after; parts = parts_after }

  pub round_broken : NotesRoundFront last batch a c
  round_broken = record {
    lows = read.lows;
    count = read.count;
    lanes = record {
      each = λ s l. front_all (a.lane_notes s) (lane_round batch (low_at read.lows s) (counted_mark last read.lows)) (c.lane_notes s) (lanes_after.each s l);
    };
    parts = parts_after;
  }
