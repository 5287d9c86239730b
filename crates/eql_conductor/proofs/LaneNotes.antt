-- Notes of lanes, from call to call.
use Rattle.std.proofs.Common.{◌≡◌, ◌≢◌, ◌⊎◌, inl, inr, ◌+◌, ◌-◌, ◌++◌, ◌<◌, ◌≤◌, ℕ, zero, suc, Bool, true, false, cond, List, [], ◌∷◌, length, replicate, take, refl, sym, ap, ◌∙◌, arith, subst, length-append}
use Rattle.std.specs.Ordering.{is_le}
use Rattle.std.proofs.lemmas.List.{append-nil, take_all, get_or_append_left, get_or_push, length-replicate}
use Rattle.eql_values.specs.declared.order.Mark.{Mark}
use Rattle.eql_values.specs.declared.order.Mark.TheVariants.{Start, At, End}
use Rattle.eql_values.specs.Marks.{mark_cmp}
use Rattle.eql_laws.specs.Lanes.{least_of}
use Rattle.eql_laws.proofs.MarkLemmas.{at_most_trans}
use Rattle.eql_lane.specs.Lanes.{lesser}
use Rattle.eql_lane.specs.declared.ops.LaneOp.{LaneOp}
use Rattle.eql_lane.specs.declared.ops.LaneOp.TheVariants as op
use Rattle.eql_lane.specs.declared.ops.LaneReply.{LaneReply}
use Rattle.eql_lane.specs.declared.ops.LaneReply.TheVariants as reply
use Rattle.eql_conductor.specs.declared.note.Note.{Note}
use Rattle.eql_conductor.specs.declared.note.Note.TheVariants as note
use Rattle.eql_conductor.specs.declared.bench.NotPlayed.{NotPlayed}
use Rattle.eql_conductor.specs.Notes.{lane_note}
use Rattle.eql_conductor.specs.Benches.{Known, StaysSame, LaneNotesStay, PartNotesStay, LanePlays, WasNotPlayed}
use Rattle.eql_conductor.specs.RoundNotes.{low_at, GrewFront, NotesLanes, NotesLanesFront, NotesLane, NotesLaneFront, NotesLanesTo, NotesLooks, NotesLooksFront, NotesLooksTo}
use Rattle.eql_conductor.proofs.MarkOrder.{at_most_other}
use Rattle.eql_conductor.proofs.Resting.{same_or, is_lane, is_part}

-- ---- lists
-- a number is below another, or it isn't
pub below_or : (a b : ℕ) → (a < b) ⊎ (b ≤ a)
below_or a zero = inr (omega arith)
below_or zero (suc b) = inl (omega arith)
below_or (suc a) (suc b) = elim (below_or a b) [
  | inl h ↦ inl (omega (arith, h))
  | inr h ↦ inr (omega (arith, h))
]

pub parts_stay_on : (a b c : Known) → StaysSame a b → PartNotesStay a b → PartNotesStay b c → PartNotesStay a c
parts_stay_on a b c same h k = record { each = λ p l. k.each p (is_part a b p same l) ∙ h.each p l }

pub lanes_stay_on : (a b c : Known) → StaysSame a b → LaneNotesStay a b → LaneNotesStay b c → LaneNotesStay a c
lanes_stay_on a b c same h k = record { each = λ s l. k.each s (is_lane a b s same l) ∙ h.each s l }

-- nothing more, and a front that is all
pub front_none : (old more new : List Note) → new ≡ old → GrewFront old more new
front_none old more new e = (0, e ∙ sym (append-nil old))

pub front_all : (old more new : List Note) → new ≡ old ++ more → GrewFront old more new
front_all old more new e = (length more, e ∙ ap (λ (l : List Note). old ++ l) (sym (take_all (length more) more (omega arith))))

-- ---- one call
pub lane_noted : (s : ℕ) (o : LaneOp) (answer : LaneReply) (a b : Known) → LanePlays s o answer a b → NotesLane s (lane_note o answer ∷ []) a b
lane_noted s o answer a b plays = record { grew = plays.note; others = plays.other_notes; parts = plays.part_notes }

pub noted_broken : (s : ℕ) (more : List Note) (a b : Known) → NotesLane s more a b → NotesLaneFront s more a b
noted_broken s more a b h = record {
  n = length more;
  noted = subst (λ (l : List Note). NotesLane s l a b) (sym (take_all (length more) more (omega arith))) h;
}

pub unplayed_noted : (s : ℕ) (by : NotPlayed) (a b : Known) → s < a.lanes → WasNotPlayed by a b → NotesLane s [] a b
unplayed_noted s by a b l h = record {
  grew = h.lane_notes.each s l ∙ sym (append-nil (a.lane_notes s));
  others = λ k here apart. h.lane_notes.each k here;
  parts = h.part_notes;
}

pub none_broken : (s : ℕ) (more : List Note) (a b : Known) → NotesLane s [] a b → NotesLaneFront s more a b
none_broken s more a b h = record { n = 0; noted = h }

pub unplayed_broken : (s : ℕ) (more : List Note) (by : NotPlayed) (a b : Known) → s < a.lanes → WasNotPlayed by a b → NotesLaneFront s more a b
unplayed_broken s more by a b l h = none_broken s more a b (unplayed_noted s by a b l h)

pub fed_noted : (s max : ℕ) (answer : LaneReply) (a b : Known) → LanePlays s (op.Feed max) answer a b → NotesLane s (note.Fed max ∷ []) a b
fed_noted s max answer a b plays = lane_noted s (op.Feed max) answer a b plays

pub fed_broken : (s max : ℕ) (answer : LaneReply) (a b : Known) → LanePlays s (op.Feed max) answer a b → NotesLaneFront s (note.Fed max ∷ []) a b
fed_broken s max answer a b plays = noted_broken s (note.Fed max ∷ []) a b (fed_noted s max answer a b plays)

pub looked_noted : (s : ℕ) (mark : Mark) (a b : Known) → LanePlays s op.Look (reply.Low mark) a b → NotesLane s (note.Looked mark ∷ []) a b
looked_noted s mark a b plays = lane_noted s op.Look (reply.Low mark) a b plays

pub took_noted : (s : ℕ) (mark : Mark) (answer : LaneReply) (a b : Known) → LanePlays s (op.Take mark) answer a b → NotesLane s (note.Took mark ∷ []) a b
took_noted s mark answer a b plays = lane_noted s (op.Take mark) answer a b plays

pub took_broken : (s : ℕ) (mark : Mark) (answer : LaneReply) (a b : Known) → LanePlays s (op.Take mark) answer a b → NotesLaneFront s (note.Took mark ∷ []) a b
took_broken s mark answer a b plays = noted_broken s (note.Took mark ∷ []) a b (took_noted s mark answer a b plays)

pub snapped_noted : (s : ℕ) (answer : LaneReply) (a b : Known) → LanePlays s op.Snap answer a b → NotesLane s (note.Snapped ∷ []) a b
snapped_noted s answer a b plays = lane_noted s op.Snap answer a b plays

pub snapped_broken : (s : ℕ) (answer : LaneReply) (a b : Known) → LanePlays s op.Snap answer a b → NotesLaneFront s (note.Snapped ∷ []) a b
snapped_broken s answer a b plays = noted_broken s (note.Snapped ∷ []) a b (snapped_noted s answer a b plays)

-- ---- a loop
pub noted_none : (more : ℕ → List Note) (a : Known) → NotesLanesTo 0 more a a
noted_none more a = record {
  done = λ s l below. absurd (omega (arith, below));
  left = λ s l above. refl;
  parts = record { each = λ p l. refl };
}

-- the lanes below n don't tell what the others are to have
pub noted_with : (n : ℕ) (more next : ℕ → List Note) (a b : Known) → ((k : ℕ) → k < n → next k ≡ more k) → NotesLanesTo n more a b → NotesLanesTo n next a b
noted_with n more next a b e h = record {
  done = λ s l below. h.done s l below ∙ ap (λ (l : List Note). a.lane_notes s ++ l) (sym (e s below));
  left = h.left;
  parts = h.parts;
}

module _ (n : ℕ) (more : ℕ → List Note) (a b c : Known) (same : StaysSame a b) (h : NotesLanesTo n more a b) where
  grew_at : (next : List Note) → NotesLane n next b c → (s : ℕ) → s < a.lanes → s ≡ n → c.lane_notes s ≡ a.lane_notes s ++ next
  grew_at next one s l e =
      subst (λ (j : ℕ). c.lane_notes j ≡ a.lane_notes j ++ next) (sym e)
      (one.grew ∙ ap (λ (l : List Note). l ++ next) (h.left n (subst (λ (j : ℕ). j < a.lanes) e l) (omega arith)))

  others_at : (next : List Note) → NotesLane n next b c → (s : ℕ) → s < a.lanes → s ≢ n → c.lane_notes s ≡ b.lane_notes s
  others_at next one s l apart = one.others s (is_lane a b s same l) apart

  pub noted_more : NotesLane n (more n) b c → NotesLanesTo (n + 1) more a c
  noted_more one = record {
    done = λ s l below. elim (same_or s n) [
      | inl e ↦ grew_at (more n) one s l e ∙ ap (λ (j : ℕ). a.lane_notes s ++ more j) (sym e)
      | inr apart ↦ others_at (more n) one s l apart ∙ h.done s l (omega (arith, below, apart))
    ];
    left = λ s l above. others_at (more n) one s l (λ e. omega (arith, e, above)) ∙ h.left s l (omega (arith, above));
    parts = parts_stay_on a b c same h.parts one.parts;
  }

  front_else : (s : ℕ) → s < a.lanes → c.lane_notes s ≡ b.lane_notes s → GrewFront (a.lane_notes s) (more s) (c.lane_notes s)
  front_else s l e = elim (below_or s n) [
    | inl below ↦ front_all (a.lane_notes s) (more s) (c.lane_notes s) (e ∙ h.done s l below)
    | inr above ↦ front_none (a.lane_notes s) (more s) (c.lane_notes s) (e ∙ h.left s l above)
  ]

  pub loop_broken : NotesLaneFront n (more n) b c → NotesLanesFront more a c
  loop_broken one = record {
    lanes = record {
      each = λ s l. elim (same_or s n) [
        | inl e ↦ (one.n, grew_at (take one.n (more n)) one.noted s l e ∙ ap (λ (j : ℕ). a.lane_notes s ++ take one.n (more j)) (sym e))
        | inr apart ↦ front_else s l (others_at (take one.n (more n)) one.noted s l apart)
      ];
    };
    parts = parts_stay_on a b c same h.parts one.noted.parts;
  }

pub noted_all : (n : ℕ) (more : ℕ → List Note) (a b : Known) → n ≡ a.lanes → NotesLanesTo n more a b → NotesLanes more a b
noted_all n more a b e h = record {
  lanes = record { each = λ s l. h.done s l (subst (λ (m : ℕ). s < m) (sym e) l) };
  parts = h.parts;
}

pub lanes_broken : (more : ℕ → List Note) (a b : Known) → NotesLanes more a b → NotesLanesFront more a b
lanes_broken more a b h = record {
  lanes = record { each = λ s l. front_all (a.lane_notes s) (more s) (b.lane_notes s) (h.lanes.each s l) };
  parts = h.parts;
}

-- ---- the least low
lesser_if : (a b : Mark) (c : Bool) → is_le (mark_cmp a b) ≡ c → lesser a b ≡ cond c a b
lesser_if a b c e = ap (λ (x : Bool). cond x a b) e

module _ (a b c : Mark) where
  all_in_order : (p q r : Bool) → is_le (mark_cmp a b) ≡ p → is_le (mark_cmp b c) ≡ q → is_le (mark_cmp a c) ≡ r → lesser a (lesser b c) ≡ lesser (lesser a b) c
  all_in_order true true r ab bc ac =
      ap (lesser a) (lesser_if b c true bc) ∙ lesser_if a b true ab
      ∙ sym (ap (λ (m : Mark). lesser m c) (lesser_if a b true ab) ∙ lesser_if a c true (at_most_trans a b c ab bc))
  all_in_order true false r ab bc ac = ap (lesser a) (lesser_if b c false bc) ∙ sym (ap (λ (m : Mark). lesser m c) (lesser_if a b true ab))
  all_in_order false true r ab bc ac =
      ap (lesser a) (lesser_if b c true bc) ∙ lesser_if a b false ab
      ∙ sym (ap (λ (m : Mark). lesser m c) (lesser_if a b false ab) ∙ lesser_if b c true bc)
  all_in_order false false true ab bc ac = absurd (let k = at_most_trans a c b ac (at_most_other b c bc) in let e = sym ab ∙ k in cc)
  all_in_order false false false ab bc ac =
      ap (lesser a) (lesser_if b c false bc) ∙ lesser_if a c false ac
      ∙ sym (ap (λ (m : Mark). lesser m c) (lesser_if a b false ab) ∙ lesser_if b c false bc)

  lesser_on : lesser a (lesser b c) ≡ lesser (lesser a b) c
  lesser_on = all_in_order (is_le (mark_cmp a b)) (is_le (mark_cmp b c)) (is_le (mark_cmp a c)) refl refl refl

least_one : (low : Mark) → least_of (low ∷ []) ≡ lesser End low
least_one Start = refl
least_one (At t) = refl
least_one End = refl

pub least_push : (lows : List Mark) (low : Mark) → least_of (lows ++ low ∷ []) ≡ lesser (least_of lows) low
least_push [] low = least_one low
least_push (first ∷ lows) low = ap (lesser first) (least_push lows low) ∙ lesser_on first (least_of lows) low

-- ---- looks
abbrev looked : List Mark → ℕ → List Note
looked lows s = note.Looked (low_at lows s) ∷ []

looked_same : (lows more : List Mark) (k : ℕ) → k < length lows → looked (lows ++ more) k ≡ looked lows k
looked_same lows more k below = ap (λ (m : Mark). note.Looked m ∷ []) (get_or_append_left lows more End k below)

pub looked_none : (a : Known) → NotesLooksTo 0 End a a
looked_none a = record { lows = []; count = refl; least = refl; noted = noted_none (looked []) a }

module _ (n : ℕ) (mark : Mark) (a b c : Known) (same : StaysSame a b) (h : NotesLooksTo n mark a b) where
  was_looked : (more : List Mark) → NotesLanesTo n (looked (h.lows ++ more)) a b
  was_looked more =
      noted_with n (looked h.lows) (looked (h.lows ++ more)) a b (λ k below. looked_same h.lows more k (let e = h.count in omega (arith, e, below))) h.noted

  pub looked_more : (low : Mark) → NotesLane n (note.Looked low ∷ []) b c → NotesLooksTo (n + 1) (lesser mark low) a c
  looked_more low one = record {
    lows = h.lows ++ low ∷ [];
    count = let e = length-append h.lows (low ∷ []) in let f = h.count in omega (arith, e, f);
    least = ap (λ (m : Mark). lesser m low) h.least ∙ sym (least_push h.lows low);
    noted = noted_more n (looked (h.lows ++ low ∷ [])) a b c same (was_looked (low ∷ []))
        (subst (λ (m : Mark). NotesLane n (note.Looked m ∷ []) b c) (sym (get_or_push h.lows low End n h.count)) one);
  }

  pub looked_broken : n ≤ a.lanes → NotesLane n [] b c → NotesLooksFront a c
  looked_broken to one = let rest : List Mark = replicate (a.lanes - n) End in record {
    lows = h.lows ++ rest;
    count = let e = length-append h.lows rest in let f = h.count in let g = length-replicate (a.lanes - n) End in omega (arith, e, f, g, to);
    noted = loop_broken n (looked (h.lows ++ rest)) a b c same (was_looked rest) (none_broken n (looked (h.lows ++ rest) n) b c one);
  }

pub looked_all : (n : ℕ) (mark : Mark) (a b : Known) → n ≡ a.lanes → NotesLooksTo n mark a b → NotesLooks a b mark
looked_all n mark a b e h = record {
  lows = h.lows;
  count = h.count ∙ e;
  least = h.least;
  noted = noted_all n (looked h.lows) a b e h.noted;
}
