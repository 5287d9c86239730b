-- The notes of a bench, once there is one more.
use Rattle.std.proofs.Common.{◌≡◌, ◌≢◌, ◌<◌, ◌+◌, ℕ, Bool, true, false, cond, ◌&&◌, List, [], ◌∷◌, ◌++◌, length, Option, None, Some, refl, sym, ap, ◌∙◌, arith, length-append}
use Rattle.std.specs.Prelude.{◌==◌, filter}
use Rattle.std.specs.List.{cons_option}
use Rattle.std.proofs.lemmas.Bool.{eq-eqb, ne_eqb}
use Rattle.std.proofs.lemmas.List.{append-nil}
use Rattle.std.proofs.lemmas.List.Elements.{filter-append, filter_map-append}
use Rattle.eql_lane.specs.declared.ops.LaneReply.{LaneReply}
use Rattle.eql_lane.specs.declared.ops.LaneReply.TheVariants as reply
use Rattle.eql_conductor.specs.declared.note.Note.{Note}
use Rattle.eql_conductor.specs.Benches.{FailsBy}
use Rattle.eql_replay.specs.declared.noted.Noted.{Noted}
use Rattle.eql_replay.specs.declared.noted.Noted.TheVariants.{OfLane, OfPart}
use Rattle.eql_replay.specs.Noting.{did_fail, note_at_lane, note_at_part, failed_at, lane_notes_in, part_notes_in, fails_in}

-- ---- notes of lanes and of parts
lane_one : (s : ℕ) (notes : List Noted) (one : Noted) (told : Option Note) → note_at_lane s one ≡ told → lane_notes_in s (notes ++ one ∷ []) ≡ lane_notes_in s notes ++ cons_option told []
lane_one s notes one told e =
    filter_map-append (note_at_lane s) notes (one ∷ []) ∙ ap (λ (o : Option Note). lane_notes_in s notes ++ cons_option o []) e

part_one : (p : ℕ) (notes : List Noted) (one : Noted) (told : Option Note) → note_at_part p one ≡ told → part_notes_in p (notes ++ one ∷ []) ≡ part_notes_in p notes ++ cons_option told []
part_one p notes one told e =
    filter_map-append (note_at_part p) notes (one ∷ []) ∙ ap (λ (o : Option Note). part_notes_in p notes ++ cons_option o []) e

is_here : {X : Type 0} (n : ℕ) (x : Option X) → cond (n == n) x None ≡ x
is_here n x = ap (λ (b : Bool). cond b x None) (eq-eqb n n refl)

isnt_here : {X : Type 0} (m n : ℕ) (x : Option X) → n ≢ m → cond (m == n) x None ≡ None
isnt_here m n x apart = ap (λ (b : Bool). cond b x None) (ne_eqb m n (λ e. apart (sym e)))

pub lane_noted : (s : ℕ) (notes : List Noted) (note : Note) (failed : Bool) → lane_notes_in s (notes ++ OfLane s note failed ∷ []) ≡ lane_notes_in s notes ++ note ∷ []
lane_noted s notes note failed = lane_one s notes (OfLane s note failed) (Some note) (is_here s (Some note))

pub other_lane_noted : (s k : ℕ) (notes : List Noted) (note : Note) (failed : Bool) → k ≢ s → lane_notes_in k (notes ++ OfLane s note failed ∷ []) ≡ lane_notes_in k notes
other_lane_noted s k notes note failed apart =
    lane_one k notes (OfLane s note failed) None (isnt_here s k (Some note) apart) ∙ append-nil (lane_notes_in k notes)

pub lane_not_noted : (s p : ℕ) (notes : List Noted) (note : Note) → lane_notes_in s (notes ++ OfPart p note ∷ []) ≡ lane_notes_in s notes
lane_not_noted s p notes note = lane_one s notes (OfPart p note) None refl ∙ append-nil (lane_notes_in s notes)

pub part_noted : (p : ℕ) (notes : List Noted) (note : Note) → part_notes_in p (notes ++ OfPart p note ∷ []) ≡ part_notes_in p notes ++ note ∷ []
part_noted p notes note = part_one p notes (OfPart p note) (Some note) (is_here p (Some note))

pub other_part_noted : (p k : ℕ) (notes : List Noted) (note : Note) → k ≢ p → part_notes_in k (notes ++ OfPart p note ∷ []) ≡ part_notes_in k notes
other_part_noted p k notes note apart =
    part_one k notes (OfPart p note) None (isnt_here p k (Some note) apart) ∙ append-nil (part_notes_in k notes)

pub part_not_noted : (p s : ℕ) (notes : List Noted) (note : Note) (failed : Bool) → part_notes_in p (notes ++ OfLane s note failed ∷ []) ≡ part_notes_in p notes
part_not_noted p s notes note failed = part_one p notes (OfLane s note failed) None refl ∙ append-nil (part_notes_in p notes)

-- ---- feeds that failed
pub fails_one : (s : ℕ) (notes : List Noted) (one : Noted) (b : Bool) → failed_at s one ≡ b → fails_in s (notes ++ one ∷ []) ≡ fails_in s notes + cond b 1 0
fails_one s notes one b e =
    ap length (filter-append (failed_at s) notes (one ∷ []))
    ∙ length-append (filter (failed_at s) notes) (filter (failed_at s) (one ∷ []))
    ∙ ap (λ (n : ℕ). fails_in s notes + n) (ap (λ (t : Bool). length (cond t (one ∷ []) [])) e ∙ one_or_none b)
  where
    one_or_none : (t : Bool) → length (cond t (one ∷ []) []) ≡ cond t 1 0
    one_or_none true = refl
    one_or_none false = refl

pub fails_stay : (s : ℕ) (notes : List Noted) (one : Noted) → failed_at s one ≡ false → fails_in s (notes ++ one ∷ []) ≡ fails_in s notes
fails_stay s notes one e = let h = fails_one s notes one false e in omega (arith, h)

pub fails_rise : (s : ℕ) (notes : List Noted) (one : Noted) → failed_at s one ≡ true → fails_in s notes < fails_in s (notes ++ one ∷ [])
fails_rise s notes one e = let h = fails_one s notes one true e in omega (arith, h)

-- it isn't of this lane, or didn't fail
not_there : (s k : ℕ) (failed : Bool) → k ≢ s → (failed && (s == k)) ≡ false
not_there s k true apart = ne_eqb s k (λ e. apart (sym e))
not_there s k false apart = refl

pub other_fails : (s k : ℕ) (notes : List Noted) (note : Note) (failed : Bool) → k ≢ s → fails_in k (notes ++ OfLane s note failed ∷ []) ≡ fails_in k notes
other_fails s k notes note failed apart = fails_stay k notes (OfLane s note failed) (not_there s k failed apart)

pub none_fails : (s p : ℕ) (notes : List Noted) (note : Note) → fails_in s (notes ++ OfPart p note ∷ []) ≡ fails_in s notes
none_fails s p notes note = fails_stay s notes (OfPart p note) refl

pub fails_by : (reply : LaneReply) (s : ℕ) (notes : List Noted) (note : Note) → FailsBy reply (fails_in s notes) (fails_in s (notes ++ OfLane s note (did_fail reply) ∷ []))
fails_by (reply.Failed n) s notes note = fails_rise s notes (OfLane s note true) (eq-eqb s s refl)
fails_by (reply.Fed n) s notes note = fails_stay s notes (OfLane s note false) refl
fails_by (reply.Held k) s notes note = fails_stay s notes (OfLane s note false) refl
fails_by reply.Closed s notes note = fails_stay s notes (OfLane s note false) refl
fails_by (reply.Limit of) s notes note = fails_stay s notes (OfLane s note false) refl
fails_by (reply.Taken items) s notes note = fails_stay s notes (OfLane s note false) refl
fails_by (reply.Low mark) s notes note = fails_stay s notes (OfLane s note false) refl
fails_by (reply.Cut cut) s notes note = fails_stay s notes (OfLane s note false) refl
fails_by (reply.Memory n) s notes note = fails_stay s notes (OfLane s note false) refl

pub didnt_fail : (s : ℕ) (notes : List Noted) (note : Note) (failed : Bool) → failed ≡ false → fails_in s (notes ++ OfLane s note failed ∷ []) ≡ fails_in s notes
didnt_fail s notes note failed e = fails_stay s notes (OfLane s note failed) (ap (λ (b : Bool). b && (s == s)) e)

-- where none failed, none had failed before, and the one more didn't
pub none_before : (s : ℕ) (notes : List Noted) (one : Noted) → fails_in s (notes ++ one ∷ []) ≡ 0 → fails_in s notes ≡ 0
none_before s notes one none = elim_bool (failed_at s one) refl
  where
    elim_bool : (b : Bool) → failed_at s one ≡ b → fails_in s notes ≡ 0
    elim_bool true e = let h = fails_one s notes one true e in omega (arith, h, none)
    elim_bool false e = let h = fails_one s notes one false e in omega (arith, h, none)

pub last_didnt : (s : ℕ) (notes : List Noted) (note : Note) (failed : Bool) → fails_in s (notes ++ OfLane s note failed ∷ []) ≡ 0 → failed ≡ false
last_didnt s notes note true none = absurd (let h = fails_rise s notes (OfLane s note true) (eq-eqb s s refl) in omega (arith, h, none))
last_didnt s notes note false none = refl
