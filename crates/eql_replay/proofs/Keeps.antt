-- What is true of each bench, from call to call.
use Rattle.std.proofs.Common.{Some, slice_get, ◌≡◌, inl, inr, ℕ, zero, suc, ◌<◌, ◌≤◌, ◌^◌, ◌+◌, List, [], ◌∷◌, ◌++◌, Option, All, length, take, get_or, refl, sym, ap, ◌∙◌, arith, subst}
use Rattle.std.proofs.lemmas.List.{take_all, take_more}
use Rattle.std.proofs.lemmas.List.Elements.{All-get_or, All-head, All-nil, All-tail}
use Rattle.std.proofs.lemmas.Option.{slice_get_past, slice_get_read}
use Rattle.eql_values.specs.Accepted.{Reads}
use Rattle.eql_outside.specs.Plans.{FaultPlan}
use Rattle.eql_lane.specs.declared.ops.LaneOp.{LaneOp}
use Rattle.eql_lane.specs.declared.ops.LaneReply.{LaneReply}
use Rattle.eql_lane.specs.Views.{LaneView}
use Rattle.eql_parts.specs.declared.ops.PartOp.{PartOp}
use Rattle.eql_parts.specs.declared.ops.PartOp.TheVariants as part_op
use Rattle.eql_parts.specs.declared.ops.PartReply.{PartReply}
use Rattle.eql_parts.specs.PartSteps.{PartView}
use Rattle.eql_conductor.specs.declared.note.Note.{Note}
use Rattle.eql_conductor.specs.GoingOn.{AreOfTexts, LanesGoOn, LanesReadFurther, LanesReadOn}
use Rattle.eql_conductor.specs.Lists.{PoolView}
use Rattle.eql_conductor.specs.Notes.{part_note}
use Rattle.eql_conductor.proofs.Resting.{same_or}
use Rattle.eql_replay.specs.declared.foreign.Foreign.{Foreign}
use Rattle.eql_replay.specs.declared.noted.Noted.{Noted}
use Rattle.eql_replay.specs.declared.noted.Noted.TheVariants.{OfLane, OfPart}
use Rattle.eql_replay.specs.Listed.{BenchView}
use Rattle.eql_replay.specs.Noting.{asked_note, did_fail, fails_in, told_note}
use Rattle.eql_replay.specs.Opened.{FeedsElsewhere, IsBench, IsQuiet, list_at, list_in}
use Rattle.eql_replay.specs.Pools.{ForeignsPlay, ForeignPlays, IsPlay, PlaysLaneAt, PlaysPartAt}
use Rattle.eql_replay.proofs.Calls.{lane_count, part_count, texts_stay}
use Rattle.eql_replay.proofs.Goings.{didnt, all_on as all_go_on, lanes_begin, lanes_on, lanes_quieter}
use Rattle.eql_replay.proofs.NoteLemmas.{didnt_fail, last_didnt, none_before, none_fails, other_fails}
use Rattle.eql_replay.proofs.Further.{all_lines, lines_on, lines_self}
use Rattle.eql_replay.proofs.Readings.{all_read, read_on, read_self}
use Rattle.eql_replay.proofs.Others.{all_lanes, all_on, all_parts, all_texts}

-- the note of a part's operation
pub asked_told : (op : PartOp) (reply : PartReply) → told_note (asked_note op) reply ≡ part_note op reply
asked_told (part_op.Deliver items mark) reply = refl
asked_told (part_op.Turn max) reply = refl
asked_told part_op.Collect reply = refl
asked_told part_op.Snap reply = refl

-- ---- the list before a call
pub all_at : (P : Foreign → Type 0) (plays : List (List Foreign)) (calls : ℕ) → All (λ (fs : List Foreign). All P fs) plays → All P (list_at plays calls)
all_at P [] calls h = All-nil P
all_at P (fs ∷ plays) zero h = All-head (λ (gs : List Foreign). All P gs) fs plays h
all_at P (fs ∷ plays) (suc calls) h = all_at P plays calls (All-tail (λ (gs : List Foreign). All P gs) fs plays h)

pub list_is : (plays lists : List (List Foreign)) (calls : ℕ) (one : List Foreign) → lists ≡ plays → calls < length lists → one ≡ get_or lists calls one → list_at plays calls ≡ one
list_is plays lists calls one e inside is =
    subst (λ (ls : List (List Foreign)). list_at ls calls ≡ one) e (ap list_in (slice_get_read lists (length lists) calls one refl inside is))

pub list_past : (plays lists : List (List Foreign)) (calls : ℕ) → lists ≡ plays → length lists ≤ calls → list_at plays calls ≡ []
list_past plays lists calls e past = subst (λ (ls : List (List Foreign)). list_at ls calls ≡ []) e (ap list_in (slice_get_past lists calls past))

module _ {S L : Type 0} (left lent_as : S → Option (List ℕ)) (fault_plan : S → Option FaultPlan) (read_of : L → Reads) where
  -- ---- a loop over a list
  pub next_fits : (fs : List Foreign) (i : ℕ) (f : Foreign) (a b : PoolView S L) → ForeignsPlay left lent_as fault_plan read_of (take i fs) a b
      → All (IsPlay (length a.lanes) (length a.parts)) fs → i < length fs → f ≡ get_or fs i f → IsPlay (length b.lanes) (length b.parts) f
  next_fits fs i f a b played fit inside is =
      subst (λ (n : ℕ). IsPlay n (length b.parts) f) (sym (all_lanes left lent_as fault_plan read_of (take i fs) a b played))
      (subst (λ (n : ℕ). IsPlay (length a.lanes) n f) (sym (all_parts left lent_as fault_plan read_of (take i fs) a b played))
      (subst (IsPlay (length a.lanes) (length a.parts)) (sym is) (All-get_or (IsPlay (length a.lanes) (length a.parts)) fs i f inside fit)))

  pub next_played : (fs : List Foreign) (i : ℕ) (f : Foreign) (a b c : PoolView S L) → i < length fs → f ≡ get_or fs i f
      → ForeignsPlay left lent_as fault_plan read_of (take i fs) a b → ForeignPlays left lent_as fault_plan read_of f b c → ForeignsPlay left lent_as fault_plan read_of (take (i + 1) fs) a c
  next_played fs i f a b c inside is played then =
      let more : take (i + 1) fs ≡ take i fs ++ f ∷ [] = take_more fs i f inside ∙ ap (λ (g : Foreign). take i fs ++ g ∷ []) (sym is) in
      subst (λ (gs : List Foreign). ForeignsPlay left lent_as fault_plan read_of gs a c) (sym more) (all_on left lent_as fault_plan read_of (take i fs) f a b c played then)

  pub all_played : (fs gs : List Foreign) (i : ℕ) (a b : PoolView S L) → fs ≡ gs → length fs ≤ i → ForeignsPlay left lent_as fault_plan read_of (take i fs) a b → ForeignsPlay left lent_as fault_plan read_of gs a b
  all_played fs gs i a b e past played =
      subst (λ (hs : List Foreign). ForeignsPlay left lent_as fault_plan read_of hs a b) (take_all i fs past ∙ e) played

  module _ (first : List (LaneView S L)) (text : ℕ → Option (List ℕ)) (plays : List (List Foreign)) where
    abbrev Is : BenchView S L → Type 0
    Is b = IsBench left lent_as fault_plan read_of first text plays b

    -- ---- a bench begins
    pub begins : (lanes : List (LaneView S L)) (parts : List PartView) (lists : List (List Foreign)) (pool : PoolView S L) (notes : List Noted)
        → pool ≡ record { lanes = lanes; parts = parts } → notes ≡ [] → lanes ≡ first → lists ≡ plays → length lanes < 2 ^ 32 → length parts < 2 ^ 32
        → All (λ (fs : List Foreign). All (IsPlay (length lanes) (length parts)) fs) lists → AreOfTexts left text lanes → Is (record { pool = pool; calls = 0; notes = notes })
    begins lanes parts lists pool notes e none same_lanes same_lists few_lanes few_parts fit are =
        subst (λ (p : PoolView S L). Is (record { pool = p; calls = 0; notes = notes })) (sym e) (record {
          on = subst (λ (ls : List (LaneView S L)). LanesGoOn left lent_as fault_plan read_of (IsQuiet plays notes) ls lanes) same_lanes
              (lanes_begin left lent_as fault_plan read_of (IsQuiet plays notes) lanes);
          planned = record { each = λ s one there u. ap (fails_in s) none };
          texts = are;
          read = subst (λ (ls : List (LaneView S L)). LanesReadOn read_of text ls lanes) same_lanes (read_self left lent_as fault_plan read_of text lanes);
          lines = subst (λ (ls : List (LaneView S L)). LanesReadFurther text ls lanes) same_lanes (lines_self left lent_as fault_plan read_of text lanes);
          few_lanes = few_lanes;
          few_parts = few_parts;
          fit = subst (All (λ (fs : List Foreign). All (IsPlay (length lanes) (length parts)) fs)) same_lists fit;
          calls = omega arith;
        })

    all_fit : (m n k l : ℕ) → k ≡ m → l ≡ n → All (λ (fs : List Foreign). All (IsPlay m n) fs) plays → All (λ (fs : List Foreign). All (IsPlay k l) fs) plays
    all_fit m n k l e f h =
        subst (λ (i : ℕ). All (λ (fs : List Foreign). All (IsPlay i l) fs) plays) (sym e)
        (subst (λ (j : ℕ). All (λ (fs : List Foreign). All (IsPlay m j) fs) plays) (sym f) h)

    -- ---- others played their list
    pub others_keep : (b : BenchView S L) (pool : PoolView S L) (calls : ℕ) → Is b → calls ≤ length plays → ForeignsPlay left lent_as fault_plan read_of (list_at plays b.calls) b.pool pool
        → Is (record { pool = pool; calls = calls; notes = b.notes })
    others_keep b pool calls is few played =
        let fs = list_at plays b.calls in
        let lanes = all_lanes left lent_as fault_plan read_of fs b.pool pool played in
        let parts = all_parts left lent_as fault_plan read_of fs b.pool pool played in
        record {
          on = all_go_on left lent_as fault_plan read_of (IsQuiet plays b.notes) first fs b.pool pool (λ s q. all_at (FeedsElsewhere s) plays b.calls q.0) played is.on;
          planned = is.planned;
          texts = all_texts left lent_as fault_plan read_of text fs b.pool pool played is.texts;
          read = all_read left lent_as fault_plan read_of text first fs b.pool pool is.texts played is.read;
          lines = all_lines left lent_as fault_plan read_of text first fs b.pool pool is.texts played is.lines;
          few_lanes = subst (λ (n : ℕ). n < 2 ^ 32) (sym lanes) is.few_lanes;
          few_parts = subst (λ (n : ℕ). n < 2 ^ 32) (sym parts) is.few_parts;
          fit = all_fit (length b.pool.lanes) (length b.pool.parts) (length pool.lanes) (length pool.parts) lanes parts is.fit;
          calls = few;
        }

    -- ---- the caller played
    pub lane_keeps : (old new : PoolView S L) (calls : ℕ) (notes : List Noted) (s : ℕ) (op : LaneOp) (reply : LaneReply) (note : Note) → Is (record { pool = old; calls = calls; notes = notes })
        → PlaysLaneAt left lent_as fault_plan read_of s op reply old.lanes new.lanes → new.parts ≡ old.parts
        → Is (record { pool = new; calls = calls; notes = notes ++ OfLane s note (did_fail reply) ∷ [] })
    lane_keeps old new calls notes s op reply note is played parts =
        let lanes = lane_count left lent_as fault_plan read_of s op reply old.lanes new.lanes played in
        let same_parts : length new.parts ≡ length old.parts = ap length parts in
        let one : Noted = OfLane s note (did_fail reply) in
        record {
          on = lanes_on left lent_as fault_plan read_of s op reply old.lanes new.lanes played (IsQuiet plays notes) (IsQuiet plays (notes ++ one ∷ [])) first
              (λ k q. (q.0, none_before k notes one q.1)) (λ q. last_didnt s notes note (did_fail reply) q.1) is.on;
          planned = record {
            each = λ k first_one there u. elim (same_or k s) [
              | inl e ↦
                  let there_s : slice_get first s ≡ Some first_one = subst (λ (j : ℕ). slice_get first j ≡ Some first_one) e there in
                  let was = ((is.on.each s first_one played.before there_s played.was).unfailing u).0 in
                  subst (λ (j : ℕ). fails_in j (notes ++ one ∷ []) ≡ 0) (sym e)
                  (didnt_fail s notes note (did_fail reply) (didnt reply (played.unfailing was).0) ∙ is.planned.each s first_one there_s u)
              | inr apart ↦ other_fails s k notes note (did_fail reply) apart ∙ is.planned.each k first_one there u
            ];
          };
          texts = texts_stay left lent_as fault_plan read_of s op reply old.lanes new.lanes played text is.texts;
          read = read_on left lent_as fault_plan read_of text s op reply old.lanes new.lanes played is.texts first is.read;
          lines = lines_on left lent_as fault_plan read_of text s op reply old.lanes new.lanes played is.texts first is.lines;
          few_lanes = subst (λ (n : ℕ). n < 2 ^ 32) (sym lanes) is.few_lanes;
          few_parts = subst (λ (n : ℕ). n < 2 ^ 32) (sym same_parts) is.few_parts;
          fit = all_fit (length old.lanes) (length old.parts) (length new.lanes) (length new.parts) lanes same_parts is.fit;
          calls = is.calls;
        }

    pub part_keeps : (old new : PoolView S L) (calls : ℕ) (notes : List Noted) (p : ℕ) (op : PartOp) (reply : PartReply) (note : Note) → Is (record { pool = old; calls = calls; notes = notes })
        → PlaysPartAt p op reply old.parts new.parts → new.lanes ≡ old.lanes
        → Is (record { pool = new; calls = calls; notes = notes ++ OfPart p note ∷ [] })
    part_keeps old new calls notes p op reply note is played lanes =
        let parts = part_count p op reply old.parts new.parts played in
        let same_lanes : length new.lanes ≡ length old.lanes = ap length lanes in
        let one : Noted = OfPart p note in
        record {
          on = subst (λ (ls : List (LaneView S L)). LanesGoOn left lent_as fault_plan read_of (IsQuiet plays (notes ++ one ∷ [])) first ls) (sym lanes)
              (lanes_quieter left lent_as fault_plan read_of (IsQuiet plays notes) (IsQuiet plays (notes ++ one ∷ [])) first old.lanes (λ k q. (q.0, none_before k notes one q.1)) is.on);
          planned = record { each = λ k first_one there u. none_fails k p notes note ∙ is.planned.each k first_one there u };
          texts = subst (AreOfTexts left text) (sym lanes) is.texts;
          read = subst (LanesReadOn read_of text first) (sym lanes) is.read;
          lines = subst (LanesReadFurther text first) (sym lanes) is.lines;
          few_lanes = subst (λ (n : ℕ). n < 2 ^ 32) (sym same_lanes) is.few_lanes;
          few_parts = subst (λ (n : ℕ). n < 2 ^ 32) (sym parts) is.few_parts;
          fit = all_fit (length old.lanes) (length old.parts) (length new.lanes) (length new.parts) same_lanes parts is.fit;
          calls = is.calls;
        }
