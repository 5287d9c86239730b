-- The notes of a run, round by round.
use Rattle.std.proofs.Common.{◌≡◌, ◌≢◌, ◌⊎◌, inl, inr, ◌+◌, ◌*◌, ◌++◌, ◌≤◌, ℕ, ℤ, zero, suc, List, [], ◌∷◌, Option, None, Some, length, replicate, take, refl, sym, ap, ◌∙◌, arith, subst, length-append, All}
use Rattle.std.specs.Option.{option_to_list}
use Rattle.std.proofs.lemmas.List.{append-nil, append_assoc, length-replicate}
use Rattle.std.proofs.lemmas.List.Concat.{flat_map-append}
use Rattle.std.proofs.lemmas.List.Elements.{All-append, All-cons, All-nil}
use Rattle.eql_values.specs.declared.order.Mark.{Mark}
use Rattle.eql_values.specs.declared.order.Mark.TheVariants.{End}
use Rattle.eql_conductor.specs.declared.note.Note.{Note}
use Rattle.eql_conductor.specs.declared.note.Note.TheVariants as note
use Rattle.eql_conductor.specs.Benches.{Known, StaysSame}
use Rattle.eql_laws.specs.Apart.{joined_lists}
use Rattle.eql_conductor.specs.RoundNotes.{low_at, counted_mark, took, lane_round, LanesGrow, GrewFront, GrewInRounds, LanesGrowInRounds, PartsGrowInRounds, PlaysParts, NotesRound, NotesRoundFront, delivered_to, others_in}
use Rattle.eql_conductor.specs.RunNotes.{BeginBeforeEnd, Place, place_behind, next_place, place_after, cut_after, cut_due, cut_times, snap_notes, round_notes, rounds_notes, PlaysRound, RoundBrokeOff, PlaysRounds, PlaysRoundsFront, NotesCut, NotesSaveFront}
use Rattle.eql_conductor.proofs.Resting.{is_lane, is_part}
use Rattle.eql_conductor.proofs.Handing.{handed_on, handed_self, handed_to}
use Rattle.eql_conductor.proofs.LaneNotes.{front_none}
use Rattle.eql_conductor.proofs.PartNotes.{grew_on, grew_to, routed_on}
use Rattle.eql_conductor.proofs.NotedRounds.{front_behind, front_longer, none_played}

-- ---- the definitions, round by round
pub place_on : (at : Place) (xs ys : List (List Mark)) → place_after at (xs ++ ys) ≡ place_after (place_after at xs) ys
place_on at [] ys = refl
place_on at (lows ∷ xs) ys = place_on (next_place at lows) xs ys

pub times_on : (every : Option ℕ) (at : Place) (xs ys : List (List Mark)) → cut_times every at (xs ++ ys) ≡ cut_times every at xs ++ cut_times every (place_after at xs) ys
times_on every at [] ys = refl
times_on every at (lows ∷ xs) ys =
    ap (λ (l : List ℤ). option_to_list (cut_due every at lows) ++ l) (times_on every (next_place at lows) xs ys)
    ∙ sym (append_assoc (option_to_list (cut_due every at lows)) (cut_times every (next_place at lows) xs) (cut_times every (place_after (next_place at lows) xs) ys))

pub begin_on : (at : Place) (xs ys : List (List Mark)) → BeginBeforeEnd at xs → BeginBeforeEnd (place_after at xs) ys → BeginBeforeEnd at (xs ++ ys)
begin_on at [] ys h k = k
begin_on at (lows ∷ xs) ys h k = (h.0, begin_on (next_place at lows) xs ys h.1 k)

module _ (batch : ℕ) (every : Option ℕ) where
  pub notes_on : (at : Place) (xs ys : List (List Mark)) (s : ℕ) → rounds_notes batch every at (xs ++ ys) s ≡ rounds_notes batch every at xs s ++ rounds_notes batch every (place_after at xs) ys s
  notes_on at [] ys s = refl
  notes_on at (lows ∷ xs) ys s =
      ap (λ (l : List Note). round_notes batch every at lows s ++ l) (notes_on (next_place at lows) xs ys s)
      ∙ sym (append_assoc (round_notes batch every at lows s) (rounds_notes batch every (next_place at lows) xs s) (rounds_notes batch every (place_after (next_place at lows) xs) ys s))

  -- one round more
  pub notes_more : (at : Place) (rounds : List (List Mark)) (lows : List Mark) (s : ℕ)
      → rounds_notes batch every at (rounds ++ lows ∷ []) s ≡ rounds_notes batch every at rounds s ++ round_notes batch every (place_after at rounds) lows s
  notes_more at rounds lows s =
      notes_on at rounds (lows ∷ []) s ∙ ap (λ (l : List Note). rounds_notes batch every at rounds s ++ l) (append-nil (round_notes batch every (place_after at rounds) lows s))

pub times_more : (every : Option ℕ) (at : Place) (rounds : List (List Mark)) (lows : List Mark)
    → cut_times every at (rounds ++ lows ∷ []) ≡ cut_times every at rounds ++ option_to_list (cut_due every (place_after at rounds) lows)
times_more every at rounds lows =
    times_on every at rounds (lows ∷ []) ∙ ap (λ (l : List ℤ). cut_times every at rounds ++ l) (append-nil (option_to_list (cut_due every (place_after at rounds) lows)))

-- at most four notes a round
taken_few : (mark : Option Mark) → length (took mark) ≤ 1
taken_few None = omega arith
taken_few (Some mark) = omega arith

snapped_few : (time : Option ℤ) → length (snap_notes time) ≤ 1
snapped_few None = omega arith
snapped_few (Some t) = omega arith

pub round_few : (batch : ℕ) (every : Option ℕ) (at : Place) (lows : List Mark) (s : ℕ) → length (round_notes batch every at lows s) ≤ 4
round_few batch every at lows s =
    let one : List Note = lane_round batch (low_at lows s) (counted_mark at.mark lows) in
    let cut : List Note = snap_notes (cut_due every at lows) in
    let b = length-append one cut in
    let c = taken_few (counted_mark at.mark lows) in
    let d = snapped_few (cut_due every at lows) in
    omega (arith, b, c, d)

-- ---- notes over rounds
abbrev pub IsFew : (List Note → ℕ) → List Note → Type 0
IsFew count list = count list ≤ 4

pub in_rounds_none : (count : List Note → ℕ) (x y : List Note) → y ≡ x → GrewInRounds count 0 x y
in_rounds_none count x y e = record { lists = []; as_many = refl; grew = e ∙ sym (append-nil x); four = All-nil (IsFew count) }

-- one round more
pub in_rounds_more : (count : List Note → ℕ) (n m : ℕ) (x y z more : List Note) → m ≡ n + 1 → GrewInRounds count n x y → z ≡ y ++ more → count more ≤ 4 → GrewInRounds count m x z
in_rounds_more count n m x y z more e h grew few = record {
  lists = h.lists ++ more ∷ [];
  as_many = let l = length-append h.lists (more ∷ []) in let k = h.as_many in omega (arith, l, k, e);
  grew = grew ∙ ap (λ (l : List Note). l ++ more) h.grew ∙ append_assoc x (joined_lists h.lists) more
      ∙ ap (λ (l : List Note). x ++ l) (sym (flat_map-append (λ (l : List Note). l) h.lists (more ∷ []) ∙ ap (λ (l : List Note). joined_lists h.lists ++ l) (append-nil more)));
  four = All-append (IsFew count) h.lists (more ∷ []) h.four (All-cons (IsFew count) more [] few (All-nil (IsFew count)));
}

-- the notes of a lane, round by round
module _ (batch : ℕ) (every : Option ℕ) where
  abbrev each_round : Place → List (List Mark) → ℕ → List (List Note)
  each_round at [] s = []
  each_round at (lows ∷ rounds) s = round_notes batch every at lows s ∷ each_round (next_place at lows) rounds s

  each_count : (at : Place) (rounds : List (List Mark)) (s : ℕ) → length (each_round at rounds s) ≡ length rounds
  each_count at [] s = refl
  each_count at (lows ∷ rounds) s = ap suc (each_count (next_place at lows) rounds s)

  each_joined : (at : Place) (rounds : List (List Mark)) (s : ℕ) → rounds_notes batch every at rounds s ≡ joined_lists (each_round at rounds s)
  each_joined at [] s = refl
  each_joined at (lows ∷ rounds) s = ap (λ (l : List Note). round_notes batch every at lows s ++ l) (each_joined (next_place at lows) rounds s)

  abbrev all_notes : List Note → ℕ
  all_notes list = length list

  each_few : (at : Place) (rounds : List (List Mark)) (s : ℕ) → All (IsFew all_notes) (each_round at rounds s)
  each_few at [] s = All-nil (IsFew all_notes)
  each_few at (lows ∷ rounds) s =
      All-cons (IsFew all_notes) (round_notes batch every at lows s) (each_round (next_place at lows) rounds s) (round_few batch every at lows s) (each_few (next_place at lows) rounds s)

  pub notes_in_rounds : (at : Place) (rounds : List (List Mark)) (s : ℕ) (x y : List Note) → y ≡ x ++ rounds_notes batch every at rounds s
      → GrewInRounds (λ (list : List Note). length list) (length rounds) x y
  notes_in_rounds at rounds s x y e = record {
    lists = each_round at rounds s;
    as_many = each_count at rounds s;
    grew = e ∙ ap (λ (l : List Note). x ++ l) (each_joined at rounds s);
    four = each_few at rounds s;
  }

-- ---- parts
pub played_on : (m k : ℕ) (a b c : Known) → StaysSame a b → PlaysParts m a b → PlaysParts k b c → PlaysParts (m + k) a c
played_on m k a b c same h n = record {
  items = h.items ++ n.items;
  handed = let e = length-append h.items n.items in
      handed_to (length (h.items ++ n.items)) (length h.items + length n.items) a c (omega (arith, e)) (handed_on (length h.items) (length n.items) a b c same h.handed n.handed);
  parts = record {
    each = λ p l.
        let e = routed_on p h.items n.items in
        grew_to (delivered_to h.items p + delivered_to n.items p) (m + k) (delivered_to (h.items ++ n.items) p) (m + k) (a.part_notes p) (c.part_notes p) (omega (arith, e)) (omega arith)
        (grew_on (delivered_to h.items p) m (delivered_to n.items p) k (a.part_notes p) (b.part_notes p) (c.part_notes p) (h.parts.each p l) (n.parts.each p (is_part a b p same l)));
  };
}

pub played_to : (m k : ℕ) (a b : Known) → m ≤ k → PlaysParts m a b → PlaysParts k a b
played_to m k a b le h = record {
  items = h.items;
  handed = h.handed;
  parts = record { each = λ p l. grew_to (delivered_to h.items p) m (delivered_to h.items p) k (a.part_notes p) (b.part_notes p) (omega arith) le (h.parts.each p l) };
}

-- ---- one round
-- no cut, where none is due
pub cut_none : (a b : Known) → LanesGrow (λ s. []) a b → PlaysParts 1 a b → NotesCut None a b
cut_none a b lanes parts = record { lanes = lanes; parts = parts }

pub cut_self : (a : Known) → NotesCut None a a
cut_self a = record {
  lanes = record { each = λ s l. sym (append-nil (a.lane_notes s)) };
  parts = none_played 1 a a (handed_self a) (record { each = λ p l. refl });
}

module _ (batch : ℕ) (every : Option ℕ) (at : Place) (a b : Known) where
  -- it broke off
  pub round_broke : NotesRoundFront at.mark batch a b → RoundBrokeOff batch every at [] a b
  round_broke h = record {
    lows = h.lows;
    count = h.count;
    times_are = inl refl;
    lanes = record {
      each = λ s l. front_longer (a.lane_notes s) (lane_round batch (low_at h.lows s) (counted_mark at.mark h.lows)) (snap_notes (cut_due every at h.lows)) (b.lane_notes s) (h.lanes.each s l);
    };
    parts = played_to 3 4 a b (omega arith) h.parts;
  }

  module _ (answer : Option Mark) (h : NotesRound at.mark batch a b answer) (c : Known) (same : StaysSame a b) where
    due_is : cut_after every (place_behind at answer).counts answer ≡ cut_due every at h.lows
    due_is = ap (λ (m : Option Mark). cut_after every (place_behind at m).counts m) h.counts

    abbrev round_of : ℕ → List Note
    round_of s = lane_round batch (low_at h.lows s) (counted_mark at.mark h.lows)

    module _ (time : Option ℤ) (e : time ≡ cut_after every (place_behind at answer).counts answer) where
      -- and then a cut, where one is due
      pub round_played : NotesCut time b c → PlaysRound batch every at time a c answer
      round_played cut = record {
        lows = h.lows;
        count = h.count;
        counts = h.counts;
        time_is = e ∙ due_is;
        lanes = record {
          each = λ s l.
              cut.lanes.each s (is_lane a b s same l) ∙ ap (λ (x : List Note). x ++ snap_notes time) (h.lanes.each s l) ∙ append_assoc (a.lane_notes s) (round_of s) (snap_notes time)
              ∙ ap (λ (t : Option ℤ). a.lane_notes s ++ (round_of s ++ snap_notes t)) (e ∙ due_is);
        };
        parts = played_on 3 1 a b c same h.parts cut.parts;
      }

    -- the cut broke off
    module _ (time : ℤ) (e : cut_after every (place_behind at answer).counts answer ≡ Some time) (times : List ℤ) (put : (times ≡ []) ⊎ (times ≡ time ∷ [])) where
      is_time : cut_due every at h.lows ≡ Some time
      is_time = sym due_is ∙ e

      at_most_one : (times ≡ []) ⊎ (times ≡ time ∷ []) → (times ≡ []) ⊎ (times ≡ option_to_list (cut_due every at h.lows))
      at_most_one (inl none) = inl none
      at_most_one (inr one) = inr (one ∙ ap (λ (t : Option ℤ). option_to_list t) (sym is_time))

      pub keep_broke : NotesSaveFront b c → RoundBrokeOff batch every at times a c
      keep_broke broken = record {
        lows = h.lows;
        count = h.count;
        times_are = at_most_one put;
        lanes = record {
          each = λ s l.
              subst (λ (t : Option ℤ). GrewFront (a.lane_notes s) (round_of s ++ snap_notes t) (c.lane_notes s)) (sym is_time)
              (front_behind (a.lane_notes s) (round_of s) (note.Snapped ∷ []) (b.lane_notes s) (c.lane_notes s) (h.lanes.each s l) (broken.lanes.each s (is_lane a b s same l)));
        };
        parts = played_on 3 1 a b c same h.parts broken.parts;
      }

-- ---- rounds
abbrev IsOf : ℕ → List Mark → Type 0
IsOf n lows = length lows ≡ n

pub rounds_none : (batch : ℕ) (every : Option ℕ) (from : Place) (a : Known) → (h : PlaysRounds batch every from from [] a a) × (length h.rounds ≡ 0)
rounds_none batch every from a = (
  record {
    rounds = [];
    lows = All-nil (IsOf a.lanes);
    to_is = refl;
    before_end = tt;
    times_are = refl;
    lanes = record { each = λ s l. sym (append-nil (a.lane_notes s)) };
    parts = none_played (4 * 0) a a (handed_self a) (record { each = λ p l. refl });
    in_rounds = record { each = λ p l. in_rounds_none others_in (a.part_notes p) (a.part_notes p) refl };
  },
  refl,
)

module _ (batch : ℕ) (every : Option ℕ) (from at : Place) (times : List ℤ) (a b : Known) (same : StaysSame a b) (h : PlaysRounds batch every from at times a b) where
  abbrev so_far : Place
  so_far = place_after from h.rounds

  module _ (c : Known) (played : PlaysParts 4 b c) where
    parts_so : (n : ℕ) → 4 * length h.rounds + 4 ≤ n → PlaysParts n a c
    parts_so n le = played_to (4 * length h.rounds + 4) n a c le (played_on (4 * length h.rounds) 4 a b c same h.parts played)

    in_rounds_so : (n : ℕ) → n ≡ length h.rounds + 1 → PartsGrowInRounds n a c
    in_rounds_so n e = record {
      each = λ p l.
          let k = played.parts.each p (is_part a b p same l) in
          in_rounds_more others_in (length h.rounds) n (a.part_notes p) (b.part_notes p) (c.part_notes p) k.more e (h.in_rounds.each p l) k.grew k.others_to;
    }

  -- one more
  module _ (c : Known) (time : Option ℤ) (answer : Option Mark) (begins : at.mark ≢ End) (noted : PlaysRound batch every at time b c answer) where
    one : PlaysRound batch every so_far time b c answer
    one = subst (λ (q : Place). PlaysRound batch every q time b c answer) h.to_is noted

    pub rounds_more : (k : PlaysRounds batch every from (place_behind at answer) (times ++ option_to_list time) a c) × (length k.rounds ≡ length h.rounds + 1)
    rounds_more = let e = length-append h.rounds (one.lows ∷ []) in (
      record {
        rounds = h.rounds ++ one.lows ∷ [];
        lows = All-append (IsOf a.lanes) h.rounds (one.lows ∷ []) h.lows (All-cons (IsOf a.lanes) one.lows [] (one.count ∙ same.lanes) (All-nil (IsOf a.lanes)));
        before_end = begin_on from h.rounds (one.lows ∷ []) h.before_end (subst (λ (q : Place). q.mark ≢ End) h.to_is begins, tt);
        to_is = ap (λ (q : Place). place_behind q answer) h.to_is ∙ ap (λ (m : Option Mark). place_behind so_far m) one.counts ∙ sym (place_on from h.rounds (one.lows ∷ []));
        times_are = (λ i. h.times_are i ++ option_to_list (one.time_is i)) ∙ sym (times_more every from h.rounds one.lows);
        lanes = record {
          each = λ s l.
              one.lanes.each s (is_lane a b s same l) ∙ ap (λ (x : List Note). x ++ round_notes batch every so_far one.lows s) (h.lanes.each s l)
              ∙ append_assoc (a.lane_notes s) (rounds_notes batch every from h.rounds s) (round_notes batch every so_far one.lows s)
              ∙ ap (λ (x : List Note). a.lane_notes s ++ x) (sym (notes_more batch every from h.rounds one.lows s));
        };
        parts = parts_so c one.parts (4 * length (h.rounds ++ one.lows ∷ [])) (omega (arith, e));
        in_rounds = in_rounds_so c one.parts (length (h.rounds ++ one.lows ∷ [])) e;
      },
      e,
    )

  -- the last one broke off
  module _ (c : Known) (more : List ℤ) (begins : (at.mark ≢ End) ⊎ LanesGrow (rounds_notes batch every from h.rounds) a c) (noted : RoundBrokeOff batch every at more b c) where
    last_one : RoundBrokeOff batch every so_far more b c
    last_one = subst (λ (q : Place). RoundBrokeOff batch every q more b c) h.to_is noted

    last_so : (at.mark ≢ End) ⊎ LanesGrow (rounds_notes batch every from h.rounds) a c → (so_far.mark ≢ End) ⊎ LanesGrow (rounds_notes batch every from h.rounds) a c
    last_so (inl apart) = inl (subst (λ (q : Place). q.mark ≢ End) h.to_is apart)
    last_so (inr grew) = inr grew

    put_times : (last : List Mark) → (more ≡ []) ⊎ (more ≡ option_to_list (cut_due every so_far last))
        → (times ++ more ≡ cut_times every from h.rounds) ⊎ (times ++ more ≡ cut_times every from (h.rounds ++ last ∷ []))
    put_times last (inl none) = inl (ap (λ (l : List ℤ). times ++ l) none ∙ append-nil times ∙ h.times_are)
    put_times last (inr due) = inr ((λ i. h.times_are i ++ due i) ∙ sym (times_more every from h.rounds last))

    pub rounds_broke : (k : PlaysRoundsFront batch every from (times ++ more) a c) × (length k.rounds ≡ length h.rounds)
    rounds_broke = (
      record {
        rounds = h.rounds;
        last = last_one.lows;
        lows = All-cons (IsOf a.lanes) last_one.lows h.rounds (last_one.count ∙ same.lanes) h.lows;
        before_end = h.before_end;
        last_begins = last_so begins;
        times_are = put_times last_one.lows last_one.times_are;
        lanes = λ s l.
            subst (λ (x : List Note). GrewFront x (round_notes batch every so_far last_one.lows s) (c.lane_notes s)) (h.lanes.each s l) (last_one.lanes.each s (is_lane a b s same l));
        parts = parts_so c last_one.parts (4 * suc (length h.rounds)) (omega arith);
        in_rounds = in_rounds_so c last_one.parts (suc (length h.rounds)) (omega arith);
      },
      refl,
    )

  -- nothing more was played: the next round broke off before its first call
  nothing : RoundBrokeOff batch every at [] b b
  nothing = record {
    lows = replicate b.lanes End;
    count = length-replicate b.lanes End;
    times_are = inl refl;
    lanes = record { each = λ s l. front_none (b.lane_notes s) (round_notes batch every at (replicate b.lanes End) s) (b.lane_notes s) refl };
    parts = none_played 4 b b (handed_self b) (record { each = λ p l. refl });
  }

  pub rounds_end : (k : PlaysRoundsFront batch every from (times ++ []) a b) × (length k.rounds ≡ length h.rounds)
  rounds_end = rounds_broke b [] (inr h.lanes) nothing

-- ---- lanes and parts, round by round
pub lanes_in_rounds : (batch : ℕ) (every : Option ℕ) (from to : Place) (times : List ℤ) (a b : Known) (h : PlaysRounds batch every from to times a b) → LanesGrowInRounds (length h.rounds) a b
lanes_in_rounds batch every from to times a b h = record {
  each = λ s l. notes_in_rounds batch every from h.rounds s (a.lane_notes s) (b.lane_notes s) (h.lanes.each s l);
}

pub broken_in_rounds : (batch : ℕ) (every : Option ℕ) (from : Place) (times : List ℤ) (a b : Known) (h : PlaysRoundsFront batch every from times a b) → LanesGrowInRounds (suc (length h.rounds)) a b
broken_in_rounds batch every from times a b h = record {
  each = λ s l.
      let whole : List Note = a.lane_notes s ++ rounds_notes batch every from h.rounds s in
      let last : List Note = round_notes batch every (place_after from h.rounds) h.last s in
      let front = h.lanes s l in
      let n = front.0 in
      let few : length (take n last) ≤ 4 = (let a = take_few n last in let b = round_few batch every (place_after from h.rounds) h.last s in omega (arith, a, b)) in
      in_rounds_more (λ (list : List Note). length list) (length h.rounds) (suc (length h.rounds)) (a.lane_notes s) whole (b.lane_notes s) (take n last) (omega arith)
      (notes_in_rounds batch every from h.rounds s (a.lane_notes s) whole refl) front.1 few;
}
  where
    take_few : (n : ℕ) (list : List Note) → length (take n list) ≤ length list
    take_few zero list = omega arith
    take_few (suc n) [] = omega arith
    take_few (suc n) (x ∷ list) = let h = take_few n list in omega (arith, h)
