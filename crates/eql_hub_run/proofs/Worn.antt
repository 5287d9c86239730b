-- No lock of a run is worn: the run has far too few entries on it.
use Rattle.std.proofs.Common.{◌≡◌, ◌⊎◌, inl, inr, ◌≤◌, ◌<◌, ◌+◌, ◌*◌, ◌^◌, ℕ, zero, suc, Bool, true, false, cond, List, [], ◌∷◌, ◌++◌, Some, length, length-append, refl, sym, ap, subst, arith}
use Rattle.std.specs.Prelude.{All, filter, not, slice_get}
use Rattle.std.specs.List.{sum_by}
use Rattle.std.proofs.lemmas.List.Elements.{All-head, All-tail}
use Rattle.std.proofs.lemmas.List.Sums.{sum_by-cons}
use Rattle.eql_laws.specs.Apart.{joined_lists}
use Rattle.eql_laws.specs.Counting.{greatest_bytes, greatest_lines}
use Rattle.eql_lane.specs.Lanes.{LaneState, beginning_lane, fresh_cut}
use Rattle.eql_turn_lock.specs.declared.view.Ended.{Ended}
use Rattle.eql_turn_lock.specs.declared.view.View.{View}
use Rattle.eql_turn_lock.specs.Calls.{Closes}
use Rattle.eql_conductor.specs.declared.note.Note.{Note}
use Rattle.eql_conductor.specs.Benches.{ComesByFeeds, Known}
use Rattle.eql_conductor.specs.Bounds.{AreSized, held_count}
use Rattle.eql_conductor.specs.Handed.{total_to}
use Rattle.eql_conductor.specs.RoundNotes.{GrewInRounds, is_turn, others_in, turns_in}
use Rattle.eql_conductor.specs.RunBounds.{IsBoundedBy, RunIsBounded, bytes_in, events_in}
use Rattle.eql_conductor.proofs.Resting.{fed_self}
use Rattle.eql_lock_bench.specs.Locked.{worn_in, worn_of}
use Rattle.eql_lock_bench.proofs.Counted.{none_worn}

-- ---- notes of a run
pub below_or : (a b : ℕ) → (a < b) ⊎ (b ≤ a)
below_or a zero = inr (omega arith)
below_or zero (suc b) = inl (omega arith)
below_or (suc a) (suc b) = elim (below_or a b) [
  | inl l ↦ inl (omega (arith, l))
  | inr l ↦ inr (omega (arith, l))
]

kept_one : (b : Bool) (n : Note) (xs : List Note) (k : ℕ) → length (cond b (n ∷ xs) xs) + k ≡ (length xs + k) + cond b 1 0
kept_one true n xs k = omega arith
kept_one false n xs k = omega arith

filter_both : (p : Note → Bool) (xs ys : List Note) → length (filter p (xs ++ ys)) ≡ length (filter p xs) + length (filter p ys)
filter_both p [] ys = omega arith
filter_both p (x ∷ xs) ys =
    let a = filter_both p xs ys in
    let b = kept_one (p x) x (filter p (xs ++ ys)) 0 in
    let c = kept_one (p x) x (filter p xs) (length (filter p ys)) in
    omega (arith, a, b, c)

parted_one : (b : Bool) (n : Note) (is not_is : List Note) → length (cond b (n ∷ is) is) + length (cond (not b) (n ∷ not_is) not_is) ≡ suc (length is + length not_is)
parted_one true n is not_is = omega arith
parted_one false n is not_is = omega arith

both_kinds : (notes : List Note) → turns_in notes + others_in notes ≡ length notes
both_kinds [] = refl
both_kinds (n ∷ notes) = let a = both_kinds notes in let b = parted_one (is_turn n) n (filter is_turn notes) (filter (λ (m : Note). not (is_turn m)) notes) in omega (arith, a, b)

-- four in each round
lengths_to : (lists : List (List Note)) → All (λ (list : List Note). length list ≤ 4) lists → length (joined_lists lists) ≤ 4 * length lists
lengths_to [] four = omega arith
lengths_to (list ∷ lists) four =
    let a = lengths_to lists (All-tail (λ (l : List Note). length l ≤ 4) list lists four) in
    let b = All-head (λ (l : List Note). length l ≤ 4) list lists four in
    let c = length-append list (joined_lists lists) in
    omega (arith, a, b, c)

others_to : (lists : List (List Note)) → All (λ (list : List Note). others_in list ≤ 4) lists → others_in (joined_lists lists) ≤ 4 * length lists
others_to [] four = omega arith
others_to (list ∷ lists) four =
    let a = others_to lists (All-tail (λ (l : List Note). others_in l ≤ 4) list lists four) in
    let b = All-head (λ (l : List Note). others_in l ≤ 4) list lists four in
    let c = filter_both (λ (m : Note). not (is_turn m)) list (joined_lists lists) in
    omega (arith, a, b, c)

pub lane_grew : (rounds : ℕ) (new : List Note) → GrewInRounds (λ (list : List Note). length list) rounds [] new → length new ≤ 4 * rounds
lane_grew rounds new grew =
    let a = ap length grew.grew in let b = lengths_to grew.lists grew.four in let c = grew.as_many in
    omega (arith, a, b, c)

pub part_grew : (rounds : ℕ) (new : List Note) → GrewInRounds others_in rounds [] new → others_in new ≤ 4 * rounds
part_grew rounds new grew =
    let a = ap others_in grew.grew in let b = others_to grew.lists grew.four in let c = grew.as_many in
    omega (arith, a, b, c)

-- ---- the bytes and events of a run
total_under : (n most : ℕ) (f : ℕ → ℕ) → ((s : ℕ) → s < n → f s ≤ most) → total_to n f ≤ most * n
total_under zero most f each = omega arith
total_under (suc n) most f each =
    let a = total_under n most f (λ s l. each s (omega (arith, l))) in
    let b = each n (omega arith) in
    omega (arith, a, b)

-- a run whose lanes might be in one state each as it began
pub record BeganWith (began : ℕ → LaneState) (old : Known) : Type 0 where
  pub is : (s : ℕ) → s < old.lanes → (x : LaneState) → old.lane s x → x ≡ began s
  pub was : (s : ℕ) → s < old.lanes → old.lane s (began s)
  pub lane_notes : (s : ℕ) → old.lane_notes s ≡ []
  pub part_notes : (p : ℕ) → old.part_notes p ≡ []

-- few notes of each lane and each part
pub record FewNotes (new : Known) : Type 0 where
  pub lanes : (s : ℕ) → s < new.lanes → length (new.lane_notes s) ≤ 2 ^ 54
  pub parts : (p : ℕ) → p < new.parts → length (new.part_notes p) ≤ 2 ^ 54

module _ (old new : Known) (began : ℕ → LaneState) (begins : BeganWith began old) (sized : AreSized old) (few : old.lanes ≤ 256) (lanes : new.lanes ≡ old.lanes) (parts : new.parts ≡ old.parts)
    (some : (s : ℕ) → s < old.lanes → (x : LaneState) × new.lane s x) (rounds : ℕ) (bounded : RunIsBounded rounds old new) where
  abbrev now_by : (s : ℕ) → (s < old.lanes) ⊎ (old.lanes ≤ s) → LaneState
  now_by s (inl l) = (some s l).0
  now_by s (inr l) = beginning_lane fresh_cut 0

  abbrev now : ℕ → LaneState
  now s = now_by s (below_or s old.lanes)

  now_is : (s : ℕ) → s < old.lanes → new.lane s (now s)
  now_is s l = by (below_or s old.lanes)
    where
      by : (d : (s < old.lanes) ⊎ (old.lanes ≤ s)) → new.lane s (now_by s d)
      by (inl k) = (some s k).1
      by (inr k) = absurd (omega (arith, k, l))

  bounds : IsBoundedBy rounds old new (bytes_in old.lanes now) (events_in old.lanes began)
  bounds = bounded.bound began now (record {
    from = λ s l x has. subst (ComesByFeeds (old.set s) (began s)) (sym (begins.is s l x has)) (fed_self (old.set s) (began s));
    to = now_is;
  })

  bytes_to : bytes_in old.lanes now ≤ greatest_bytes * old.lanes
  bytes_to = total_under old.lanes greatest_bytes (λ s. (now s).taken) (λ s l. (bounded.sized.each s (omega (arith, l, lanes)) (now s) (now_is s l)).bytes)

  events_to : events_in old.lanes began ≤ greatest_lines * old.lanes
  events_to = total_under old.lanes greatest_lines (λ s. held_count (began s)) (λ s l.
      let one = sized.each s l (began s) (begins.was s l) in
      let a = one.few in
      let b = one.lines in
      omega (arith, a, b))

  few_rounds : rounds ≤ 2 ^ 51
  few_rounds = let a = bounds.rounds_to in let b = bytes_to in let c = events_to in omega (arith, a, b, c, few)

  pub few_notes : FewNotes new
  few_notes = record {
    lanes = λ s l.
        let grew = subst (λ (ns : List Note). GrewInRounds (λ (list : List Note). length list) rounds ns (new.lane_notes s)) (begins.lane_notes s)
        (bounded.lanes.each s (omega (arith, l, lanes))) in
        let a = lane_grew rounds (new.lane_notes s) grew in
        let b = few_rounds in
        omega (arith, a, b);
    parts = λ p l.
        let grew = subst (λ (ns : List Note). GrewInRounds others_in rounds ns (new.part_notes p)) (begins.part_notes p) (bounded.parts.each p (omega (arith, l, parts))) in
        let a = part_grew rounds (new.part_notes p) grew in
        let b = few_rounds in
        let c = bounds.turns_to p (omega (arith, l, parts)) in
        let d = ap turns_in (begins.part_notes p) in
        let e = both_kinds (new.part_notes p) in
        let f = bytes_to in
        let h = events_to in
        omega (arith, a, b, c, d, e, f, h, few);
  }

-- ---- words
module _ {T O R : Type 0} (step_of : T → O → R → T → Type 0) (is_open : O → Bool) where
  kept_to : (ended : List (Ended O R)) → All (λ (e : Ended O R). length e.mine ≤ 2 ^ 40) ended → sum_by (λ (e : Ended O R). length e.mine) ended ≤ 2 ^ 40 * length ended
  kept_to [] few = omega arith
  kept_to (e ∷ es) few =
      let a = kept_to es (All-tail (λ (d : Ended O R). length d.mine ≤ 2 ^ 40) e es few) in
      let b = All-head (λ (d : Ended O R). length d.mine ≤ 2 ^ 40) e es few in
      let c = sum_by-cons (λ (d : Ended O R). length d.mine) e es in
      omega (arith, a, b, c)

  module _ (w : View T O R) (value : T) (closes : Closes step_of is_open w value) (own : length w.mine ≤ 2 ^ 54) (many : length w.ended ≤ 65536)
      (few : All (λ (e : Ended O R). length e.mine ≤ 2 ^ 40) w.ended) where
    log_to : 2 * length closes.log + 1 < 2 ^ 63
    log_to = let a = closes.counted in let b = kept_to w.ended few in omega (arith, a, b, own, many)

    small : (words : List ℕ) → All (λ n. n ≤ 2 * length closes.log + 1) words → All (λ n. n < 2 ^ 63) words
    small words below k d l = let a = below k d l in let b = log_to in omega (arith, a, b)

    pub never_worn : worn_of w ≡ 0
    never_worn = none_worn w.looked (small w.looked closes.looked_below)

    pub words_below : All (λ (n : ℕ). n < 2 ^ 63) w.looked
    words_below = small w.looked closes.looked_below

    pub kept_below : All (λ (e : Ended O R). All (λ (n : ℕ). n < 2 ^ 63) e.looked) w.ended
    kept_below k d l = small _ (closes.ended_below k d l)

  none_in : (views : List (View T O R)) → ((k : ℕ) (v : View T O R) → slice_get views k ≡ Some v → worn_of v ≡ 0) → worn_in views ≡ 0
  none_in [] each = refl
  none_in (v ∷ vs) each =
      let a = each 0 v refl in
      let b = none_in vs (λ k u there. each (suc k) u there) in
      let c = sum_by-cons worn_of v vs in
      omega (arith, a, b, c)

  pub worn_none : (views : List (View T O R)) → ((k : ℕ) (v : View T O R) → slice_get views k ≡ Some v → worn_of v ≡ 0) → worn_in views ≡ 0
  worn_none views each = none_in views each
