-- What bounds a run, by what its lanes took and began with.
use Rattle.std.proofs.Common.{◌≡◌, ◌+◌, ◌*◌, ◌<◌, ◌≤◌, ℕ, zero, suc, length, ap, ◌∙◌, arith, add-one}
use Rattle.eql_laws.proofs.PieceLemmas.{routed_pieces}
use Rattle.eql_lane.specs.Lanes.{LaneState}
use Rattle.eql_parts.specs.Spreading.{part_number}
use Rattle.eql_conductor.specs.Benches.{Known, StaysSame}
use Rattle.eql_conductor.specs.Bounds.{AreSized, RoundsSpend, Spends, held_count, sum_from}
use Rattle.eql_conductor.specs.Handed.{AllHandOut, total_to}
use Rattle.eql_conductor.specs.RoundNotes.{LanesGrowInRounds, PartsGrowInRounds, PlaysParts, turns_in}
use Rattle.eql_conductor.specs.RunBounds.{LaneStates, RunIsBounded, bytes_in, events_in}
use Rattle.eql_conductor.proofs.BoundsLanes.{fed_gains}
use Rattle.eql_conductor.proofs.BoundsSpent.{steps_to}
use Rattle.eql_conductor.proofs.BoundsSteps.{gains_on}
use Rattle.eql_conductor.proofs.Handing.{fed_hands}
use Rattle.eql_conductor.proofs.PartNotes.{turns_on}
use Rattle.eql_conductor.proofs.Resting.{is_lane}

-- ---- sums
sum_total : (f : ℕ → ℕ) (s n : ℕ) → sum_from f s n + total_to s f ≡ total_to (s + n) f
sum_total f s zero =
    let e : s ≡ s + zero = omega arith in
    let same : total_to s f ≡ total_to (s + zero) f = ap (λ (k : ℕ). total_to k f) e in
    omega (arith, same)
sum_total f s (suc n) =
    let h = sum_total f (s + 1) n in
    let next : total_to (s + 1) f ≡ total_to s f + f s = ap (λ (k : ℕ). total_to k f) (add-one s) in
    let same : total_to (s + 1 + n) f ≡ total_to (s + suc n) f = (let e : s + 1 + n ≡ s + suc n = omega arith in ap (λ (k : ℕ). total_to k f) e) in
    omega (arith, h, next, same)

steps_total : (n : ℕ) (f t h : ℕ → ℕ) → ((s : ℕ) → s < n → f s ≤ 3 * t s + h s) → total_to n f ≤ 3 * total_to n t + total_to n h
steps_total zero f t h le = omega arith
steps_total (suc n) f t h le =
    let a = steps_total n f t h (λ s l. le s (omega (arith, l))) in let b = le n (omega arith) in omega (arith, a, b)

events_total : (n : ℕ) (f t h : ℕ → ℕ) → ((s : ℕ) → s < n → f s ≤ t s + h s) → total_to n f ≤ total_to n t + total_to n h
events_total zero f t h le = omega arith
events_total (suc n) f t h le =
    let a = events_total n f t h (λ s l. le s (omega (arith, l))) in let b = le n (omega arith) in omega (arith, a, b)

-- ---- by states before and after
module _ (began now : ℕ → LaneState) (a b : Known) (states : LaneStates began now a b) where
  abbrev bytes : ℕ
  bytes = bytes_in a.lanes now

  abbrev events : ℕ
  events = events_in a.lanes began

  steps_by : (n : ℕ) → Spends n a b → n ≤ 3 * bytes + events
  steps_by n spent =
      let each : (s : ℕ) → s < a.lanes → spent.steps s ≤ 3 * (now s).taken + held_count (began s) = (λ s l.
      let x = spent.each s l (now s) (states.to s l) in
      let gains = gains_on 0 (spent.steps s) (began s) x.0 (now s) (fed_gains (a.set s) (began s) x.0 (states.from s l x.0 x.1)) x.2 in
      steps_to (spent.steps s) (began s) (now s) (omega (arith, gains))) in
      let all = steps_total a.lanes spent.steps (λ s. (now s).taken) (λ s. held_count (began s)) each in
      let total = spent.total in
      let sum = sum_total spent.steps 0 a.lanes in
      let from : total_to (0 + a.lanes) spent.steps ≡ total_to a.lanes spent.steps = (let e : 0 + a.lanes ≡ a.lanes = omega arith in ap (λ (k : ℕ). total_to k spent.steps) e) in
      omega (arith, all, total, sum, from)

  handed_by : (n : ℕ) → StaysSame a b → AreSized b → AllHandOut n a b → n ≤ bytes + events
  handed_by n same sized h =
      let each : (s : ℕ) → s < a.lanes → h.counts s ≤ (now s).taken + held_count (began s) = (λ s l.
      let x = h.each.each s l (now s) (states.to s l) in
      let first = (fed_hands (a.set s) (began s) x.0 (states.from s l x.0 x.1)).most in
      let then = x.2.most in
      let read = (sized.each s (is_lane a b s same l) (now s) (states.to s l)).read in
      omega (arith, first, then, read)) in
      let all = events_total a.lanes h.counts (λ s. (now s).taken) (λ s. held_count (began s)) each in
      let total = h.total in
      omega (arith, all, total)

  turns_by : (others : ℕ) → StaysSame a b → AreSized b → PlaysParts others a b → (p : ℕ) → p < a.parts → turns_in (b.part_notes p) ≤ turns_in (a.part_notes p) + (bytes + events)
  turns_by others same sized h p l =
      let one = h.parts.each p l in
      let grew : turns_in (b.part_notes p) ≡ turns_in (a.part_notes p) + turns_in one.more = ap turns_in one.grew ∙ turns_on (a.part_notes p) one.more in
      let few = one.turns_to in
      let fewer = (routed_pieces part_number p).fewer h.items in
      let all = handed_by (length h.items) same sized h.handed in
      omega (arith, grew, few, fewer, all)

-- so many rounds, of which all but the last two took a step
pub run_bounded : (rounds n others : ℕ) (a b : Known) → rounds ≤ n + 2 → StaysSame a b → RoundsSpend n a b → AreSized b → PlaysParts others a b
    → LanesGrowInRounds rounds a b → PartsGrowInRounds rounds a b → RunIsBounded rounds a b
run_bounded rounds n others a b few same spent sized played lanes parts = record {
  bound = λ began now states. record {
    rounds_to = let steps = steps_by began now a b states n spent.spent in omega (arith, few, steps);
    turns_to = turns_by began now a b states others same sized played;
  };
  lanes = lanes;
  parts = parts;
  sized = sized;
}
