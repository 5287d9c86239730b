-- The generations of a disk come to their end only where they began far up: a run has no more cuts than rounds, and those are bounded by its lanes.
use Rattle.std.proofs.Common.{◌≡◌, inl, inr, ◌≤◌, ◌<◌, ◌*◌, ◌^◌, ℕ, zero, suc, ℤ, List, [], ◌∷◌, ◌++◌, map, Option, None, Some, Ok, Err, length, length-append, refl, sym, ap, ◌∙◌, arith}
use Rattle.std.specs.Prelude.{slice_get}
use Rattle.std.specs.Option.{option_to_list}
use Rattle.std.proofs.lemmas.List.{length-map}
use Rattle.eql_values.specs.Accepted.{Reads}
use Rattle.eql_values.specs.declared.order.Mark.{Mark}
use Rattle.eql_laws.specs.Counting.{greatest_bytes, greatest_lines}
use Rattle.eql_lane.specs.Lanes.{LaneState, beginning_lane, fresh_cut as fresh_lane}
use Rattle.eql_lane.specs.Views.{LaneView}
use Rattle.eql_parts.specs.PartSteps.{PartView}
use Rattle.eql_cut.specs.declared.cut.Cut.{Cut}
use Rattle.eql_conductor.specs.Going.{RunResult}
use Rattle.eql_conductor.specs.declared.plan.RunPlan.{RunPlan}
use Rattle.eql_conductor.specs.Benches.{ComesByFeeds, Known}
use Rattle.eql_conductor.specs.Bounds.{AreSized, IsSized, held_count}
use Rattle.eql_conductor.specs.Handed.{total_to}
use Rattle.eql_conductor.specs.Lists.{known_in}
use Rattle.eql_conductor.specs.RunBounds.{IsBoundedBy, RunIsBounded, bytes_in, events_in}
use Rattle.eql_conductor.specs.RunNotes.{Place, PlaysRoundsFront, RunNotes, cut_due, cut_times, next_place, round_count, start}
use Rattle.eql_conductor.specs.Runs.{cut_time}
use Rattle.eql_conductor.proofs.Lists.{there_or}
use Rattle.eql_hub_run.specs.Beside.{IsSameBench}

-- ---- no more cuts than rounds
one_at_most : {X : Type 0} (o : Option X) → length (option_to_list o) ≤ 1
one_at_most None = omega arith
one_at_most (Some x) = omega arith

fewer_times : (every : Option ℕ) (at : Place) (rounds : List (List Mark)) → length (cut_times every at rounds) ≤ length rounds
fewer_times every at [] = omega arith
fewer_times every at (lows ∷ rounds) =
    let a = length-append (option_to_list (cut_due every at lows)) (cut_times every (next_place at lows) rounds) in
    let b = one_at_most (cut_due every at lows) in
    let c = fewer_times every (next_place at lows) rounds in
    omega (arith, a, b, c)

module _ (plan : RunPlan) (times : List ℤ) (old new : Known) where
  few_broken : (notes : PlaysRoundsFront plan.batch plan.every (start plan) times old new) → length times ≤ suc (length notes.rounds)
  few_broken notes = elim notes.times_are [
    | inl e ↦ let a = ap length e in let b = fewer_times plan.every (start plan) notes.rounds in omega (arith, a, b)
    | inr e ↦
        let a = ap length e in
        let b = fewer_times plan.every (start plan) (notes.rounds ++ notes.last ∷ []) in
        let c = length-append notes.rounds (notes.last ∷ []) in
        omega (arith, a, b, c)
  ]

  few_times : (answer : RunResult) (notes : RunNotes plan times old new answer) → length times ≤ round_count plan times old new answer notes
  few_times (Ok done) notes =
      let a = ap length notes.played.times_are in
      let b = fewer_times plan.every (start plan) notes.played.rounds in
      omega (arith, a, b)
  few_times (Err by) notes = few_broken notes

-- ---- no more rounds than the lanes allow
total_bytes : (n : ℕ) (f : ℕ → ℕ) → ((s : ℕ) → s < n → f s ≤ greatest_bytes) → total_to n f ≤ greatest_bytes * n
total_bytes zero f each = omega arith
total_bytes (suc n) f each =
    let a = total_bytes n f (λ s l. each s (omega (arith, l))) in
    let b = each n (omega arith) in
    omega (arith, a, b)

total_lines : (n : ℕ) (f : ℕ → ℕ) → ((s : ℕ) → s < n → f s ≤ greatest_lines) → total_to n f ≤ greatest_lines * n
total_lines zero f each = omega arith
total_lines (suc n) f each =
    let a = total_lines n f (λ s l. each s (omega (arith, l))) in
    let b = each n (omega arith) in
    omega (arith, a, b)

abbrev state_in : {S L : Type 0} → Option (LaneView S L) → LaneState
state_in None = beginning_lane fresh_lane 0
state_in (Some lane) = lane.state

module _ {S L : Type 0} (read_of : L → Reads) (text : ℕ → Option (List ℕ)) (olds news : List (LaneView S L)) (parts : List PartView) (first last : Known)
    (same : IsSameBench (known_in read_of text olds parts) first) (as_many : last.lanes ≡ first.lanes)
    (left : (s : ℕ) (new : LaneView S L) → slice_get news s ≡ Some new → (x : LaneState) × last.lane s x × ComesByFeeds (first.set s) x new.state)
    (many : length news ≡ length olds) (few : length olds ≤ 256)
    (sizes : AreSized (known_in read_of text olds parts)) where
  -- the states with which the lanes began, and such as they might have at the conductor's end
  abbrev began : ℕ → LaneState
  began s = state_in (slice_get olds s)

  abbrev left_in : (s : ℕ) (o : Option (LaneView S L)) → slice_get news s ≡ o → LaneState
  left_in s None e = beginning_lane fresh_lane 0
  left_in s (Some lane) e = (left s lane e).0

  abbrev now : ℕ → LaneState
  now s = left_in s (slice_get news s) refl

  was_left : (s : ℕ) (o : Option (LaneView S L)) (e : slice_get news s ≡ o) → s < length news → last.lane s (left_in s o e)
  was_left s None e l = let one = there_or news s l in let no : Some one.0 ≡ None = sym one.1 ∙ e in absurd cc
  was_left s (Some lane) e l = (left s lane e).1

  in_olds : (s : ℕ) → s < first.lanes → s < length olds
  in_olds s l = let e = same.lanes in omega (arith, l, e)

  has_now : (s : ℕ) → s < first.lanes → last.lane s (now s)
  has_now s l = was_left s (slice_get news s) refl (let m = in_olds s l in omega (arith, m, many))

  held_to : (s : ℕ) → s < first.lanes → held_count (began s) ≤ greatest_lines
  held_to s l =
      let one = there_or olds s (in_olds s l) in
      let sized : IsSized one.0.state = sizes.each s (in_olds s l) one.0.state (record { lane = one.0; there = one.1; state_is = refl }) in
      let a = sized.few in
      let b = sized.lines in
      let c = ap (λ (o : Option (LaneView S L)). held_count (state_in o)) one.1 in
      omega (arith, a, b, c)

  taken_to : (rounds : ℕ) → RunIsBounded rounds first last → (s : ℕ) → s < first.lanes → (now s).taken ≤ greatest_bytes
  taken_to rounds bounded s l = (bounded.sized.each s (omega (arith, l, as_many)) (now s) (has_now s l)).bytes

  bounded_by : (rounds : ℕ) → RunIsBounded rounds first last → IsBoundedBy rounds first last (bytes_in first.lanes now) (events_in first.lanes began)
  bounded_by rounds bounded = bounded.bound began now (record {
    from = λ s l x has. let was = same.lane_from s x has in (0, was.state_is ∙ sym (ap state_in was.there));
    to = has_now;
  })

  pub few_rounds : (rounds : ℕ) → RunIsBounded rounds first last → rounds ≤ 2 ^ 51
  few_rounds rounds bounded =
      let a = (bounded_by rounds bounded).rounds_to in
      let b = total_bytes first.lanes (λ s. (now s).taken) (taken_to rounds bounded) in
      let c = total_lines first.lanes (λ s. held_count (began s)) held_to in
      let e = same.lanes in
      omega (arith, a, b, c, e, few)

  pub few_cuts : (plan : RunPlan) (cuts : List Cut) (answer : RunResult) (notes : RunNotes plan (map cut_time cuts) first last answer) → RunIsBounded (round_count plan (map cut_time cuts) first last answer notes) first last
      → length cuts ≤ 2 ^ 51
  few_cuts plan cuts answer notes bounded =
      let a = few_times plan (map cut_time cuts) first last answer notes in
      let b = few_rounds (round_count plan (map cut_time cuts) first last answer notes) bounded in
      let c = length-map cuts cut_time in
      omega (arith, a, b, c)
