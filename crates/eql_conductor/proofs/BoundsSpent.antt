-- Rounds are spent by steps of lanes, and steps by bytes and events.
use Rattle.std.proofs.Common.{◌≡◌, ◌≢◌, ◌⊎◌, inl, inr, ◌+◌, ◌*◌, ◌<◌, ◌≤◌, ◌^◌, ℕ, zero, suc, Option, None, Some, refl, sym, ap, ◌∙◌, arith, subst}
use Rattle.eql_values.specs.declared.order.Mark.{Mark}
use Rattle.eql_values.specs.declared.order.Mark.TheVariants.{Start, At, End}
use Rattle.eql_laws.specs.Lateness.{IsAtMost}
use Rattle.eql_lane.specs.Lanes.{Setting, LaneState}
use Rattle.eql_conductor.specs.LaneCalls.{Holds}
use Rattle.eql_conductor.specs.Benches.{Known, StaysSame}
use Rattle.eql_conductor.specs.Bounds.{FeedsAll, AllGaveOut, AreSized, Gains, GaveOut, HadLow, HaveStates, IsSomeLow, RoundSpends, RoundsSpend, Spends, held_count, lane_steps, mark_after, sum_from}
use Rattle.eql_conductor.specs.Going.{LanesGo}
use Rattle.eql_conductor.specs.LaneRounds.{LanesAreAt}
use Rattle.eql_conductor.proofs.BoundsLanes.{step_of_rest, step_of_take}
use Rattle.eql_conductor.proofs.BoundsSteps.{gains_on}
use Rattle.eql_conductor.proofs.Resting.{is_lane, same_or}

-- ---- sums of steps
abbrev none : ℕ → ℕ
none s = 0

sum_none : (s n : ℕ) → sum_from none s n ≡ 0
sum_none s zero = refl
sum_none s (suc n) = let h = sum_none (s + 1) n in omega (arith, h)

both_sums : (f g : ℕ → ℕ) (s n : ℕ) → sum_from (λ k. f k + g k) s n ≡ sum_from f s n + sum_from g s n
both_sums f g s zero = refl
both_sums f g s (suc n) = let h = both_sums f g (s + 1) n in omega (arith, h)

-- one step of one lane
abbrev one_if : {s k : ℕ} → (k ≡ s) ⊎ (k ≢ s) → ℕ
one_if (inl e) = 1
one_if (inr apart) = 0

abbrev one : ℕ → ℕ → ℕ
one s k = one_if (same_or k s)

one_here : (s k : ℕ) (d : (k ≡ s) ⊎ (k ≢ s)) → k ≡ s → one_if d ≡ 1
one_here s k (inl e) h = refl
one_here s k (inr apart) h = absurd (apart h)

one_else : (s k : ℕ) (d : (k ≡ s) ⊎ (k ≢ s)) → k ≢ s → one_if d ≡ 0
one_else s k (inl e) h = absurd (h e)
one_else s k (inr apart) h = refl

sum_past : (s k n : ℕ) → s < k → sum_from (one s) k n ≡ 0
sum_past s k zero l = refl
sum_past s k (suc n) l =
    let a : one s k ≡ 0 = one_else s k (same_or k s) (λ e. omega (arith, e, l)) in
    let b = sum_past s (k + 1) n (omega (arith, l)) in
    omega (arith, a, b)

sum_one : (s k n : ℕ) → k ≤ s → s < k + n → sum_from (one s) k n ≡ 1
sum_one s k zero le l = absurd (omega (arith, le, l))
sum_one s k (suc n) le l = by (same_or k s) (λ apart. sum_one s (k + 1) n (omega (arith, le, apart)) (omega (arith, l)))
  where
    by : (k ≡ s) ⊎ (k ≢ s) → (k ≢ s → sum_from (one s) (k + 1) n ≡ 1) → sum_from (one s) k (suc n) ≡ 1
    by (inl e) rest =
        let a : one s k ≡ 1 = one_here s k (same_or k s) e in
        let b = sum_past s (k + 1) n (omega (arith, e)) in
        omega (arith, a, b)
    by (inr apart) rest =
        let a : one s k ≡ 0 = one_else s k (same_or k s) apart in
        let b = rest apart in
        omega (arith, a, b)

-- ---- what is spent goes on
pub spent_none : (a b : Known) → LanesGo a b → Spends 0 a b
spent_none a b go = record {
  steps = none;
  total = sum_none 0 a.lanes;
  each = λ s l y here. let x = go.each s l y here in (x.0, x.1, x.2.gains);
}

pub spent_on : (n m : ℕ) (a b c : Known) → StaysSame a b → Spends n a b → Spends m b c → Spends (n + m) a c
spent_on n m a b c same h k = record {
  steps = λ s. h.steps s + k.steps s;
  total =
      let l : sum_from k.steps 0 a.lanes ≡ m = ap (λ (i : ℕ). sum_from k.steps 0 i) (sym same.lanes) ∙ k.total in
      let e = h.total in
      both_sums h.steps k.steps 0 a.lanes ∙ omega (arith, l, e);
  each = λ s l y here.
      let z = k.each s (is_lane a b s same l) y here in
      let x = h.each s l z.0 z.1 in
      (x.0, x.1, gains_on (h.steps s) (k.steps s) x.0 z.0 y x.2 z.2);
}

-- one lane went a step, and no other was taken back
spent_one : (which : ℕ) (a b : Known) → which < a.lanes → LanesGo a b → ((y : LaneState) → b.lane which y → (x : LaneState) × a.lane which x × Gains 1 x y) → Spends 1 a b
spent_one which a b l go step = record {
  steps = one which;
  total = sum_one which 0 a.lanes (omega arith) (omega (arith, l));
  each = λ s here. by s here (same_or s which);
}
  where
    by : (s : ℕ) → s < a.lanes → (d : (s ≡ which) ⊎ (s ≢ which)) → (y : LaneState) → b.lane s y → (x : LaneState) × a.lane s x × Gains (one_if d) x y
    by s below (inl e) = subst (λ (k : ℕ). (y : LaneState) → b.lane k y → (x : LaneState) × a.lane k x × Gains 1 x y) (sym e) step
    by s below (inr apart) = λ y here. let x = go.each s below y here in (x.0, x.1, x.2.gains)

-- ---- a round
pub have_states : (a b : Known) → FeedsAll a b → HaveStates a
have_states a b fed = record { each = λ s l. (fed.each s l).some }

end_last : (mark last : Mark) → mark ≡ End → IsAtMost mark last → last ≡ End
end_last Start last e le = cc
end_last (At t) last e le = cc
end_last End Start e le = cc
end_last End (At t) e le = cc
end_last End End e le = refl

-- the lanes were fed and looked at
module _ (last mark : Mark) (a b c : Known) (same : StaysSame a b) (fed : FeedsAll a b) (low : IsSomeLow mark b c) where
  rest_by : LanesGo a c → StaysSame b c → LanesAreAt None last c → IsAtMost mark last → last ≢ End → IsSomeLow mark b c → Spends 1 a c
  rest_by go later at le before_end (inl e) = absurd (before_end (end_last mark last e le))
  rest_by go later at le before_end (inr (s, had)) =
      let l : s < a.lanes = subst (λ (n : ℕ). s < n) same.lanes had.lane in
      spent_one s a c l go (λ y here.
      let m = had.each y here in
      let x = (fed.each s l).each m.0 m.1 in
      let had_at : HadLow (a.set s) mark m.0 y = subst (λ (set : Setting). HadLow set mark m.0 y) (same.set s l) m.2 in
      let holds = (at.each s (is_lane b c s later had.lane) y here).holds in
      let set_is : c.set s ≡ a.set s = later.set s had.lane ∙ same.set s l in
      (x.0, x.1, step_of_rest (a.set s) mark x.0 m.0 y x.2 had_at (λ e. before_end (end_last mark last e le)) last (subst (λ (set : Setting). Holds set last y) set_is holds) le))

  -- the round doesn't count
  pub rest_spends : LanesGo a c → StaysSame b c → LanesAreAt None last c → IsAtMost mark last → RoundSpends last a c None
  rest_spends go later at le = record { some = have_states a b fed; step = λ before_end. rest_by go later at le before_end low }

  take_by : (d : Known) → LanesGo a d → StaysSame b c → AllGaveOut mark c d → mark ≢ End → IsSomeLow mark b c → Spends 1 a d
  take_by d go later gave before_end (inl e) = absurd (before_end e)
  take_by d go later gave before_end (inr (s, had)) =
      let l : s < a.lanes = subst (λ (n : ℕ). s < n) same.lanes had.lane in
      spent_one s a d l go (λ y here.
      let z = (gave.each s (is_lane b c s later had.lane)).each y here in
      let m = had.each z.0 z.1 in
      let x = (fed.each s l).each m.0 m.1 in
      let had_at : HadLow (a.set s) mark m.0 z.0 = subst (λ (set : Setting). HadLow set mark m.0 z.0) (same.set s l) m.2 in
      let gave_at : GaveOut (a.set s) mark z.0 y = subst (λ (set : Setting). GaveOut set mark z.0 y) (later.set s had.lane ∙ same.set s l) z.2 in
      (x.0, x.1, step_of_take (a.set s) mark x.0 m.0 z.0 x.2 had_at before_end y gave_at))

  -- the round counts, and what lies below the mark was taken
  pub take_spends : (d : Known) → LanesGo a d → StaysSame b c → AllGaveOut mark c d → RoundSpends last a d (Some mark)
  take_spends d go later gave = record { some = have_states a b fed; step = λ before_end. take_by d go later gave before_end low }

-- ---- the bound
-- the steps of a lane are at most three for each byte that was taken, and one for each event that it held at first
pub steps_to : (k : ℕ) (x y : LaneState) → Gains k x y → k ≤ 3 * y.taken + held_count x
steps_to k x y h = omega (arith, h)

module _ (n : ℕ) (a b : Known) (spent : Spends n a b) where
  steps_few : (s : ℕ) → s < a.lanes → LanesGo a b → AreSized a → HaveStates b → b.lanes ≡ a.lanes → spent.steps s ≤ lane_steps
  steps_few s l go sized states same =
      let y = states.each s (subst (λ (i : ℕ). s < i) (sym same) l) in
      let x = spent.each s l y.0 y.1 in
      let w = go.each s l y.0 y.1 in
      let k = steps_to (spent.steps s) x.0 y.0 x.2 in
      let bytes = (w.2.sized (sized.each s l w.0 w.1)).bytes in
      let one_sized = sized.each s l x.0 x.1 in
      let few = one_sized.few in
      let lines = one_sized.lines in
      omega (arith, k, bytes, few, lines)

  sum_few : LanesGo a b → AreSized a → HaveStates b → (s k : ℕ) → s + k ≤ a.lanes → sum_from spent.steps s k ≤ k * lane_steps
  sum_few go sized states s zero le = omega arith
  sum_few go sized states s (suc k) le =
      let h = sum_few go sized states (s + 1) k (omega (arith, le)) in
      let o = steps_few s (omega (arith, le)) go sized states go.same.lanes in
      omega (arith, h, o)

  -- where each lane has some state
  pub spent_few : LanesGo a b → AreSized a → HaveStates b → n ≤ a.lanes * lane_steps
  spent_few go sized states = let h = sum_few go sized states 0 a.lanes (omega arith) in let e = spent.total in omega (arith, h, e)

-- a call behind the round, as that of a cut, takes none of that back
pub round_stays : (last : Mark) (counted : Option Mark) (a b c : Known) → StaysSame a b → LanesGo b c → RoundSpends last a b counted → RoundSpends last a c counted
round_stays last counted a b c same go h = record {
  some = h.some;
  step = λ before_end. subst (λ (k : ℕ). Spends k a c) (omega arith) (spent_on 1 0 a b c same (h.step before_end) (spent_none b c go));
}

-- ---- round after round
pub rounds_none : (a : Known) → LanesGo a a → RoundsSpend 0 a a
rounds_none a go = record { spent = spent_none a a go; few = omega arith }

-- one more round, after which the mark isn't the end
pub rounds_more : (n : ℕ) (last : Mark) (counted : Option Mark) (a b c : Known) → LanesGo a b → AreSized a → RoundsSpend n a b → RoundSpends last b c counted
    → mark_after last counted ≢ End → RoundsSpend (n + 1) a c
rounds_more n last counted a b c go sized h round before_end = record {
  spent = spent_on n 1 a b c go.same h.spent (round.step before_end);
  few = let k = spent_few n a b h.spent go sized round.some in omega (arith, k);
}

-- a call that feeds no more than others do, or hands out: what was spent stays so
pub rounds_stay : (n : ℕ) (a b c : Known) → StaysSame a b → LanesGo b c → RoundsSpend n a b → RoundsSpend n a c
rounds_stay n a b c same go h = record {
  spent = subst (λ (k : ℕ). Spends k a c) (omega arith) (spent_on n 0 a b c same h.spent (spent_none b c go));
  few = h.few;
}

-- a count of them with 128 bits has room over all lanes that a number of 32 bits can name
pub rounds_fit : (n : ℕ) (a b : Known) → a.lanes < 2 ^ 32 → RoundsSpend n a b → n < 2 ^ 74
rounds_fit n a b lanes h = let few = h.few in omega (arith, few, lanes)
