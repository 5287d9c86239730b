-- How far a search may move on, and what of a text is known before it.
use Rattle.std.proofs.Common.{◌≡◌, ℕ, ◌+◌, ◌*◌, ◌-◌, ◌/◌, ◌<◌, ◌≤◌, Bool, true, false, cond, List, [], ◌∷◌, ◌++◌, Option, Some, None, length, take, drop, ltb, refl, sym, ap, ◌∙◌, arith, inl, inr, subst}
use Rattle.std.specs.Option.{is_some, unwrap_or}
use Rattle.std.proofs.lemmas.List.{take-take, drop-take, drop-drop}
use Rattle.std.proofs.lemmas.Bool.{cases_lt}
use Rattle.std.proofs.lemmas.Bool.Decides.{nat_tests}
use Rattle.eql_text.specs.declared.repeats.Run.{Run}
use Rattle.eql_text.specs.Repeats.{Repeats, holds, period_at, IsRun, AreRuns, least_move, IsKnown, move_by, other_move, Meets, Stops, kept_count, kept_of, IsNoted}

-- ---- lists that meet

pub fewer : (t : List ℕ) (m k i : ℕ) → k ≤ m → Repeats t m i → Repeats t k i
fewer t m k i h r =
    let less : k - i ≤ m - i = omega arith in
    sym (take-take (k - i) (m - i) (drop i t) less) ∙ ap (take (k - i)) r ∙ take-take (k - i) (m - i) t less

pub meets_shifted : (s t : List ℕ) (m i : ℕ) → i ≤ m → take m s ≡ take m t → take (m - i) (drop i s) ≡ take (m - i) (drop i t)
meets_shifted s t m i h e =
    let whole : i + (m - i) ≡ m = omega arith in
    sym (drop-take i (m - i) s) ∙ ap (λ k. drop i (take k s)) whole ∙ ap (drop i) e
    ∙ ap (λ k. drop i (take k t)) (sym whole) ∙ drop-take i (m - i) t

-- what meets t at a place and again i behind it repeats itself
pub met_twice : (s t : List ℕ) (m i : ℕ) → i ≤ m → take m s ≡ take m t → take (m - i) (drop i s) ≡ take (m - i) t → Repeats t m i
met_twice s t m i h e f = sym (meets_shifted s t m i h e) ∙ f

pub meets_again : (s t : List ℕ) (m i : ℕ) → i ≤ m → take m s ≡ take m t → Repeats t m i → take (m - i) (drop i s) ≡ take (m - i) t
meets_again s t m i h e r = meets_shifted s t m i h e ∙ r

-- ---- runs

-- what a period is compared with: the period that a list of runs gives, or another number
abbrev move_or : List Run → ℕ → ℕ → ℕ
move_or rs d m = unwrap_or (period_at rs m) d

held : (r : Run) (m : ℕ) → holds r m ≡ true → (r.from ≤ m) × (m ≤ r.reach)
held r m h = (grind (arith, nat_tests), grind (arith, nat_tests))

holds_here : (r : Run) (m : ℕ) → r.from ≤ m → m ≤ r.reach → holds r m ≡ true
holds_here r m h k = grind (arith, nat_tests)

move_low : (t : List ℕ) (below : ℕ) (rs : List Run) (d m : ℕ) → AreRuns t below rs → d ≤ below → move_or rs d m ≤ below
move_low t below [] d m a h = h
move_low t below (r ∷ rs) d m a h = elim (holds r m) as (λ b. unwrap_or (cond b (Some r.period) (period_at rs m)) d ≤ below) [
  | true ↦ omega (arith, a.0.low)
  | false ↦ move_low t below rs d m a.1 h
]

move_mono : (rs : List Run) (d e m : ℕ) → d ≤ e → move_or rs d m ≤ move_or rs e m
move_mono [] d e m h = h
move_mono (r ∷ rs) d e m h = elim (holds r m) as (λ b. unwrap_or (cond b (Some r.period) (period_at rs m)) d ≤ unwrap_or (cond b (Some r.period) (period_at rs m)) e) [
  | true ↦ omega arith
  | false ↦ move_mono rs d e m h
]

least_quarter : (t : List ℕ) (below : ℕ) (rs : List Run) (m : ℕ) → AreRuns t below rs → least_move rs m ≤ m / 4 + 1
least_quarter t below [] m a = omega arith
least_quarter t below (r ∷ rs) m a = one (least_quarter t below rs m a.1) (holds r m) refl
  where
    one : least_move rs m ≤ m / 4 + 1 → (b : Bool) → holds r m ≡ b → unwrap_or (cond b (Some r.period) (period_at rs m)) (m / 4 + 1) ≤ m / 4 + 1
    one more true e = let h = held r m e in omega (arith, a.0.from, h.0)
    one more false e = more

-- one more run at the end makes no move greater
move_added : (rs : List Run) (r : Run) (m : ℕ) → r.from ≡ 4 * r.period → least_move (rs ++ (r ∷ [])) m ≤ least_move rs m
move_added [] r m f = one (holds r m) refl
  where
    one : (b : Bool) → holds r m ≡ b → unwrap_or (cond b (Some r.period) None) (m / 4 + 1) ≤ m / 4 + 1
    one true e = let h = held r m e in omega (arith, f, h.0)
    one false e = omega arith
move_added (q ∷ rs) r m f = elim (holds q m) as (λ b. unwrap_or (cond b (Some q.period) (period_at (rs ++ (r ∷ [])) m)) (m / 4 + 1) ≤ unwrap_or (cond b (Some q.period) (period_at rs m)) (m / 4 + 1)) [
  | true ↦ omega arith
  | false ↦ move_added rs r m f
]

-- where some run holds `reach` characters, one holds each number of characters from four times the greatest period
move_within : (t : List ℕ) (last reach : ℕ) (rs : List Run) (d m : ℕ) → AreRuns t (last + 1) rs → is_some (period_at rs reach) ≡ true → 4 * last ≤ m → m ≤ reach → move_or rs d m ≤ last
move_within t last reach [] d m a i h k = cc
move_within t last reach (r ∷ rs) d m a i h k = one (λ j. move_within t last reach rs d m a.1 j h k) (holds r m) (holds r reach) refl refl
  where
    one : (is_some (period_at rs reach) ≡ true → move_or rs d m ≤ last) → (b c : Bool) → holds r m ≡ b → holds r reach ≡ c → unwrap_or (cond b (Some r.period) (period_at rs m)) d ≤ last
    one more true c e f = omega (arith, a.0.low)
    one more false true e f =
        let g = held r reach f in
        let yes : holds r m ≡ true = holds_here r m (omega (arith, a.0.from, a.0.low)) (omega (arith, g.1)) in
        absurd (let no : false ≡ true = sym e ∙ yes in cc)
    one more false false e f = more (ap (λ b. is_some (cond b (Some r.period) (period_at rs reach))) (sym f) ∙ i)

-- what is known of a period that a list of runs gives
record IsPeriod (t : List ℕ) (below m p : ℕ) : Type 0 where
  positive : 0 < p
  low : p < below
  quarter : 4 * p ≤ m
  repeats : Repeats t m p

is_period : (t : List ℕ) (below : ℕ) (rs : List Run) (m p : ℕ) → AreRuns t below rs → period_at rs m ≡ Some p → IsPeriod t below m p
is_period t below [] m p a e = cc
is_period t below (r ∷ rs) m p a e = one (λ f. is_period t below rs m p a.1 f) (holds r m) refl
  where
    one : (period_at rs m ≡ Some p → IsPeriod t below m p) → (b : Bool) → holds r m ≡ b → IsPeriod t below m p
    one more true f =
        let h = held r m f in
        let own : Some r.period ≡ Some p = ap (λ b. cond b (Some r.period) (period_at rs m)) (sym f) ∙ e in
        let same : r.period ≡ p = cc in
        let mine : IsPeriod t below m r.period = record {
          positive = a.0.positive;
          low = a.0.low;
          quarter = omega (arith, a.0.from, h.0);
          repeats = fewer t r.reach m r.period h.1 a.0.repeats;
        } in
        subst (IsPeriod t below m) same mine
    one more false f = more (ap (λ b. cond b (Some r.period) (period_at rs m)) (sym f) ∙ e)

pub weaken : (t : List ℕ) (low high : ℕ) (rs : List Run) → AreRuns t low rs → low ≤ high → AreRuns t high rs
weaken t low high [] a h = a
weaken t low high (r ∷ rs) a h = (
  record {
    from = a.0.from;
    positive = a.0.positive;
    low = omega (arith, a.0.low);
    repeats = a.0.repeats;
  },
  weaken t low high rs a.1 h,
)

pub added : (t : List ℕ) (below : ℕ) (rs : List Run) (r : Run) → AreRuns t below rs → IsRun t below r → AreRuns t below (rs ++ (r ∷ []))
added t below [] r a i = (i, tt)
added t below (q ∷ rs) r a i = (a.0, added t below rs r a.1 i)

-- ---- moves

other_low : (below m : ℕ) → 0 < below → (other_move below m ≤ m / 4 + 1) × (other_move below m ≤ below) × (0 < other_move below m)
other_low below m h = one (ltb (m / 4) below) refl
  where
    one : (b : Bool) → ltb (m / 4) below ≡ b → (cond b (m / 4 + 1) 1 ≤ m / 4 + 1) × (cond b (m / 4 + 1) 1 ≤ below) × (0 < cond b (m / 4 + 1) 1)
    one true e = let lt : m / 4 < below = grind (arith, nat_tests) in (omega arith, omega arith, omega arith)
    one false e = (omega arith, omega arith, omega arith)

pub move_positive : (t : List ℕ) (rs : List Run) (below m : ℕ) → IsKnown t rs below → 0 < move_by rs below m
move_positive t rs below m k = one (period_at rs m) refl
  where
    one : (o : Option ℕ) → period_at rs m ≡ o → 0 < unwrap_or o (other_move below m)
    one None e = (other_low below m k.some).2
    one (Some p) e = (is_period t below rs m p k.runs e).positive

-- a move passes no place where the text meets itself
no_less : (t : List ℕ) (rs : List Run) (below m i : ℕ) → IsKnown t rs below → m ≤ length t → 0 < i → i < move_by rs below m → (4 * i ≤ m) × (Repeats t m i → ⊥)
no_less t rs below m i k h p l =
    let other = other_low below m k.some in
    let low : move_by rs below m ≤ below = move_low t below rs (other_move below m) m k.runs other.1 in
    let least : move_by rs below m ≤ least_move rs m = move_mono rs (other_move below m) (m / 4 + 1) m other.0 in
    let quarter : least_move rs m ≤ m / 4 + 1 = least_quarter t below rs m k.runs in
    (omega arith, k.none_less m i h p (omega arith) (omega arith))

front : (n k : ℕ) (xs ys : List ℕ) → k ≤ n → take n xs ≡ take n ys → take k xs ≡ take k ys
front n k xs ys h e = sym (take-take k n xs h) ∙ ap (take k) e ∙ take-take k n ys h

-- ---- the search of a text in another

-- no place that a move passes begins with the text
pub passed : (s t : List ℕ) (rs : List Run) (below m i : ℕ) → IsKnown t rs below → Meets s t m → 0 < i → i < move_by rs below m → take (length t) (drop i s) ≡ t → ⊥
passed s t rs below m i k e p l found =
    let no = no_less t rs below m i k e.1 p l in
    no.1 (met_twice s t m i (omega (arith, no.0)) e.0 (sym (take-take (m - i) (length t) (drop i s) (omega (arith, e.1))) ∙ ap (take (m - i)) found))

pub stays : (s t : List ℕ) (rs : List Run) (below m : ℕ) → IsKnown t rs below → Meets s t m → Meets (drop (move_by rs below m) s) t (kept_count rs m)
stays s t rs below m k e = one (period_at rs m) refl
  where
    one : (o : Option ℕ) → period_at rs m ≡ o → Meets (drop (unwrap_or o (other_move below m)) s) t (kept_of o m)
    one None f = (refl, omega arith)
    one (Some p) f =
        let is = is_period t below rs m p k.runs f in
        (meets_again s t m p (omega (arith, is.quarter)) e.0 is.repeats, omega (arith, e.1))

-- ---- the search of a text in itself

-- what is known once the text is met with itself moved on by `at`
pub tested : (t : List ℕ) (rs more : List Run) (at m : ℕ) → IsKnown t rs at → AreRuns t (at + 1) more → ((k : ℕ) → least_move more k ≤ least_move rs k) → Meets (drop at t) t m → Stops (drop at t) t m → (3 * at ≤ m → is_some (period_at more (at + m)) ≡ true) → IsKnown t more (at + 1)
tested t rs more at m k runs less meets stops held_all = record {
  some = omega arith;
  runs = runs;
  none_less = λ n i h p l least again. elim (cases_lt i at) [
    | inl lt ↦ k.none_less n i h p lt (omega (arith, less n)) again
    | inr ge ↦
        let same : i ≡ at = omega arith in
        here n h (subst (λ j. j < least_move more n) same least) (subst (Repeats t n) same again)
  ];
}
  where
    here : (n : ℕ) → n ≤ length t → at < least_move more n → Repeats t n at → ⊥
    here n h least again = elim (cases_lt (at + m) n) [
      | inl over ↦ stops (front (n - at) (m + 1) (drop at t) t (omega arith) again) (omega arith)
      | inr within ↦
          let quarter : least_move more n ≤ n / 4 + 1 = least_quarter t (at + 1) more n runs in
          let low : least_move more n ≤ at = move_within t at (at + m) more (n / 4 + 1) n runs (held_all (omega arith)) (omega arith) within in
          absurd (omega arith)
    ]

pub gone_on : (t : List ℕ) (rs : List Run) (at m : ℕ) → IsKnown t rs (at + 1) → Meets (drop at t) t m → (3 * at ≤ m → is_some (period_at rs (at + m)) ≡ true) → IsKnown t rs (at + move_by rs (at + 1) m)
gone_on t rs at m k meets held_all =
    let positive : 0 < move_by rs (at + 1) m = move_positive t rs (at + 1) m k in
    record {
      some = omega arith;
      runs = weaken t (at + 1) (at + move_by rs (at + 1) m) rs k.runs (omega arith);
      none_less = λ n i h p l least again. elim (cases_lt i (at + 1)) [
        | inl lt ↦ k.none_less n i h p lt least again
        | inr ge ↦ beyond n i h ge l least again
      ];
    }
  where
    beyond : (n i : ℕ) → n ≤ length t → at + 1 ≤ i → i < at + move_by rs (at + 1) m → i < least_move rs n → Repeats t n i → ⊥
    beyond n i h ge l least again =
        let quarter : least_move rs n ≤ n / 4 + 1 = least_quarter t (at + 1) rs n k.runs in
        elim (cases_lt n (at + m)) [
          | inl within ↦
              let low : least_move rs n ≤ at = move_within t at (at + m) rs (n / 4 + 1) n k.runs (held_all (omega arith)) (omega arith) (omega arith) in
              omega arith
          | inr over ↦
              let no = no_less t rs (at + 1) m (i - at) k meets.1 (omega arith) (omega arith) in
              let step : drop (i - at) (drop at t) ≡ drop i t = drop-drop (i - at) at t ∙ (let e : at + (i - at) ≡ i = omega arith in ap (λ j. drop j t) e) in
              no.1 (met_twice (drop at t) t m (i - at) (omega (arith, no.0)) meets.0
              (ap (take (m - (i - at))) step ∙ front (n - i) (m - (i - at)) (drop i t) t (omega arith) again))
        ]

some_added : (rs : List Run) (r : Run) (m : ℕ) → holds r m ≡ true → is_some (period_at (rs ++ (r ∷ [])) m) ≡ true
some_added [] r m h = ap (λ b. is_some (cond b (Some r.period) None)) h
some_added (q ∷ rs) r m h = elim (holds q m) as (λ b. is_some (cond b (Some q.period) (period_at (rs ++ (r ∷ [])) m)) ≡ true) [
  | true ↦ refl
  | false ↦ some_added rs r m h
]

pub known_nothing : (t : List ℕ) → IsKnown t [] 1
known_nothing t = record {
  some = omega arith;
  runs = tt;
  none_less = λ n i h p l least again. omega arith;
}

-- ---- a table of runs

abbrev pub IsTold : List ℕ → List Run → ℕ → ℕ → Type 0
IsTold t rs at m = IsKnown t rs (at + 1) × (3 * at ≤ m → is_some (period_at rs (at + m)) ≡ true)

pub noted : (t : List ℕ) (old new : List Run) (at m : ℕ) → IsKnown t old at → Meets (drop at t) t m → Stops (drop at t) t m → IsNoted old new at m → IsTold t new at m
noted t old new at m k meets stops (inl n) =
    subst (λ rs. IsTold t rs at m) (sym n.0)
    (tested t old old at m k (weaken t at (at + 1) old k.runs (omega arith)) (λ j. omega arith) meets stops n.1, n.1)
noted t old new at m k meets stops (inr n) =
    let r : Run = record { period = at; from = 4 * at; reach = at + m } in
    let own : at + m - at ≡ m = omega arith in
    let is : IsRun t (at + 1) r = record {
      from = refl;
      positive = k.some;
      low = omega arith;
      repeats = subst (λ j. take j (drop at t) ≡ take j t) (sym own) meets.0;
    } in
    let here : is_some (period_at (old ++ (r ∷ [])) (at + m)) ≡ true =
    some_added old r (at + m) (holds_here r (at + m) (omega (arith, n.1)) (omega arith)) in
    subst (λ rs. IsTold t rs at m) (sym n.0)
    (tested t old (old ++ (r ∷ [])) at m k (added t (at + 1) old r (weaken t at (at + 1) old k.runs (omega arith)) is) (λ j. move_added old r j refl) meets stops (λ _. here), λ _. here)

pub told_on : (t : List ℕ) (rs : List Run) (at m : ℕ) → IsTold t rs at m → Meets (drop at t) t m → IsKnown t rs (at + move_by rs (at + 1) m)
told_on t rs at m k meets = gone_on t rs at m k.0 meets k.1

-- what is kept of what met
pub kept_sum : (t : List ℕ) (rs : List Run) (below m : ℕ) → IsKnown t rs below → 0 < kept_count rs m → kept_count rs m + move_by rs below m ≡ m
kept_sum t rs below m k = one (period_at rs m) refl
  where
    one : (o : Option ℕ) → period_at rs m ≡ o → 0 < kept_of o m → kept_of o m + unwrap_or o (other_move below m) ≡ m
    one None e h = omega arith
    one (Some p) e h = omega arith
