-- How long a history is: as long as the entries of all passes together.
use Rattle.std.proofs.Common.{◌≡◌, ◌≢◌, ℕ, zero, suc, ◌+◌, ◌<◌, Bool, true, false, List, [], ◌∷◌, length, refl, sym, ap, ◌∙◌, subst, arith, eqb}
use Rattle.std.proofs.lemmas.Bool.Decides.{eqb_tells}
use Rattle.std.proofs.lemmas.List.Elements.{All-head, All-tail}
use Rattle.std.proofs.lemmas.List.Sums.{sum_by-cons}
use Rattle.std.specs.Prelude.{All, sum_by, if◌then◌else◌, ◌==◌}
use mathlib.Core.Logic.{◌⊎◌, ⊎_elim}
use mathlib.Core.Option.{some, some-injective, some-ne-none}
use lib.ListN.{get_elem?}
use Rattle.eql_turn_lock.specs.declared.history.Entry.{Entry}
use Rattle.eql_turn_lock.specs.declared.view.Ended.{Ended}
use Rattle.eql_turn_lock.specs.History.{calls_by}
use Rattle.eql_turn_lock.specs.Passes.{HasEnded, AreDistinct}

module _ {O R : Type 0} where
  -- how many of the ended passes have the number
  abbrev times : ℕ → List (Ended O R) → ℕ
  times n [] = 0
  times n (d ∷ ds) = if n == d.number then suc (times n ds) else times n ds

  distinct_head : (d : Ended O R) (ds : List (Ended O R)) → AreDistinct (d ∷ ds) → All (λ (e : Ended O R). d.number ≢ e.number) ds
  distinct_head d ds apart k e lt = apart 0 (suc k) e (omega arith) (omega arith)

  distinct_tail : (d : Ended O R) (ds : List (Ended O R)) → AreDistinct (d ∷ ds) → AreDistinct ds
  distinct_tail d ds apart i j e lt wide = apart (suc i) (suc j) e (omega arith) (omega arith)

  times_step : (n : ℕ) (d : Ended O R) (ds : List (Ended O R)) (m k : ℕ) → (n ≡ d.number → suc (times n ds) ≡ m) → (n ≢ d.number → times n ds ≡ m) → times n (d ∷ ds) ≡ m
  times_step n d ds m k same other = ⊎_elim
      (λ (t : (eqb n d.number ≡ true) × (n ≡ d.number)). ap (λ (b : Bool). if b then suc (times n ds) else times n ds) t.0 ∙ same t.1)
      (λ (t : (eqb n d.number ≡ false) × (n ≢ d.number)). ap (λ (b : Bool). if b then suc (times n ds) else times n ds) t.0 ∙ other t.1)
      (eqb_tells n d.number)

  never : (n : ℕ) (ds : List (Ended O R)) → All (λ (e : Ended O R). n ≢ e.number) ds → times n ds ≡ 0
  never n [] apart = refl
  never n (d ∷ ds) apart = times_step n d ds 0 0 (λ is. absurd (All-head (λ (e : Ended O R). n ≢ e.number) d ds apart is)) (λ _. never n ds (All-tail (λ (e : Ended O R). n ≢ e.number) d ds apart))

  once : (n : ℕ) (ds : List (Ended O R)) → AreDistinct ds → (k : ℕ) (e : Ended O R) → get_elem? ds k ≡ some e → e.number ≡ n → times n ds ≡ 1
  once n [] apart k e at is = absurd (some-ne-none e (sym at))
  once n (d ∷ ds) apart zero e at is = let same : n ≡ d.number = sym is ∙ ap (λ (z : Ended O R). z.number) (sym (some-injective d e at)) in
      times_step n d ds 1 0 (λ _. ap suc (never n ds (subst (λ (m : ℕ). All (λ (z : Ended O R). m ≢ z.number) ds) (sym same) (distinct_head d ds apart)))) (λ not. absurd (not same))
  once n (d ∷ ds) apart (suc k) e at is = let here = once n ds (distinct_tail d ds apart) k e at is in
      times_step n d ds 1 0 (λ same. absurd (let none_are = never n ds (subst (λ (m : ℕ). All (λ (z : Ended O R). m ≢ z.number) ds) (sym same) (distinct_head d ds apart)) in omega arith)) (λ _. here)

  abbrev sizes : List (Entry O R) → List (Ended O R) → ℕ
  sizes log ended = sum_by (λ (d : Ended O R). length (calls_by d.number log)) ended

  none_sized : (ended : List (Ended O R)) → sizes [] ended ≡ 0
  none_sized [] = refl
  none_sized (d ∷ ds) = let one = sum_by-cons (λ (z : Ended O R). length (calls_by {O = O} {R = R} z.number [])) d ds in let rest = none_sized ds in omega arith

  -- one entry more makes the lists of its pass longer
  one_more : (e : Entry O R) (es : List (Entry O R)) (ended : List (Ended O R)) → sizes (e ∷ es) ended ≡ times e.by ended + sizes es ended
  one_more e es [] = refl
  one_more e es (d ∷ ds) = let rest = one_more e es ds in let here = longer_by (e.by == d.number) in
      sum_by-cons (λ (z : Ended O R). length (calls_by z.number (e ∷ es))) d ds ∙ (ap (λ (n : ℕ). n + sizes (e ∷ es) ds) here ∙ (ap (λ (n : ℕ). (if e.by == d.number then suc (length (calls_by d.number es)) else length (calls_by d.number es)) + n) rest
      ∙ (spread (e.by == d.number) (length (calls_by d.number es)) (times e.by ds) (sizes es ds) ∙ ap (λ (n : ℕ). times e.by (d ∷ ds) + n) (sym (sum_by-cons (λ (z : Ended O R). length (calls_by z.number es)) d ds)))))
    where
      longer_by : (b : Bool) → length (if b then e ∷ calls_by d.number es else calls_by d.number es) ≡ (if b then suc (length (calls_by d.number es)) else length (calls_by d.number es))
      longer_by true = refl
      longer_by false = refl

      spread : (b : Bool) (m t q : ℕ) → (if b then suc m else m) + (t + q) ≡ (if b then suc t else t) + (m + q)
      spread true m t q = omega arith
      spread false m t q = omega arith

  first_one : (e : Entry O R) (es : List (Entry O R)) → length (calls_by 0 (e ∷ es)) ≡ (if e.by == 0 then suc (length (calls_by 0 es)) else length (calls_by 0 es))
  first_one e es = pick (e.by == 0)
    where
      pick : (b : Bool) → length (if b then e ∷ calls_by 0 es else calls_by 0 es) ≡ (if b then suc (length (calls_by 0 es)) else length (calls_by 0 es))
      pick true = refl
      pick false = refl

  -- each entry is counted once
  each_once : (e : Entry O R) (es : List (Entry O R)) (ended : List (Ended O R)) → (e.by ≡ 0) ⊎ HasEnded e.by ended → AreDistinct ended → All (λ (d : Ended O R). 0 < d.number) ended
      → length (calls_by 0 (e ∷ es)) + times e.by ended ≡ suc (length (calls_by 0 es))
  each_once e es ended has apart some_number = ⊎_elim
      (λ (t : (eqb e.by 0 ≡ true) × (e.by ≡ 0)). let one = first_one e es ∙ ap (λ (b : Bool). if b then suc (length (calls_by 0 es)) else length (calls_by 0 es)) t.0 in
      let none_are = never e.by ended (λ k d lt is. let pos = some_number k d lt in let zero_is = t.1 in absurd (omega arith)) in omega arith)
      (λ (t : (eqb e.by 0 ≡ false) × (e.by ≢ 0)). let none_first = first_one e es ∙ ap (λ (b : Bool). if b then suc (length (calls_by 0 es)) else length (calls_by 0 es)) t.0 in
      ⊎_elim (λ zero_is. absurd (t.1 zero_is)) (λ (h : HasEnded e.by ended). let one = once e.by ended apart h.0 h.1 h.2 h.3 in omega arith) has)
      (eqb_tells e.by 0)

  all_sized : (log : List (Entry O R)) (ended : List (Ended O R)) → All (λ (e : Entry O R). (e.by ≡ 0) ⊎ HasEnded e.by ended) log → AreDistinct ended → All (λ (d : Ended O R). 0 < d.number) ended
      → length log ≡ length (calls_by 0 log) + sizes log ended
  all_sized [] ended covered apart some_number = let none_are = none_sized ended in omega arith
  all_sized (e ∷ es) ended covered apart some_number = let rest = all_sized es ended (All-tail (λ (z : Entry O R). (z.by ≡ 0) ⊎ HasEnded z.by ended) e es covered) apart some_number in
      let here = each_once e es ended (All-head (λ (z : Entry O R). (z.by ≡ 0) ⊎ HasEnded z.by ended) e es covered) apart some_number in let more = one_more e es ended in omega arith

  sizes_are : (log : List (Entry O R)) (ended : List (Ended O R)) → All (λ (d : Ended O R). calls_by d.number log ≡ d.mine) ended → sizes log ended ≡ sum_by (λ (d : Ended O R). length d.mine) ended
  sizes_are log [] all = refl
  sizes_are log (d ∷ ds) all = sum_by-cons (λ (z : Ended O R). length (calls_by z.number log)) d ds
      ∙ ((λ i. length (All-head (λ (z : Ended O R). calls_by z.number log ≡ z.mine) d ds all i) + sizes_are log ds (All-tail (λ (z : Ended O R). calls_by z.number log ≡ z.mine) d ds all) i)
      ∙ sym (sum_by-cons (λ (z : Ended O R). length z.mine) d ds))

  -- where each entry is of the first pass or of one that ended, the history is as long as all their lists together
  pub all_counted : (log : List (Entry O R)) (ended : List (Ended O R)) → All (λ (e : Entry O R). (e.by ≡ 0) ⊎ HasEnded e.by ended) log → AreDistinct ended → All (λ (d : Ended O R). 0 < d.number) ended
      → All (λ (d : Ended O R). calls_by d.number log ≡ d.mine) ended → length log ≡ length (calls_by 0 log) + sum_by (λ (d : Ended O R). length d.mine) ended
  all_counted log ended covered apart some_number all = all_sized log ended covered apart some_number ∙ ap (λ (n : ℕ). length (calls_by 0 log) + n) (sizes_are log ended all)
