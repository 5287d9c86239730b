-- When a cut is due.
use Rattle.std.proofs.Common.{◌≡◌, ◌≢◌, ◌⊎◌, inl, inr, ◌%◌, ◌≤◌, ℕ, ℤ, Bool, true, false, cond, List, [], ◌∷◌, Option, None, Some, length, map, refl, sym, ap, arith, subst, All}
use Rattle.std.specs.Prelude.{◌==◌, IsSomeAnd}
use Rattle.std.proofs.lemmas.Bool.{ne_eqb}
use Rattle.std.proofs.lemmas.List.Elements.{All-head}
use Rattle.std.proofs.lemmas.Option.{same_Some}
use Rattle.eql_values.specs.declared.order.Mark.{Mark}
use Rattle.eql_values.specs.declared.order.Mark.TheVariants.{Start, At, End}
use Rattle.eql_cut.specs.declared.cut.Cut.{Cut}
use Rattle.eql_cut.specs.declared.cut.CutHead.{CutHead}
use Rattle.eql_book.specs.Books.{BookState}
use Rattle.eql_conductor.specs.Benches.{Known}
use Rattle.eql_conductor.specs.RunNotes.{cut_after}
use Rattle.eql_conductor.specs.Running.{IsTaken, time_in}
use Rattle.eql_conductor.specs.Runs.{cut_time}

-- after a round that doesn't count none is
pub not_due : (every : Option ℕ) (n : ℕ) → cut_after every n None ≡ None
not_due None n = refl
not_due (Some k) n = refl

-- nor where no cut is kept
pub never_due : (every : Option ℕ) (n : ℕ) (mark : Option Mark) → every ≡ None → cut_after every n mark ≡ None
never_due None n mark e = refl
never_due (Some k) n mark e = absurd (let f = e in cc)

some_if : (m : ℕ) (t : ℤ) → m ≡ 0 → cond (m == 0) (Some t) None ≡ Some t
some_if m t e = ap (λ (k : ℕ). cond (k == 0) (Some t) None) e

none_if : (m : ℕ) (t : ℤ) → m ≢ 0 → cond (m == 0) (Some t) None ≡ None
none_if m t apart = ap (λ (c : Bool). cond c (Some t) None) (ne_eqb m 0 apart)

pub no_time : (mark : Mark) → (mark ≡ Start) ⊎ (mark ≡ End) → None ≡ time_in mark
no_time mark (inl e) = sym (ap time_in e)
no_time mark (inr e) = sym (ap time_in e)

-- after a multiple of rounds, at a time
pub is_due_at : (every : Option ℕ) (n : ℕ) (mark : Mark) → IsSomeAnd every (λ k. n % k ≡ 0) → time_in mark ≡ cut_after every n (Some mark)
is_due_at None n mark h = absurd h
is_due_at (Some k) n Start h = refl
is_due_at (Some k) n (At t) h = sym (some_if (n % k) t h)
is_due_at (Some k) n End h = refl

pub not_due_at : (every : Option ℕ) (n : ℕ) (mark : Mark) → (IsSomeAnd every (λ k. n % k ≡ 0) → ⊥) → None ≡ cut_after every n (Some mark)
not_due_at None n mark h = refl
not_due_at (Some k) n Start h = refl
not_due_at (Some k) n (At t) h = sym (none_if (n % k) t h)
not_due_at (Some k) n End h = refl

-- it has the mark's time
time_by : (c : Bool) (t time : ℤ) → cond c (Some t) None ≡ Some time → t ≡ time
time_by true t time e = same_Some t time e
time_by false t time e = absurd (let f = e in cc)

due_time : (every : Option ℕ) (n : ℕ) (t time : ℤ) → cut_after every n (Some (At t)) ≡ Some time → t ≡ time
due_time None n t time e = absurd (let f = e in cc)
due_time (Some k) n t time e = time_by (n % k == 0) t time e

-- and so has the one that was put then
pub put_one : (head : CutHead) (mark : Mark) (b : Known) (book : BookState) (every : Option ℕ) (n : ℕ) (time : ℤ) → cut_after every n (Some mark) ≡ Some time
    → (cuts : List Cut) → All (IsTaken head mark b book) cuts → length cuts ≤ 1 → (map cut_time cuts ≡ []) ⊎ (map cut_time cuts ≡ time ∷ [])
put_one head mark b book every n time e [] are one = inl refl
put_one head mark b book every n time e (cut ∷ []) are one =
    let is = (All-head (IsTaken head mark b book) cut [] are).mark_is in
    inr (ap (λ (t : ℤ). t ∷ []) (due_time every n cut.mark time (subst (λ (m : Mark). cut_after every n (Some m) ≡ Some time) is e)))
put_one head mark b book every n time e (cut ∷ next ∷ cuts) are one = absurd (omega (arith, one))
