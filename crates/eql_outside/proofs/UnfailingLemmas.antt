-- Objects of which no call is planned to fail.
use native.Mathlib.Omega.{arith}
use Rattle.std.proofs.Common.{◌≡◌, ℕ, ◌<◌, List, [], ◌∷◌, true, false, Option, Some, None, refl, sym, ◌∙◌, subst, ap, length, ◌⊎◌, inl, inr}
use Rattle.std.specs.Prelude.{All, Contains, IsSomeAnd, cond, ◌≤◌}
use Rattle.std.specs.Str.{bytes_eq}
use Rattle.std.proofs.lemmas.Bool.{cases_Bool}
use Rattle.std.proofs.lemmas.List.Elements.{All-head, All-tail}
use Rattle.std.proofs.lemmas.Option.{same_Some, none-some}
use Rattle.eql_outside.specs.Outside.{file_named}
use Rattle.eql_outside.specs.Plans.{FaultPlan, FailsNext, next_call}
use Rattle.eql_outside.specs.Unfailing.{FailsNever, StaysUnfailing}

no_stop : (n : ℕ) (stop : Option ℕ) → stop ≡ None → IsSomeAnd stop (λ s. s ≤ n) → ⊥
no_stop n None is h = h
no_stop n (Some s) is h = none-some s (sym is)

none_below : (k : ℕ) → k < 0 → ⊥
none_below k lt = omega arith

none_among : (n : ℕ) (fails : List ℕ) → fails ≡ [] → Contains fails n → ⊥
none_among n fails is h = none_below h.0 (subst (λ (l : List ℕ). h.0 < length l) is h.1)

next : (plan : FaultPlan) → FailsNever plan → FailsNext plan → ⊥
next plan never (inl h) = no_stop (next_call plan) plan.stop never.no_stop h
next plan never (inr h) = none_among (next_call plan) plan.fails never.none h

abbrev Cleared : List (List ℕ × List ℕ) → Type 0
Cleared = All (λ (file : List ℕ × List ℕ). file.1 ≡ [])

-- the first file has the name, or one behind it
by_name :
    (f : List ℕ × List ℕ) (files : List (List ℕ × List ℕ)) (name fails : List ℕ) → Cleared (f ∷ files)
    → file_named name (f ∷ files) ≡ Some fails → (file_named name files ≡ Some fails → fails ≡ [])
    → (bytes_eq f.0 name ≡ true) ⊎ (bytes_eq f.0 name ≡ false) → fails ≡ []
by_name f files name fails all is behind (inl same) =
    sym (same_Some f.1 fails (sym (ap (λ b. cond b (Some f.1) (file_named name files)) same) ∙ is)) ∙ All-head (λ (file : List ℕ × List ℕ). file.1 ≡ []) f files all
by_name f files name fails all is behind (inr other) =
    behind (sym (ap (λ b. cond b (Some f.1) (file_named name files)) other) ∙ is)

sources :
    (plans : List (List ℕ × List ℕ)) (name fails : List ℕ) → Cleared plans
    → file_named name plans ≡ Some fails → fails ≡ []
sources [] name fails all is = absurd (none-some fails is)
sources (f ∷ files) name fails all is =
    by_name f files name fails all is
    (sources files name fails (All-tail (λ (file : List ℕ × List ℕ). file.1 ≡ []) f files all))
    (cases_Bool (bytes_eq f.0 name))

pub unfailing : StaysUnfailing
unfailing = record {
  next = next;
  goes_on = λ plan never. record { none = never.none; no_stop = never.no_stop };
  sources = λ plans name fails all is. record { none = sources plans name fails all is; no_stop = refl };
}
