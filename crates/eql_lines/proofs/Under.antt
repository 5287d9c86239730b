-- The paths that go on under a name, one by one.
use Rattle.std.proofs.Common.{◌≡◌, ◌≢◌, inl, inr, ℕ, suc, ◌+◌, List, length, drop, Bool, true, false, Option, Some, None, option_map, option_and_then, is_some, string_bytes, String, slice_get, if◌then◌else◌, refl, sym, ap, ◌∙◌, arith, true≢false}
use Rattle.std.proofs.lemmas.Bool.{cases_eq}
use Rattle.std.proofs.lemmas.List.{drop-drop}
use Rattle.std.specs.declared.alloc.Global.{Global}
use Rattle.eql_lines.specs.Reach.{behind, leads}
use Rattle.eql_lines.specs.Places.{in_set}
use Rattle.eql_lines.specs.Paths.{rest_at}
use Rattle.eql_lines.specs.declared.paths.Active.{Active}
use Rattle.eql_lines.specs.declared.places.Places.{Places}

-- what is left of the path behind the name
abbrev pub goes_on : List (String Global) → Active → List ℕ → ℕ → Option (List ℕ)
goes_on paths a name i = option_and_then (behind name) (rest_at paths a i)

abbrev pub left_of : List (String Global) → ℕ → ℕ → Option (List ℕ)
left_of paths at i = option_map (λ s. drop at (string_bytes s)) (slice_get paths i)

-- all but the places that are left have been looked at
pub record Looked (paths : List (String Global)) (a : Active) (name : List ℕ) (left places : Places) (at : ℕ) : Type 0 where
  pub within : (i : ℕ) → in_set left i ≡ true → in_set a.places i ≡ true
  pub fresh : (i : ℕ) → in_set left i ≡ true → in_set places i ≡ false
  pub done : (i : ℕ) → in_set left i ≡ false → in_set places i ≡ is_some (goes_on paths a name i)
  pub behind_is : (i : ℕ) → in_set places i ≡ true → at ≡ a.at + length name + 1

-- the place p was taken from the places that were left
pub record Taken (old new : Places) (p : ℕ) : Type 0 where
  pub was : in_set old p ≡ true
  pub gone : in_set new p ≡ false
  pub others : (i : ℕ) → i ≢ p → in_set new i ≡ in_set old i

pub taken_before : (old new : Places) (p i : ℕ) → Taken old new p → in_set new i ≡ true → (i ≢ p) × (in_set old i ≡ true)
taken_before old new p i t e =
    let other : i ≢ p = λ f. true≢false (sym e ∙ ap (in_set new) f ∙ t.gone) in
    (other, sym (t.others i other) ∙ e)

module _ (paths : List (String Global)) (a : Active) (name : List ℕ) where
  pub in_active : (i : ℕ) → in_set a.places i ≡ true → rest_at paths a i ≡ left_of paths a.at i
  in_active i e = ap (λ b. if b then left_of paths a.at i else None) e

  pub not_active : (i : ℕ) → in_set a.places i ≡ false → rest_at paths a i ≡ None
  not_active i e = ap (λ b. if b then left_of paths a.at i else None) e

  pub looked_from : (left places : Places) (at : ℕ) → ((i : ℕ) → in_set left i ≡ true → in_set a.places i ≡ true) → ((i : ℕ) → in_set left i ≡ false → goes_on paths a name i ≡ None)
      → ((i : ℕ) → in_set places i ≡ false) → Looked paths a name left places at
  looked_from left places at within all none = record {
    within = within;
    fresh = λ i e. none i;
    done = λ i e. none i ∙ ap is_some (sym (all i e));
    behind_is = λ i e. absurd (true≢false (sym e ∙ none i));
  }

  -- a path that isn't active goes on nowhere
  pub stays_out : (i : ℕ) → in_set a.places i ≡ false → goes_on paths a name i ≡ None
  stays_out i e = ap (option_and_then (behind name)) (not_active i e)

  module _ (left next places : Places) (at p : ℕ) (l : Looked paths a name left places at) (t : Taken left next p) where
    here : goes_on paths a name p ≡ option_and_then (behind name) (left_of paths a.at p)
    here = ap (option_and_then (behind name)) (in_active p (l.within p t.was))

    -- the path of p doesn't go on
    pub looked_past : goes_on paths a name p ≡ None → Looked paths a name next places at
    looked_past none = record {
      within = λ i e. l.within i (taken_before left next p i t e).1;
      fresh = λ i e. l.fresh i (taken_before left next p i t e).1;
      done = λ i e. elim (cases_eq i p) [
        | inl same ↦ ap (in_set places) same ∙ l.fresh p t.was ∙ ap is_some (sym (ap (goes_on paths a name) same ∙ none))
        | inr other ↦ l.done i (sym (t.others i other) ∙ e)
      ];
      behind_is = l.behind_is;
    }

    -- it does
    pub looked_on : (more : Places) (r : List ℕ) → in_set more p ≡ true → ((i : ℕ) → i ≢ p → in_set more i ≡ in_set places i) → goes_on paths a name p ≡ Some r
        → Looked paths a name next more (a.at + length name + 1)
    looked_on more r set others some = record {
      within = λ i e. l.within i (taken_before left next p i t e).1;
      fresh = λ i e. let b = taken_before left next p i t e in others i b.0 ∙ l.fresh i b.1;
      done = λ i e. elim (cases_eq i p) [
        | inl same ↦ ap (in_set more) same ∙ set ∙ ap is_some (sym (ap (goes_on paths a name) same ∙ some))
        | inr other ↦ others i other ∙ l.done i (sym (t.others i other) ∙ e)
      ];
      behind_is = λ i e. refl;
    }

  -- whether a path goes on, and with what
  behind_rest : (s : List ℕ) (at : ℕ) → leads name (drop a.at s) ≡ true → at ≡ a.at + length name + 1 → behind name (drop a.at s) ≡ Some (drop at s)
  behind_rest s at e f =
      ap (λ b. if b then Some (drop (suc (length name)) (drop a.at s)) else None) e
      ∙ ap Some (drop-drop (suc (length name)) a.at s ∙ ap (λ n. drop n s) (omega (arith, f)))

  only_if : (key r : List ℕ) (b : Bool) → is_some (if b then Some r else None) ≡ true → b ≡ true
  only_if key r true e = refl
  only_if key r false e = absurd (true≢false (sym e))

  rest_some : (o : Option (List ℕ)) (at : ℕ) (s : Option (String Global)) → o ≡ option_map (λ s. drop a.at (string_bytes s)) s → at ≡ a.at + length name + 1 → is_some (option_and_then (behind name) o) ≡ true
      → option_map (λ s. drop at (string_bytes s)) s ≡ option_and_then (behind name) o
  rest_some o at None e f g = absurd (true≢false (sym g ∙ ap (λ o. is_some (option_and_then (behind name) o)) e))
  rest_some o at (Some s) e f g =
      let some : is_some (behind name (drop a.at (string_bytes s))) ≡ true = sym (ap (λ o. is_some (option_and_then (behind name) o)) e) ∙ g in
      sym (ap (option_and_then (behind name)) e ∙ behind_rest (string_bytes s) at (only_if name (drop (suc (length name)) (drop a.at (string_bytes s))) (leads name (drop a.at (string_bytes s))) some) f)

  is_none : (o : Option (List ℕ)) → is_some o ≡ false → None ≡ o
  is_none None e = refl
  is_none (Some r) e = absurd (true≢false e)

  by_place : (places : Places) (at i : ℕ) (b c : Bool) → in_set places i ≡ b → in_set a.places i ≡ c → b ≡ is_some (goes_on paths a name i) → (b ≡ true → at ≡ a.at + length name + 1)
      → (if b then left_of paths at i else None) ≡ goes_on paths a name i
  by_place places at i false c e f g h = is_none (goes_on paths a name i) (sym g)
  by_place places at i true true e f g h = rest_some (rest_at paths a i) at (slice_get paths i) (in_active i f) (h refl) (sym g)
  by_place places at i true false e f g h = absurd (true≢false (g ∙ ap (λ o. is_some (option_and_then (behind name) o)) (not_active i f)))

  pub all_looked : (left places : Places) (at : ℕ) → ((i : ℕ) → in_set left i ≡ false) → Looked paths a name left places at → (i : ℕ) → rest_at paths (record { places = places; at = at }) i ≡ goes_on paths a name i
  all_looked left places at none l i = by_place places at i (in_set places i) (in_set a.places i) refl refl (l.done i (none i)) (l.behind_is i)

  pub goes_by : (p : ℕ) (o : Option (List ℕ)) → in_set a.places p ≡ true → o ≡ left_of paths a.at p → goes_on paths a name p ≡ option_and_then (behind name) o
  goes_by p o e f = ap (option_and_then (behind name)) (in_active p e ∙ sym f)

pub leads_none : (name r : List ℕ) → leads name r ≡ false → behind name r ≡ None
leads_none name r e = ap (λ b. if b then Some (drop (suc (length name)) r) else None) e

pub leads_some : (name r : List ℕ) → leads name r ≡ true → behind name r ≡ Some (drop (suc (length name)) r)
leads_some name r e = ap (λ b. if b then Some (drop (suc (length name)) r) else None) e
