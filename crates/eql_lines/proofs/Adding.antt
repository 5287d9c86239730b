-- Scalars added to slots, and what a path reaches, turn by turn.
use Rattle.std.proofs.Common.{◌≡◌, ◌≢◌, inl, inr, ℕ, zero, suc, List, [], ◌∷◌, ◌++◌, length, set, drop, Bool, true, false, Option, Some, None, option_map, string_bytes, String, slice_get, if◌then◌else◌, refl, sym, ap, ◌∙◌, ◌+◌, ◌<◌, arith}
use Rattle.std.proofs.lemmas.Bool.{cases_eq}
use Rattle.std.proofs.lemmas.Option.{slice_get_within, slice_get_past}
use Rattle.std.proofs.lemmas.Bool.Decides.{leb_tells}
use Rattle.std.specs.declared.alloc.Global.{Global}
use Rattle.eql_lines.specs.Reach.{Scalar, at_end, over}
use Rattle.eql_lines.specs.Found.{Found, nothing, found_more, found_all, found_of, found_in, found_at}
use Rattle.eql_lines.specs.Places.{in_set}
use Rattle.eql_lines.specs.Paths.{path_at, rest_at, Gains}
use Rattle.eql_lines.specs.declared.paths.Active.{Active}
use Rattle.eql_lines.specs.declared.places.Places.{Places}
use Rattle.eql_lines.specs.declared.slots.Slot.{Slot}
use Rattle.eql_lines.proofs.Under.{Taken, taken_before, left_of, in_active, not_active}

-- ---- lists of scalars

pub found_twice : (f : Found) (a b : List Scalar) → found_all (found_all f a) b ≡ found_all f (a ++ b)
found_twice f [] b = refl
found_twice f (s ∷ a) b = found_twice (found_more f s) a b

pub append_none : {A : Type 0} (a : List A) → a ++ [] ≡ a
append_none [] = refl
append_none (x ∷ a) = ap (λ l. x ∷ l) (append_none a)

pub append_more : {A : Type 0} (a b c : List A) → (a ++ b) ++ c ≡ a ++ (b ++ c)
append_more [] b c = refl
append_more (x ∷ a) b c = ap (λ l. x ∷ l) (append_more a b c)

-- ---- slots

slot_same : (slots : List Slot) (p : ℕ) (x s : Slot) → slice_get slots p ≡ Some s → found_at (set slots p x) p ≡ found_of x
slot_same [] p x s e = absurd (cc)
slot_same (y ∷ ys) zero x s e = refl
slot_same (y ∷ ys) (suc p) x s e = slot_same ys p x s e

slot_other : (slots : List Slot) (p i : ℕ) (x : Slot) → i ≢ p → found_at (set slots p x) i ≡ found_at slots i
slot_other [] p i x h = refl
slot_other (y ∷ ys) zero zero x h = absurd (h refl)
slot_other (y ∷ ys) zero (suc i) x h = refl
slot_other (y ∷ ys) (suc p) zero x h = refl
slot_other (y ∷ ys) (suc p) (suc i) x h = slot_other ys p i x (λ e. h (ap suc e))

-- all but the places that are left have gained the scalar, where their paths end
pub record Added (paths : List (String Global)) (a : Active) (s : Scalar) (old new : List Slot) (left : Places) : Type 0 where
  pub within : (i : ℕ) → in_set left i ≡ true → in_set a.places i ≡ true
  pub same : (i : ℕ) → in_set left i ≡ true → found_at new i ≡ found_at old i
  pub done : (i : ℕ) → in_set left i ≡ false → found_at new i ≡ found_all (found_at old i) (over (λ path. at_end path s) (rest_at paths a i))

module _ (paths : List (String Global)) (a : Active) (s : Scalar) (old : List Slot) where
  pub added_none : Added paths a s old old a.places
  added_none = record {
    within = λ i e. e;
    same = λ i e. refl;
    done = λ i e. ap (λ o. found_all (found_at old i) (over (λ path. at_end path s) o)) (sym (not_active paths a [] i e));
  }

  module _ (new : List Slot) (left next : Places) (p : ℕ) (l : Added paths a s old new left) (t : Taken left next p) where
    -- the path of p doesn't end here
    pub added_past : over (λ path. at_end path s) (left_of paths a.at p) ≡ [] → Added paths a s old new next
    added_past none = record {
      within = λ i e. l.within i (taken_before left next p i t e).1;
      same = λ i e. l.same i (taken_before left next p i t e).1;
      done = λ i e. elim (cases_eq i p) [
        | inl f ↦ ap (found_at new) f ∙ l.same p t.was ∙ ap (found_all (found_at old p)) (sym (ap (over (λ path. at_end path s)) (in_active paths a [] p (l.within p t.was)) ∙ none))
            ∙ ap (λ j. found_all (found_at old j) (over (λ path. at_end path s) (rest_at paths a j))) (sym f)
        | inr other ↦ l.done i (sym (t.others i other) ∙ e)
      ];
    }

    -- it does
    pub added_on : (x y : Slot) → slice_get new p ≡ Some y → found_of x ≡ found_more (found_of y) s → left_of paths a.at p ≡ Some [] → Added paths a s old (set new p x) next
    added_on x y got more ends = record {
      within = λ i e. l.within i (taken_before left next p i t e).1;
      same = λ i e. let b = taken_before left next p i t e in slot_other new p i x b.0 ∙ l.same i b.1;
      done = λ i e. elim (cases_eq i p) [
        | inl f ↦ ap (found_at (set new p x)) f ∙ slot_same new p x y got ∙ more ∙ ap (λ o. found_more (found_in o) s) (sym got) ∙ ap (λ g. found_more g s) (l.same p t.was)
            ∙ ap (λ o. found_all (found_at old p) (over (λ path. at_end path s) o)) (sym (in_active paths a [] p (l.within p t.was) ∙ ends))
            ∙ ap (λ j. found_all (found_at old j) (over (λ path. at_end path s) (rest_at paths a j))) (sym f)
        | inr other ↦ slot_other new p i x other ∙ l.done i (sym (t.others i other) ∙ e)
      ];
    }

  pub all_added : (new : List Slot) (left : Places) → ((i : ℕ) → in_set left i ≡ false) → Added paths a s old new left → Gains paths a (λ path. at_end path s) old new
  all_added new left none l i = l.done i (none i)

pub nothing_ends : (o : Option (List ℕ)) (s : Scalar) → o ≢ Some [] → over (λ path. at_end path s) o ≡ []
nothing_ends None s h = refl
nothing_ends (Some []) s h = absurd (h refl)
nothing_ends (Some (x ∷ xs)) s h = refl

-- ---- gains, one after another

module _ (paths : List (String Global)) (a : Active) where
  pub gains_nothing : (f : List ℕ → List Scalar) (old : List Slot) → ((path : List ℕ) → f path ≡ []) → Gains paths a f old old
  gains_nothing f old none i = nothing_over (rest_at paths a i)
    where
      nothing_over : (o : Option (List ℕ)) → found_at old i ≡ found_all (found_at old i) (over f o)
      nothing_over None = refl
      nothing_over (Some r) = ap (found_all (found_at old i)) (sym (none r))

-- ---- the path of a place that has one

some_of : {A B : Type 0} (f : A → B) (o : Option A) (b : B) → Some b ≡ option_map f o → (a : A) × (o ≡ Some a)
some_of f None b e = absurd (cc)
some_of f (Some a) b e = (a, refl)

pub place_within : (paths : List (String Global)) (at p : ℕ) (r : List ℕ) → Some r ≡ left_of paths at p → p < length paths
place_within paths at p r e = let s = some_of (λ s. drop at (string_bytes s)) (slice_get paths p) r e in slice_get_within paths p s.0 s.1

pub not_end : (r : List ℕ) (o : Option (List ℕ)) (s : Scalar) → Some r ≡ o → 0 < length r → over (λ path. at_end path s) o ≡ []
not_end [] o s e h = absurd (omega arith)
not_end (x ∷ xs) o s e h = ap (over (λ path. at_end path s)) (sym e)

pub is_end : (r : List ℕ) (o : Option (List ℕ)) → Some r ≡ o → length r ≡ 0 → o ≡ Some []
is_end [] o e h = sym e
is_end (x ∷ xs) o e h = absurd (omega arith)

-- ---- all slots emptied

slot_set : (slots : List Slot) (p : ℕ) (x : Slot) → p < length slots → found_at (set slots p x) p ≡ found_of x
slot_set [] p x h = absurd (omega arith)
slot_set (y ∷ ys) zero x h = refl
slot_set (y ∷ ys) (suc p) x h = slot_set ys p x (omega arith)

pub emptied_more : (slots : List Slot) (n : ℕ) (x : Slot) → n < length slots → found_of x ≡ nothing → ((k : ℕ) → k < n → found_at slots k ≡ nothing) → (k : ℕ) → k < n + 1 → found_at (set slots n x) k ≡ nothing
emptied_more slots n x inside empty before k h = elim (cases_eq k n) [
  | inl same ↦ ap (found_at (set slots n x)) same ∙ slot_set slots n x inside ∙ empty
  | inr other ↦ slot_other slots n k x other ∙ before k (below_unless k n h other)
]
  where
    below_unless : (k n : ℕ) → k < n + 1 → k ≢ n → k < n
    below_unless k n h other = omega (arith, h, other)

pub all_emptied : (slots : List Slot) → ((k : ℕ) → k < length slots → found_at slots k ≡ nothing) → (k : ℕ) → found_at slots k ≡ nothing
all_emptied slots before k = elim (leb_tells (length slots) k) [
  | inl past ↦ ap found_in (slice_get_past slots k past.1)
  | inr inside ↦ before k inside.1
]

-- ---- the whole value

whole_in : (paths : List (String Global)) (places : Places) (i : ℕ) (o : Option (String Global)) → slice_get paths i ≡ o → (i < length paths → in_set places i ≡ true)
    → (if in_set places i then option_map (λ s. drop 0 (string_bytes s)) o else None) ≡ option_map string_bytes o
whole_in paths places i (Some s) e h = ap (λ b. if b then Some (string_bytes s) else None) (h (slice_get_within paths i s e))
whole_in paths places i None e h = nowhere (in_set places i)
  where
    none : Option (List ℕ)
    none = None

    nowhere : (b : Bool) → (if b then none else none) ≡ none
    nowhere true = refl
    nowhere false = refl

pub whole_rest : (paths : List (String Global)) (places : Places) (i : ℕ) → (i < length paths → in_set places i ≡ true) → rest_at paths (record { places = places; at = 0 }) i ≡ path_at paths i
whole_rest paths places i h = whole_in paths places i (slice_get paths i) refl h
