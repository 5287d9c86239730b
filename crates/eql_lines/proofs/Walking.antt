-- What a walk adds, member by member and item by item.
use Rattle.std.proofs.Common.{◌≡◌, ℕ, suc, List, [], ◌∷◌, ◌++◌, length, drop, Bool, true, false, ◌||◌, Option, Some, None, option_and_then, String, refl, sym, ap, ap₂, ◌∙◌, subst, true≢false, Ordering, Less, Equal, Greater, nat_cmp, is_eq}
use Rattle.std.specs.Prelude.{⊤}
use Rattle.std.proofs.lemmas.Map.Text.{is_eq-slice_cmp}
use Rattle.std.proofs.lemmas.Slice.Eq.{bytes_eq-Decides}
use Rattle.std.specs.Cmp.Lexicographic.{slice_cmp}
use Rattle.std.specs.Ordering.{match_ordering}
use Rattle.std.specs.declared.alloc.Global.{Global}
use Rattle.serde_json.specs.Data.{Data, no_items, Members, no_members, member, put, Num, unsigned, negative, float}
use Rattle.eql_lines.specs.Reach.{Scalar, behind, leads, over, of_number, reach, reach_items, reach_members}
use Rattle.eql_lines.specs.Found.{found_all, found_at, scalar_of}
use Rattle.eql_lines.specs.Numbers.{num_of}
use Rattle.eql_lines.specs.Places.{in_set}
use Rattle.eql_lines.specs.Paths.{rest_at, Gains}
use Rattle.eql_lines.specs.declared.paths.Active.{Active}
use Rattle.eql_lines.specs.declared.places.Places.{Places}
use Rattle.eql_lines.specs.declared.slots.Slot.{Slot}
use Rattle.eql_lines.proofs.Reading.{items_before}
use Rattle.eql_lines.proofs.Under.{not_active, leads_none, leads_some}
use Rattle.eql_lines.proofs.Adding.{found_twice, append_none, append_more}

pub number_scalar : (n : Num) → scalar_of (num_of n) ≡ of_number n
number_scalar (unsigned n) = refl
number_scalar (negative z) = refl
number_scalar (float x) = refl

-- ---- one gain after another

over_both : {A B : Type 0} (f g h : A → List B) (o : Option A) → ((x : A) → h x ≡ f x ++ g x) → over f o ++ over g o ≡ over h o
over_both f g h None e = refl
over_both f g h (Some x) e = sym (e x)

module _ (paths : List (String Global)) (a : Active) where
  pub gains_then : (f g h : List ℕ → List Scalar) (old mid new : List Slot) → Gains paths a f old mid → Gains paths a g mid new → ((path : List ℕ) → h path ≡ f path ++ g path) → Gains paths a h old new
  gains_then f g h old mid new first second both i =
      second i ∙ ap (λ x. found_all x (over g (rest_at paths a i))) (first i) ∙ found_twice (found_at old i) (over f (rest_at paths a i)) (over g (rest_at paths a i))
      ∙ ap (found_all (found_at old i)) (over_both f g h (rest_at paths a i) both)

  -- where no path goes on, nothing is gained
  pub gains_empty : (f : List ℕ → List Scalar) (old : List Slot) → ((i : ℕ) → in_set a.places i ≡ false) → Gains paths a f old old
  gains_empty f old none i = ap (λ o. found_all (found_at old i) (over f o)) (sym (not_active paths a [] i (none i)))

-- ---- items

pub reach_pushed : (before : List Data) (d : Data) (path : List ℕ) → reach_items (items_before (before ++ d ∷ []) no_items) path ≡ reach_items (items_before before no_items) path ++ reach d path
reach_pushed [] d path = append_none (reach d path)
reach_pushed (e ∷ before) d path = ap (λ l. reach e path ++ l) (reach_pushed before d path) ∙ sym (append_more (reach e path) _ _)

-- ---- members

-- no key among the members leads along the path
abbrev pub NoneLeads : List ℕ → Members → Type 0
NoneLeads r no_members = ⊤
NoneLeads r (member k d ms) = (leads k r ≡ false) × NoneLeads r ms

abbrev pub Untouched : Option (List ℕ) → Members → Type 0
Untouched None ms = ⊤
Untouched (Some r) ms = NoneLeads r ms

same_key : (k l : List ℕ) → slice_cmp nat_cmp k l ≡ Equal → k ≡ l
same_key k l e = (bytes_eq-Decides k l).0 (sym (is_eq-slice_cmp k l) ∙ ap is_eq e)

apart_in : (r k l : List ℕ) (d e : Data) (ms more : Members) (o : Ordering) → leads k r ≡ false → leads l r ≡ false → NoneLeads r ms → NoneLeads r more
    → NoneLeads r (match_ordering o (member k d (member l e ms)) (member l d ms) (member l e more))
apart_in r k l d e ms more Less h f g m = (h, (f, g))
apart_in r k l d e ms more Equal h f g m = (f, g)
apart_in r k l d e ms more Greater h f g m = (f, m)

put_apart : (r k : List ℕ) (d : Data) (ms : Members) → leads k r ≡ false → NoneLeads r ms → NoneLeads r (put k d ms)
put_apart r k d no_members h n = (h, tt)
put_apart r k d (member l e ms) h n = apart_in r k l d e ms (put k d ms) (slice_cmp nat_cmp k l) h n.0 n.1 (put_apart r k d ms h n.1)

-- a key that doesn't lead adds nothing
none_over : (k r : List ℕ) (d : Data) → leads k r ≡ false → over (reach d) (behind k r) ≡ []
none_over k r d h = ap (over (reach d)) (leads_none k r h)

same_in : (r k l : List ℕ) (d e : Data) (ms more : Members) (o : Ordering) → slice_cmp nat_cmp k l ≡ o → leads k r ≡ false → reach_members more r ≡ reach_members ms r
    → reach_members (match_ordering o (member k d (member l e ms)) (member l d ms) (member l e more)) r ≡ reach_members (member l e ms) r
same_in r k l d e ms more Less c h m = ap (λ x. x ++ reach_members (member l e ms) r) (none_over k r d h)
same_in r k l d e ms more Equal c h m =
    let off : leads l r ≡ false = sym (ap (λ x. leads x r) (same_key k l c)) ∙ h in
    ap (λ x. x ++ reach_members ms r) (none_over l r d off ∙ sym (none_over l r e off))
same_in r k l d e ms more Greater c h m = ap (λ x. over (reach e) (behind l r) ++ x) m

reach_apart : (r k : List ℕ) (d : Data) (ms : Members) → leads k r ≡ false → reach_members (put k d ms) r ≡ reach_members ms r
reach_apart r k d no_members h = ap (λ x. x ++ []) (none_over k r d h)
reach_apart r k d (member l e ms) h = same_in r k l d e ms (put k d ms) (slice_cmp nat_cmp k l) refl h (reach_apart r k d ms h)

reach_none : (r : List ℕ) (ms : Members) → NoneLeads r ms → reach_members ms r ≡ []
reach_none r no_members n = refl
reach_none r (member l e ms) n = ap₂ (λ x y. x ++ y) (none_over l r e n.0) (reach_none r ms n.1)

first_in : (r k l : List ℕ) (d e : Data) (ms more : Members) (o : Ordering) → slice_cmp nat_cmp k l ≡ o → leads k r ≡ true → leads l r ≡ false → NoneLeads r ms → reach_members more r ≡ over (reach d) (behind k r)
    → reach_members (match_ordering o (member k d (member l e ms)) (member l d ms) (member l e more)) r ≡ over (reach d) (behind k r)
first_in r k l d e ms more Less c h f n m = ap (λ x. over (reach d) (behind k r) ++ x) (reach_none r (member l e ms) (f, n)) ∙ append_none (over (reach d) (behind k r))
first_in r k l d e ms more Equal c h f n m = absurd (true≢false (sym h ∙ ap (λ x. leads x r) (same_key k l c) ∙ f))
first_in r k l d e ms more Greater c h f n m = ap₂ (λ x y. x ++ y) (none_over l r e f) m

reach_first : (r k : List ℕ) (d : Data) (ms : Members) → leads k r ≡ true → NoneLeads r ms → reach_members (put k d ms) r ≡ over (reach d) (behind k r)
reach_first r k d no_members h n = append_none (over (reach d) (behind k r))
reach_first r k d (member l e ms) h n = first_in r k l d e ms (put k d ms) (slice_cmp nat_cmp k l) refl h n.0 n.1 (reach_first r k d ms h n.1)

-- ---- a member more

module _ (paths : List (String Global)) (a inner : Active) (k : List ℕ) (d : Data) (old : Members) (taken : Places) (begun mid new : List Slot)
    (under : (i : ℕ) → rest_at paths inner i ≡ option_and_then (behind k) (rest_at paths a i))
    (free : (i : ℕ) → in_set taken i ≡ false → Untouched (rest_at paths a i) old) where
  not_inner : (i : ℕ) (r : List ℕ) → rest_at paths a i ≡ Some r → in_set inner.places i ≡ false → leads k r ≡ false
  not_inner i r e f = off (leads k r) refl
    where
      off : (b : Bool) → leads k r ≡ b → leads k r ≡ false
      off false g = g
      off true g =
          let some : Some (drop (suc (length k)) r) ≡ option_and_then (behind k) (rest_at paths a i) = sym (leads_some k r g) ∙ sym (ap (option_and_then (behind k)) e) in
          absurd (cc (some, sym (under i), not_active paths inner [] i f))

  pub still_free : (i : ℕ) (o : Option (List ℕ)) → rest_at paths a i ≡ o → in_set taken i ≡ false → in_set inner.places i ≡ false → Untouched o (put k d old)
  still_free i None e f g = tt
  still_free i (Some r) e f g = put_apart r k d old (not_inner i r e g) (subst (λ o. Untouched o old) e (free i f))

  neither : (x y : Bool) → (x || y) ≡ false → (x ≡ false) × (y ≡ false)
  neither true y e = absurd (true≢false e)
  neither false y e = (refl, e)

  -- with the places of the member taken
  pub free_after : (both : Places) → ((i : ℕ) → in_set both i ≡ (in_set taken i || in_set inner.places i)) → (i : ℕ) → in_set both i ≡ false → Untouched (rest_at paths a i) (put k d old)
  free_after both is i e = let n = neither (in_set taken i) (in_set inner.places i) (sym (is i) ∙ e) in still_free i (rest_at paths a i) refl n.0 n.1

  module _ (first : Gains paths a (reach_members old) begun mid) (second : Gains paths inner (reach d) mid new) (apart : (i : ℕ) → in_set inner.places i ≡ true → in_set taken i ≡ false) where
    after_first : (i : ℕ) (o : Option (List ℕ)) → rest_at paths a i ≡ o → found_at mid i ≡ found_all (found_at begun i) (over (reach_members old) o)
    after_first i o e = first i ∙ ap (λ x. found_all (found_at begun i) (over (reach_members old) x)) e

    after_second : (i : ℕ) (o : Option (List ℕ)) → rest_at paths a i ≡ o → found_at new i ≡ found_all (found_at mid i) (over (reach d) (option_and_then (behind k) o))
    after_second i o e = second i ∙ ap (λ x. found_all (found_at mid i) (over (reach d) x)) (under i ∙ ap (option_and_then (behind k)) e)

    is_free : (i : ℕ) (r : List ℕ) (b : Bool) → in_set inner.places i ≡ b → rest_at paths a i ≡ Some r → leads k r ≡ true → NoneLeads r old
    is_free i r true g e h = subst (λ o. Untouched o old) e (free i (apart i g))
    is_free i r false g e h = absurd (true≢false (sym h ∙ not_inner i r e g))

    by_lead : (i : ℕ) (r : List ℕ) (b : Bool) → leads k r ≡ b → rest_at paths a i ≡ Some r → found_at new i ≡ found_all (found_at begun i) (reach_members (put k d old) r)
    by_lead i r false h e =
        after_second i (Some r) e ∙ ap (λ x. found_all (found_at mid i) (over (reach d) x)) (leads_none k r h) ∙ after_first i (Some r) e
        ∙ ap (found_all (found_at begun i)) (sym (reach_apart r k d old h))
    by_lead i r true h e =
        let n = is_free i r (in_set inner.places i) refl e h in
        after_second i (Some r) e ∙ ap (λ x. found_all x (over (reach d) (behind k r))) (after_first i (Some r) e ∙ ap (found_all (found_at begun i)) (reach_none r old n))
        ∙ ap (found_all (found_at begun i)) (sym (reach_first r k d old h n))

    by_rest : (i : ℕ) (o : Option (List ℕ)) → rest_at paths a i ≡ o → found_at new i ≡ found_all (found_at begun i) (over (reach_members (put k d old)) o)
    by_rest i None e = after_second i None e ∙ after_first i None e
    by_rest i (Some r) e = by_lead i r (leads k r) refl e

    pub member_gains : Gains paths a (reach_members (put k d old)) begun new
    member_gains i = by_rest i (rest_at paths a i) refl

-- nothing is taken before the first member
pub untouched_none : (o : Option (List ℕ)) → Untouched o no_members
untouched_none None = tt
untouched_none (Some r) = tt
