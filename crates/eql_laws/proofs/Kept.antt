-- One kept time tells who is late, and no event below a safe mark is still to come.
use Rattle.std.proofs.Common.{◌≡◌, ℤ, ◌-ℤ◌, Bool, true, false, cond, List, [], ◌∷◌, ◌++◌, Option, Some, None, refl, sym, ap, ◌∙◌, arith}
use Rattle.std.specs.Prelude.{◌||◌, filter}
use Rattle.std.specs.Int.Signed.{lt_z}
use Rattle.std.proofs.lemmas.Int.{ints}
use Rattle.std.proofs.lemmas.List.{append-nil}
use Rattle.std.proofs.lemmas.List.Elements.{filter-append}
use Rattle.eql_values.specs.declared.order.Mark.{Mark}
use Rattle.eql_values.specs.declared.item.Item.{Item}
use Rattle.eql_values.specs.Marks.{is_below, low_of}
use Rattle.eql_values.specs.Matching.{onto}
use Rattle.eql_laws.specs.Lateness.{larger, best_of, best_from, late_by, accepted_by, IsAtMost, BestTellsLate, BestTellsAccepted, BestGoesOn, BestFromGoesOn, AcceptedSplits, LowRises, NoneComesBelow}
use Rattle.eql_laws.proofs.MarkLemmas.{at_most_self, at_most_trans, at_most_end, low_up, accepted_above}

larger_late : (slack t u now : ℤ) → lt_z slack ((cond (lt_z t u) u t) -ℤ now) ≡ (lt_z slack (t -ℤ now) || lt_z slack (u -ℤ now))
larger_late slack t u now = grind (arith, ints)

no_more : (b : Bool) → b ≡ (b || false)
no_more true = refl
no_more false = refl

pub late_by_best : BestTellsLate
late_by_best None earlier item = refl
late_by_best (Some slack) [] item = refl
late_by_best (Some slack) (e ∷ []) item = sym (no_more (lt_z slack (e.order.ts -ℤ item.order.ts)))
late_by_best (Some slack) (e ∷ f ∷ earlier) item =
    ap (λ (b : Bool). lt_z slack (e.order.ts -ℤ item.order.ts) || b) (late_by_best (Some slack) (f ∷ earlier) item)
    ∙ sym (larger_late slack e.order.ts (larger f.order.ts (best_of earlier)) item.order.ts)

pub accepted_by_best : BestTellsAccepted
accepted_by_best slack earlier [] = refl
accepted_by_best slack earlier (item ∷ items) = λ i.
    cond (late_by_best slack earlier item i) (accepted_by_best slack (item ∷ earlier) items i) (item ∷ accepted_by_best slack (item ∷ earlier) items i)

-- the greater of two times that may be there
abbrev joined : Option ℤ → Option ℤ → Option ℤ
joined None other = other
joined (Some t) other = Some (larger t other)

larger_of_three : (t u v : ℤ) → cond (lt_z t (cond (lt_z u v) v u)) (cond (lt_z u v) v u) t ≡ cond (lt_z (cond (lt_z u t) t u) v) v (cond (lt_z u t) t u)
larger_of_three t u v = grind (arith, ints)

larger_of_two : (t u : ℤ) → cond (lt_z t u) u t ≡ cond (lt_z u t) t u
larger_of_two t u = grind (arith, ints)

joined_more : (best : Option ℤ) (ts : ℤ) (other : Option ℤ) → joined best (Some (larger ts other)) ≡ Some (larger (larger ts best) other)
joined_more None ts other = refl
joined_more (Some t) ts None = ap Some (larger_of_two t ts)
joined_more (Some t) ts (Some v) = ap Some (larger_of_three t ts v)

best_is : (best : Option ℤ) (items : List Item) → best_from best items ≡ joined best (best_of items)
best_is None [] = refl
best_is (Some t) [] = refl
best_is best (item ∷ items) =
    best_is (Some (larger item.order.ts best)) items ∙ sym (joined_more best item.order.ts (best_of items))

pub best_is_from : (items : List Item) → best_from None items ≡ best_of items
best_is_from items = best_is None items

best_append : (a b : List Item) → best_of (a ++ b) ≡ joined (best_of a) (best_of b)
best_append [] b = refl
best_append (item ∷ a) b = ap (λ (o : Option ℤ). Some (larger item.order.ts o)) (best_append a b) ∙ three item.order.ts (best_of a) (best_of b)
  where
    three : (t : ℤ) (x y : Option ℤ) → Some (larger t (joined x y)) ≡ Some (larger (larger t x) y)
    three t None y = refl
    three t (Some u) None = refl
    three t (Some u) (Some v) = ap Some (larger_in_turn t u v)
      where
        larger_in_turn : (t u v : ℤ) → cond (lt_z t (cond (lt_z u v) v u)) (cond (lt_z u v) v u) t ≡ cond (lt_z (cond (lt_z t u) u t) v) v (cond (lt_z t u) u t)
        larger_in_turn t u v = grind (arith, ints)

best_onto : (a b : List Item) → best_of (onto b a) ≡ best_from (best_of a) b
best_onto a [] = refl
best_onto a (item ∷ b) = best_onto (item ∷ a) b

pub best_goes_on : BestGoesOn
best_goes_on a b = (best_append a b ∙ sym (best_is (best_of a) b), best_onto a b)

pub best_from_goes_on : BestFromGoesOn
best_from_goes_on best [] b = refl
best_from_goes_on best (item ∷ a) b = best_from_goes_on (Some (larger item.order.ts best)) a b

in_turn : (c : Bool) (item : Item) (xs ys zs : List Item) → zs ≡ xs ++ ys → cond c zs (item ∷ zs) ≡ cond c xs (item ∷ xs) ++ ys
in_turn true item xs ys zs e = e
in_turn false item xs ys zs e = ap (λ (l : List Item). item ∷ l) e

pub accepted_split : AcceptedSplits
accepted_split slack best [] b = refl
accepted_split slack best (item ∷ a) b =
    in_turn (late_by slack best item) item (accepted_by slack (Some (larger item.order.ts best)) a) (accepted_by slack (best_from (Some (larger item.order.ts best)) a) b)
    (accepted_by slack (Some (larger item.order.ts best)) (a ++ b)) (accepted_split slack (Some (larger item.order.ts best)) a b)

low_on : (slack best : Option ℤ) (b : List Item) → IsAtMost (low_of false slack best) (low_of false slack (best_from best b))
low_on slack best [] = at_most_self (low_of false slack best)
low_on slack best (item ∷ b) =
    at_most_trans (low_of false slack best) (low_of false slack (Some (larger item.order.ts best))) (low_of false slack (best_from (Some (larger item.order.ts best)) b))
    (low_up slack best item.order.ts) (low_on slack (Some (larger item.order.ts best)) b)

pub low_rises : LowRises
low_rises true slack best b = at_most_end (low_of false slack best)
low_rises false slack best b = low_on slack best b

none_one : (slack best : Option ℤ) (mark : Mark) (item : Item) (items : List Item) (c : Bool) → late_by slack best item ≡ c → IsAtMost mark (low_of false slack best)
    → filter (is_below mark) items ≡ [] → filter (is_below mark) (cond c items (item ∷ items)) ≡ []
none_one slack best mark item items true e h rest = rest
none_one slack best mark item items false e h rest =
    ap (λ (c : Bool). cond c (item ∷ filter (is_below mark) items) (filter (is_below mark) items)) (accepted_above slack best mark item h e) ∙ rest

-- of what is accepted after a place nothing is below a mark that is safe there
pub none_below : (slack best : Option ℤ) (mark : Mark) (items : List Item) → IsAtMost mark (low_of false slack best) → filter (is_below mark) (accepted_by slack best items) ≡ []
none_below slack best mark [] h = refl
none_below slack best mark (item ∷ items) h =
    none_one slack best mark item (accepted_by slack (Some (larger item.order.ts best)) items) (late_by slack best item) refl h
    (none_below slack (Some (larger item.order.ts best)) mark items
    (at_most_trans mark (low_of false slack best) (low_of false slack (Some (larger item.order.ts best))) h (low_up slack best item.order.ts)))

pub none_comes_below : NoneComesBelow
none_comes_below slack mark a b h =
    ap (filter (is_below mark)) (accepted_by_best slack [] (a ++ b) ∙ accepted_split slack None a b)
    ∙ filter-append (is_below mark) (accepted_by slack None a) (accepted_by slack (best_from None a) b)
    ∙ ap (λ (l : List Item). filter (is_below mark) (accepted_by slack None a) ++ l)
    (ap (λ (best : Option ℤ). filter (is_below mark) (accepted_by slack best b)) (best_is_from a) ∙ none_below slack (best_of a) mark b h)
    ∙ append-nil (filter (is_below mark) (accepted_by slack None a))
    ∙ sym (ap (filter (is_below mark)) (accepted_by_best slack [] a))
