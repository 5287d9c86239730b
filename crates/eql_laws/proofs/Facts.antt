-- Facts of tests and orderings.
use Rattle.std.proofs.Common.{◌≡◌, Bool, true, false, refl, sym, subst, T}
use Rattle.std.specs.Prelude.{◌&&◌, ◌||◌}
use Rattle.std.specs.Ordering.{is_eq, is_lt, ordering_then}
use Rattle.std.specs.declared.cmp.Ordering.{Ordering}
use Rattle.std.specs.declared.cmp.Ordering.TheVariants.{Less, Equal, Greater}

pub both_hold : (a b : Bool) → T a → T b → T (a && b)
both_hold true b p q = q
both_hold false b p q = p

pub left_holds : (a b : Bool) → T (a && b) → T a
left_holds true b p = tt
left_holds false b p = p

pub right_holds : (a b : Bool) → T (a && b) → T b
right_holds true b p = p
right_holds false b p = absurd p

pub holds_true : (b : Bool) → T b → b ≡ true
holds_true true h = refl
holds_true false h = absurd h

pub both_true : (a b : Bool) → (a && b) ≡ true → (a ≡ true) × (b ≡ true)
both_true true b e = (refl, e)
both_true false b e = cc

pub true_both : (a b : Bool) → a ≡ true → b ≡ true → (a && b) ≡ true
true_both true b e f = f
true_both false b e f = cc

pub any_false : (a b : Bool) → (a || b) ≡ false → (a ≡ false) × (b ≡ false)
any_false true b e = cc
any_false false b e = (refl, e)

pub is_equal : (o : Ordering) → is_eq o ≡ true → o ≡ Equal
is_equal Less e = cc
is_equal Equal e = refl
is_equal Greater e = cc

pub less_is : (o : Ordering) → o ≡ Less → T (is_lt o)
less_is o e = subst (λ (x : Ordering). T (is_lt x)) (sym e) tt

pub is_less : (o : Ordering) → T (is_lt o) → o ≡ Less
is_less Less h = refl
is_less Equal h = absurd h
is_less Greater h = absurd h

pub less_not_equal : (o : Ordering) → T (is_lt o) → is_eq o ≡ false
less_not_equal Less h = refl
less_not_equal Equal h = absurd h
less_not_equal Greater h = absurd h

-- two comparisons in turn
pub both_equal : (a b : Ordering) → ordering_then a b ≡ Equal → (a ≡ Equal) × (b ≡ Equal)
both_equal Less b e = cc
both_equal Equal b e = (refl, e)
both_equal Greater b e = cc

pub ties_both : (a b : Ordering) → is_eq (ordering_then a b) ≡ (is_eq a && is_eq b)
ties_both Less b = refl
ties_both Equal b = refl
ties_both Greater b = refl
