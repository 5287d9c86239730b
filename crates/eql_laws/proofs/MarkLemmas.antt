-- The order of marks by times, and what is below them.
use Rattle.std.proofs.Common.{◌≡◌, ℤ, ◌≤ℤ◌, ◌-ℤ◌, Bool, true, false, Option, Some, None, refl, arith, cond}
use Rattle.std.specs.Int.Signed.{lt_z}
use Rattle.std.specs.Ordering.{is_le, int_cmp}
use Rattle.std.specs.declared.cmp.Ordering.{Ordering}
use Rattle.std.specs.declared.cmp.Ordering.TheVariants.{Less, Equal, Greater}
use Rattle.std.proofs.lemmas.Int.{ints}
use Rattle.std.proofs.lemmas.Cmp.{int_ranked}
use Rattle.eql_values.specs.declared.order.Mark.{Mark}
use Rattle.eql_values.specs.declared.order.Mark.TheVariants.{Start, At, End}
use Rattle.eql_values.specs.declared.item.Item.{Item}
use Rattle.eql_values.specs.Marks.{is_below, low_of}
use Rattle.eql_laws.specs.Lateness.{IsAtMost, larger, late_by}

le_by_order : (t u : ℤ) (o : Ordering) → o ≡ int_cmp t u → is_le o ≡ true → t ≤ℤ u
le_by_order t u Less e h = let k = int_ranked t u Less e in omega (arith, ints, k)
le_by_order t u Equal e h = let k = int_ranked t u Equal e in omega (arith, ints, k)
le_by_order t u Greater e h = cc

order_by_le : (t u : ℤ) (o : Ordering) → o ≡ int_cmp t u → t ≤ℤ u → is_le o ≡ true
order_by_le t u Less e h = refl
order_by_le t u Equal e h = refl
order_by_le t u Greater e h = let k = int_ranked t u Greater e in absurd (omega (arith, ints, k, h))

-- marks with times are in the order of the times
pub times_le : (t u : ℤ) → IsAtMost (At t) (At u) → t ≤ℤ u
times_le t u h = le_by_order t u (int_cmp t u) refl h

pub at_most_times : (t u : ℤ) → t ≤ℤ u → IsAtMost (At t) (At u)
at_most_times t u h = order_by_le t u (int_cmp t u) refl h

pub at_most_end : (m : Mark) → IsAtMost m End
at_most_end Start = refl
at_most_end (At t) = refl
at_most_end End = refl

pub at_most_self : (m : Mark) → IsAtMost m m
at_most_self Start = refl
at_most_self (At t) = at_most_times t t (omega (arith, ints))
at_most_self End = refl

pub at_most_trans : (a b c : Mark) → IsAtMost a b → IsAtMost b c → IsAtMost a c
at_most_trans Start Start c h k = k
at_most_trans Start (At u) Start h k = cc
at_most_trans Start (At u) (At v) h k = refl
at_most_trans Start (At u) End h k = refl
at_most_trans Start End Start h k = cc
at_most_trans Start End (At v) h k = cc
at_most_trans Start End End h k = refl
at_most_trans (At t) (At u) (At v) h k =
    let p = times_le t u h in let q = times_le u v k in at_most_times t v (omega (arith, ints, p, q))
at_most_trans (At t) b End h k = refl
at_most_trans (At t) Start Start h k = cc
at_most_trans (At t) (At u) Start h k = cc
at_most_trans (At t) End Start h k = cc
at_most_trans (At t) Start (At v) h k = cc
at_most_trans (At t) End (At v) h k = cc
at_most_trans End Start c h k = cc
at_most_trans End (At u) c h k = cc
at_most_trans End End Start h k = cc
at_most_trans End End (At v) h k = cc
at_most_trans End End End h k = refl

earlier_below : (t u ts : ℤ) → t ≤ℤ u → lt_z ts t ≡ true → lt_z ts u ≡ true
earlier_below t u ts h e = grind (arith, ints)

-- what is below a mark is below each greater one
pub below_up : (m n : Mark) (i : Item) → IsAtMost m n → is_below m i ≡ true → is_below n i ≡ true
below_up Start n i h e = cc
below_up (At t) (At u) i h e = earlier_below t u i.order.ts (times_le t u h) e
below_up (At t) End i h e = refl
below_up End End i h e = refl
below_up (At t) Start i h e = cc
below_up End Start i h e = cc
below_up End (At u) i h e = cc

not_below_time : (t best slack ts : ℤ) → t ≤ℤ (best -ℤ slack) → lt_z slack (best -ℤ ts) ≡ false → lt_z ts t ≡ false
not_below_time t best slack ts h e = grind (arith, ints)

-- what isn't late is not below a mark that is at most the low
pub accepted_above : (slack best : Option ℤ) (m : Mark) (i : Item) → IsAtMost m (low_of false slack best) → late_by slack best i ≡ false → is_below m i ≡ false
accepted_above slack best Start i h e = refl
accepted_above None best (At t) i h e = cc
accepted_above (Some slack) None (At t) i h e = cc
accepted_above None best End i h e = cc
accepted_above (Some slack) None End i h e = cc
accepted_above (Some slack) (Some best) End i h e = cc
accepted_above (Some slack) (Some best) (At t) i h e = not_below_time t best slack i.order.ts (times_le t (best -ℤ slack) h) e

larger_up : (b : Bool) (t u : ℤ) → lt_z t u ≡ b → u ≤ℤ cond b u t
larger_up true t u e = omega (arith, ints)
larger_up false t u e = grind (arith, ints)

less_slack : (a b slack : ℤ) → a ≤ℤ b → (a -ℤ slack) ≤ℤ (b -ℤ slack)
less_slack a b slack h = omega (arith, ints, h)

-- one more time lets the low rise or stay
pub low_up : (slack best : Option ℤ) (ts : ℤ) → IsAtMost (low_of false slack best) (low_of false slack (Some (larger ts best)))
low_up None best ts = refl
low_up (Some slack) None ts = refl
low_up (Some slack) (Some best) ts =
    at_most_times (best -ℤ slack) (larger ts (Some best) -ℤ slack) (less_slack best (cond (lt_z ts best) best ts) slack (larger_up (lt_z ts best) ts best refl))
