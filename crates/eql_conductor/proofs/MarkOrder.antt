-- The lesser of two marks.
use Rattle.std.proofs.Common.{◌≡◌, ◌≢◌, ℤ, ◌≤ℤ◌, Bool, true, false, cond, refl, arith}
use Rattle.std.specs.Ordering.{is_le, int_cmp}
use Rattle.std.specs.declared.cmp.Ordering.{Ordering}
use Rattle.std.specs.declared.cmp.Ordering.TheVariants.{Less, Equal, Greater}
use Rattle.std.proofs.lemmas.Int.{ints}
use Rattle.std.proofs.lemmas.Cmp.{int_ranked}
use Rattle.eql_values.specs.declared.order.Mark.{Mark}
use Rattle.eql_values.specs.declared.order.Mark.TheVariants.{Start, At, End}
use Rattle.eql_values.specs.Marks.{mark_cmp, mark_eq}
use Rattle.eql_laws.specs.Lateness.{IsAtMost}
use Rattle.eql_laws.proofs.MarkLemmas.{at_most_self, at_most_times}

below_after : (t u : ℤ) (o : Ordering) → o ≡ int_cmp t u → is_le o ≡ false → u ≤ℤ t
below_after t u Less e h = cc
below_after t u Equal e h = cc
below_after t u Greater e h = let k = int_ranked t u Greater e in omega (arith, ints, k)

pub at_most_start : (m : Mark) → IsAtMost Start m
at_most_start Start = refl
at_most_start (At t) = refl
at_most_start End = refl

-- one of two marks is at most the other
pub at_most_other : (m n : Mark) → is_le (mark_cmp m n) ≡ false → IsAtMost n m
at_most_other m Start h = at_most_start m
at_most_other (At t) (At u) h = at_most_times u t (below_after t u (int_cmp t u) refl h)
at_most_other End (At u) h = refl
at_most_other End End h = cc
at_most_other Start (At u) h = cc
at_most_other Start End h = cc
at_most_other (At t) End h = cc

pub lesser_low : (a b : Mark) (c : Bool) → is_le (mark_cmp a b) ≡ c → IsAtMost (cond c a b) b
lesser_low a b true h = h
lesser_low a b false h = at_most_self b

pub lesser_left : (a b : Mark) (c : Bool) → is_le (mark_cmp a b) ≡ c → IsAtMost (cond c a b) a
lesser_left a b true h = at_most_self a
lesser_left a b false h = at_most_other a b h

-- a mark is told from the end
pub is_end : (mark : Mark) → true ≡ mark_eq mark End → mark ≡ End
is_end Start e = absurd (let f = e in cc)
is_end (At t) e = absurd (let f = e in cc)
is_end End e = refl

pub not_end : (mark : Mark) → false ≡ mark_eq mark End → mark ≢ End
not_end Start e = λ f. cc
not_end (At t) e = λ f. cc
not_end End e = absurd (let f = e in cc)
