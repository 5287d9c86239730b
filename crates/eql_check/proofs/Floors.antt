-- Quotients are floors.
use Rattle.std.proofs.Common.{ℕ, suc, ◌<◌, arith}
use Rattle.std.specs.Prelude.{ℤ, pos, negsuc, neg_ℤ, ◌+ℤ◌, ◌*ℤ◌, ◌<ℤ◌, ◌≤ℤ◌, ◌/◌}
use Rattle.std.specs.Int.{int_div_euclid}
use Rattle.std.proofs.lemmas.Int.{ints}
use Rattle.std.proofs.lemmas.Nat.{div-add-mod', mod_below}
use Rattle.std.proofs.Math.Nat.{suc-mul}
use Rattle.std.proofs.Math.IntN.{pos-*ℤ-pos, negsuc-*ℤ-pos, *ℤ-negsuc, *ℤ_comm}
use Rattle.eql_check.specs.Arithmetic.{floor_div, floor_rest, IsFloor, IsRest, FloorsAreExact}

abbrev Floor : ℤ → ℕ → ℤ → Type 0
Floor a n q = ((q *ℤ pos n) ≤ℤ a) × (a <ℤ (q *ℤ pos n +ℤ pos n))

floor_by : (a : ℤ) (n : ℕ) → 0 < n → Floor a n (int_div_euclid a (pos n))
floor_by (pos m) n h =
    let x = div-add-mod' m n in
    let y = mod_below m n h in
    rw (pos-*ℤ-pos (m / n) n) (omega (arith, ints, x, y), omega (arith, ints, x, y))
floor_by (negsuc m) n h =
    let x = div-add-mod' m n in
    let y = mod_below m n h in
    rw (negsuc-*ℤ-pos (m / n) n, suc-mul (m / n) n) (omega (arith, ints, x, y), omega (arith, ints, x, y))

turned : (a p : ℤ) (n : ℕ) → (p ≤ℤ neg_ℤ a) × (neg_ℤ a <ℤ (p +ℤ pos (suc n))) → (a ≤ℤ neg_ℤ p) × ((neg_ℤ p +ℤ negsuc n) <ℤ a)
turned a p n h = (omega (arith, ints, h.0, h.1), omega (arith, ints, h.0, h.1))

quotient_is : (a b : ℤ) → IsFloor a b (floor_div a b)
quotient_is a (pos n) = record {
  above_zero = λ h. floor_by a n (omega (arith, ints, h));
  below_zero = λ h. absurd (omega (arith, ints, h));
}
quotient_is a (negsuc n) = record {
  above_zero = λ h. absurd (omega (arith, ints, h));
  below_zero = λ h. rw (*ℤ-negsuc (floor_div a (negsuc n)) n) (turned a (floor_div a (negsuc n) *ℤ pos (suc n)) n (floor_by (neg_ℤ a) (suc n) (omega arith)));
}

rest_is : (a b : ℤ) → IsRest b (floor_rest a b)
rest_is a b =
    let x = quotient_is a b in
    let e = *ℤ_comm b (floor_div a b) in
    record {
      above_zero = λ h. let y = x.above_zero h in rw e (omega (arith, ints, y.0, y.1), omega (arith, ints, y.0, y.1));
      below_zero = λ h. let y = x.below_zero h in rw e (omega (arith, ints, y.0, y.1), omega (arith, ints, y.0, y.1));
    }

pub floors : FloorsAreExact
floors = record { quotient = quotient_is; rest = rest_is }
