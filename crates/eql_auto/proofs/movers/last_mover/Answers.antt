use Rattle.std.proofs.Common.{◌-◌, arith}
use Rattle.std.specs.Prelude.{◌==◌}
use Rattle.std.specs.Int.{bit_at}
use Rattle.eql_auto.proofs.Bits.{found_last, found_none}
use Rattle.eql_auto.proofs.Halves.{HasNoneHigh, first_alone, in_high, in_low, in_neither, none_high, short}
use Rattle.eql_auto.proofs.movers.last_mover.Goals.{then-below-gt128+in_default, else-below-gt128}
use Rattle.eql_auto.proofs.movers.last_mover.Goals as goal

pub returns-in-Some : goal.returns-in-Some
returns-in-Some c =
    in_high c.args.mask.now c.args.below c.in-Some.bit c.if-below-gt128.true
    (found_last (λ j. bit_at c.args.mask.now.high j == 1) 0 (c.args.below - 128) c.in-Some.bit c.last_bit.result c.last_bit.ensures c.in-Some.is)

pub returns-in-Some-last_bit : goal.returns-in-Some-last_bit
returns-in-Some-last_bit c =
    let mask = c.args.mask.now in
    let none : HasNoneHigh mask c.args.below = elim c.if-below-gt128.branch [
      | then-below-gt128+in_default w ↦ none_high mask c.args.below (found_none (λ j. bit_at mask.high j == 1) 0 (c.args.below - 128) w.last_bit.result w.last_bit.ensures w.in_default.is)
      | else-below-gt128 w ↦ let narrow = w.if-below-gt128.false in short mask c.args.below (omega arith)
    ] in
    in_low mask c.args.below c.min.result c.in-Some-last_bit.bit c.min.ensures none c.if-bit-gt0.true
    (found_last (λ j. bit_at mask.low j == 1) 0 c.min.result c.in-Some-last_bit.bit c.last_bit-2.result c.last_bit-2.ensures c.in-Some-last_bit.is)

pub returns-in_default-last_bit : goal.returns-in_default-last_bit
returns-in_default-last_bit c =
    let mask = c.args.mask.now in
    let none : HasNoneHigh mask c.args.below = elim c.if-below-gt128.branch [
      | then-below-gt128+in_default w ↦ none_high mask c.args.below (found_none (λ j. bit_at mask.high j == 1) 0 (c.args.below - 128) w.last_bit.result w.last_bit.ensures w.in_default.is)
      | else-below-gt128 w ↦ let narrow = w.if-below-gt128.false in short mask c.args.below (omega arith)
    ] in
    first_alone mask c.args.below c.min.result c.in-Some-last_bit.bit c.min.ensures none c.if-bit-gt0.false
    (found_last (λ j. bit_at mask.low j == 1) 0 c.min.result c.in-Some-last_bit.bit c.last_bit-2.result c.last_bit-2.ensures c.in-Some-last_bit.is)

pub returns-in_default-last_bit-2 : goal.returns-in_default-last_bit-2
returns-in_default-last_bit-2 c =
    let mask = c.args.mask.now in
    let none : HasNoneHigh mask c.args.below = elim c.if-below-gt128.branch [
      | then-below-gt128+in_default w ↦ none_high mask c.args.below (found_none (λ j. bit_at mask.high j == 1) 0 (c.args.below - 128) w.last_bit.result w.last_bit.ensures w.in_default.is)
      | else-below-gt128 w ↦ let narrow = w.if-below-gt128.false in short mask c.args.below (omega arith)
    ] in
    in_neither mask c.args.below c.min.result c.min.ensures none
    (found_none (λ j. bit_at mask.low j == 1) 0 c.min.result c.last_bit-2.result c.last_bit-2.ensures c.in_default-last_bit.is)
