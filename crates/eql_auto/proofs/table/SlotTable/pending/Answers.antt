use Rattle.std.proofs.Common.{◌≡◌, ℕ, Bool, sym, ap, arith}
use Rattle.std.specs.Prelude.{if◌then◌else◌, is_some}
use Rattle.eql_auto.proofs.Counting.{none_is_left, pends}
use Rattle.eql_auto.proofs.table.SlotTable.pending.Goals.{then-is_some, else-is_some}
use Rattle.eql_auto.proofs.table.SlotTable.pending.Goals as goal

pub loop-slot-preserved : goal.loop-slot-preserved
loop-slot-preserved g c =
    let slot = c.slot-item.result in
    let more = pends c.deref-slot-items.result.now c.loop-slot.slot-index slot c.loop-slot-test.true c.slot-item.is in
    let most = c.loop-slot.invariant.most in let left = c.loop-slot.invariant.left in
    elim c.if-is_some.branch [
      | then-is_some w ↦ let one : ◌≡◌ {A = ℕ} (if is_some slot then 1 else 0) 1 = ap {B = ℕ} (λ (b : Bool). if b then 1 else 0) (sym (w.if-is_some.ensures {u = tt})) in
          let now = w.count-is in record { most = omega (arith, most, now); left = omega (arith, more, one, left, now) }
      | else-is_some w ↦ let none : ◌≡◌ {A = ℕ} (if is_some slot then 1 else 0) 0 = ap {B = ℕ} (λ (b : Bool). if b then 1 else 0) (sym (w.if-is_some.ensures {u = tt})) in
          let now = w.count-is in record { most = omega (arith, most, now); left = omega (arith, more, none, left, now) }
    ]

pub returns : goal.returns
returns g c =
    let past = none_is_left c.deref-slot-items.result.now c.loop-slot.slot-index c.loop-slot-test.false in let left = c.loop-slot.invariant.left in
    omega arith
