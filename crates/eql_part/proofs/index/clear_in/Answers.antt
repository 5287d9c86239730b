use Rattle.std.proofs.Common.{◌<◌, Bool, cond, get_or, length, ap, ◌∙◌, arith}
use Rattle.std.proofs.Math.ListN.{set}
use Rattle.std.proofs.lemmas.List.{get_or_default}
use Rattle.std.proofs.lemmas.List.Edits.{map_over_more}
use Rattle.eql_part.specs.declared.index.Slot.{Slot}
use Rattle.eql_part.specs.declared.index.Slot.TheVariants.{Free}
use Rattle.eql_part.specs.Indexed.{slot_without}
use Rattle.eql_part.proofs.index.clear_in.Goals.{then-has, else-has}
use Rattle.eql_part.proofs.index.clear_in.Goals as goal

pub loop-slot-preserved : goal.loop-slot-preserved
loop-slot-preserved c =
    let bucket = c.loop-slot.bucket in let i = c.loop-slot.slot-index in
    let slot = get_or bucket i Free in
    let lt : i < length bucket = omega (arith, c.loop-slot-test.true, c.loop-slot.auto.bucket) in
    let more = map_over_more (slot_without c.args.hash) c.args.bucket.now bucket i slot c.loop-slot-test.true c.loop-slot.invariant (get_or_default bucket i Free slot lt) in
    elim c.if-has.branch [
      | then-has w ↦ w.bucket-is ∙ ap (λ (s : Slot). set bucket i s) (ap (λ (b : Bool). cond b Free slot) (w.if-has.ensures {u = tt})) ∙ more
      | else-has w ↦ w.bucket-is ∙ ap (λ (s : Slot). set bucket i s) (ap (λ (b : Bool). cond b Free slot) (w.if-has.ensures {u = tt})) ∙ more
    ]
