use Rattle.std.proofs.Common.{◌<◌, get_or, length, ap, ◌∙◌, arith}
use Rattle.std.proofs.Math.ListN.{set}
use Rattle.std.proofs.lemmas.List.{get_or_default}
use Rattle.std.proofs.lemmas.List.Edits.{map_over_more}
use Rattle.eql_part.specs.declared.index.Slot.{Slot}
use Rattle.eql_part.specs.declared.index.Slot.TheVariants.{Free}
use Rattle.eql_part.specs.Indexed.{kept_at}
use Rattle.eql_part.proofs.index.keep_in.Goals as goal

pub loop-slot-preserved : goal.loop-slot-preserved
loop-slot-preserved c =
    let bucket = c.loop-slot.bucket in let i = c.loop-slot.slot-index in
    let slot = get_or bucket i Free in
    let lt : i < length bucket = omega (arith, c.loop-slot-test.true, c.loop-slot.auto.bucket) in
    ap (λ (s : Slot). set bucket i s) c.kept.ensures
    ∙ map_over_more (kept_at c.args.number c.args.count) c.args.bucket.now bucket i slot c.loop-slot-test.true c.loop-slot.invariant (get_or_default bucket i Free slot lt)
