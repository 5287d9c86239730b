use Rattle.std.proofs.Common.{◌<◌, length, ap, arith, vec_capacity}
use Rattle.eql_part.proofs.Copied.{copied_more, order_more}
use Rattle.eql_part.proofs.copies.copy_in_order.Goals.{then-place-eq0, else-place-eq0}
use Rattle.eql_part.proofs.copies.copy_in_order.Goals as goal

pub loop-place-preserved : goal.loop-place-preserved
loop-place-preserved g c =
    let rows = c.args.rows.now.items in let i = c.loop-place.place in
    let ok = c.args.rows.now.ok.0 in
    let lt : i < length rows = omega (arith, c.loop-place-test.true, c.len-place-end.ensures, ok) in
    record {
      copies = copied_more rows i c.index-row.result.now c.loop-place.found.items c.add_holders.new.found.items lt c.index-row.ensures c.loop-place.invariant.copies
          (c.in_ok-add_holders.ensures {u = tt});
      order = order_more rows i c.loop-place.invariant.order (λ some. c.is_before_last.ensures c.if-is_before_last.false some);
      room = elim c.if-place-eq0.branch [
        | then-place-eq0 w ↦ let same = ap (λ v. vec_capacity v) w.read-is in let had = w.read_ahead.ensures in omega (arith, same, had)
        | else-place-eq0 w ↦ let same = ap (λ v. vec_capacity v) w.read-is in let had = c.loop-place.invariant.room in omega (arith, same, had)
      ];
    }
