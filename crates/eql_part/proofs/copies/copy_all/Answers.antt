use Rattle.std.proofs.Common.{◌≡◌, ◌∙◌, ◌<◌, ◌≤◌, List, length, get_or, ap, subst}
use Rattle.eql_part.specs.Rooms.{Lent}
use Rattle.eql_part.proofs.Copied.{all_copied, copied_more}
use Rattle.eql_part.proofs.copies.copy_all.Goals as goal

pub loop-row-preserved : goal.loop-row-preserved
loop-row-preserved g c =
    let rows = c.args.rows.now.items in let i = c.loop-row.row-index in let row = c.row-item.result in
    let same : c.deref-row-items.result.now ≡ rows = c.deref-row-items.ensures.value in
    let lt : i < length rows = subst (λ (l : List Lent). i < length l) same c.loop-row-test.true in
    let is : row ≡ get_or rows i row = c.row-item.is ∙ ap (λ (l : List Lent). get_or l i row) same in
    copied_more rows i row c.loop-row.found.items c.add_holders.new.found.items lt is c.loop-row.invariant (c.in_ok-add_holders.ensures {u = tt})

pub returns : goal.returns
returns g c =
    let rows = c.args.rows.now.items in let i = c.loop-row.row-index in
    let same : c.deref-row-items.result.now ≡ rows = c.deref-row-items.ensures.value in
    all_copied rows i c.loop-row.found.items (subst (λ (l : List Lent). length l ≤ i) same c.loop-row-test.false) c.loop-row.invariant
