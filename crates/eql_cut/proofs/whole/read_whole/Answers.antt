use Rattle.std.proofs.Common.{true, false, ◌≡◌, sym, ap, ◌∙◌, arith}
use Rattle.eql_cut.specs.CutValues.{unclosed}
use Rattle.eql_cut.proofs.WholeLaws.{none_too_many, is_closed, is_followed, is_unclosed}
use Rattle.eql_cut.proofs.whole.read_whole.Goals as goal

pub slice_bounds-unclosed-count : goal.slice_bounds-unclosed-count
slice_bounds-unclosed-count c =
    none_too_many c.args.bytes.now c.read_unclosed.new.from.left.now (c.in_ok-version.version, c.in_ok-version.cut) c.count_left.result (λ i. omega (arith, c.type_inv.bytes i))
    (ap unclosed.read (sym c.new-from.ensures) ∙ c.in_ok-version.ensures) c.count_left.ensures

pub returns-in-Ok : goal.returns-in-Ok
returns-in-Ok c =
    is_closed c.args.bytes.now c.read_unclosed.new.from.left.now (c.in_ok-version.version, c.in_ok-version.cut) c.count_left.result (λ i. omega (arith, c.type_inv.bytes i))
    (ap unclosed.read (sym c.new-from.ensures) ∙ c.in_ok-version.ensures) c.count_left.ensures c.read_closing.new.from.left.now c.in-Ok.ensures (c.is_done.ensures.0 c.if-is_done.true)

pub returns-in-Ok-2 : goal.returns-in-Ok-2
returns-in-Ok-2 c =
    is_followed c.args.bytes.now c.read_unclosed.new.from.left.now (c.in_ok-version.version, c.in_ok-version.cut) c.count_left.result (λ i. omega (arith, c.type_inv.bytes i))
    (ap unclosed.read (sym c.new-from.ensures) ∙ c.in_ok-version.ensures) c.count_left.ensures c.read_closing.new.from.left.now c.in-Ok-2.ensures
    (λ e. let both : true ≡ false = sym (c.is_done.ensures.1 e) ∙ c.if-is_done.false in absurd (cc))

pub returns-in-Err : goal.returns-in-Err
returns-in-Err c =
    is_unclosed c.args.bytes.now c.read_unclosed.new.from.left.now (c.in_ok-version.version, c.in_ok-version.cut) c.count_left.result (λ i. omega (arith, c.type_inv.bytes i))
    (ap unclosed.read (sym c.new-from.ensures) ∙ c.in_ok-version.ensures) c.count_left.ensures c.in-Err.refused c.in-Err.ensures
