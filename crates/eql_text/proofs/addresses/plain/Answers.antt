use Rattle.std.proofs.Common.{sym, ◌∙◌, Some, None, arith}
use Rattle.std.specs.Str.{chars}
use Rattle.eql_text.proofs.Addressing.{plain_spare, plain_read, at_most_within, at_most_above}
use Rattle.eql_text.proofs.addresses.plain.Goals as goal

pub returns-then-has_spare_zero-clause-number : goal.returns-then-has_spare_zero-clause-number
returns-then-has_spare_zero-clause-number c = sym (plain_spare _ _ (sym c.has_spare_zero.ensures ∙ c.if-has_spare_zero.true))

pub returns-in_err-value-clause-number : goal.returns-in_err-value-clause-number
returns-in_err-value-clause-number c =
    c.from_residual.ensures ∙ sym (plain_read c.args.most (chars c.args.text.now) None c.ranges.most.fits (sym c.has_spare_zero.ensures ∙ c.if-has_spare_zero.false) c.in_err-value.ensures)

pub returns-then-value-from-clause-number : goal.returns-then-value-from-clause-number
returns-then-value-from-clause-number c =
    let read = plain_read c.args.most (chars c.args.text.now) (Some c.in_ok-value.value) c.ranges.most.fits (sym c.has_spare_zero.ensures ∙ c.if-has_spare_zero.false) c.in_ok-value.ensures in
    sym (read ∙ at_most_within c.args.most c.in_ok-value.value (omega (arith, c.from.ensures, c.if-value-from.true)))

pub returns-else-value-from-clause-number : goal.returns-else-value-from-clause-number
returns-else-value-from-clause-number c =
    let read = plain_read c.args.most (chars c.args.text.now) (Some c.in_ok-value.value) c.ranges.most.fits (sym c.has_spare_zero.ensures ∙ c.if-has_spare_zero.false) c.in_ok-value.ensures in
    sym (read ∙ at_most_above c.args.most c.in_ok-value.value (omega (arith, c.from.ensures, c.if-value-from.false)))
