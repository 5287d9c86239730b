use Rattle.std.proofs.Common.{sym, ap, ◌∙◌, arith, rules}
use Rattle.std.specs.Str.{chars}
use Rattle.std.specs.Option.{option_map}
use Rattle.eql_text.specs.Numbers.{numeral, capped_number}
use Rattle.eql_text.proofs.Reading.{read_on, read_first, read_more, read_more_none, read_end, saturated}
use Rattle.eql_text.proofs.numbers.numeral.Goals as goal

pub loop-c-init : goal.loop-c-init
loop-c-init c = (
  search rules,
  ap (λ n. read_on c.args.base n (chars c.in_ok-first.rest.now)) (c.from-value.ensures ∙ c.in_ok-to_digit.ensures.value.1)
      ∙ sym (read_first c.args.base c.in_ok-first.first (chars c.in_ok-first.rest.now) c.in_ok-to_digit.ensures.value.0)
      ∙ ap (λ s. option_map capped_number (numeral c.args.base s)) (sym c.in_ok-first.ensures.characters),
  c.from-value.type_inv,
)

pub returns-in_err-digit : goal.returns-in_err-digit
returns-in_err-digit c =
    c.from_residual-in_err-digit.ensures
    ∙ sym (read_more_none c.args.base c.loop-c.value c.in-Some.c (chars c.in-Some.next.now) c.in_err-digit.ensures.value)
    ∙ ap (λ s. read_on c.args.base c.loop-c.value s) (sym c.in-Some.ensures.characters)
    ∙ c.loop-c.invariant.1

pub loop-c-preserved : goal.loop-c-preserved
loop-c-preserved c = (
  search rules,
  ap (λ n. read_on c.args.base n (chars c.in-Some.next.now))
      (saturated _ _ _ _ _ _ _ c.saturating_add-value.ensures c.saturating_mul.ensures c.from.ensures (c.from-in-Some.ensures ∙ c.in_ok-digit.ensures.value.1))
      ∙ sym (read_more c.args.base c.loop-c.value c.in-Some.c (chars c.in-Some.next.now) (omega arith) c.in_ok-digit.ensures.value.0)
      ∙ ap (λ s. read_on c.args.base c.loop-c.value s) (sym c.in-Some.ensures.characters)
      ∙ c.loop-c.invariant.1,
  c.saturating_add-value.type_inv,
)

pub returns : goal.returns
returns c =
    sym (read_end c.args.base c.loop-c.value c.loop-c.invariant.2) ∙ ap (λ s. read_on c.args.base c.loop-c.value s) (sym c.in_default.ensures.characters) ∙ c.loop-c.invariant.1
