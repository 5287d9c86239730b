use Rattle.std.proofs.Common.{◌∙◌, sym, ap, false, drop, length}
use Rattle.std.specs.Str.{chars}
use Rattle.eql_text.specs.Comparing.{starts}
use Rattle.eql_text.specs.Numbers.{positive, numeral}
use Rattle.eql_text.proofs.Reading.{hex_prefix, hex_number, decimal_number}
use Rattle.eql_text.proofs.numbers.read_number.Goals as goal

pub returns-in-Some : goal.returns-in-Some
returns-in-Some c =
    let s = chars c.args.text.now in
    c.positive.ensures ∙ ap (λ digits. positive (numeral 16 digits)) c.in-Some.ensures.rest
    ∙ ap (λ front. positive (numeral 16 (drop (length front) s))) hex_prefix
    ∙ sym (hex_number s (c.in-Some.ensures.found ∙ ap (starts false s) hex_prefix))

pub returns-in-None : goal.returns-in-None
returns-in-None c =
    let s = chars c.args.text.now in
    c.long_from_str.ensures ∙ sym (decimal_number s (c.in-None.ensures.found ∙ ap (starts false s) hex_prefix))
