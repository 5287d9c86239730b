use Rattle.eql_words.proofs.Numerals.{no_unit, unit_read}
use Rattle.eql_words.proofs.numbers.in_unit.Goals as goal

pub returns-in_err-digits : goal.returns-in_err-digits
returns-in_err-digits c =
    let none = no_unit c.args.unit.now c.args.word.now c.args.each c.in_err-digits.ensures.cases in
    cc

pub returns : goal.returns
returns c =
    unit_read c.args.unit.now c.args.word.now c.in_ok-digits.digits.now c.args.each c.in_ok-number.number
    c.in_ok-digits.ensures.cases c.in_ok-number.ensures.value
