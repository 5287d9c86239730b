use Rattle.std.proofs.Common.{◌≡◌, ◌∙◌, sym, true, Some, arith}
use Rattle.std.specs.Str.{all_ascii_digits}
use Rattle.std.specs.Str.Parse.{digits_value}
use Rattle.eql_words.proofs.Numerals.{all_digits, number_is, number_parsed, number_short}
use Rattle.eql_words.proofs.numbers.number_of.Goals as goal

pub returns-then-are_digits-clause-value : goal.returns-then-are_digits-clause-value
returns-then-are_digits-clause-value c =
    let same = all_digits c.args.word.now in
    let digits : all_ascii_digits c.args.word.now ≡ true = cc in
    c.ok.ensures.value
    ∙ (number_parsed c.args.most c.args.word.now c.parse.result c.parse.ensures.value.0 (omega arith) (omega arith) (omega arith) digits
    ∙ sym (number_is c.args.most c.args.word.now (omega arith) (omega arith) digits))

pub returns-then-are_digits-clause-bound : goal.returns-then-are_digits-clause-bound
returns-then-are_digits-clause-bound c =
    let same = all_digits c.args.word.now in
    let digits : all_ascii_digits c.args.word.now ≡ true = cc in
    let is : c.ok.result ≡ Some (digits_value 10 c.args.word.now) =
    c.ok.ensures.value
    ∙ number_parsed c.args.most c.args.word.now c.parse.result c.parse.ensures.value.0 (omega arith) (omega arith) (omega arith) digits in
    rw is (number_short c.args.most c.args.word.now (omega arith) digits)
