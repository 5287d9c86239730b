use Rattle.std.proofs.Common.{ap, ◌∙◌}
use Rattle.std.specs.Str.{bytes_eq}
use Rattle.eql_parser.proofs.Spellings.{same_test}
use Rattle.eql_parser.proofs.parser.word.is_word.Goals as goal

pub returns : goal.returns
returns c =
    let word = c.args.word.now in
    c.eq.ensures ∙ ap (λ b. bytes_eq b word) c.as_bytes.ensures.value ∙ same_test _ word c.text.utf8 c.requires ∙ ap (λ t. bytes_eq t word) c.text.ensures
