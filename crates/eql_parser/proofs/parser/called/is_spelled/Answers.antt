use Rattle.std.proofs.Common.{ap, ◌∙◌}
use Rattle.std.specs.Str.{bytes_eq}
use Rattle.eql_parser.proofs.Spellings.{same_test}
use Rattle.eql_parser.proofs.parser.called.is_spelled.Goals as goal

pub returns : goal.returns
returns c =
    let word = c.args.word.now in
    c.eq.ensures ∙ ap (λ b. bytes_eq b word) c.as_bytes.ensures.value ∙ same_test c.args.text.now word c.utf8.text c.requires
