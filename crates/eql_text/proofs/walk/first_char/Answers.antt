use Rattle.std.proofs.Common.{◌++◌, sym, ap, ◌∙◌}
use Rattle.std.specs.Prelude.{encode_utf8}
use Rattle.std.proofs.lemmas.Str.{chars_past_char}
use Rattle.eql_text.proofs.Characters.{ending_past}
use Rattle.eql_text.proofs.walk.first_char.Goals as goal

pub returns-clause-characters : goal.returns-clause-characters
returns-clause-characters c =
    chars_past_char c.args.text.now c.as_str.result.now c.in_ok-first.first c.utf8.text
    (sym c.chars-characters.ensures.rest ∙ c.in_ok-first.ensures.steps.0
    ∙ ap (λ rest. encode_utf8 c.in_ok-first.first ++ rest) (sym c.as_str.ensures))

pub returns-clause-ending : goal.returns-clause-ending
returns-clause-ending c =
    ending_past c.args.text.now c.as_str.result.now c.in_ok-first.first
    (sym c.chars-characters.ensures.rest ∙ c.in_ok-first.ensures.steps.0
    ∙ ap (λ rest. encode_utf8 c.in_ok-first.first ++ rest) (sym c.as_str.ensures))
