use Rattle.std.proofs.Common.{◌++◌, length, sym, ap, ◌∙◌}
use Rattle.std.specs.Prelude.{encode_utf8}
use Rattle.eql_text.proofs.Characters.{chars_empty, chars_last, front_before}
use Rattle.eql_text.proofs.walk.last_char.Goals as goal

pub returns-in_err-last-clause-characters : goal.returns-in_err-last-clause-characters
returns-in_err-last-clause-characters c =
    rw c.from_residual.ensures
    (chars_empty c.args.text.now (sym (ap length c.chars-characters.ensures.rest) ∙ c.in_err-last.ensures.steps.0))

pub returns-clause-characters : goal.returns-clause-characters
returns-clause-characters c =
    chars_last c.args.text.now c.as_str.result.now c.in_ok-last.last c.utf8.text c.as_str.utf8
    (sym c.chars-characters.ensures.rest ∙ c.in_ok-last.ensures.steps
    ∙ ap (λ rest. rest ++ encode_utf8 c.in_ok-last.last) (sym c.as_str.ensures))

pub returns-clause-front : goal.returns-clause-front
returns-clause-front c =
    front_before c.args.text.now c.as_str.result.now (encode_utf8 c.in_ok-last.last)
    (sym c.chars-characters.ensures.rest ∙ c.in_ok-last.ensures.steps
    ∙ ap (λ rest. rest ++ encode_utf8 c.in_ok-last.last) (sym c.as_str.ensures))
