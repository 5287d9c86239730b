use Rattle.std.proofs.Common.{◌++◌, ◌∷◌, [], List, ℕ, ap, ◌∙◌}
use Rattle.eql_cli.proofs.TextLemmas.{bytes_of_chars}
use Rattle.eql_cli.proofs.check.query_line.Goals as goal

pub returns : goal.returns
returns c =
    let text = c.text.result.now in
    let bytes = bytes_of_chars text _ c.text.utf8 (c.text.ensures ∙ c.in_ok-text.ensures) in
    c.in_ok-push_str.ensures.bytes ∙ ap (λ (x : List ℕ). x ++ 10 ∷ []) (c.in_ok-line.ensures.ok ∙ bytes)
