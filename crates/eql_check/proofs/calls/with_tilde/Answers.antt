use Rattle.std.proofs.Common.{◌≡◌, ◌++◌, ap, ◌∙◌, string_bytes}
use Rattle.std.specs.Prelude.{codes}
use Rattle.std.specs.Str.{chars}
use Rattle.std.proofs.lemmas.Str.{chars-append, IsUtf8-string_bytes}
use Rattle.eql_check.proofs.calls.with_tilde.Goals as goal

pub returns : goal.returns
returns c =
    let copied : chars (string_bytes c.in_ok-text.text) ≡ c.args.name.now = c.in_ok-text.ensures in
    c.of.ensures ∙ ap chars c.in_ok-push_str.ensures.bytes ∙ chars-append _ _ (IsUtf8-string_bytes c.in_ok-text.text)
    ∙ ap (λ x. x ++ chars (codes "~")) copied
