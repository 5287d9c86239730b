use Rattle.std.proofs.Common.{ap, sym, ◌∙◌, Some, None, if◌then◌else◌, string_bytes}
use Rattle.std.specs.Str.{chars}
use Rattle.eql_values.specs.declared.value.Value.TheVariants as value
use Rattle.eql_check.specs.Functions.{text_of, text_or_null}
use Rattle.eql_operators.proofs.Joining.{joined_empty}
use Rattle.eql_operators.proofs.texts.string_of.Goals as goal

pub returns-then-branch : goal.returns-then-branch
returns-then-branch c =
    ap value.Text c.of.ensures
    ∙ ap text_or_null (sym (sym (joined_empty (string_bytes c.new-text.result) (text_of c.args.value.now) c.new-text.ensures.bytes) ∙ c.in_ok-append.ensures
    ∙ ap (λ h. if h then Some (chars (string_bytes c.append.new.text)) else None) c.if-branch.true))
