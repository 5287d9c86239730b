-- A text that is appended to another.
use Rattle.std.proofs.Common.{◌≡◌, ℕ, List, ◌++◌, Some, ap, sym, ◌∙◌}
use Rattle.std.specs.Str.{chars, IsUtf8}
use Rattle.std.proofs.lemmas.Str.{chars-append}
use Rattle.eql_values.specs.declared.value.Value.{Value}
use Rattle.eql_check.specs.Functions.{joined_texts, text_of}

pub appended : (old new more : List ℕ) (v : Value) → IsUtf8 old → new ≡ old ++ more → text_of v ≡ Some (chars more) →
    joined_texts (Some (chars old)) (text_of v) ≡ Some (chars new)
appended old new more v u e h =
    ap (joined_texts (Some (chars old))) h ∙ ap Some (sym (chars-append old more u)) ∙ ap (λ b. Some (chars b)) (sym e)
