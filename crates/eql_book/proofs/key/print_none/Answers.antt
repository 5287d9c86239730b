use Rattle.std.proofs.Common.{List, ℕ, ◌++◌, ap, sym, ◌∙◌}
use Rattle.std.specs.Prelude.{string_bytes}
use Rattle.eql_book.proofs.KeyLemmas.{none_text}
use Rattle.eql_book.proofs.key.print_none.Goals as goal

pub returns : goal.returns
returns c = c.in_ok-push_str.ensures.bytes ∙ ap (λ (text : List ℕ). string_bytes c.args.waiting.now ++ text) (sym none_text)
