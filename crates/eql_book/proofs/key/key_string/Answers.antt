use Rattle.std.proofs.lemmas.Result.{IfOk-weaker}
use Rattle.eql_book.proofs.KeyLemmas.{printed}
use Rattle.eql_book.proofs.key.key_string.Goals as goal

pub returns : goal.returns
returns c = IfOk-weaker c.to_string.result _ _ (λ b h. printed c.in_ok-json_values.field-0 c.args.key.now _ c.in_ok-json_values.ensures h) c.to_string.ensures.text
