use Rattle.std.proofs.Common.{List, ℕ, Some, ap, ◌∙◌}
use Rattle.std.proofs.lemmas.Result.{IfOk-weaker}
use Rattle.eql_outside.specs.Memory.{contents}
use Rattle.eql_summary.proofs.InputLemmas.{four_taken, files_made}
use Rattle.eql_summary.proofs.inputs.made_shelf.Goals as goal

pub returns-clause-files : goal.returns-clause-files
returns-clause-files c =
    let texts = four_taken (λ text. text.items) c.in_ok-texts.texts.items c.take_last.new.self.items c.take_last-2.new.self.items
    c.take_last-3.new.self.items c.take_last-4.new.self.items c.take_last-4.result c.take_last-3.result c.take_last-2.result c.take_last.result
    c.args.events c.in_ok-texts.ensures c.take_last.ensures.items c.take_last-2.ensures.items c.take_last-3.ensures.items c.take_last-4.ensures.items in
    let files = ap contents c.in_ok-files.ensures.items
    ∙ files_made c.args.events c.in_ok-query.query c.in_ok-fields.fields c.in_ok-first.first c.in_ok-second.second c.in_ok-third.third c.in_ok-fourth.fourth
    (c.in_ok-query.ensures.name, c.in_ok-query.ensures.bytes) (c.in_ok-fields.ensures.name, c.in_ok-fields.ensures.bytes)
    (c.in_ok-first.ensures.name, c.in_ok-first.ensures.bytes ∙ texts.0) (c.in_ok-second.ensures.name, c.in_ok-second.ensures.bytes ∙ texts.1)
    (c.in_ok-third.ensures.name, c.in_ok-third.ensures.bytes ∙ texts.2) (c.in_ok-fourth.ensures.name, c.in_ok-fourth.ensures.bytes ∙ texts.3) in
    IfOk-weaker c.new-6.result _ _ (λ s is. is ∙ ap (λ (fs : List (List ℕ × List ℕ)). Some fs) files) c.new-6.ensures.files
