use Rattle.std.proofs.Common.{◌++◌, ap, sym, ◌∙◌, append_assoc}
use Rattle.std.specs.Prelude.{codes}
use Rattle.std.specs.Fmt.{signed_decimal}
use Rattle.eql_parser.specs.Printed.{span_shown, unit_text}
use Rattle.eql_parser.proofs.Pages.{adds_ok}
use Rattle.eql_parser.proofs.printing.term.put_span.Goals as goal

pub returns : goal.returns
returns c =
    let page = c.args.page.now in
    let span = c.in-Some.span in
    adds_ok c.put_unit.result page c.put_number.new.self c.put_unit.new.page (λ rest. unit_text span.unit ++ rest) (span_shown c.args.span.now) c.put_unit.ensures
    (λ rest. c.in_ok-put_number.ensures (unit_text span.unit ++ rest) ∙ c.in_ok-put.ensures (signed_decimal span.count ++ (unit_text span.unit ++ rest))
    ∙ ap (λ text. page ++ (codes " with maxspan=" ++ text)) (sym (append_assoc (signed_decimal span.count) (unit_text span.unit) rest)) ∙ ap (λ s. page ++ span_shown s rest) (sym c.in-Some.is))
