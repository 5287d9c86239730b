use Rattle.std.proofs.Common.{◌≡◌, Some, if◌then◌else◌, sym, ap, ◌∙◌, rules}
use Rattle.serde_json.specs.View.{view}
use Rattle.eql_text.specs.Json.{json_of}
use Rattle.eql_text.proofs.JsonLemmas.{json_of-none, json_of-utf8}
use Rattle.eql_lines.specs.Lines.{line_of}
use Rattle.eql_lines.specs.declared.line.Line.TheVariants.{NotObject, Object}
use Rattle.eql_lines.proofs.Whole.{is_object-as_object, none_is_some}
use Rattle.eql_lines.proofs.again.read_again.Goals as goal

pub returns-in_ok-fill-in-Ok-clause-line : goal.returns-in_ok-fill-in-Ok-clause-line
returns-in_ok-fill-in-Ok-clause-line c =
    let bytes = c.args.bytes.now in
    let d = view c.in-Ok.value in
    let same : json_of bytes ≡ Some d = json_of-utf8 bytes c.in-Ok.ensures.ok.0 ∙ c.in-Ok.ensures.ok.1 in
    c.object_line.ensures ∙ ap (λ b. if b then Object else NotObject) (c.is_object.ensures ∙ is_object-as_object d) ∙ ap line_of (sym same)

pub returns-else-is_memory-clause-line : goal.returns-else-is_memory-clause-line
returns-else-is_memory-clause-line c =
    ap line_of (sym (json_of-none c.args.bytes.now (c.in-Err.ensures.err (λ memory. search (rules, c.is_memory.ensures.1 memory, c.if-is_memory.false)))))

pub returns-else-is_memory-clause-slots : goal.returns-else-is_memory-clause-slots
returns-else-is_memory-clause-slots c = λ d e.
    none_is_some (json_of c.args.bytes.now) d (json_of-none c.args.bytes.now (c.in-Err.ensures.err (λ memory. search (rules, c.is_memory.ensures.1 memory, c.if-is_memory.false)))) e
