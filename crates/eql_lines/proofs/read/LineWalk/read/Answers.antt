use Rattle.std.proofs.Common.{◌≡◌, if◌then◌else◌, sym, ap, ◌∙◌, subst}
use Rattle.serde_json.specs.Read.{read}
use Rattle.eql_text.specs.Json.{json_of}
use Rattle.eql_text.proofs.JsonLemmas.{json_of-none, json_of-utf8}
use Rattle.eql_lines.specs.Lines.{line_of}
use Rattle.eql_lines.specs.LineShape.{IsJson, is_object_line}
use Rattle.eql_lines.specs.declared.line.Line.TheVariants.{NotObject, Object}
use Rattle.eql_lines.proofs.Whole.{none_is_some}
use Rattle.eql_lines.proofs.read.LineWalk.read.Goals as goal

pub returns-in_default-clause-line : goal.returns-in_default-clause-line
returns-in_default-clause-line c = ap line_of (sym (json_of-none c.args.bytes.now (λ u. absurd (c.in_default.ensures.cases.0 u))))

pub returns-in_default-clause-slots : goal.returns-in_default-clause-slots
returns-in_default-clause-slots c = λ d e. none_is_some (json_of c.args.bytes.now) d (json_of-none c.args.bytes.now (λ u. absurd (c.in_default.ensures.cases.0 u))) e

pub returns-in-NotObject-clause-line : goal.returns-in-NotObject-clause-line
returns-in-NotObject-clause-line c =
    let same : json_of c.args.bytes.now ≡ read c.in-Ok.text.now = json_of-utf8 c.args.bytes.now c.in-Ok.ensures.cases.1 ∙ ap read (sym c.in-Ok.ensures.cases.0) in
    let d = c.in_ok-walk_text.ensures.json (subst IsJson (sym c.in-NotObject.is) tt) in
    ap (λ b. if b then Object else NotObject) (ap is_object_line (sym c.in-NotObject.is) ∙ d.2) ∙ ap line_of (sym (same ∙ d.1))

pub returns-in-Object-clause-line : goal.returns-in-Object-clause-line
returns-in-Object-clause-line c =
    let same : json_of c.args.bytes.now ≡ read c.in-Ok.text.now = json_of-utf8 c.args.bytes.now c.in-Ok.ensures.cases.1 ∙ ap read (sym c.in-Ok.ensures.cases.0) in
    let d = c.in_ok-walk_text.ensures.json (subst IsJson (sym c.in-Object.is) tt) in
    ap (λ b. if b then Object else NotObject) (ap is_object_line (sym c.in-Object.is) ∙ d.2) ∙ ap line_of (sym (same ∙ d.1))
