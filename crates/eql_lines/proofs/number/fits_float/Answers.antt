use Rattle.std.proofs.Common.{sym, ap, ◌∙◌, is_some}
use Rattle.serde_json.specs.Read.{number_of}
use Rattle.eql_lines.proofs.Wholes.{short_fits}
use Rattle.eql_lines.proofs.number.fits_float.Goals as goal

pub returns-then-is_short_whole : goal.returns-then-is_short_whole
returns-then-is_short_whole c =
    let e = c.is_short_whole.ensures in
    let b = c.as_bytes.result.now in
    c.if-is_short_whole.true ∙ sym (short_fits b (e.some c.if-is_short_whole.true) (e.short c.if-is_short_whole.true) (e.digits c.if-is_short_whole.true)) ∙ ap (λ s. is_some (number_of s)) c.as_bytes.ensures.value
