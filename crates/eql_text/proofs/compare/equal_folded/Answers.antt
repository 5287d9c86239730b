use Rattle.std.proofs.Common.{◌&&◌, true, drop, length, sym, ap, ◌∙◌}
use Rattle.std.specs.Str.{chars}
use Rattle.eql_text.specs.Comparing.{is_empty}
use Rattle.eql_text.proofs.Equality.{equal_starts}
use Rattle.eql_text.proofs.compare.equal_folded.Goals as goal

pub returns-in-Some : goal.returns-in-Some
returns-in-Some c =
    let a = chars c.args.a.now in
    let b = chars c.args.b.now in
    c.ended.ensures ∙ ap is_empty c.in-Some.ensures.rest
    ∙ ap (λ found. found && is_empty (drop (length b) a)) c.in-Some.ensures.found ∙ sym (equal_starts true a b)

pub returns-in-None : goal.returns-in-None
returns-in-None c =
    let a = chars c.args.a.now in
    let b = chars c.args.b.now in
    ap (λ found. found && is_empty (drop (length b) a)) c.in-None.ensures.found ∙ sym (equal_starts true a b)
