use Rattle.std.proofs.Common.{◌≡◌, take, Some, sym, ◌∙◌, ap, subst}
use Rattle.std.specs.Str.{chars, IsUtf8}
use Rattle.eql_cut.proofs.TextBytes.{text_there, text_broken, text_short}
use Rattle.eql_cut.proofs.texts.TextCoded.read.Goals as goal

pub returns-in_ok-from_str-in-Ok : goal.returns-in_ok-from_str-in-Ok
returns-in_ok-from_str-in-Ok c =
    let t = c.in-Some.ensures.some in
    let k = c.in-Ok.ensures.cases in
    let cs : chars (take c.in_ok-count.count c.read.new.from.left.now) ≡ c.of.result = sym (c.of.ensures ∙ ap chars (c.in_ok-from_str-in-Ok.ensures.ok ∙ k.0 ∙ t.1)) in
    text_there _ _ c.in_ok-count.count c.in_ok-count.ensures t.0 (subst IsUtf8 t.1 k.1) ∙ (λ i. Some (cs i, sym t.2 i))

pub returns-in-Err : goal.returns-in-Err
returns-in-Err c =
    let t = c.in-Some.ensures.some in
    (text_broken _ _ c.in_ok-count.count c.in_ok-count.ensures t.0 (λ utf8. c.in-Err.ensures.cases.0 (subst IsUtf8 (sym t.1) utf8)))

pub returns-in-None : goal.returns-in-None
returns-in-None c =
    (text_short _ _ c.in_ok-count.count c.in_ok-count.ensures c.in-None.ensures.none.0)
