use Rattle.std.proofs.Common.{◌≡◌, ℕ, List, IfOk, w64, subst, ap, ◌∙◌}
use Rattle.std.specs.Str.{chars}
use Rattle.std.proofs.lemmas.Int.{to_z-of_z}
use Rattle.eql_text.specs.Cutting.{place_in, substring}
use Rattle.eql_text.proofs.Parting.{substring_is}
use Rattle.eql_text.proofs.parts.substring.Goals as goal

pub returns : goal.returns
returns c =
    let text = chars c.text-text.result.now in
    let same : text ≡ c.args.s.now = c.text-text.ensures in
    let Is : List ℕ → Type 0 = λ x. IfOk c.part.result (λ t. t ≡ x) in
    subst Is
    (substring_is text c.args.from c.args.to _ _ _ c.length-length.ensures.count (c.place_in.ensures ∙ ap (place_in c.length-length.result) (to_z-of_z w64 c.args.from c.ranges.from)) c.end_in.ensures
    ∙ ap (λ x. substring x c.args.from c.args.to) same)
    c.part.ensures
