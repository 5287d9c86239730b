use Rattle.std.proofs.Common.{◌≡◌, sym, ap, ◌∙◌}
use Rattle.std.specs.Str.{chars}
use Rattle.std.specs.Option.{is_some}
use Rattle.eql_text.specs.Comparing.{contains}
use Rattle.eql_text.proofs.Finding.{contains_place, is_some_map}
use Rattle.eql_text.proofs.compare.contains.Goals as goal

pub returns : goal.returns
returns c =
    let s : chars c.text.result.now ≡ c.args.s.now = c.text.ensures in
    let t : chars c.text-2.result.now ≡ c.args.t.now = c.text-2.ensures in
    c.is_some.ensures ∙ sym (is_some_map (λ f. f.place) c.find.result) ∙ ap is_some c.find.ensures.place
    ∙ sym (contains_place c.args.fold 0 (chars c.text.result.now) (chars c.text-2.result.now))
    ∙ ap (λ x. contains c.args.fold x (chars c.text-2.result.now)) s ∙ ap (contains c.args.fold c.args.s.now) t
