use Rattle.std.proofs.Common.{◌≡◌, drop, length, slice_get, Some, option_map, string_bytes, refl, sym, ap, ◌∙◌, arith, take_all, length-drop}
use Rattle.std.proofs.lemmas.List.{drop_all}
use Rattle.std.proofs.lemmas.Option.{slice_get_read}
use Rattle.eql_lines.proofs.paths.Paths.rest.Goals as goal
use Rattle.eql_lines.proofs.paths.Paths.rest.Goals.{then-at-path, else-at-path}

pub returns : goal.returns
returns c =
    let items = c.args.self.now.paths.items in
    let s = c.in_ok-get.field-0.now in
    let look = c.in_ok-get.ensures.lookup in
    let got : slice_get items c.args.place ≡ Some s = slice_get_read items (length items) c.args.place s refl (grind (arith, look)) (grind (arith, look)) in
    let part : c.if-at-path.result.now ≡ drop c.args.at (string_bytes s) = elim c.if-at-path.branch [
      | then-at-path w ↦ ap (λ b. b.now) w.result-is ∙ take_all _ (drop c.args.at c.as_bytes-path.result.now) (omega (arith, length-drop c.args.at c.as_bytes-path.result.now)) ∙ ap (drop c.args.at) c.as_bytes-path.ensures.value
      | else-at-path w ↦ ap (λ b. b.now) w.result-is ∙ sym (drop_all c.args.at c.as_bytes-path.result.now w.if-at-path.false) ∙ ap (drop c.args.at) c.as_bytes-path.ensures.value
    ] in
    ap Some part ∙ ap (option_map (λ s. drop c.args.at (string_bytes s))) (sym got)
