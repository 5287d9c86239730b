use Rattle.std.proofs.Common.{sym, ap, ◌∙◌}
use Rattle.std.specs.Str.{chars}
use Rattle.eql_text.specs.Comparing.{any_end}
use Rattle.eql_text.specs.Wildcards.{wildcard}
use Rattle.eql_text.proofs.Fitting.{some_end_placed, some_end_nowhere}
use Rattle.eql_text.proofs.Splitting.{not_cut}
use Rattle.eql_text.proofs.pattern.behind_part.Goals as goal

pub returns-in_err-found : goal.returns-in_err-found
returns-in_err-found c q =
    rw c.from_residual.ensures
    (some_end_nowhere c.args.fold 0 (chars c.args.part.now) q (chars c.args.text.now) c.requires
    (not_cut 63 c.args.part.now c.cut.result c.cut.ensures (sym c.is_some.ensures ∙ c.if-is_some.false)) (sym c.in_err-found.ensures.place))

pub returns : goal.returns
returns c q =
    some_end_placed c.args.fold 0 c.in_ok-found.found.place (chars c.args.part.now) q (chars c.args.text.now) c.requires
    (not_cut 63 c.args.part.now c.cut.result c.cut.ensures (sym c.is_some.ensures ∙ c.if-is_some.false)) (sym c.in_ok-found.ensures.place)
    ∙ ap (any_end (wildcard c.args.fold q)) (sym c.in_ok-found.ensures.after)
