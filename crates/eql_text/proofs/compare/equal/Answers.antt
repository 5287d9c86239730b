use Rattle.std.proofs.Common.{sym, ap, ◌∙◌}
use Rattle.eql_text.specs.Comparing.{equal}
use Rattle.eql_text.proofs.Equality.{text_eq_equal}
use Rattle.eql_text.proofs.compare.equal.Goals as goal

pub returns-else-fold : goal.returns-else-fold
returns-else-fold c =
    c.eq.ensures ∙ text_eq_equal c.args.a.now c.args.b.now ∙ ap (λ fold. equal fold c.args.a.now c.args.b.now) (sym c.if-fold.false)
