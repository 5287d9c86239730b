use Rattle.std.proofs.Common.{sym, ◌∙◌, arith, rules}
use Rattle.std.specs.Str.{chars}
use Rattle.eql_text.proofs.Fitting.{unlike_first}
use Rattle.eql_text.proofs.pattern.rest_fitting.Goals as goal

pub loop-c-preserved : goal.loop-c-preserved
loop-c-preserved c = (
  search rules,
  λ q.
      sym (unlike_first c.args.fold (chars c.args.part.now) _ q _ _ _ _ c.requires c.in-Some.ensures.characters c.in-Some-first_char.ensures.characters
      (sym c.fits.ensures ∙ c.if-fits.false))
      ∙ c.loop-c.invariant.1 q,
  omega (arith, c.in-Some-first_char.ensures.shorter, c.loop-c.invariant.2),
)
