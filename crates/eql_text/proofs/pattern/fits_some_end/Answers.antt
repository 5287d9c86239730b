use Rattle.std.proofs.Common.{sym, ap, ◌∙◌, rules}
use Rattle.std.specs.Str.{chars}
use Rattle.eql_text.specs.Comparing.{any_end}
use Rattle.eql_text.specs.Wildcards.{wildcard}
use Rattle.eql_text.proofs.pattern.fits_some_end.Goals as goal

pub returns-in_default-behind_part : goal.returns-in_default-behind_part
returns-in_default-behind_part c =
    sym (c.in_default-behind_part.ensures (chars c.in-Some.after.now))
    ∙ ap (λ p. any_end (wildcard c.args.fold p) (chars c.loop-part.rest.now)) (sym c.in-Some.ensures.1) ∙ c.loop-part.invariant.2

pub loop-part-preserved : goal.loop-part-preserved
loop-part-preserved c = (
  search rules,
  search rules,
  sym (c.in-Some-behind_part.ensures (chars c.in-Some.after.now))
      ∙ ap (λ p. any_end (wildcard c.args.fold p) (chars c.loop-part.rest.now)) (sym c.in-Some.ensures.1) ∙ c.loop-part.invariant.2,
)

pub returns : goal.returns
returns c = search rules
