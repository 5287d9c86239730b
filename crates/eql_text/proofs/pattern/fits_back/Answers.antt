use Rattle.std.proofs.Common.{sym, ap, ◌∙◌, rules}
use Rattle.std.specs.Str.{chars}
use Rattle.eql_text.specs.Comparing.{any_end}
use Rattle.eql_text.specs.Wildcards.{wildcard}
use Rattle.eql_text.proofs.Fitting.{ends_fit_all, ends_fit_none, ends_fit_like, ends_fit_unlike, no_star_before}
use Rattle.eql_text.proofs.pattern.fits_back.Goals as goal

pub returns-in_default-last_char : goal.returns-in_default-last_char
returns-in_default-last_char c =
    sym (ends_fit_none c.args.fold _ _ _ _ c.in-Some.ensures.characters c.in_default-last_char.ensures.characters c.loop-before_wanted.invariant.2)
    ∙ c.loop-before_wanted.invariant.3

pub returns-then-not-fits : goal.returns-then-not-fits
returns-then-not-fits c =
    sym (ends_fit_unlike c.args.fold _ _ _ _ _ _ c.in-Some.ensures.characters c.in-Some-last_char.ensures.characters c.loop-before_wanted.invariant.2
    (sym c.fits.ensures ∙ c.if-not-fits.true))
    ∙ c.loop-before_wanted.invariant.3

pub loop-before_wanted-preserved : goal.loop-before_wanted-preserved
loop-before_wanted-preserved c = (
  search rules,
  search rules,
  no_star_before _ _ _ c.in-Some.ensures.characters c.loop-before_wanted.invariant.2,
  sym (ends_fit_like c.args.fold _ _ _ _ _ _ c.in-Some.ensures.characters c.in-Some-last_char.ensures.characters c.loop-before_wanted.invariant.2
      (sym c.fits.ensures ∙ c.if-not-fits.false))
      ∙ c.loop-before_wanted.invariant.3,
)

pub returns : goal.returns
returns c =
    sym (ends_fit_all c.args.fold (chars c.loop-before_wanted.rest.now))
    ∙ ap (λ p. any_end (wildcard c.args.fold p) (chars c.loop-before_wanted.rest.now)) (sym c.in_default.ensures.characters)
    ∙ c.loop-before_wanted.invariant.3
