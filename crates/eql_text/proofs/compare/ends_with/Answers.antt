use Rattle.std.proofs.Common.{sym, ap, ◌∙◌, rules}
use Rattle.std.specs.Str.{chars}
use Rattle.eql_text.specs.Comparing.{ends}
use Rattle.eql_text.proofs.Endings.{ends_like, ends_unlike, ends_all}
use Rattle.eql_text.proofs.compare.ends_with.Goals as goal

pub returns-then-not-same : goal.returns-then-not-same
returns-then-not-same c =
    sym (ends_unlike _ _ _ _ _ _ _ _ c.in-Some-last_char.ensures.characters c.in-Some.ensures.characters c.same.ensures c.if-not-same.true)
    ∙ c.loop-before_wanted.invariant.2

pub loop-before_wanted-preserved : goal.loop-before_wanted-preserved
loop-before_wanted-preserved c = (
  search rules,
  search rules,
  sym (ends_like _ _ _ _ _ _ _ _ c.in-Some-last_char.ensures.characters c.in-Some.ensures.characters c.same.ensures c.if-not-same.false)
      ∙ c.loop-before_wanted.invariant.2,
)

pub returns : goal.returns
returns c =
    sym (ends_all c.args.fold (chars c.loop-before_wanted.rest.now))
    ∙ ap (λ t. ends c.args.fold (chars c.loop-before_wanted.rest.now) t) (sym c.in_default.ensures.characters)
    ∙ c.loop-before_wanted.invariant.2
