use Rattle.std.proofs.Common.{◌≡◌, ◌+◌, ◌∷◌, refl, sym, ap, ◌∙◌, arith, rules}
use Rattle.std.specs.Str.{chars}
use Rattle.eql_text.specs.Placing.{place_from}
use Rattle.eql_text.proofs.Dropping.{drop_next}
use Rattle.eql_text.proofs.Finding.{place_unlike}
use Rattle.eql_text.proofs.unlike.rest_like.Goals as goal

pub loop-c-preserved : goal.loop-c-preserved
loop-c-preserved c = (
  search rules,
  λ n t.
      let next : n + c.loop-c.passed + 1 ≡ n + (c.loop-c.passed + 1) = omega arith in
      c.loop-c.invariant.1 n t
      ∙ place_unlike c.args.fold (n + c.loop-c.passed) _ _ _ _ t (sym c.same.ensures ∙ c.if-same.false) c.in-Some.ensures.characters
      ∙ ap (λ j. place_from c.args.fold j (chars c.in-Some.after.now) (c.args.first ∷ t)) next,
  drop_next c.loop-c.passed (c.loop-c.passed + 1) _ _ _ _ c.in-Some.ensures.characters c.loop-c.invariant.2 refl,
  omega (arith, c.in-Some.ensures.shorter, c.loop-c.invariant.3),
)
