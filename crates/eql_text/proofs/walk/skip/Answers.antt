use Rattle.std.proofs.Common.{◌+◌, refl, ap, arith, length, rules}
use Rattle.std.specs.Str.{chars}
use Rattle.std.proofs.lemmas.List.{length-drop}
use Rattle.eql_text.proofs.Dropping.{drop_next}
use Rattle.eql_text.proofs.walk.skip.Goals as goal

pub returns-in_err-next-clause-enough : goal.returns-in_err-next-clause-enough
returns-in_err-next-clause-enough c =
    rw c.from_residual.ensures
    (omega (arith, ap length c.loop-place.invariant.1, ap length c.in_err-next.ensures.characters, length-drop c.loop-place.place (chars c.args.text.now)))

pub loop-place-preserved : goal.loop-place-preserved
loop-place-preserved c = (
  search rules,
  drop_next c.loop-place.place (c.loop-place.place + 1) _ _ _ _ c.in_ok-next.ensures.characters c.loop-place.invariant.1 refl,
  omega (arith, ap length c.loop-place.invariant.1, ap length c.in_ok-next.ensures.characters, length-drop c.loop-place.place (chars c.args.text.now)),
  omega (arith, c.in_ok-next.ensures.shorter),
)
