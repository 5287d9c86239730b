use Rattle.std.proofs.Common.{◌≡◌, Bool, Option, None, Some, refl, sym, ap, ◌∙◌}
use Rattle.std.specs.Prelude.{IsTrue, is_some, not}
use Rattle.eql_part.proofs.Tables.{absent_at}
use Rattle.eql_part.proofs.routes.is_idle.Goals as goal

none_where : {A : Type 0} (o : Option A) (b : Bool) → is_some o ≡ not b → IsTrue b → o ≡ None
none_where None b e h = refl
none_where (Some a) b e h = let wrong = e ∙ ap not h in cc

pub returns : goal.returns
returns g c = λ yes. (
  sym c.has.ensures ∙ c.if-has.false,
  absent_at c.args.shape.stages c.args.shape.span c.args.machines.now c.args.route.now.key c.requires (sym c.place.ensures ∙ none_where c.place.result c.is_none.result c.is_none.ensures yes),
)
