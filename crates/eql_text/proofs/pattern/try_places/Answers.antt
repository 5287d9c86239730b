use Rattle.std.proofs.Common.{sym, ap, ◌∙◌, rules}
use Rattle.std.specs.Str.{chars}
use Rattle.eql_text.specs.Comparing.{any_end}
use Rattle.eql_text.specs.Wildcards.{wildcard}
use Rattle.eql_text.proofs.Fitting.{some_end_here, later_at, never_at}
use Rattle.eql_text.proofs.pattern.try_places.Goals as goal

pub returns-in-Some : goal.returns-in-Some
returns-in-Some c q =
    sym (c.rest_fitting-near.ensures.same q ∙ c.places.invariant.1 q)
    ∙ some_end_here c.args.fold (chars c.args.part.now) q (chars c.rest_fitting-near.result.now) c.requires (sym c.in-Some.ensures.found)
    ∙ ap (any_end (wildcard c.args.fold q)) (sym c.in-Some.ensures.rest)

pub returns-in_err-next : goal.returns-in_err-next
returns-in_err-next c q =
    rw c.from_residual.ensures
    (sym (c.rest_fitting-near.ensures.same q ∙ c.places.invariant.1 q)
    ∙ never_at c.args.fold (chars c.args.part.now) q (chars c.rest_fitting-near.result.now) c.requires c.in_default.ensures.found c.in_err-next.ensures.characters)

pub places-preserved : goal.places-preserved
places-preserved c = (
  search rules,
  λ q.
      sym (later_at c.args.fold (chars c.args.part.now) q (chars c.rest_fitting-near.result.now) (chars c.in_ok-next.next.now) c.in_ok-next.field-0-0 c.requires
      c.in_default.ensures.found c.in_ok-next.ensures.characters)
      ∙ c.rest_fitting-near.ensures.same q ∙ c.places.invariant.1 q,
)
