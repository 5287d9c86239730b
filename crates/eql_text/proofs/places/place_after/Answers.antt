use Rattle.std.proofs.Common.{sym, ap, ◌∙◌}
use Rattle.std.specs.Str.{chars}
use Rattle.eql_text.specs.Placing.{place_from}
use Rattle.eql_text.proofs.Finding.{place_past, place_within}
use Rattle.eql_text.proofs.places.place_after.Goals as goal

pub returns-in_err-rest-clause-place : goal.returns-in_err-rest-clause-place
returns-in_err-rest-clause-place c = c.from_residual.ensures ∙ sym (place_past _ _ _ _ c.in_err-rest.ensures.enough)

pub returns-in_err-found-clause-place : goal.returns-in_err-found-clause-place
returns-in_err-found-clause-place c =
    c.from_residual-in_err-found.ensures ∙ c.in_err-found.ensures.place
    ∙ ap (λ r. place_from c.args.fold c.args.start r (chars c.args.t.now)) c.in_ok-rest.ensures.rest
    ∙ sym (place_within c.args.fold (chars c.args.s.now) (chars c.args.t.now) c.args.start c.in_ok-rest.ensures.enough)

pub returns-clause-place : goal.returns-clause-place
returns-clause-place c =
    c.in_ok-found.ensures.place
    ∙ ap (λ r. place_from c.args.fold c.args.start r (chars c.args.t.now)) c.in_ok-rest.ensures.rest
    ∙ sym (place_within c.args.fold (chars c.args.s.now) (chars c.args.t.now) c.args.start c.in_ok-rest.ensures.enough)
