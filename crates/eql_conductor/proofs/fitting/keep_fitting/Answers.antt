use Rattle.std.proofs.Common.{rules, ap, ◌∙◌}
use Rattle.std.proofs.lemmas.Fn.{filter_same}
use Rattle.eql_conductor.specs.Fitting.{fitting, has_routes}
use Rattle.eql_conductor.proofs.fitting.keep_fitting.Goals as goal

pub returns : goal.returns
returns c =
    c.of.ensures ∙ filter_same _ has_routes _ (λ item fits f' k. search rules) _ _ c.retain.ensures.filtered
    ∙ ap fitting c.into_items-items.ensures
