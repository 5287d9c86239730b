use Rattle.std.proofs.Common.{refl, ap, ◌∙◌}
use Rattle.eql_parser.specs.Kinds.{kinds, maxspan_}
use Rattle.eql_parser.specs.Reading.{then_do}
use Rattle.eql_parser.specs.QueryReading.{behind_expected, is_maxspan, is_assign, number_at, unit_at, span}
use Rattle.eql_parser.proofs.Queries.{expected_is, expected_not, lacks_maxspan, lacks_assign}
use Rattle.eql_parser.proofs.parser.sequence.span_of.Goals as goal

pub returns-in_default-after : goal.returns-in_default-after
returns-in_default-after c =
    ap span c.in-Some.ensures ∙ expected_not is_maxspan (behind_expected is_assign (λ us. then_do (number_at us) unit_at)) c.in-Some.with.now (lacks_maxspan _ c.in_default-after.ensures)

pub returns-in_default-after-2 : goal.returns-in_default-after-2
returns-in_default-after-2 c =
    ap span c.in-Some.ensures
    ∙ expected_is is_maxspan (behind_expected is_assign (λ us. then_do (number_at us) unit_at)) (kinds c.in-Some.with.now) maxspan_ (kinds c.in-Some-after.named.now) c.in-Some-after.ensures refl
    ∙ expected_not is_assign (λ us. then_do (number_at us) unit_at) c.in-Some-after.named.now (lacks_assign _ c.in_default-after-2.ensures)
