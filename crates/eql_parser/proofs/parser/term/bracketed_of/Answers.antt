use Rattle.std.proofs.Common.{refl, ap, ◌∙◌}
use Rattle.eql_parser.specs.Kinds.{kinds, open_item_}
use Rattle.eql_parser.specs.QueryAnswering.{conditioned_view}
use Rattle.eql_parser.specs.Reading.{then_do, res_map, expr}
use Rattle.eql_parser.specs.QueryReading.{is_open_item, is_close_item, keys, term, behind_term, most_open, most_levels}
use Rattle.eql_parser.proofs.Queries.{expected_is, expected_not, lacks_open_item, lacks_close_item}
use Rattle.eql_parser.proofs.parser.term.bracketed_of.Goals as goal

pub returns-in_default : goal.returns-in_default
returns-in_default c = expected_not is_open_item (λ us. then_do (term (expr most_open most_levels) us) behind_term) c.args.tokens.now (lacks_open_item _ c.in_default.ensures)

pub returns-in_default-after : goal.returns-in_default-after
returns-in_default-after c =
    expected_is is_open_item (λ us. then_do (term (expr most_open most_levels) us) behind_term) (kinds c.args.tokens.now) open_item_ (kinds c.in-Some.inside.now) c.in-Some.ensures refl
    ∙ ap (λ q. then_do q behind_term) c.in-Ok.ensures
    ∙ expected_not is_close_item (λ us. res_map (λ fs. (conditioned_view c.in-Ok.found.0, fs)) (keys us)) c.in-Ok.found.1.now (lacks_close_item _ c.in_default-after.ensures)
