use Rattle.eql_parser.specs.Reading.{res_map, expr}
use Rattle.eql_parser.specs.QueryReading.{is_where, most_open, most_levels}
use Rattle.eql_parser.proofs.Queries.{expected_not, lacks_where}
use Rattle.eql_parser.proofs.parser.term.conditioned_of.Goals as goal

pub returns-in_default : goal.returns-in_default
returns-in_default c = expected_not is_where (λ us. res_map (λ e. (c.args.category, e)) (expr most_open most_levels us)) c.args.tokens.now (lacks_where _ c.in_default.ensures)
