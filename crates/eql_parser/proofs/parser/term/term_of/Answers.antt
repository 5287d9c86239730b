use Rattle.std.proofs.Common.{sym, ◌∙◌}
use Rattle.eql_parser.specs.Kinds.{kinds}
use Rattle.eql_parser.specs.Pieces.{piece_kind}
use Rattle.eql_parser.specs.QueryAnswering.{conditioned_view}
use Rattle.eql_parser.specs.Reading.{expr}
use Rattle.eql_parser.specs.QueryReading.{most_open, most_levels}
use Rattle.eql_parser.proofs.Parts.{as_read}
use Rattle.eql_parser.proofs.Queries.{no_category, some_category}
use Rattle.eql_parser.proofs.parser.term.term_of.Goals as goal

pub returns-in-None : goal.returns-in-None
returns-in-None c = no_category (expr most_open most_levels) c.args.tokens.now (piece_kind c.in-Some.first) (kinds c.in-Some.rest.now) c.in-Some.ensures (sym c.in-None.is ∙ c.in_ok-category.ensures)

pub returns-in-Some-2 : goal.returns-in-Some-2
returns-in-Some-2 c =
    as_read conditioned_view c.conditioned_of.result _ _ (some_category (expr most_open most_levels) (kinds c.args.tokens.now) (piece_kind c.in-Some.first) (kinds c.in-Some.rest.now) c.in-Some-2.category c.in-Some.ensures
    (sym c.in-Some-2.is ∙ c.in_ok-category.ensures)) c.conditioned_of.ensures
