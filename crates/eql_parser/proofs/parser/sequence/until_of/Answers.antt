use Rattle.eql_parser.specs.Reading.{expr}
use Rattle.eql_parser.specs.QueryReading.{most_open, most_levels}
use Rattle.eql_parser.proofs.Queries.{no_until}
use Rattle.eql_parser.proofs.parser.sequence.until_of.Goals as goal

pub returns-in_default : goal.returns-in_default
returns-in_default c = no_until (expr most_open most_levels) _ c.in_default.ensures
