use Rattle.std.proofs.Common.{codes, sym}
use Rattle.eql_parser.specs.Kinds.{kinds}
use Rattle.eql_query.specs.QueryTree.{body_tree}
use Rattle.eql_parser.specs.Reading.{expr}
use Rattle.eql_parser.specs.QueryReading.{most_open, most_levels}
use Rattle.eql_parser.proofs.Parts.{as_read, stops_by}
use Rattle.eql_parser.proofs.Queries.{sample_word, join_word, sample_left, join_left, one_event}
use Rattle.eql_parser.proofs.parser.whole.body_of.Goals as goal

pub returns-in-Some : goal.returns-in-Some
returns-in-Some c = stops_by _ _ (codes "sample") _ _ c.left_out.ensures sample_word (sample_left (expr most_open most_levels) c.args.tokens.now _ c.in-Some.ensures)

pub returns-in-Some-after : goal.returns-in-Some-after
returns-in-Some-after c = stops_by _ _ (codes "join") _ _ c.left_out-in-Some-after.ensures join_word (join_left (expr most_open most_levels) c.args.tokens.now _ c.in-Some-after.ensures)

pub returns-in-None : goal.returns-in-None
returns-in-None c = as_read body_tree c.event_of.result _ _ (sym (one_event (expr most_open most_levels) (kinds c.args.tokens.now) c.in_default.ensures c.in_default-after.ensures c.in-None.ensures)) c.event_of.ensures
