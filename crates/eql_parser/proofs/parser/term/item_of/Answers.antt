use Rattle.std.proofs.Common.{codes, sym}
use Rattle.eql_parser.specs.Kinds.{kinds}
use Rattle.eql_query.specs.QueryTree.{term_tree}
use Rattle.eql_parser.specs.Reading.{expr}
use Rattle.eql_parser.specs.QueryReading.{most_open, most_levels}
use Rattle.eql_parser.proofs.Parts.{as_read, stops_by}
use Rattle.eql_parser.proofs.Queries.{bang_word, missing_item, plain_item}
use Rattle.eql_parser.proofs.parser.term.item_of.Goals as goal

pub returns-then-is_missing : goal.returns-then-is_missing
returns-then-is_missing c =
    let m = c.if-is_missing.ensures in
    stops_by _ _ (codes "!") _ _ c.left_out.ensures bang_word (missing_item (expr most_open most_levels) c.args.tokens.now m.0 m.1)

pub returns : goal.returns
returns c = as_read term_tree c.plain_item_of.result _ _ (sym (plain_item (expr most_open most_levels) (kinds c.args.tokens.now) c.if-is_missing.ensures)) c.plain_item_of.ensures
