use Rattle.std.proofs.Common.{◌≡◌, ◌-◌, length, map}
use Rattle.eql_parser.specs.Kinds.{kinds}
use Rattle.eql_query.specs.QueryTree.{term_tree}
use Rattle.eql_parser.specs.Answering.{onto}
use Rattle.eql_parser.specs.Reading.{expr}
use Rattle.eql_parser.specs.QueryReading.{most_open, most_levels, items}
use Rattle.eql_parser.proofs.parser.sequence.items_of.Given as goal

-- the items so far, before those that the turns that are left read, are all of them
abbrev pub invariant-loop : goal.invariant-loop
invariant-loop l =
    onto (map term_tree l.items.items) (items (expr most_open most_levels) (l.end - l.counter) (kinds l.rest)) ≡ items (expr most_open most_levels) (length (kinds l.fn.tokens)) (kinds l.fn.tokens)
