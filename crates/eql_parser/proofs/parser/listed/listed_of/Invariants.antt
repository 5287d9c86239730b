use Rattle.std.proofs.Common.{◌≡◌, ◌-◌}
use Rattle.eql_parser.specs.Kinds.{kinds}
use Rattle.eql_parser.specs.Reading.{comma_list, separated, is_comma}
use Rattle.eql_parser.specs.Answering.{onto}
use Rattle.eql_parser.proofs.parser.listed.listed_of.Given as goal

-- the items so far, before those that the turns that are left read, are all of them
abbrev pub invariant-loop : goal.invariant-loop
invariant-loop g l = onto l.items.items (separated is_comma g.T.Listed.reads (l.end - l.counter) (kinds l.rest)) ≡ comma_list g.T.Listed.reads (kinds l.fn.tokens)
