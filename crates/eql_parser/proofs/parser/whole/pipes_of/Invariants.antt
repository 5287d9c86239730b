use Rattle.std.proofs.Common.{◌≡◌, ◌-◌, length}
use Rattle.eql_parser.specs.Kinds.{kinds}
use Rattle.eql_parser.specs.Answering.{onto}
use Rattle.eql_parser.specs.QueryReading.{pipes}
use Rattle.eql_parser.proofs.parser.whole.pipes_of.Given as goal

-- the pipes so far, before those that the turns that are left read, are all of them
abbrev pub invariant-loop : goal.invariant-loop
invariant-loop l = onto l.items.items (pipes (l.end - l.counter) (kinds l.rest)) ≡ pipes (length (kinds l.fn.tokens)) (kinds l.fn.tokens)
