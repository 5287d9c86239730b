use Rattle.std.proofs.Common.{◌≡◌, length}
use Rattle.eql_parser.specs.Kinds.{word_in}
use Rattle.eql_parser.specs.Pieces.{entries}
use Rattle.eql_parser.proofs.parser.word.look_up.Given as goal

-- what is left of the table says of the word what the whole table says
abbrev pub invariant-loop-rest : goal.invariant-loop-rest
invariant-loop-rest l = word_in (entries l.rest) l.word ≡ word_in (entries l.table) l.word

abbrev pub decreases-loop-rest : goal.decreases-loop-rest
decreases-loop-rest l = length l.rest
