use Rattle.std.proofs.Common.{◌≡◌, ℕ, List, ◌++◌, drop}
use Rattle.eql_parser.specs.Printed.{pipes_shown}
use Rattle.eql_parser.proofs.printing.term.put_pipes.Given as goal

abbrev pub invariant-loop-pipe : goal.invariant-loop-pipe
invariant-loop-pipe l = (rest : List ℕ) → l.page ++ pipes_shown (drop l.pipe-index l.pipes) rest ≡ l.fn.page ++ pipes_shown l.pipes rest
