use Rattle.std.proofs.Common.{◌≡◌, cond, length}
use Rattle.eql_lexer.specs.Strings.{is_closed, is_closed_behind}
use Rattle.eql_lexer.proofs.quoted.closes.Given as goal

abbrev pub invariant-loop-rest : goal.invariant-loop-rest
invariant-loop-rest l = cond l.behind (is_closed_behind l.rest) (is_closed l.rest) ≡ is_closed l.bytes

abbrev pub decreases-loop-rest : goal.decreases-loop-rest
decreases-loop-rest l = length l.rest
