use Rattle.std.proofs.Common.{◌≡◌, ◌+◌, length}
use Rattle.eql_lexer.specs.Strings.{before_triple}
use Rattle.eql_lexer.proofs.quoted.raw_len.Given as goal

abbrev pub invariant-loop-rest : goal.invariant-loop-rest
invariant-loop-rest l = (l.n + before_triple l.rest ≡ before_triple l.bytes) × (l.n + length l.rest ≡ length l.bytes)

abbrev pub decreases-loop-rest : goal.decreases-loop-rest
decreases-loop-rest l = length l.rest
