use Rattle.std.proofs.Common.{◌≡◌, length}
use Rattle.eql_parser.specs.Refusing.{end_of}
use Rattle.eql_parser.proofs.Parsed.{end_or}
use Rattle.eql_parser.proofs.parser.end_of_last.Given as goal

-- the end of the last token of those that are left, or the last end so far
abbrev pub invariant-loop-rest : goal.invariant-loop-rest
invariant-loop-rest l = end_or l.last l.rest ≡ end_of l.tokens

abbrev pub decreases-loop-rest : goal.decreases-loop-rest
decreases-loop-rest l = length l.rest
