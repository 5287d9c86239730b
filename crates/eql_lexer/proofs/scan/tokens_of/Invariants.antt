use Rattle.std.proofs.Common.{◌≤◌, length}
use Rattle.eql_lexer.specs.Spelling.{AreTokensTo}
use Rattle.eql_lexer.proofs.scan.tokens_of.Given as goal

abbrev pub invariant-loop-first : goal.invariant-loop-first
invariant-loop-first l = AreTokensTo (length l.text) l.text l.tokens.items l.rest × (length l.rest ≤ length l.text) × (length l.text ≤ 65536)

abbrev pub decreases-loop-first : goal.decreases-loop-first
decreases-loop-first l = length l.rest
