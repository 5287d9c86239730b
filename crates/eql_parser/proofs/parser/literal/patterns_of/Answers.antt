use Rattle.eql_parser.proofs.Lacking.{patterns_shut, patterns_unclosed}
use Rattle.eql_parser.proofs.parser.literal.patterns_of.Goals as goal

pub returns-then-parens-eq0 : goal.returns-then-parens-eq0
returns-then-parens-eq0 c = patterns_shut _ c.args.tokens.now _ c.if-parens-eq0.true c.in-Some.ensures

pub returns-in-None : goal.returns-in-None
returns-in-None c = patterns_unclosed _ _ _ _ _ c.if-parens-eq0.false c.in-Some.ensures c.in_ok-items-2.ensures c.in-None.ensures
