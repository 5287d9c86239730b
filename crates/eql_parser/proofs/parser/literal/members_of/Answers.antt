use Rattle.eql_parser.proofs.Lacking.{no_members, members_shut, members_unclosed}
use Rattle.eql_parser.proofs.parser.literal.members_of.Goals as goal

pub returns-in_default : goal.returns-in_default
returns-in_default c = no_members _ c.args.tokens.now c.in_default.ensures

pub returns-then-parens-eq0 : goal.returns-then-parens-eq0
returns-then-parens-eq0 c = members_shut _ c.args.tokens.now _ c.if-parens-eq0.true c.in-Some.ensures

pub returns-in-None : goal.returns-in-None
returns-in-None c = members_unclosed _ _ _ _ _ c.if-parens-eq0.false c.in-Some.ensures c.in_ok-items.ensures c.in-None.ensures
