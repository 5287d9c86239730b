use Rattle.std.proofs.Common.{◌∙◌}
use Rattle.eql_parser.proofs.Levels.{above_is}
use Rattle.eql_parser.proofs.Parts.{no_in}
use Rattle.eql_parser.proofs.parser.relation.not_among.Goals as goal

pub returns-in_default-first-clause-answers : goal.returns-in_default-first-clause-answers
returns-in_default-first-clause-answers c =
    above_is _ _ _ _ _ c.requires.0 c.if-left-levels.false ∙ no_in _ _ c.args.tokens.now _ _ c.in-Some.ensures c.in_default-first.not-In
