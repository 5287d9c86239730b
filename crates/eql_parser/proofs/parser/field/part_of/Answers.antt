use Rattle.std.proofs.Common.{sym, ap, ◌∙◌}
use Rattle.eql_parser.specs.Grammar.{part}
use Rattle.eql_parser.specs.Kinds.{kind}
use Rattle.eql_parser.proofs.Spellings.{sign_part}
use Rattle.eql_parser.proofs.parser.field.part_of.Goals as goal

pub returns-in-Sign : goal.returns-in-Sign
returns-in-Sign c = sign_part c.in-Sign.field-0 ∙ ap (λ t. part (kind t)) (sym c.in-Sign.is)
