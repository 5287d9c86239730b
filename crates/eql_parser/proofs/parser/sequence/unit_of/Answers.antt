use Rattle.std.proofs.Common.{◌∷◌, ap, ◌∙◌}
use Rattle.eql_parser.specs.Kinds.{kinds}
use Rattle.eql_parser.specs.Pieces.{piece_kind}
use Rattle.eql_parser.proofs.Queries.{no_unit, no_unit_name}
use Rattle.eql_parser.proofs.parser.sequence.unit_of.Goals as goal

pub returns-in-None : goal.returns-in-None
returns-in-None c =
    let rest = kinds c.in-Some.rest.now in
    no_unit c.args.count c.args.tokens.now c.in-Name.word.now rest c.no_unit.result (c.in-Some.ensures ∙ ap (λ x. piece_kind x ∷ rest) c.in-Name.is) c.in-None.ensures c.no_unit.ensures

pub returns-in_default-first : goal.returns-in_default-first
returns-in_default-first c = no_unit_name c.args.count c.args.tokens.now _ _ c.in-Some.ensures c.in_default-first.not-Name
