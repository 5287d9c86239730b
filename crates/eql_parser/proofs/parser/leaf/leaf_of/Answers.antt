use Rattle.std.proofs.Common.{◌∷◌, Ok, refl, sym, ap, ◌∙◌}
use Rattle.eql_parser.specs.Kinds.{kinds, name, back, question_}
use Rattle.std.specs.Str.{chars}
use Rattle.std.specs.Option.{option_map}
use Rattle.eql_query.specs.View.{tree}
use Rattle.eql_parser.specs.Pieces.{piece_kind}
use Rattle.eql_parser.specs.Answering.{node_tree, room, inner}
use Rattle.eql_parser.specs.Reading.{at_level, prim}
use Rattle.eql_parser.proofs.Separated.{stops_as}
use Rattle.eql_parser.proofs.Parts.{as_read, at_place, constant_prim, constant_depth, field_prim, name_alone, folding_prim, alone, folding_by_itself, no_leaf}
use Rattle.eql_parser.proofs.parser.leaf.leaf_of.Goals as goal

pub leaf-requires : goal.leaf-requires
leaf-requires c = constant_depth (piece_kind c.in-Some.first) (tree c.in-Some-2.expr) (ap (option_map tree) (sym c.in-Some-2.is) ∙ c.in_ok-expr.ensures)

pub returns-in-Some-2-clause-answers : goal.returns-in-Some-2-clause-answers
returns-in-Some-2-clause-answers c =
    let rest = kinds c.in-Some.rest.now in
    let k = piece_kind c.in-Some.first in
    let e = tree c.in-Some-2.expr in
    as_read node_tree c.leaf.result _ _ (at_place (prim (room c.args.parens) (inner c.args.parens) c.args.levels) (λ n. at_level c.args.levels n (Ok (e, rest))) c.args.tokens.now k rest c.in-Some.ensures
    (constant_prim c.args.parens c.args.levels k rest e (ap (option_map tree) (sym c.in-Some-2.is) ∙ c.in_ok-expr.ensures))) c.leaf.ensures.answers

pub returns-in-Name-clause-answers : goal.returns-in-Name-clause-answers
returns-in-Name-clause-answers c =
    let rest = kinds c.in-Some.rest.now in
    let w = c.in-Name.field-0.now in
    let here = c.in-Some.ensures ∙ ap (λ x. piece_kind x ∷ rest) c.in-Name.is in
    as_read node_tree _ _ _ (field_prim _ _ c.args.tokens.now (name w) rest here (name_alone _ _ w rest (alone _ w rest here c.requires.call))) c.field_leaf.ensures.answers

pub returns-in-Back-clause-answers : goal.returns-in-Back-clause-answers
returns-in-Back-clause-answers c =
    let rest = kinds c.in-Some.rest.now in
    let here = c.in-Some.ensures ∙ ap (λ x. piece_kind x ∷ rest) c.in-Back.is in
    as_read node_tree _ _ _ (field_prim _ _ c.args.tokens.now (back c.in-Back.field-0.now) rest here refl) c.field_leaf-in-Back.ensures.answers

pub returns-in-Question-clause-answers : goal.returns-in-Question-clause-answers
returns-in-Question-clause-answers c =
    let rest = kinds c.in-Some.rest.now in
    let here = c.in-Some.ensures ∙ ap (λ x. piece_kind x ∷ rest) c.in-Question.is in
    as_read node_tree _ _ _ (field_prim _ _ c.args.tokens.now question_ rest here refl) c.field_leaf-in-Question.ensures.answers

pub returns-in-Folding-clause-answers : goal.returns-in-Folding-clause-answers
returns-in-Folding-clause-answers c =
    let rest = kinds c.in-Some.rest.now in
    let w = chars c.in-Folding.field-0.now in
    let here = c.in-Some.ensures ∙ ap (λ x. piece_kind x ∷ rest) c.in-Folding.is in
    stops_as c.uncalled.result _ _ (folding_prim c.args.parens c.args.levels c.args.tokens.now w c.in-Some.rest.now here (folding_by_itself _ w rest here c.requires.call)) c.uncalled.ensures

pub returns-in_default-first-clause-answers : goal.returns-in_default-first-clause-answers
returns-in_default-first-clause-answers c =
    let d = c.in_default-first in
    no_leaf _ _ c.args.tokens.now _ _ c.in-Some.ensures c.requires.open (ap (option_map tree) (sym c.in-None.is) ∙ c.in_ok-expr.ensures) d.not-Name d.not-Back d.not-Question d.not-Folding
