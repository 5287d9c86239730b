use Rattle.std.proofs.Common.{◌∷◌, refl, false, sym, ap, ◌∙◌, if◌then◌else◌, codes, Err}
use Rattle.eql_parser.specs.Kinds.{kinds, matches, in_, not_, regex_}
use Rattle.eql_query.specs.Tree as t
use Rattle.eql_query.specs.View.{tree}
use Rattle.eql_parser.specs.Pieces.{piece_kind}
use Rattle.eql_parser.specs.Answering.{node_tree, room, inner}
use Rattle.eql_parser.specs.Reading.{LeftOut, above, behind_sum, behind_not, members, patterns, res_map}
use Rattle.eql_parser.proofs.Parts.{as_read, at_place, stops_by, regex_left}
use Rattle.eql_parser.proofs.parser.relation.relation_of.Goals as goal

pub returns-in-Matches-clause-answers : goal.returns-in-Matches-clause-answers
returns-in-Matches-clause-answers c =
    let a = tree c.args.left.expr in
    as_read node_tree _ _ _ (at_place (behind_sum (room c.args.parens) (inner c.args.parens) c.args.levels a) (λ n. above c.args.levels a n (res_map (t.pattern c.in-Matches.op a) (patterns (room c.args.parens) (inner c.args.parens) (kinds c.in-Some.rest.now)))) c.args.tokens.now (matches c.in-Matches.op) (kinds c.in-Some.rest.now)
    (c.in-Some.ensures ∙ ap (λ x. piece_kind x ∷ kinds c.in-Some.rest.now) c.in-Matches.is) refl) c.matched_of.ensures.answers

pub returns-in-In-clause-answers : goal.returns-in-In-clause-answers
returns-in-In-clause-answers c =
    let a = tree c.args.left.expr in
    as_read node_tree _ _ _ (at_place (behind_sum (room c.args.parens) (inner c.args.parens) c.args.levels a) (λ n. above c.args.levels a n (res_map (t.member c.in-In.fold false a) (members (room c.args.parens) (inner c.args.parens) (kinds c.in-Some.rest.now)))) c.args.tokens.now (in_ c.in-In.fold) (kinds c.in-Some.rest.now)
    (c.in-Some.ensures ∙ ap (λ x. piece_kind x ∷ kinds c.in-Some.rest.now) c.in-In.is) refl) c.among.ensures.answers

pub returns-in-Not-clause-answers : goal.returns-in-Not-clause-answers
returns-in-Not-clause-answers c =
    let a = tree c.args.left.expr in
    as_read node_tree _ _ _ (at_place (behind_sum (room c.args.parens) (inner c.args.parens) c.args.levels a) (λ n. above c.args.levels a n (behind_not (room c.args.parens) (inner c.args.parens) a (kinds c.in-Some.rest.now))) c.args.tokens.now not_ (kinds c.in-Some.rest.now)
    (c.in-Some.ensures ∙ ap (λ x. piece_kind x ∷ kinds c.in-Some.rest.now) c.in-Not.is) refl) c.not_among.ensures.answers

pub returns-in-Regex-clause-answers : goal.returns-in-Regex-clause-answers
returns-in-Regex-clause-answers c =
    let a = tree c.args.left.expr in
    stops_by _ _ _ _ _ c.left_out.ensures c.regex_word.ensures (sym (at_place (behind_sum (room c.args.parens) (inner c.args.parens) c.args.levels a)
    (λ n. Err (LeftOut (if c.in-Regex.fold then codes "regex~" else codes "regex") n)) c.args.tokens.now (regex_ c.in-Regex.fold) (kinds c.in-Some.rest.now)
    (c.in-Some.ensures ∙ ap (λ x. piece_kind x ∷ kinds c.in-Some.rest.now) c.in-Regex.is) (regex_left c.args.parens c.args.levels a c.in-Regex.fold (kinds c.in-Some.rest.now))))
