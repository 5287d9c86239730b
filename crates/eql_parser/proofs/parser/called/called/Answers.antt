use Rattle.std.proofs.Common.{codes, sym, ◌∙◌}
use Rattle.std.specs.Str.{chars}
use Rattle.eql_parser.specs.Kinds.{kinds}
use Rattle.eql_parser.specs.Answering.{nodes_trees}
use Rattle.eql_parser.proofs.Parts.{call_refused, number_word, stops_by}
use Rattle.eql_parser.proofs.parser.called.called.Goals as goal

pub returns-then-is_based-clause-answers : goal.returns-then-is_based-clause-answers
returns-then-is_based-clause-answers c =
    stops_by _ _ (codes "number") c.args.place _ c.left_out.ensures number_word
    (call_refused c.args.fold (chars c.args.name.now) c.args.place (nodes_trees c.args.arguments) (kinds c.args.rest.now) (sym c.if-is_based.true ∙ c.is_based.ensures))
