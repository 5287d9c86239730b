use Rattle.std.proofs.Common.{arith}
use Rattle.std.proofs.lemmas.List.{length-map}
use Rattle.std.specs.Str.{chars}
use Rattle.eql_query.specs.View.{tree}
use Rattle.eql_parser.specs.Answering.{nodes_trees}
use Rattle.eql_parser.proofs.Parts.{not_folding, not_two_arguments, just_two_arguments}
use Rattle.eql_parser.proofs.parser.called.is_based.Goals as goal

pub returns-then-fold : goal.returns-then-fold
returns-then-fold c = not_folding c.args.fold (chars c.args.name.now) (nodes_trees c.args.arguments.now) c.if-fold.true

pub returns-then-len-ne2 : goal.returns-then-len-ne2
returns-then-len-ne2 c =
    let items = c.args.arguments.now.items.items in
    not_two_arguments c.args.fold (chars c.args.name.now) (nodes_trees c.args.arguments.now) c.if-fold.false (λ e. omega (arith, length-map items tree))

pub returns : goal.returns
returns c =
    let items = c.args.arguments.now.items.items in
    just_two_arguments c.args.fold (chars c.args.name.now) (nodes_trees c.args.arguments.now) c.is_spelled.result c.if-fold.false (omega (arith, length-map items tree)) c.is_spelled.ensures
