use Rattle.std.proofs.Common.{◌++◌, ◌∷◌, Option, sym, subst, IsPermutation}
use Rattle.std.proofs.lemmas.List.Sorted.{IsPermutation-middle}
use Rattle.std.specs.Option.{option_to_list}
use Rattle.eql_auto.specs.Machine.{tags_of}
use Rattle.eql_auto.proofs.Tags.{goes_over}
use Rattle.eql_auto.proofs.moves.begin_new.Goals as goal

pub returns-clause-tags : goal.returns-clause-tags
returns-clause-tags g c =
    let gone = c.args.gone.now.items in
    let tags = tags_of c.args.table.now in
    let tag = c.in_ok-tag.tag in
    goes_over gone (option_to_list c.begin-out.result.ceased) (tags_of c.begin-out.new.self) (tag ∷ tags) _ c.add_gone.new.gone.items
    c.begin-out.ensures.ceased c.add_gone.ensures.items
    (subst (λ (o : Option g.row.T.Denot). IsPermutation (gone ++ tag ∷ tags) (option_to_list o ++ (gone ++ tags))) (sym c.in_ok-tag.was) (IsPermutation-middle gone tag tags))
