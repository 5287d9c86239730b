use Rattle.std.proofs.Common.{◌≡◌, sym, ap, ◌∙◌, subst, List}
use Rattle.std.proofs.lemmas.Result.{IfOk-weaker}
use Rattle.std.specs.Prelude.{All}
use Rattle.eql_values.specs.declared.item.Item.{Item}
use Rattle.eql_values.specs.Accepted.{sorted_items}
use Rattle.eql_values.specs.Ascending.{Ascend}
use Rattle.eql_laws.specs.Apart.{AllAreApart, joined_lists}
use Rattle.eql_conductor.specs.Fitting.{fitting}
use Rattle.eql_conductor.proofs.FittingLaws.{fitting_apart, fitting_ascend, fitting_sorted}
use Rattle.eql_conductor.proofs.fitting.merge_fitting.Goals as goal

pub merge-requires-clause-ascend : goal.merge-requires-clause-ascend
merge-requires-clause-ascend c = subst (All Ascend) (sym c.in_ok-kept.ensures) (fitting_ascend c.args.lists c.requires.ascend)

pub merge-requires-clause-apart : goal.merge-requires-clause-apart
merge-requires-clause-apart c = subst AllAreApart (sym c.in_ok-kept.ensures) (fitting_apart c.args.lists c.requires.apart)

pub returns : goal.returns
returns c =
    IfOk-weaker c.merge.result (λ (all : List Item). all ≡ sorted_items (joined_lists c.in_ok-kept.kept)) (λ (all : List Item). all ≡ fitting (sorted_items (joined_lists c.args.lists)))
    (λ all sorted. sorted ∙ ap (λ (lists : List (List Item)). sorted_items (joined_lists lists)) c.in_ok-kept.ensures ∙ sym (fitting_sorted c.args.lists c.requires.ascend c.requires.apart))
    c.merge.ensures.sorted
