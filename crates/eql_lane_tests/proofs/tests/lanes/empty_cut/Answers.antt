use Rattle.std.proofs.Common.{◌≡◌, ◌≤◌, length, List, [], sym, ◌∙◌, subst, arith}
use Rattle.std.specs.Prelude.{All}
use Rattle.std.proofs.lemmas.List.Elements.{All-nil}
use Rattle.eql_values.specs.declared.item.Item.{Item}
use Rattle.eql_values.specs.Ascending.{Ascend}
use Rattle.eql_lane_tests.proofs.tests.lanes.empty_cut.Goals as goal

pub returns-clause-may : goal.returns-clause-may
returns-clause-may c =
    let none : c.of.result ≡ [] = c.of.ensures ∙ c.new.ensures.items in
    record {
      ascending = subst Ascend (sym none) tt;
      lines_to = subst (All (λ (item : Item). item.order.line ≤ c.args.lines)) (sym none) (All-nil (λ (item : Item). item.order.line ≤ c.args.lines));
      few = subst (λ (l : List Item). length l ≤ 0) (sym none) (omega arith);
      best = tt;
      counts = omega arith;
      lines = c.requires.lines;
      bytes = c.requires.bytes;
    }
