use Rattle.std.proofs.Common.{◌≡◌, ◌<◌, ℕ, get_or, true, false}
use Rattle.eql_values.specs.declared.item.Item.{Item}
use Rattle.eql_values.specs.Marks.{is_below}
use Rattle.eql_matching_tests.proofs.tests.parts.lie_between.Given as goal

abbrev pub invariant-loop-item : goal.invariant-loop-item
invariant-loop-item l = record {
  not_below : (k : ℕ) (d : Item) → k < l.item-index → is_below l.from (get_or l.items.items k d) ≡ false;
  below : (k : ℕ) (d : Item) → k < l.item-index → is_below l.mark (get_or l.items.items k d) ≡ true;
}
