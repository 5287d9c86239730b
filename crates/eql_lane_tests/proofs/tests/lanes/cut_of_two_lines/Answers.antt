use Rattle.std.proofs.Common.{◌≡◌, ◌≤◌, ◌++◌, pos, length, List, [], ◌∷◌, None, refl, sym, ◌∙◌, subst, arith}
use Rattle.std.specs.Prelude.{All}
use Rattle.std.proofs.lemmas.Int.{ints}
use Rattle.std.proofs.lemmas.List.Elements.{All-cons, All-nil}
use Rattle.eql_values.specs.declared.item.Item.{Item}
use Rattle.eql_values.specs.Ascending.{Ascend}
use Rattle.eql_lane_tests.proofs.tests.lanes.cut_of_two_lines.Goals as goal

abbrev one : Item
one = record { order = record { ts = pos 5000000000; tie = None; shard = 0; line = 1; at = 0 }; routes = [] }

abbrev IsOfTwo : Item → Type 0
IsOfTwo item = item.order.line ≤ 2

pub returns : goal.returns
returns c =
    let held : c.of-2.result ≡ one ∷ [] = c.of-2.ensures ∙ (c.in_ok-push.ensures {u = tt}).items
    ∙ (λ i. c.new-items.ensures.items i ++ record { order = record { ts = pos 5000000000; tie = None; shard = 0; line = 1; at = 0 }; routes = (c.of.ensures ∙ c.new.ensures.items) i } ∷ []) in
    record {
      ascending = subst Ascend (sym held) (refl, tt, tt);
      lines_to = subst (All IsOfTwo) (sym held) (All-cons IsOfTwo one [] (omega arith) (All-nil IsOfTwo));
      few = subst (λ (l : List Item). length l ≤ 1) (sym held) (omega arith);
      best = (grind (arith, ints), grind (arith, ints));
      counts = omega arith;
      lines = omega arith;
      bytes = omega arith;
    }
