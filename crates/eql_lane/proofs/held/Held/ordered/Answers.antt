use Rattle.std.proofs.Common.{List, map, subst}
use Rattle.std.specs.Prelude.{IsTrue}
use Rattle.std.specs.FinMap.Entries.{is_sorted}
use Rattle.eql_values.specs.declared.item.Item.{Item}
use Rattle.eql_values.specs.OrderKeys.{order_cmp}
use Rattle.eql_lane.specs.Holding.{pair}
use Rattle.eql_lane.proofs.HeldLemmas.{held_sorted}
use Rattle.eql_lane.proofs.held.Held.ordered.Goals as goal

pub returns : goal.returns
returns c = subst (λ (l : List Item). IsTrue (is_sorted order_cmp (map pair l))) c.self.view_is (held_sorted c.self.inside.run.items c.self.inside.others.entries)
