use Rattle.std.proofs.Common.{◌≡◌, take, suc, List, []}
use Rattle.std.specs.BTreeMap.{get}
use Rattle.eql_values.specs.declared.value.Value.{Value}
use Rattle.eql_values.specs.Chains.{holder}
use Rattle.eql_values.specs.Orders.{key_cmp}
use Rattle.eql_lookback.specs.RoutedEvents.{to_key, back_over}
use Rattle.eql_lookback.specs.Places.{no_opening, chains_at}
use Rattle.eql_lookback.proofs.stages.next_stage.Given as goal

abbrev pub invariant-loop-i : goal.invariant-loop-i
invariant-loop-i l = record {
  next : l.next.items ≡ chains_at l.span (suc l.stage) [] (take l.i l.all);
  pending : (key : List Value) → get key_cmp l.pending key ≡ holder l.span no_opening l.stage (to_key key (back_over (take l.i l.all) []));
}
