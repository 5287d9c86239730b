use Rattle.std.proofs.Common.{◌≡◌, ◌≤◌, ◌-◌, [], vec_len}
use Rattle.eql_outside.specs.Unfailing.{IsUnfailing}
use Rattle.eql_inputs.specs.Fronts.{HasRead}
use Rattle.eql_inputs.proofs.front.read_pieces.Given as goal

abbrev pub invariant-pieces : goal.invariant-pieces
invariant-pieces g l = record {
  read : HasRead (g.S.Source.left l.fn.source) (g.S.Source.left l.source) [] l.text.items;
  few : vec_len l.text ≤ l.most;
  count : g.S.Source.fault_count l.source ≡ g.S.Source.fault_count l.fn.source;
  unfailing : IsUnfailing (g.S.Source.fault_plan l.fn.source) → IsUnfailing (g.S.Source.fault_plan l.source);
  name : g.S.Source.lent_as l.source ≡ g.S.Source.lent_as l.fn.source;
}

abbrev pub decreases-pieces : goal.decreases-pieces
decreases-pieces g l = l.most - vec_len l.text
