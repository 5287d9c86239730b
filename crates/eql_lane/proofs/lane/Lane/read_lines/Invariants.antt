use Rattle.std.proofs.Common.{◌≡◌, ◌≤◌, ◌+◌, ◌-◌, false, List, ℕ, Option}
use Rattle.eql_outside.specs.Unfailing.{IsUnfailing}
use Rattle.eql_lane.specs.Views.{IsTextOf, setting_of, IsSameLane}
use Rattle.eql_lane.specs.Feeding.{ReadsAt}
use Rattle.eql_lane.proofs.lane.Lane.read_lines.Given as goal

abbrev pub invariant-loop-lines : goal.invariant-loop-lines
invariant-loop-lines g l = record {
  reads : (text : Option (List ℕ)) → IsTextOf g.S.Source.left text l.fn.self → ReadsAt (setting_of g.L.LineReader.read_of text l.fn.self) l.fn.self.state l.lines false l.self.state;
  keeps : (text : Option (List ℕ)) → IsTextOf g.S.Source.left text l.fn.self → IsTextOf g.S.Source.left text l.self;
  is_open : l.self.state.cut.closed ≡ false;
  same : IsSameLane g.S.Source.left g.S.Source.lent_as g.L.LineReader.read_of l.fn.self l.self;
  room : l.self.state.taken + l.room ≡ l.fn.self.state.taken + 4194304;
  most : l.lines ≤ l.max;
  unfailing : IsUnfailing (g.S.Source.fault_plan l.fn.self.source) → IsUnfailing (g.S.Source.fault_plan l.self.source);
}

abbrev pub decreases-loop-lines : goal.decreases-loop-lines
decreases-loop-lines g l = (l.max - l.lines) + l.room
