use Rattle.std.proofs.Common.{◌≡◌, ◌≤◌, ◌+◌, ◌-◌, ◌++◌, ℕ, List, length, take}
use Rattle.eql_lane.specs.Noting.{NotesOf}
use Rattle.eql_lane.proofs.notes.Notes.pass.Given as goal

abbrev pub invariant-loop-end : goal.invariant-loop-end
invariant-loop-end l = record {
  within : l.from ≤ length l.bytes;
  noted : (front : List ℕ) → NotesOf front l.initial.self → NotesOf (front ++ take l.from l.bytes) l.self;
  wanted : l.self.wanted ≡ l.initial.self.wanted;
  passed : l.self.passed ≡ l.initial.self.passed + l.from;
}

abbrev pub decreases-loop-end : goal.decreases-loop-end
decreases-loop-end l = length l.bytes - l.from
