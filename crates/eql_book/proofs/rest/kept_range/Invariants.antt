use Rattle.std.proofs.Common.{◌≡◌, ◌≤◌, ◌-◌, List, length, take, drop}
use Rattle.eql_values.specs.declared.found.Numbered.{Numbered}
use Rattle.eql_values.specs.Numbering.{pipe_output}
use Rattle.eql_book.specs.Gates.{pipes_of}
use Rattle.eql_book.proofs.rest.kept_range.Given as goal

abbrev pub invariant-loop-gate : goal.invariant-loop-gate
invariant-loop-gate l = record {
  order : l.range.0 ≤ l.range.1;
  within : l.range.1 ≤ l.len;
  keeps : (list : List Numbered) → length list ≡ l.len
      → pipe_output (pipes_of l.gates) list ≡ pipe_output (pipes_of (drop l.gate-index l.gates)) (take (l.range.1 - l.range.0) (drop l.range.0 list));
}
