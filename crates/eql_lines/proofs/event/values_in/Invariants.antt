use Rattle.std.proofs.Common.{◌≡◌, drop, map}
use Rattle.eql_lines.specs.Found.{found_of}
use Rattle.eql_lines.specs.Gathered.{values_found}
use Rattle.eql_lines.specs.Partly.{behind_values}
use Rattle.eql_lines.proofs.event.values_in.Given as goal

-- the values so far, before those of the fields that are left
abbrev pub invariant-loop-place : goal.invariant-loop-place
invariant-loop-place l =
    values_found l.fields.items (map found_of l.slots)
    ≡ behind_values l.values.items (values_found (drop l.place l.fields.items) (map found_of (drop l.place l.slots)))
