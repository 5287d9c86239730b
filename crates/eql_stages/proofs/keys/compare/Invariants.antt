use Rattle.std.proofs.Common.{◌≡◌, ◌≤◌, drop, length}
use Rattle.eql_values.specs.Orders.{key_cmp}
use Rattle.eql_stages.specs.Keys.{values_of}
use Rattle.eql_stages.proofs.keys.compare.Given as goal

-- the first values were equal
abbrev pub invariant-loop-place : goal.invariant-loop-place
invariant-loop-place l = record {
  within : l.place ≤ length l.key;
  same : key_cmp (values_of l.slots l.fields) l.key ≡ key_cmp (values_of l.slots (drop l.place l.fields)) (drop l.place l.key);
}
