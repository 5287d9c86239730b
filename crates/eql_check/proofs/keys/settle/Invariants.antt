use Rattle.std.proofs.Common.{◌≡◌, ◌≤◌, drop, length}
use Rattle.eql_check.specs.Kinds.{kind_at}
use Rattle.eql_check.specs.Rules.{settled_kinds, key_kinds}
use Rattle.eql_check.proofs.Settling.{settled_from}
use Rattle.eql_check.proofs.keys.settle.Given as goal

abbrev pub invariant-loop-place : goal.invariant-loop-place
invariant-loop-place l =
    (l.place ≤ length l.kinds.items)
    × (settled_from l.place l.kinds.items (key_kinds (kind_at l.mapping) (drop l.place l.keys))
    ≡ settled_kinds l.fn.kinds.items (key_kinds (kind_at l.mapping) l.keys))
