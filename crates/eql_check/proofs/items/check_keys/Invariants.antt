use Rattle.std.proofs.Common.{◌≡◌, drop}
use Rattle.eql_check.specs.Kinds.{kind_at}
use Rattle.eql_check.specs.Rules.{keys_broken}
use Rattle.eql_check.proofs.items.check_keys.Given as goal

abbrev pub invariant-loop-key : goal.invariant-loop-key
invariant-loop-key l =
    keys_broken (kind_at l.mapping) (drop l.key-index l.keys) ≡ keys_broken (kind_at l.mapping) l.keys
