use Rattle.std.proofs.Common.{◌≡◌}
use Rattle.std.specs.Iterator.Adapters.{zip_first, zip_second}
use Rattle.std.specs.Slice.Iter.{iter_rest}
use Rattle.eql_check.specs.Kinds.{kind_at}
use Rattle.eql_check.specs.Rules.{fit, key_kinds}
use Rattle.eql_check.proofs.keys.fit.Given as goal

abbrev pub invariant-loop-settled : goal.invariant-loop-settled
invariant-loop-settled l =
    fit (iter_rest (zip_first l.settled-iterator)) (key_kinds (kind_at l.mapping) (iter_rest (zip_second l.settled-iterator)))
    ≡ fit l.before (key_kinds (kind_at l.mapping) l.keys)
