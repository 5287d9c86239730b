use Rattle.std.proofs.Common.{◌<◌, ℕ, get_or}
use Rattle.eql_values.specs.declared.found.Holder.{Holder}
use Rattle.eql_part.specs.KeyTables.{ComesAfterHolder}
use Rattle.eql_matching_tests.proofs.tests.part.is_after_all.Given as goal

abbrev pub invariant-loop-holder : goal.invariant-loop-holder
invariant-loop-holder l = (k : ℕ) (d : Holder) → k < l.holder-index → ComesAfterHolder l.order (get_or l.holders.items k d)
