use Rattle.std.specs.Prelude.{◌≡◌, ◌==◌, filter, take}
use Rattle.eql_values.specs.declared.found.Holder.{Holder}
use Rattle.eql_parts.specs.Spreading.{part_number}
use Rattle.eql_replay_tests.proofs.parts.own_holders.Given as goal

abbrev pub invariant-loop-holder : goal.invariant-loop-holder
invariant-loop-holder l = l.own.items ≡ filter (λ (h : Holder). part_number h.key == l.part) (take l.holder-index l.holders)
