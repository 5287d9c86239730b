use Rattle.std.proofs.Common.{◌-◌, ℕ, None, sym, subst}
use Rattle.std.specs.List.{All}
use Rattle.std.proofs.lemmas.List.Elements.{All-replicate}
use Rattle.eql_auto.specs.Machine.{Machine, ComesAfter}
use Rattle.eql_matching_tests.proofs.tests.auto.run_new.Goals as goal

pub pending_behind-pending-requires-clause-empty : goal.pending_behind-pending-requires-clause-empty
pending_behind-pending-requires-clause-empty g c = λ next.
    subst (λ (a : Machine ℕ). All (ComesAfter next) a.slots) (sym (c.in_ok-machine.ensures {u = tt}))
    (All-replicate (ComesAfter next) (c.args.run.now.stages - 1) None tt)
