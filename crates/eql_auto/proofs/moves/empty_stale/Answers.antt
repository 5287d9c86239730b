use Rattle.std.proofs.Common.{rules, ◌≡◌, ℤ, Option, map, sym, subst}
use Rattle.eql_auto.specs.Machine.{alive_in}
use Rattle.eql_auto.proofs.Turning.{all_alive}
use Rattle.eql_auto.proofs.moves.empty_stale.Goals as goal

pub returns-in_default-clause-slots : goal.returns-in_default-clause-slots
returns-in_default-clause-slots g c =
    subst (λ (s : Option ℤ). c.args.table.now ≡ map (alive_in s c.args.reach) c.args.table.now) (sym c.in_default.is) (all_alive c.args.reach c.args.table.now)

pub returns-in-Some-clause-slots : goal.returns-in-Some-clause-slots
returns-in-Some-clause-slots g c = search rules
