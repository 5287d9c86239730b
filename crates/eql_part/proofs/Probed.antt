-- The probes of a machine's turn, as those of its route.
use Rattle.std.proofs.Common.{◌≡◌, ◌<◌, ◌≤◌, ◌+◌, ◌-◌, ◌*◌, ℕ, suc, if◌then◌else◌, subst, arith}
use Rattle.std.proofs.lemmas.Grind.{common_steps}
use Rattle.eql_values.specs.declared.item.Route.{Route}
use Rattle.eql_auto.specs.Machine.{stages_in}
use Rattle.eql_part.specs.KeyTables.{probes_of}

pub probes_by : (new old n : ℕ) (route : Route) → new ≤ old + stages_in route.mask (suc n) + (if route.until then n else 0) → new ≤ old + probes_of (suc n) route
probes_by new old n route h =
    let same : n ≡ suc n - 1 = omega arith in
    let all = subst (λ (k : ℕ). new ≤ old + stages_in route.mask (suc n) + (if route.until then k else 0)) same h in
    omega (arith, all)

-- one turn of a sweep, whose probes its holder pays
pub probes_on : (new old p a b all : ℕ) → new ≤ old + p → a < b → old + p * b ≤ all → new + p * a ≤ all
probes_on new old p a b all one fewer before =
    grind (arith, common_steps)
