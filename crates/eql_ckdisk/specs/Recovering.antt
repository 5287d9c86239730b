-- What a recovery returns, of any disk.
use Rattle.std.specs.Prelude.{◌≡◌, ◌≤◌, ◌^◌, ℕ, List, Option, Some, None}
use Rattle.eql_cut.specs.declared.cut.Cut.{Cut}
use Rattle.eql_cut.specs.Domain.{IsCut}
use Rattle.eql_cut.specs.Whole.{IsTextOf}
use Rattle.eql_ckdisk.specs.declared.recovery.Recovered.{Recovered}
use Rattle.eql_ckdisk.specs.Found.{Found}
use Rattle.eql_ckdisk.specs.Cuts.{IsFound}
use Rattle.eql_ckdisk.specs.Putting.{last_cut}

-- there is no cut, and format and generation are 0; or there is one that has a text in its format and stands in order,
-- and the generation is one of those that are given
abbrev pub IsNoneOrCut : Option Cut → ℕ → ℕ → Type 0
IsNoneOrCut None format generation = (format ≡ 0) × (generation ≡ 0)
IsNoneOrCut (Some cut) format generation =
    IsCut cut × ((bytes : List ℕ) × IsTextOf format cut bytes) × (1 ≤ generation) × (generation ≤ 2 ^ 63)

abbrev pub IsSound : Recovered → Type 0
IsSound recovered = IsNoneOrCut recovered.cut recovered.format (last_cut recovered.state).generation

-- the result is what was found
abbrev pub IsAnswer : Recovered → Found → Type 0
IsAnswer recovered found = IsFound (last_cut recovered.state) recovered.format recovered.cut found
