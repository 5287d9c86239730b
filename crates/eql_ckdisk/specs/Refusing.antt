-- How a disk's refusal is handed on, what is damaged, and what is another program's.
use Rattle.std.specs.Prelude.{◌≡◌, ℕ}
use Rattle.eql_outside.specs.declared.disk.Area.{Area}
use Rattle.eql_outside.specs.declared.disk.Area.TheVariants.{A, B}
use Rattle.eql_outside.specs.declared.refused.OutRefused.{OutRefused}
use Rattle.eql_outside.specs.declared.refused.OutRefused.TheVariants as out
use Rattle.eql_cut.specs.Whole.{IsNoText}
use Rattle.eql_ckdisk.specs.declared.refused.CkRefused.{CkRefused}
use Rattle.eql_ckdisk.specs.declared.refused.CkRefused.TheVariants as ck
use Rattle.eql_ckdisk.specs.Found.{Found, nothing, text, damaged, foreign}

abbrev pub refusing : OutRefused → CkRefused
refusing out.Failed = ck.DiskFault
refusing out.Memory = ck.Memory

abbrev pub number_of : Area → ℕ
number_of A = 0
number_of B = 1

-- what was found is a damaged area of this number: its generation or its length is at fault, or its text is no cut's.
-- The place is 0 where the text isn't at fault
abbrev pub IsDamaged : ℕ → ℕ → Found → Type 0
IsDamaged number at nothing = ⊥
IsDamaged number at (text area generation bytes) = (number ≡ number_of area) × IsNoText bytes
IsDamaged number at (damaged area generation) = (number ≡ number_of area) × (at ≡ 0)
IsDamaged number at (foreign area) = ⊥

-- the same, but for texts that are no cut's
abbrev pub IsDamagedHead : ℕ → ℕ → Found → Type 0
IsDamagedHead number at nothing = ⊥
IsDamagedHead number at (text area generation bytes) = ⊥
IsDamagedHead number at (damaged area generation) = (number ≡ number_of area) × (at ≡ 0)
IsDamagedHead number at (foreign area) = ⊥

-- what was found is another program's area, of this number
abbrev pub IsForeign : ℕ → Found → Type 0
IsForeign number nothing = ⊥
IsForeign number (text area generation bytes) = ⊥
IsForeign number (damaged area generation) = ⊥
IsForeign number (foreign area) = number ≡ number_of area

-- what was found is so, by a refusal that tells of it
abbrev pub RefusesFound : CkRefused → Found → Type 0
RefusesFound ck.DiskFault found = Unit {0}
RefusesFound (ck.Damaged number at) found = IsDamaged number at found
RefusesFound (ck.Foreign number) found = IsForeign number found
RefusesFound ck.Generation found = Unit {0}
RefusesFound ck.Memory found = Unit {0}

-- a refusal that tells of what the areas hold
abbrev pub TellsFound : CkRefused → Type 0
TellsFound ck.DiskFault = ⊥
TellsFound (ck.Damaged number at) = Unit {0}
TellsFound (ck.Foreign number) = Unit {0}
TellsFound ck.Generation = ⊥
TellsFound ck.Memory = ⊥
