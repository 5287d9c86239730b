-- How often the files of each name failed.
use Rattle.std.specs.Prelude.{◌≡◌, ◌≢◌, ◌≤◌, ℕ, List, Option, Some, None, if◌then◌else◌, string_bytes}
use Rattle.std.specs.Str.{bytes_eq}
use Rattle.eql_outside.specs.Outside.{Rose}
use Rattle.eql_outside.specs.declared.faults.NameFaults.{NameFaults, End, Named'}
use Rattle.eql_outside.specs.declared.faults.Lent.{Lent}

-- the name under which a file was lent
abbrev pub name_lent : Lent → List ℕ
name_lent lent = string_bytes lent.name

-- the count of a name
abbrev pub faults_in : NameFaults → List ℕ → ℕ
faults_in End name = 0
faults_in (Named' n count block others) name = if bytes_eq (string_bytes n) name then count else faults_in others name

-- the faults of each name are as many as before
abbrev pub FaultsAreSame : (List ℕ → ℕ) → (List ℕ → ℕ) → Type 0
FaultsAreSame before now = (name : List ℕ) → now name ≡ before name

-- the faults of this name rose in a call, those of each other name are as many as before, and none are fewer
pub record RoseFor (name : List ℕ) (before now : List ℕ → ℕ) : Type 0 where
  pub rose : Rose (before name) (now name)
  pub others : (other : List ℕ) → other ≢ name → now other ≡ before other
  pub counts : (any : List ℕ) → before any ≤ now any

-- the same of the name under which a file was lent, where a shelf lent it
abbrev pub RoseUnder : Option (List ℕ) → (List ℕ → ℕ) → (List ℕ → ℕ) → Type 0
RoseUnder None before now = FaultsAreSame before now
RoseUnder (Some name) before now = RoseFor name before now

-- a call that changes no count, before or after one in which those of a name rose, changes nothing of that
pub record RosesAgree : Type 0 where
  pub earlier : (name : List ℕ) (before mid now : List ℕ → ℕ) → FaultsAreSame before mid → RoseFor name mid now → RoseFor name before now
  pub later : (name : List ℕ) (before mid now : List ℕ → ℕ) → RoseFor name before mid → FaultsAreSame mid now → RoseFor name before now
