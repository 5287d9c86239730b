-- Laws of recoveries and of puts one after another.
use Rattle.std.specs.Prelude.{◌≡◌, ◌++◌, ◌∷◌, [], ℕ, List, All, AllPairs, Option, Some}
use Rattle.eql_cut.specs.declared.cut.Cut.{Cut}
use Rattle.eql_outside.specs.Areas.{Moment}
use Rattle.eql_outside.specs.Moments.{History, DiskTells}
use Rattle.eql_ckdisk.specs.Found.{Found, LastCut}
use Rattle.eql_ckdisk.specs.Going.{Goes, IsNoOlder}
use Rattle.eql_ckdisk.specs.Keeping.{LeavesNoMore}
use Rattle.eql_ckdisk.specs.Putting.{Stands}
use Rattle.eql_ckdisk.specs.Cuts.{FindsPut, IsFound, Puts}
use Rattle.eql_ckdisk.specs.Refusing.{IsDamaged, IsForeign}
use Rattle.eql_ckdisk.specs.Runs.{last_after, KeepsStartOr, PutsAll}

-- how a run of puts is joined of its parts
pub record PutsGoOn : Type 0 where
  -- a recovery is a run with no put
  pub recovery : (last : LastCut) (before now : Option History)
      → DiskTells (Goes LeavesNoMore) before now → DiskTells (PutsAll last []) before now
  -- one put is a run, whatever it returned
  pub one_put : (last : LastCut) (cut : Cut) (before now : Option History)
      → Stands last before → DiskTells (Puts last cut) before now → DiskTells (PutsAll last (cut ∷ [])) before now
  -- a run and then another
  pub joined : (last : LastCut) (cuts more : List Cut) (before mid now : Option History)
      → DiskTells (PutsAll last cuts) before mid → DiskTells (PutsAll (last_after last cuts) more) mid now
      → DiskTells (PutsAll last (cuts ++ more)) before now

-- the moments since, the last of them first: what each image stands for there, and that none is older than one before
pub record MomentsSince (last : LastCut) (cuts : List Cut) (h k : History) : Type 0 where
  pub moments : List Moment
  pub are_all : k.now ∷ k.past ≡ moments ++ h.now ∷ h.past
  pub each : All (KeepsStartOr h.now last cuts) moments
  pub no_older : AllPairs (λ m before. IsNoOlder before m) (moments ++ h.now ∷ [])

abbrev pub PutsKeepEachMoment : Type 0
PutsKeepEachMoment = (last : LastCut) (cuts : List Cut) (h k : History) → PutsAll last cuts h k → MomentsSince last cuts h k

-- where each image at a moment has at least a generation, so has each image at the end of a run of puts from it
abbrev pub PutsAreNoOlder : Type 0
PutsAreNoOlder = (last : LastCut) (cuts : List Cut) (h k : History) → PutsAll last cuts h k → IsNoOlder h.now k.now

-- the moments since, the last of them first: each image there is one of those at the start
pub record AddsNothing (h k : History) : Type 0 where
  pub moments : List Moment
  pub are_all : k.now ∷ k.past ≡ moments ++ h.now ∷ h.past
  pub each : All (LeavesNoMore h.now) moments

abbrev pub RecoveryAddsNothing : Type 0
RecoveryAddsNothing = (h k : History) → Goes LeavesNoMore h k → AddsNothing h k

-- what was found has one result, and has none where it is damaged or another program's
pub record FoundIsOne : Type 0 where
  pub one : (last other : LastCut) (format other_format : ℕ) (answer other_answer : Option Cut) (f : Found)
      → IsFound last format answer f → IsFound other other_format other_answer f
      → (answer ≡ other_answer) × (format ≡ other_format) × (last.generation ≡ other.generation)
  pub sound : (last : LastCut) (format : ℕ) (answer : Option Cut) (number at : ℕ) (f : Found)
      → IsFound last format answer f → IsDamaged number at f → ⊥
  pub own : (last : LastCut) (format : ℕ) (answer : Option Cut) (number : ℕ) (f : Found)
      → IsFound last format answer f → IsForeign number f → ⊥

-- a recovery that finds a cut that was put returns that cut, with its place
abbrev pub PutsAreFound : Type 0
PutsAreFound = (put : LastCut) (cut : Cut) (last : LastCut) (format : ℕ) (answer : Option Cut) (f : Found)
    → FindsPut put cut f → IsFound last format answer f
    → (answer ≡ Some cut) × (format ≡ 4) × (last ≡ put)
