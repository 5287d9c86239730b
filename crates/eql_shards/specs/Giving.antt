-- Sources that go back to their shelf.
use Rattle.std.specs.Prelude.{◌≡◌, ◌≤◌, ◌<◌, ◌-◌, ◌⊎◌, ℕ, List, [], ◌∷◌, length, map, IfSome, Option, Some}
use Rattle.eql_outside.specs.Outside.{Rose}
use Rattle.eql_outside.specs.Faults.{FaultsAreSame}
use Rattle.eql_outside.specs.declared.shelf.Shelf as shelves
use Rattle.eql_lane.specs.Views.{LaneView}
use Rattle.eql_inputs.specs.Shelves.{KeepsShelf}

-- what a shelf knows of a source when it comes back: its name, and how often it failed
pub record Returned : Type 0 where
  pub name : Option (List ℕ)
  pub faults : ℕ

-- it didn't fail, or it did and was lent under this name
abbrev pub DidNotFail : Returned → Type 0
DidNotFail back = back.faults ≡ 0

pub record SourceFailed (name : List ℕ) (back : Returned) : Type 0 where
  pub often : 0 < back.faults
  pub named : back.name ≡ Some name

-- of sources that come back none failed
abbrev pub NoSourceFailed : List Returned → Type 0
NoSourceFailed [] = Unit {0}
NoSourceFailed (back ∷ backs) = DidNotFail back × NoSourceFailed backs

-- of sources that come back one failed that was lent under this name, and others may have failed too
abbrev pub SomeSourceFailed : List ℕ → List Returned → Type 0
SomeSourceFailed name [] = ⊥
SomeSourceFailed name (back ∷ backs) = SourceFailed name back ⊎ SomeSourceFailed name backs

-- what the counts of a shelf say once these sources came back: none fell; where none failed they are as before, and where one did, those
-- of its name rose
pub record CameBack (backs : List Returned) (before now : ℕ) (names names' : List ℕ → ℕ) : Type 0 where
  pub none : NoSourceFailed backs → (now ≡ before) × FaultsAreSame names names'
  pub one : (name : List ℕ) → SomeSourceFailed name backs → Rose before now × Rose (names name) (names' name)
  pub counts : (before ≤ now) × ((any : List ℕ) → names any ≤ names' any)

module _ {S : Type 0} (lent_as : S → Option (List ℕ)) (faults : S → ℕ) where
  -- sources as they come back
  abbrev pub return_of : S → Returned
  return_of source = record { name = lent_as source; faults = faults source }

module _ {S L : Type 0} (lent_as : S → Option (List ℕ)) where
  -- the source of a lane as it comes back
  abbrev pub lane_returned : LaneView S L → Returned
  lane_returned lane = record { name = lent_as lane.source; faults = lane.state.faults }

module _ {H Src Dsk : Type 0} (shelf : shelves.Ghosts H Src Dsk) where
  -- a shelf took these back, each as it comes back: its counts of faults say whether they failed, so many fewer are lent, and nothing
  -- else changed
  pub record TakesBack {X : Type 0} (back_of : X → Returned) (given : List X) (old new : H) : Type 0 where
    pub came : CameBack (map back_of given) (shelf.fault_count old) (shelf.fault_count new) (shelf.faults_of old) (shelf.faults_of new)
    pub absences_are : shelf.absent_count new ≡ shelf.absent_count old
    pub lent : IfSome (shelf.lent_count old) (λ n. shelf.lent_count new ≡ Some (n - length given))
    pub kept : KeepsShelf shelf old new
    pub plan_is : shelf.fault_plan new ≡ shelf.fault_plan old
