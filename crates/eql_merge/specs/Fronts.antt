-- The first of the values of two lists.
use Rattle.std.specs.Prelude.{◌≡◌, Bool, true, false, List, [], ◌∷◌}
use Rattle.std.specs.Ordering.{is_lt}
use Rattle.std.specs.declared.cmp.Ordering.{Ordering}

module _ {X : Type 0} (R : X → X → Ordering) where
  -- the first value of the later list comes before that of the earlier one, or the earlier one is empty
  abbrev pub later_is_first : List X → List X → Bool
  later_is_first [] later = true
  later_is_first (a ∷ earlier) [] = false
  later_is_first (a ∷ earlier) (b ∷ later) = is_lt (R b a)

-- the value was the first of the one list or of the other
abbrev pub TakesFrom : {X : Type 0} (later_first : Bool) → X → (earlier later earlier' later' : List X) → Type 0
TakesFrom true x earlier later earlier' later' = (later ≡ x ∷ later') × (earlier ≡ earlier')
TakesFrom false x earlier later earlier' later' = (earlier ≡ x ∷ earlier') × (later ≡ later')

-- the value that comes first was taken out of one of the lists
abbrev pub TakesFirst : {X : Type 0} (R : X → X → Ordering) → X → (earlier later earlier' later' : List X) → Type 0
TakesFirst R x earlier later earlier' later' = TakesFrom (later_is_first R earlier later) x earlier later earlier' later'
